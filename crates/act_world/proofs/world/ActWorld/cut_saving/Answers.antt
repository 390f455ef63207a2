use Rattle.std.proofs.Common.{ap, arith, length, refl}
use Rattle.std.proofs.lemmas.Result.{on_ok_weaker}
use Rattle.act_world.proofs.Delivering.{cut-counts, cut-never}
use Rattle.act_world.proofs.Going.{counts-as}
use Rattle.act_world.proofs.world.ActWorld.cut_saving.Goals as goal

pub returns-then-new-clause-cuts : goal.returns-then-new-clause-cuts
returns-then-new-clause-cuts g c =
    let v = c.args.self.now in let n = c.args.node in let t = c.args.turn in let p = c.into_parts-event.result in
    on_ok_weaker c.count.result (λ done. cut-counts g.D.SavesStates.disks n v c.count.new.self c.args.left.now t c.in_ok-new.new c.if-new.true c.in_ok-new.ensures
    (counts-as v v c.count.new.self n p.0 t.event p.1.sends t.sends p.1.outputs t.outputs done refl c.into_parts-event.ensures.event c.into_parts-event.ensures.sends c.into_parts-event.ensures.outputs)) c.count.ensures.counts

pub returns-clause-cuts : goal.returns-clause-cuts
returns-clause-cuts g c = cut-never g.D.SavesStates.disks c.args.node c.args.self.now c.args.left.now c.args.turn c.in_ok-new.new c.if-new.false c.in_ok-new.ensures

pub count-requires-clause-fits : goal.count-requires-clause-fits
count-requires-clause-fits g c = let size = ap length c.into_parts-event.ensures.sends in omega (arith, size, c.requires.fits)
