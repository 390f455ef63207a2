use Rattle.std.proofs.Common.{ap, arith, length, ◌∙◌}
use Rattle.act_world.specs.Turns.{going}
use Rattle.act_world.proofs.Coding.{counts-is}
use Rattle.act_world.proofs.world.ActWorld.count.Goals as goal

pub overflow_cast-sends : goal.overflow_cast-sends
overflow_cast-sends g c = let size = ap length c.sends.ensures in omega (arith, size, c.requires.fits)

pub count-requires-clause-fits : goal.count-requires-clause-fits
count-requires-clause-fits g c = let size = ap length c.sends.ensures in let sent = ap (λ v. v.notes.sent) c.self.view_is in omega (arith, size, sent, c.requires.fits)

pub returns-clause-counts : goal.returns-clause-counts
returns-clause-counts g c =
    let i = c.self.inside in
    counts-is i.handlers i.nodes.items i.flights.items i.notes i.taken c.args.self.now c.self.view_is c.args.node c.args.event c.args.effects.sends c.args.effects.outputs
    c.count.new.self c.going.result c.set_turn.new.self _ _ _ c.set_turn.ensures c.in_ok-count.ensures (ap length c.sends.ensures)
    (c.going.ensures ∙ ap going c.new.ensures) (ap length c.listed-place.ensures) c.sent-number.ensures

pub returns-clause-handlers : goal.returns-clause-handlers
returns-clause-handlers g c = ap (λ v. v.handlers) c.set_turn.ensures ∙ ap (λ v. v.handlers) c.self.view_is
