use Rattle.std.proofs.Common.{ap, arith, length, ◌∙◌}
use Rattle.std.proofs.lemmas.Result.{on_ok_weaker}
use Rattle.act_world.specs.Nodes.{with_disk}
use Rattle.act_world.proofs.Going.{last-made, on-below, saved-last, saved-on}
use Rattle.act_world.proofs.world.ActWorld.save.Goals as goal

pub returns-then-is_saved-clause-saves : goal.returns-then-is_saved-clause-saves
returns-then-is_saved-clause-saves g c =
    let v = c.args.self.now in let d = g.D.SavesStates.disks in
    on_ok_weaker c.count.result (λ done. saved-last d (g.H.Rebootable.recovery v.handlers).keep c.args.node v c.make_last.new.self c.count.new.self c.args.turn c.next_act.new.self c.in-Some.act
    c.requires.node c.in-Some.ensures c.if-is_saved.ensures c.in_ok-make_last.ensures.made
    c.into_parts-event.result.0 c.into_parts-event.result.1.sends c.into_parts-event.result.1.outputs c.into_parts-event.ensures.event c.into_parts-event.ensures.sends c.into_parts-event.ensures.outputs done) c.count.ensures.counts

pub returns-clause-saves : goal.returns-clause-saves
returns-clause-saves g c =
    let v = c.args.self.now in let d = g.D.SavesStates.disks in
    saved-on d (g.H.Rebootable.recovery v.handlers).keep c.args.node v c.make.new.self c.set_turn.new.self c.args.turn c.next_act.new.self c.in-Some.act
    c.requires.node c.in-Some.ensures c.if-is_saved.ensures c.in_ok-make.ensures.made c.set_turn.ensures

pub returns-then-is_saved-clause-handlers : goal.returns-then-is_saved-clause-handlers
returns-then-is_saved-clause-handlers g c = c.count.ensures.handlers ∙ c.make_last.ensures.handlers

pub returns-clause-handlers : goal.returns-clause-handlers
returns-clause-handlers g c = ap (λ v. v.handlers) c.set_turn.ensures ∙ c.make.ensures.handlers

pub set_turn-requires : goal.set_turn-requires
set_turn-requires g c =
    on-below c.args.self.now c.make.new.self c.args.node (with_disk (g.D.SavesStates.disks.does c.in-Some.act)) c.in_ok-make.ensures.made c.requires.node

pub count-requires-clause-node : goal.count-requires-clause-node
count-requires-clause-node g c =
    let v = c.args.self.now in
    (last-made g.D.SavesStates.disks (g.H.Rebootable.recovery v.handlers).keep c.args.node v c.make_last.new.self c.in-Some.act c.requires.node c.in_ok-make_last.ensures.made).0

pub count-requires-clause-fits : goal.count-requires-clause-fits
count-requires-clause-fits g c =
    let v = c.args.self.now in
    let made = last-made g.D.SavesStates.disks (g.H.Rebootable.recovery v.handlers).keep c.args.node v c.make_last.new.self c.in-Some.act c.requires.node c.in_ok-make_last.ensures.made in
    let sent = ap (λ x. x.sent) made.1 in
    let size = ap length (c.into_parts-event.ensures.sends ∙ c.in-Some.ensures.sends) in
    omega (arith, sent, size, c.requires.fits)
