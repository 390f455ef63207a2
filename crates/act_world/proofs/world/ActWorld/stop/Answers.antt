use Rattle.std.proofs.Common.{◌∙◌, ◌<◌, subst, sym}
use Rattle.std.proofs.lemmas.Result.{on_ok_weaker}
use Rattle.act_world.proofs.Going.{cut-below, stops-as}
use Rattle.act_world.proofs.world.ActWorld.stop.Goals as goal

pub returns-clause-stops : goal.returns-clause-stops
returns-clause-stops g c =
    on_ok_weaker c.lie_down.result (λ done. stops-as g.D.SavesStates.disks c.args.node c.args.self.now c.args.left c.cut.new.self c.lie_down.new.self c.in_ok-cut.ensures.cuts done)
    c.lie_down.ensures.lies

pub lie_down-requires : goal.lie_down-requires
lie_down-requires g c =
    let v = c.args.self.now in let n = c.args.node in
    cut-below g.D.SavesStates.disks n v c.args.left c.cut.new.self c.in_ok-cut.ensures.cuts (subst (λ k. n < k) (sym c.requires.sound.nodes) c.requires.node)

pub returns-clause-handlers : goal.returns-clause-handlers
returns-clause-handlers g c = c.lie_down.ensures.handlers ∙ c.cut.ensures.handlers
