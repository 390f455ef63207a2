use Rattle.std.proofs.Common.{◌<◌, ap, length, refl, subst, sym, ◌∙◌}
use Rattle.std.proofs.lemmas.Result.{on_ok_weaker}
use Rattle.vst_base.specs.declared.step.Step.TheVariants as step
use Rattle.act_world.specs.Nodes.{stopped}
use Rattle.act_world.proofs.Delivering.{noted-set}
use Rattle.act_world.proofs.world.ActWorld.lie_down.Goals as goal

pub returns-clause-lies : goal.returns-clause-lies
returns-clause-lies g c =
    let v = c.args.self.now in let i = c.self.inside in let node = c.index_mut-at.result.now in let n = c.args.node in
    let below : n < length i.nodes.items = subst (λ x. n < length x.nodes) (sym c.self.view_is) c.requires in
    on_ok_weaker c.add.result (λ done. noted-set i.handlers i.nodes.items i.flights.items i.notes i.taken v c.self.view_is n c.place.result node c.place.ensures below
    c.index_mut-at.ensures.value (stopped c.args.left) (stopped c.args.left node) refl c.add.new.self (step.Crash c.from.result) (step.Crash n) done
    (ap step.Crash (c.from.ensures ∙ c.index.ensures))) c.add.ensures
