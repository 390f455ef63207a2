use Rattle.std.proofs.Common.{◌≡◌, ◌<◌, ap, length, subst, sym, ◌∙◌}
use Rattle.std.specs.Prelude.{slice_get}
use Rattle.std.proofs.lemmas.Result.{on_ok_weaker}
use Rattle.lists.specs.Options.{some_holds}
use Rattle.act_world.specs.Nodes.{with_disk}
use Rattle.act_world.proofs.Coding.{node-set, node-there}
use Rattle.act_world.proofs.world.ActWorld.make_last.Goals as goal

pub returns-clause-made : goal.returns-clause-made
returns-clause-made g c =
    let v = c.args.self.now in let i = c.self.inside in let node = c.index_mut-at.result.now in let n = c.args.node in
    let d = g.D.SavesStates.disks in
    let handlers : i.handlers ≡ v.handlers = ap (λ x. x.handlers) c.self.view_is in
    let below : n < length i.nodes.items = subst (λ x. n < length x.nodes) (sym c.self.view_is) c.requires.node in
    let there = node-there i.handlers i.nodes.items i.flights.items i.notes i.taken v c.self.view_is n c.place.result node c.place.ensures below c.index_mut-at.ensures.value in
    on_ok_weaker c.learn.result (λ done.
    (let kept = (g.H.Rebootable.recovery v.handlers).keep node.state in
    let disk : c.learn.new.disk ≡ d.learns kept (d.does c.args.act node.disk) =
    done ∙ (ap (λ h. d.learns ((g.H.Rebootable.recovery h).keep node.state) c.make.new.disk) handlers ∙ ap (d.learns kept) c.in_ok-make.ensures) in
    some_holds _ (slice_get v.nodes n) node there
    (node-set i.handlers i.nodes.items i.flights.items i.notes i.taken v c.self.view_is n c.place.result node c.place.ensures below c.index_mut-at.ensures.value
    (with_disk (λ x. d.learns kept (d.does c.args.act x))) (with_disk (λ _. c.learn.new.disk) node) (ap (λ x. with_disk (λ _. x) node) disk)))) c.learn.ensures
