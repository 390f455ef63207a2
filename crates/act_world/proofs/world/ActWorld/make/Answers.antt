use Rattle.std.proofs.Common.{◌<◌, ap, length, subst, sym}
use Rattle.std.proofs.lemmas.Result.{on_ok_weaker}
use Rattle.act_world.specs.Nodes.{with_disk}
use Rattle.act_world.proofs.Coding.{node-set}
use Rattle.act_world.proofs.world.ActWorld.make.Goals as goal

pub returns-clause-made : goal.returns-clause-made
returns-clause-made g c =
    let v = c.args.self.now in let i = c.self.inside in let node = c.index_mut-at.result.now in
    let below : c.args.node < length i.nodes.items = subst (λ x. c.args.node < length x.nodes) (sym c.self.view_is) c.requires in
    on_ok_weaker c.make.result (λ done. node-set i.handlers i.nodes.items i.flights.items i.notes i.taken v c.self.view_is c.args.node c.place.result node c.place.ensures below
    c.index_mut-at.ensures.value (with_disk (g.D.SavesStates.disks.does c.args.act)) (with_disk (λ _. c.make.new.disk) node) (ap (λ x. with_disk (λ _. x) node) done)) c.make.ensures
