use Rattle.std.proofs.Common.{◌<◌, length, subst, sym}
use Rattle.std.specs.Prelude.{slice_get}
use Rattle.lists.specs.Options.{if_any, some_holds}
use Rattle.act_world.proofs.Coding.{node-there}
use Rattle.act_world.proofs.Delivering.{opens-none, opens-some}
use Rattle.act_world.proofs.world.ActWorld.opens_new.Goals as goal

pub returns-in-Some : goal.returns-in-Some
returns-in-Some g c =
    let v = c.args.self.now in let i = c.self.inside in let node = c.index-at.result.now in let n = c.args.node in
    let below : n < length i.nodes.items = subst (λ x. n < length x.nodes) (sym c.self.view_is) c.requires.node in
    let there = node-there i.handlers i.nodes.items i.flights.items i.notes i.taken v c.self.view_is n c.place.result node c.place.ensures below c.index-at.ensures in
    some_holds _ (slice_get v.nodes n) node there
    (opens-some g.D.SavesStates.disks n node c.args.left.now c.in_ok-found.found c.in-Some.kept c.is_held.result c.in_ok-found.ensures.found c.in-Some.is c.is_held.ensures)

pub returns-in-None : goal.returns-in-None
returns-in-None g c =
    if_any _ (slice_get c.args.self.now.nodes c.args.node) (λ at. opens-none g.D.SavesStates.disks c.args.node at c.args.left.now c.in_ok-found.found c.in_ok-found.ensures.found c.in-None.is)
