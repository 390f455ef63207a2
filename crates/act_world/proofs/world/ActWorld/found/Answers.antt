use Rattle.std.proofs.Common.{◌≡◌, ◌<◌, ap, length, subst, sym, ◌∙◌}
use Rattle.std.specs.Prelude.{slice_get}
use Rattle.std.proofs.lemmas.Result.{IfOk-weaker}
use Rattle.lists.specs.Options.{some_holds}
use Rattle.act_world.specs.Refusals.{left_at}
use Rattle.act_world.proofs.Coding.{node-there}
use Rattle.act_world.proofs.world.ActWorld.found.Goals as goal

pub returns-clause-found : goal.returns-clause-found
returns-clause-found g c =
    let v = c.args.self.now in let i = c.self.inside in let node = c.index-at.result.now in let n = c.args.node in
    let below : n < length i.nodes.items = subst (λ x. n < length x.nodes) (sym c.self.view_is) c.requires.node in
    let there = node-there i.handlers i.nodes.items i.flights.items i.notes i.taken v c.self.view_is n c.place.result node c.place.ensures below c.index-at.ensures in
    IfOk-weaker c.open.result _ _ (λ found h. some_holds (λ l. found ≡ g.D.SavesStates.disks.opens n l) (left_at (slice_get v.nodes n)) c.in-Some.left (ap left_at there ∙ c.in-Some.is) h) c.open.ensures.found
