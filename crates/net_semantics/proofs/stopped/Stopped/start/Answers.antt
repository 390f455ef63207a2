use Rattle.std.proofs.Common.{ap, ◌∙◌, length, ◌<◌, None}
use Rattle.net_semantics.specs.Worlds.{change_at}
use Rattle.net_semantics.proofs.Places.{set-change_at}
use Rattle.net_semantics.proofs.stopped.Stopped.start.Goals as goal

pub returns-clause-up : goal.returns-clause-up
returns-clause-up g c =
    let lt : c.from.result < length c.self.inside.items.items = rw (c.self.view_is, c.from.ensures, c.index.ensures) c.requires in
    set-change_at (λ _. None) c.self.inside.items.items c.from.result c.index_mut.result.now c.take.new.self lt c.take.ensures.after ∙ (ap (λ k. change_at (λ _. None) k c.self.inside.items.items) (c.from.ensures ∙ c.index.ensures) ∙ ap (change_at (λ _. None) c.args.n) c.self.view_is)
