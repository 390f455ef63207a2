use Rattle.std.proofs.Common.{ap, ◌∙◌, length, ◌<◌, Some, refl}
use Rattle.net_semantics.specs.Worlds.{change_at}
use Rattle.net_semantics.proofs.Places.{set-change_at}
use Rattle.net_semantics.proofs.stopped.Stopped.stop.Goals as goal

pub returns : goal.returns
returns g c =
    let lt : c.from.result < length c.self.inside.items.items = rw (c.self.view_is, c.from.ensures, c.index.ensures) c.requires in
    set-change_at (λ _. Some c.args.kept) c.self.inside.items.items c.from.result c.index_mut.result.now (Some c.args.kept) lt refl ∙ (ap (λ k. change_at (λ _. Some c.args.kept) k c.self.inside.items.items) (c.from.ensures ∙ c.index.ensures) ∙ ap (change_at (λ _. Some c.args.kept) c.args.n) c.self.view_is)
