use Rattle.std.proofs.Common.{ap, ◌∙◌, length, ◌<◌, refl}
use Rattle.net_semantics.specs.Worlds.{change_at}
use Rattle.net_semantics.proofs.Places.{set-change_at}
use Rattle.net_semantics.proofs.Showing.{restarted}
use Rattle.net_semantics.proofs.world.World.restart.Goals as goal

pub returns : goal.returns
returns g c =
    let i = c.self.inside in
    let lt : c.from.result < length i.states.items = rw (ap (λ v. v.states) c.self.view_is, c.from.ensures, c.index.ensures) c.requires.node in
    restarted _ c.args.self.now _ c.args.n c.args.state c.self.view_is (set-change_at (λ _. c.args.state) i.states.items c.from.result c.args.state c.args.state lt refl ∙ ap (λ k. change_at (λ _. c.args.state) k i.states.items) (c.from.ensures ∙ c.index.ensures))
