use Rattle.std.specs.Prelude.{◌<◌}
use Rattle.std.proofs.Common.{subst, sym}
use Rattle.handler_trait.specs.Facts.{rebootable_facts}
use Rattle.runs_in_bytes.proofs.WorldOnBytes.{state_sound}
use Rattle.runs_in_bytes.proofs.on_bytes.OnBytesNetworkInner.state.Goals as goal

pub returns-clause-sound : goal.returns-clause-sound
returns-clause-sound g c =
    let sound = rw (← c.self.view_is) at c.requires.sound in
    let node = rw (← c.self.view_is) at c.requires.node in
    let h = c.self.inside.world.handlers in
    let below = subst (λ nodes. c.args.n < nodes) (sym (g.met.H.OnBytesAlone.tells h).nodes) node in
    rw (← c.self.view_is) (c.inner_state.ensures.sound h c.args.n
    (state_sound g.H.OnBytesAlone.is_own (rebootable_facts g.H.Handlers g.H.Rebootable) c.self.inside.world c.args.n c.state.result.now sound below c.state.ensures))
