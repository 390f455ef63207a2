-- Laws of what contracts see of a `World` and of a `FailWorld`: clearing the trace changes neither what the world stands for nor
-- that it is sound.
use Rattle.std.specs.Prelude.{◌≡◌, ℕ, [], refl}
use Rattle.std.proofs.Common.{sym, subst}
use Rattle.handler_trait.specs.Facts.{Promises, RebootPromises}
use Rattle.net_semantics.specs.Worlds.{World}
use Rattle.net_semantics.specs.Shown.{WorldView, Shows, IsSound}
use Rattle.net_semantics.specs.ShownFail.{FailView, ShowsFail, IsSoundFail, without_stopped}

pub shows-forget : {H S K I O M : Type 0} (nodes : ℕ) (v u : WorldView H S I O M) (w : World S K M)
    → u ≡ record v { trace = [] } → Shows nodes v w → Shows nodes u w
shows-forget nodes v u w e shows =
    subst (λ x. Shows nodes x w) (sym e) (record { states = shows.states; up = shows.up; packets = shows.packets })

pub sound-forget : {H S I O M : Type 0} (h : Promises S I O M) (v u : WorldView H S I O M)
    → u ≡ record v { trace = [] } → IsSound h v → IsSound h u
sound-forget h v u e was =
    subst (IsSound h) (sym e) (record {
      nodes = was.nodes;
      states = was.states;
      packets = was.packets;
      few_packets = was.few_packets;
      few_steps = was.few_steps;
      in_order = was.in_order;
    })

pub shows_fail-forget : {H S K I O M : Type 0} (nodes : ℕ) (v u : FailView H S K I O M) (w : World S K M)
    → u ≡ record v { trace = [] } → ShowsFail nodes v w → ShowsFail nodes u w
shows_fail-forget nodes v u w e shows =
    subst (λ x. ShowsFail nodes x w) (sym e) (record { states = shows.states; kept = shows.kept; up = shows.up; packets = shows.packets })

pub sound_fail-forget : {H S K I O M : Type 0} (h : RebootPromises S K I O M) (v u : FailView H S K I O M)
    → u ≡ record v { trace = [] } → IsSoundFail h v → IsSoundFail h u
sound_fail-forget h v u e was =
    subst (IsSoundFail h) (sym e) (record {
      world = sound-forget h.handlers (without_stopped v) (record (without_stopped v) { trace = [] }) refl was.world;
      nodes = was.nodes;
      stopped = was.stopped;
    })
