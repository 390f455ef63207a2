-- What a network in bytes stands for: a run of the handlers within, whose packets the bytes are of.
use Rattle.std.specs.Prelude.{◌≡◌, ℕ, ◌≤◌, List}
use Rattle.handler_trait.specs.Facts.{HandlersFacts, RebootableFacts}
use Rattle.handler_trait.specs.Handling.{Meaning, Recovery}
use Rattle.net_semantics.specs.Runs.{no_recovery, run}
use Rattle.net_semantics.specs.Shown.{IsSound, Shows, WorldView}
use Rattle.net_semantics.specs.ShownFail.{FailView, IsSoundFailBy, ShowsFail, ShowsFailBy}
use Rattle.net_semantics.specs.Worlds.{World}
use Rattle.vst_base.specs.declared.net.Net.{Net}
use Rattle.vst_base.specs.declared.net.Net.TheVariants as net
use Rattle.vst_base.specs.declared.node.TheConstants.{MAX_NODES}
use Rattle.vst_base.specs.declared.step.Step.{Step}
use Rattle.wire_codec.specs.Datagrams.{longest_message}
use Rattle.wire_codec.specs.Headings.{HasByte}
use Rattle.wire_fields.specs.Formats.{Format}
use Rattle.wired.specs.Same.{RunsTheSame}
use Rattle.wired.specs.StackRuns.{AreInputSteps}
use Rattle.wired.specs.WiredRuns.{IsFormatOf, world_in_bytes}
use Rattle.wired.specs.Wiring.{Named, no_name, wired}

-- all inputs of these steps have bytes, and handlers that deal in bytes do in them as the handlers within
pub record RanInBytes {S K M S2 K2 M2 I O : Type 0} (IsInput : I → Type 0) (net : Net) (m2 : Meaning S2 I O M2) (r2 : Recovery S2 K2)
    (m : Meaning S I O M) (r : Recovery S K)
    (stands_for : World S K M → World S2 K2 M2) (ss : List (Step I)) : Type 0 where
  pub inputs : AreInputSteps IsInput ss
  pub same : RunsTheSame net m2 r2 m r stands_for ss

-- the world is that of the run of these steps in bytes
pub record HasFollowedInBytes {H S I O M : Type 0} (f : Format M) (IsInput : I → Type 0) (m : Meaning S I O M)
    (net : Net) (w : Named H) (v : WorldView (Named H) S I O (List ℕ)) (ss : List (Step I)) : Type 0 where
  pub ran : RanInBytes IsInput net (wired f w.stack w.name m) (no_recovery {S = S}) m (no_recovery {S = S})
      (world_in_bytes f w.stack w.name) ss
  pub shows : Shows m.nodes v (world_in_bytes f w.stack w.name (run m (no_recovery {S = S}) ss))

-- the packets are those of a stack whose messages are of this format and short, between at most nine nodes, under the name of sixteen
-- bytes 0
pub record AreOwnBytes {H S I O M : Type 0} (f : Format M) (longest : ℕ) (meaning : H → Meaning S I O M) (w : Named H) : Type 0 where
  pub few : (meaning w.inner).nodes ≤ MAX_NODES
  pub stack : HasByte w.stack
  pub format : IsFormatOf w.stack f
  pub short : longest ≤ longest_message
  pub named : w.name ≡ no_name

-- what holds of a world in bytes when it is made and after each step that doesn't answer want of memory. It stands for some world
pub record IsSoundInBytes {H S I O M : Type 0} (f : Format M) (longest : ℕ) (h : HandlersFacts H S I O M)
    (v : WorldView (Named H) S I O (List ℕ)) : Type 0 where
  pub own : AreOwnBytes f longest h.meaning v.handlers
  pub world : IsSound (record {
    meaning = wired f v.handlers.stack v.handlers.name (h.meaning v.handlers.inner);
    sound = h.sound v.handlers.inner;
    spent = h.spent v.handlers.inner;
  }) v
  pub shown : World S S (List ℕ)
  pub shows : Shows (h.meaning v.handlers.inner).nodes v shown

-- on a network whose nodes stop and start again, the world is that of the run of these steps on bytes alone
pub record HasFollowedOnBytes {H S K M S2 K2 M2 I O : Type 0} (IsInput : I → Type 0) (m2 : Meaning S2 I O M2) (r2 : Recovery S2 K2)
    (m : Meaning S I O M) (r : Recovery S K)
    (stands_for : World S K M → World S2 K2 M2) (v : FailView H S2 K2 I O M2) (ss : List (Step I)) : Type 0 where
  pub ran : RanInBytes IsInput net.Fail m2 r2 m r stands_for ss
  pub shows : ShowsFail m2.nodes v (stands_for (run m r ss))

-- and what holds of such a world when it is made and after each step that doesn't answer want of memory: the bytes are the stack's own,
-- and it stands for some world
pub record IsSoundOnBytes {H S K I O M : Type 0} (IsOwn : H → Type 0) (facts : RebootableFacts H S K I O M)
    (v : FailView H S K I O M) : Type 0 where
  pub own : IsOwn v.handlers
  pub world : IsSoundFailBy facts v
  pub shown : World S K M
  pub shows : ShowsFailBy facts v shown
