-- What it is that stacks run as bytes on the schedules that may come.
use Rattle.std.specs.Prelude.{ℕ, ◌≤◌, IfSome, List, [], ◌∷◌, length}
use Rattle.handler_trait.specs.Handling.{Meaning, Recovery}
use Rattle.net_semantics.specs.Runs.{no_recovery}
use Rattle.vst_base.specs.declared.net.Net.{Net}
use Rattle.vst_base.specs.declared.stack.StackId.{StackId}
use Rattle.vst_base.specs.declared.step.Step.{Step}
use Rattle.vst_base.specs.Nets.{AtNode, OfPacket, Starts, StepView, Stops, view_of}
use Rattle.vst_base.specs.declared.step.TheConstants.{MAX_STEPS}
use Rattle.wire_fields.specs.Fields.{name}
use Rattle.wire_fields.specs.Formats.{Format}
use Rattle.wired.specs.Same.{RunsAlike}
use Rattle.wired.specs.Saving.{Saving, saved, saved_recovery, world_saved}
use Rattle.wired.specs.WiredRuns.{world_in_bytes}
use Rattle.wired.specs.Wiring.{wired}

-- the inputs of these steps are some that clients give
abbrev pub IsInputIn : {I : Type 0} → (I → Type 0) → StepView I → Type 0
IsInputIn IsInput (AtNode n input) = IfSome input IsInput
IsInputIn IsInput (OfPacket k fate) = Unit {0}
IsInputIn IsInput (Stops n) = Unit {0}
IsInputIn IsInput (Starts n) = Unit {0}

abbrev pub IsInputStep : {I : Type 0} → (I → Type 0) → Step I → Type 0
IsInputStep IsInput s = IsInputIn IsInput (view_of s)

abbrev pub AreInputSteps : {I : Type 0} → (I → Type 0) → List (Step I) → Type 0
AreInputSteps IsInput [] = Unit {0}
AreInputSteps IsInput (s ∷ ss) = IsInputStep IsInput s × AreInputSteps IsInput ss

-- a schedule of at most 1,000,000 steps may come, whose inputs are such
pub record MayCome {I : Type 0} (IsInput : I → Type 0) (ss : List (Step I)) : Type 0 where
  pub few : length ss ≤ MAX_STEPS
  pub inputs : AreInputSteps IsInput ss

-- handlers whose nodes never stop, once their packets are bytes, run as before on every network, under every name
abbrev pub RunsAsBytes : {S I O M : Type 0} → Format M → StackId → (I → Type 0) → Meaning S I O M → Type 0
RunsAsBytes {S} {I} {O} {M} f stack IsInput m = (label : List ℕ) (net : Net) (ss : List (Step I)) → name.Fits label → MayCome IsInput ss
    → RunsAlike net (wired f stack label m) (no_recovery {S = S}) m (no_recovery {S = S}) (world_in_bytes f stack label) ss

-- and handlers whose nodes stop and start again, once they keep bytes too
abbrev pub RunsOnBytesAlone : {S K I O M : Type 0} → Format M → StackId → (List ℕ → Saving K) → (I → Type 0) → Meaning S I O M → Recovery S K → Type 0
RunsOnBytesAlone {S} {K} {I} {O} {M} f stack saving IsInput m r = (label : List ℕ) (net : Net) (ss : List (Step I)) → name.Fits label → MayCome IsInput ss
    → RunsAlike net (wired f stack label (saved m)) (saved_recovery (saving label) m r) m r (λ w. world_in_bytes f stack label (world_saved (saving label) w)) ss
