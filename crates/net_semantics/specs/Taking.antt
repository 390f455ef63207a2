-- What one step makes of a `World`, as its parts do it.
use Rattle.std.specs.Prelude.{◌≡◌, ◌≢◌, ℕ, ◌+◌, ◌*◌, ◌≤◌, ◌++◌, List, length, Result, IfSome, IfErr, OnOk, slice_get}
use Rattle.handler_trait.specs.Handling.{Effect, Gathered}
use Rattle.handler_trait.specs.Facts.{HandlersFacts, Promises, promises_of}
use Rattle.handler_trait.specs.declared.handlers.TheConstants.{MAX_OUTPUTS, SPENT_MAX, STEP_COST}
use Rattle.vst_base.specs.declared.step.Step.{Step}
use Rattle.vst_base.specs.declared.step.TheConstants.{MAX_STEPS}
use Rattle.net_semantics.specs.declared.fault.StepFault.{StepFault}
use Rattle.net_semantics.specs.declared.fault.StepFault.TheVariants as fault
use Rattle.net_semantics.specs.Worlds.{World, change_at}
use Rattle.net_semantics.specs.Steps.{next, items_of, refusal_of, IsAnswer}
use Rattle.net_semantics.specs.Runs.{no_recovery}
use Rattle.net_semantics.specs.Shown.{WorldView, Shows, IsSound}

-- a state in which a node can take an event
pub record IsReady {S : Type 0} (sound : S → Type 0) (spent : S → ℕ) (s : S) : Type 0 where
  pub keeps : sound s
  pub little : spent s + STEP_COST ≤ SPENT_MAX

-- an event at a node: its new state stands there, and its outputs and sends are gathered
pub record Happens {S O M : Type 0} (event : S → Effect S O M) (n : ℕ) (before after : List S) (gathered : Gathered O M) : Type 0 where
  pub put : after ≡ change_at (λ s. (event s).state) n before
  pub outputs : IfSome (slice_get before n) (λ s. gathered.outputs ≡ (event s).outputs)
  pub sends : IfSome (slice_get before n) (λ s. gathered.sends ≡ (event s).sends)

-- the most that clients see of one event: an input, and outputs, those among them that answer what earlier events spent
abbrev pub MOST_SEEN : ℕ
MOST_SEEN = MAX_OUTPUTS + STEP_COST * MAX_STEPS + 1

-- a trace grew, by at most what clients see of one event
pub record GrowsBy (before after : ℕ) : Type 0 where
  pub least : before ≤ after
  pub most : after ≤ before + MOST_SEEN

-- after the step that before took
pub record Takes {H S I O M : Type 0} (h : Promises S I O M) (s : Step I) (before after : WorldView H S I O M) : Type 0 where
  pub leads : (w : World S S M) → Shows h.meaning.nodes before w → Shows h.meaning.nodes after (next h.meaning no_recovery w s)
  pub sees : (w : World S S M) → Shows h.meaning.nodes before w → after.trace ≡ before.trace ++ items_of h.meaning w s
  pub grows : GrowsBy (length before.trace) (length after.trace)
  pub counts : after.taken ≡ before.taken + 1
  pub keeps : IsSound h after

-- what a step answers, and what it makes of the world
pub record Answers {H S I O M A : Type 0} (h : Promises S I O M) (s : Step I) (before after : WorldView H S I O M) (answer : Result A StepFault) : Type 0 where
  pub refused : (w : World S S M) → Shows h.meaning.nodes before w → IsAnswer answer (refusal_of before.net h.meaning w s)
  pub unchanged : IfErr answer (λ why. why ≢ fault.Memory → after ≡ before)
  pub taken : OnOk answer (Takes h s before after)
  pub same_handlers : after.handlers ≡ before.handlers
  pub same_net : after.net ≡ before.net

-- the same two by what the handlers promise
module _ {H S I O M : Type 0} (f : HandlersFacts H S I O M) (s : Step I) (before after : WorldView H S I O M) where
  abbrev pub TakesBy : Type 0
  TakesBy = Takes (promises_of f before.handlers) s before after

  abbrev pub AnswersBy : {A : Type 0} → Result A StepFault → Type 0
  AnswersBy answer = Answers (promises_of f before.handlers) s before after answer
