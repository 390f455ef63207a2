-- What one step makes of a `FailWorld`, as its parts do it.
use Rattle.std.specs.Prelude.{◌≡◌, ◌≢◌, ◌+◌, ◌++◌, length, Result, IfErr, OnOk}
use Rattle.handler_trait.specs.Facts.{RebootPromises, RebootableFacts, reboot_promises_of}
use Rattle.vst_base.specs.declared.net.Net.TheVariants as net
use Rattle.vst_base.specs.declared.step.Step.{Step}
use Rattle.net_semantics.specs.declared.fault.StepFault.{StepFault}
use Rattle.net_semantics.specs.declared.fault.StepFault.TheVariants as fault
use Rattle.net_semantics.specs.Worlds.{World}
use Rattle.net_semantics.specs.Steps.{next, items_of, refusal_of, IsAnswer}
use Rattle.net_semantics.specs.ShownFail.{FailView, ShowsFail, IsSoundFail}
use Rattle.net_semantics.specs.Taking.{GrowsBy}

-- after the step that before took
pub record TakesFail {H S K I O M : Type 0} (h : RebootPromises S K I O M) (s : Step I) (before after : FailView H S K I O M) : Type 0 where
  pub leads : (w : World S K M) → ShowsFail h.handlers.meaning.nodes before w → ShowsFail h.handlers.meaning.nodes after (next h.handlers.meaning h.recovery w s)
  pub sees : (w : World S K M) → ShowsFail h.handlers.meaning.nodes before w → after.trace ≡ before.trace ++ items_of h.handlers.meaning w s
  pub grows : GrowsBy (length before.trace) (length after.trace)
  pub counts : after.taken ≡ before.taken + 1
  pub keeps : IsSoundFail h after

-- what a step answers, and what it makes of the world
pub record AnswersFail {H S K I O M A : Type 0} (h : RebootPromises S K I O M) (s : Step I) (before after : FailView H S K I O M) (answer : Result A StepFault) : Type 0 where
  pub refused : (w : World S K M) → ShowsFail h.handlers.meaning.nodes before w → IsAnswer answer (refusal_of net.Fail h.handlers.meaning w s)
  pub unchanged : IfErr answer (λ why. why ≢ fault.Memory → after ≡ before)
  pub taken : OnOk answer (TakesFail h s before after)
  pub same_handlers : after.handlers ≡ before.handlers

-- the same by what the handlers promise
module _ {H S K I O M : Type 0} (f : RebootableFacts H S K I O M) (s : Step I) (before after : FailView H S K I O M) where
  abbrev pub AnswersFailBy : {A : Type 0} → Result A StepFault → Type 0
  AnswersFailBy answer = AnswersFail (reboot_promises_of f before.handlers) s before after answer
