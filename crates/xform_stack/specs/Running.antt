-- What a network has taken, and what a running schedule stands for.
use Rattle.std.specs.Prelude.{◌≡◌, ℕ, List, ◌++◌, length, Option, Some, None, Result, Ok, Err}
use Rattle.net_semantics.specs.Runs.{first_refused}
use Rattle.net_semantics.specs.declared.fault.StepFault.{StepFault}
use Rattle.net_semantics.specs.declared.fault.StepFault.TheVariants as fault
use Rattle.vst_base.specs.declared.step.Item.{Item}
use Rattle.vst_base.specs.declared.step.Step.{Step}
use Rattle.vst_base.specs.declared.step.StepRefusal.{StepRefusal}
use Rattle.xform_stack.specs.Systems.{Played, System}
use Rattle.xform_stack.specs.declared.ran.RunFault.{RunFault}
use Rattle.xform_stack.specs.declared.ran.RunFault.TheVariants as run_fault

-- what clients saw since it was last cleared, and how many steps were taken
pub record Progress (I O : Type 0) : Type 0 where
  pub trace : List (Item I O)
  pub taken : ℕ

-- a network took these steps, none of them refused
pub record HasTaken {W S K I O M : Type 0} (sys : System S K I O M) (follows : W → List (Step I) → Type 0) (progress : W → Progress I O)
    (ss : List (Step I)) (w : W) : Type 0 where
  pub followed : follows w ss
  pub allowed : first_refused sys.net sys.meaning sys.recovery ss ≡ None
  pub counted : (progress w).taken ≡ length ss

-- the steps were taken, none of them refused: what is kept has followed them; and what was cleared of the trace and what
-- has come since are together their trace
pub record HasRun {R I O G : Type 0} (p : Played I O G) (follows : R → List (Step I) → Type 0) (progress : R → Progress I O)
    (ss : List (Step I)) (gone : List (Item I O)) (r : R) : Type 0 where
  pub followed : follows r ss
  pub traced : gone ++ (progress r).trace ≡ p.trace ss
  pub allowed : p.refused ss ≡ None
  pub counted : (progress r).taken ≡ length ss

-- an answer to a step after so many others, where the first refusal of all of them is this one. Want of memory comes only where there is none
abbrev pub IsRunAnswer : {A : Type 0} → Result A StepFault → ℕ → Option (ℕ × StepRefusal) → Type 0
IsRunAnswer (Ok x) taken first = first ≡ None
IsRunAnswer (Err (fault.Refused why)) taken first = first ≡ Some (taken, why)
IsRunAnswer (Err fault.Memory) taken first = first ≡ None

-- a fault names the first refused step of a schedule, or is want of memory
abbrev pub IsRunRefusal : RunFault → Option (ℕ × StepRefusal) → Type 0
IsRunRefusal (run_fault.Step why place) first = first ≡ Some (place, why)
IsRunRefusal run_fault.Memory first = Unit {0}
