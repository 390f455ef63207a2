-- What a check of the text that a source gives comes to.
use Rattle.std.specs.Prelude.{◌≡◌, ◌≢◌, ℕ, ◌≤◌, List, [], Option, Some, None, Result, Ok, Err, IfErr, IfSome}
use Rattle.outside.specs.Counting.{Rose}
use Rattle.line_reader.specs.Lines.{lines_of, whole_lines}
use Rattle.line_reader.specs.Outcomes.{BreaksOff}
use Rattle.schedule_text.specs.declared.text_faults.TextFault.{TextFault}
use Rattle.schedule_text.specs.declared.text_faults.TextFault.TheVariants as text
use Rattle.check_text.specs.Outcomes.{IsDecidedBy}
use Rattle.line_reader.specs.declared.why.Why.{Why}
use Rattle.stacks.specs.Checks.{checked_on, refused_on}
use Rattle.stacks.specs.Claimed.{Claimed}
use Rattle.stacks.specs.Plays.{Play}
use Rattle.trace_check.specs.declared.fault.CheckFault.{CheckFault}
use Rattle.trace_check.specs.declared.fault.CheckFault.TheVariants as fault
use Rattle.claim_verdicts.specs.declared.verdict.Verdict.{Verdict}

-- what a check answers where a claim is not read
abbrev pub check_fault : TextFault → CheckFault
check_fault text.Read = fault.Read
check_fault (text.Refused number why) = fault.Refused number why
check_fault text.Memory = fault.Memory

-- by what a check says of a whole text, and which line it refuses among the whole lines of one that broke off: the text was
-- read to its end and the verdict is this; or this line is refused; or a read failed after a part of the text, of which no
-- whole line is refused
abbrev pub ComesTo : (List ℕ → Result Verdict (ℕ × Why)) → (List (List ℕ) → Option (ℕ × Why)) → List ℕ → Option (List ℕ)
    → Result Verdict CheckFault → Type 0
ComesTo whole so_far bytes left' (Ok verdict) = (left' ≡ Some []) × (whole bytes ≡ Ok verdict)
ComesTo whole so_far bytes left' (Err (fault.Refused number why)) = whole bytes ≡ Err (number, why)
ComesTo whole so_far bytes left' (Err fault.Read) = (given : List ℕ) × BreaksOff left' bytes given × (so_far (whole_lines given) ≡ None)
ComesTo whole so_far bytes left' (Err fault.Memory) = Unit {0}

-- where a line is refused, at most 4,096 bytes were given past the byte that decided it
abbrev pub LooksAhead : Option (List ℕ) → List ℕ → CheckFault → Type 0
LooksAhead left' bytes (fault.Refused number w) = IsDecidedBy left' bytes number
LooksAhead left' bytes fault.Read = Unit {0}
LooksAhead left' bytes fault.Memory = Unit {0}

-- a failed read has its fault
abbrev pub HasFault : ℕ → ℕ → CheckFault → Type 0
HasFault faults faults' fault.Read = Rose faults faults'
HasFault faults faults' (fault.Refused number why) = Unit {0}
HasFault faults faults' fault.Memory = Unit {0}

-- what a check of the text that a source gives comes to, on a stack whose traces may name so many nodes
pub record ChecksText {I O G : Type 0} (nodes : ℕ) (p : Play I O G) (c : Claimed I O G) (left left' : Option (List ℕ)) (faults faults' : ℕ)
    (result : Result Verdict CheckFault) : Type 0 where
  pub told : IfSome left (λ bytes. ComesTo (λ bs. checked_on nodes p c (lines_of bs)) (refused_on nodes p c) bytes left' result)
  pub ahead : IfSome left (λ bytes. IfErr result (LooksAhead left' bytes))
  pub quiet : result ≢ Err fault.Read → faults' ≡ faults
  pub fault : IfErr result (HasFault faults faults')
  pub counts : faults ≤ faults'
