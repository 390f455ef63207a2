-- What reading a claim from a source that tells comes to.
use Rattle.std.specs.Prelude.{◌≡◌, ℕ, ◌+◌, ◌≤◌, List, [], length, Option, Some, None, Result, Ok, Err}
use Rattle.outside.specs.Counting.{Rose}
use Rattle.outside.specs.Wholes.{Gave}
use Rattle.line_reader.specs.Lines.{decided, lines_of, whole_lines}
use Rattle.line_reader.specs.Outcomes.{BreaksOff}
use Rattle.schedule_text.specs.declared.text_faults.TextFault.{TextFault}
use Rattle.schedule_text.specs.declared.text_faults.TextFault.TheVariants as fault
use Rattle.check_text.specs.Claims.{Claim}
use Rattle.check_text.specs.Forms.{Form, claim_of}
use Rattle.check_text.specs.Reading.{Whole, refusal_of, refusal_so_far}

-- the text was read to its end and is this claim; or this line is the first that is refused; or a read failed after a part
-- of the text, of which no whole line is refused
abbrev pub ReadsClaim : {I O X : Type 0} → Form I O X → Option (List ℕ) → List ℕ → Result (Claim I O X) TextFault → Type 0
ReadsClaim form left' bytes (Ok c) = (left' ≡ Some []) × (claim_of form (lines_of bytes) ≡ Whole c)
ReadsClaim form left' bytes (Err (fault.Refused number w)) = refusal_of (claim_of form (lines_of bytes)) ≡ Some (number, w)
ReadsClaim form left' bytes (Err fault.Read) =
    (given : List ℕ) × BreaksOff left' bytes given × (refusal_so_far (claim_of form (whole_lines given)) ≡ None)
ReadsClaim form left' bytes (Err fault.Memory) = Unit {0}

-- at most 4,096 of these bytes were given past the one that decided the line of this number
abbrev pub IsDecidedBy : Option (List ℕ) → List ℕ → ℕ → Type 0
IsDecidedBy left' bytes number = (given : List ℕ) × Gave (Some bytes) left' given × (length given ≤ decided number bytes + 4096)

-- where a line is refused, it was decided so
abbrev pub LooksAhead : Option (List ℕ) → List ℕ → TextFault → Type 0
LooksAhead left' bytes (fault.Refused number w) = IsDecidedBy left' bytes number
LooksAhead left' bytes fault.Read = Unit {0}
LooksAhead left' bytes fault.Memory = Unit {0}

-- a failed read has its fault
abbrev pub HasReadFault : ℕ → ℕ → TextFault → Type 0
HasReadFault faults faults' fault.Read = Rose faults faults'
HasReadFault faults faults' fault.Memory = Unit {0}
HasReadFault faults faults' (fault.Refused number w) = Unit {0}
