-- What a check of a text says, by the stack that it is a claim on.
use Rattle.std.specs.Prelude.{◌≡◌, ℕ, List, Option, Some, Result, Ok, Err, option_map}
use Rattle.vst_base.specs.Stacks.{row_of}
use Rattle.vst_base.specs.declared.stack.StackId.{StackId}
use Rattle.line_reader.specs.Lines.{lines_of}
use Rattle.line_reader.specs.declared.why.Why.{Why}
use Rattle.line_reader.specs.declared.why.Why.TheVariants as why
use Rattle.schedule_text.specs.declared.header.Header.{Header}
use Rattle.check_text.specs.Claims.{Claim}
use Rattle.check_text.specs.Forms.{Form, claim_of, form_of}
use Rattle.check_text.specs.Reading.{Reading, Whole, RefusedAt, EndedAt, refusal_so_far}
use Rattle.claim_verdicts.specs.declared.verdict.Verdict.{Verdict}
use Rattle.stacks.specs.Claimed.{AnyClaims, Claimed, claims_on}
use Rattle.stacks.specs.Plays.{IfFound, found_or, Play}

-- the stack of whose schedules an image has the header, if it has one
abbrev pub below_of : Option Header → Option StackId
below_of h = option_map (λ x. x.stack) h

-- how the claims on a stack are spelled whose traces may name so many nodes
abbrev pub form_on : {I O G : Type 0} → ℕ → Play I O G → Claimed I O G → Form I O G
form_on nodes p c = form_of nodes p.texts.input_of p.texts.output_of (below_of p.below.header) c.says

-- what a check says of what was read from a whole text: the verdict, or the line that is refused
abbrev pub said : {A : Type 0} → (A → Verdict) → Reading A → Result Verdict (ℕ × Why)
said verdict (Whole c) = Ok (verdict c)
said verdict (RefusedAt number w) = Err (number, w)
said verdict (EndedAt number) = Err (number, why.Header)

-- of the lines of a text, as a claim on a stack whose traces may name so many nodes
abbrev pub checked_on : {I O G : Type 0} → ℕ → Play I O G → Claimed I O G → List (List ℕ) → Result Verdict (ℕ × Why)
checked_on nodes p c ls = said c.verdict (claim_of (form_on nodes p c) ls)

-- and the first line that is refused among the whole lines of a text that broke off
abbrev pub refused_on : {I O G : Type 0} → ℕ → Play I O G → Claimed I O G → List (List ℕ) → Option (ℕ × Why)
refused_on nodes p c ls = refusal_so_far (claim_of (form_on nodes p c) ls)

-- a whole text. A text that is a claim on no stack of the table is refused at its first line; each stack is in the table
abbrev pub checked : StackId → List ℕ → Result Verdict (ℕ × Why)
checked i bytes = found_or (Err (1, why.Header)) (λ a. checked_on (row_of i).most a.plays.play a.claimed (lines_of bytes)) (claims_on i)

abbrev pub refused_so_far : StackId → List (List ℕ) → Option (ℕ × Why)
refused_so_far i ls = found_or (Some (1, why.Header)) (λ a. refused_on (row_of i).most a.plays.play a.claimed ls) (claims_on i)

-- the whole text is a claim on a stack, and the claim is so
pub record IsClaim (a : AnyClaims) (nodes : ℕ)
    (IsSo : Claim a.plays.Input a.plays.Output a.plays.Line → Type 0) (bytes : List ℕ) : Type 0 where
  pub claim : Claim a.plays.Input a.plays.Output a.plays.Line
  pub read : claim_of (form_on nodes a.plays.play a.claimed) (lines_of bytes) ≡ Whole claim
  pub so : IsSo claim

-- the text is a claim whose image explains its trace
abbrev pub IsPermitted : StackId → List ℕ → Type 0
IsPermitted i bytes = IfFound (claims_on i) (λ a. IsClaim a (row_of i).most a.plays.Explains bytes)

-- and one whose image does not
abbrev pub IsNotPermitted : StackId → List ℕ → Type 0
IsNotPermitted i bytes = IfFound (claims_on i) (λ a. IsClaim a (row_of i).most (λ c. ¬ a.plays.Explains c) bytes)
