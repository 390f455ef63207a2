-- What a line of an image says, and why it may be refused.
use Rattle.std.specs.Prelude.{◌≡◌, ℕ, Bool, true, false, ◌||◌, nat_le, List, [], ◌∷◌, Option, Some, None, ok_or, option_and_then, Result, Ok, Err, if◌then◌else◌, codes}
use Rattle.vst_base.specs.Firsts.{first_of}
use Rattle.vst_base.specs.declared.stack.StackId.{StackId}
use Rattle.vst_base.specs.Stacks.{stack_word}
use Rattle.vst_base.specs.declared.step.Step.{Step}
use Rattle.line_reader.specs.declared.why.Why.{Why}
use Rattle.line_reader.specs.declared.why.Why.TheVariants as why
use Rattle.line_reader.specs.Whys.{line_refusals}
use Rattle.schedule_text.specs.declared.header.Header.{Header}
use Rattle.schedule_text.specs.Headers.{IsHeader, header_of}
use Rattle.schedule_text.specs.Words.{cut, is_text}
use Rattle.schedule_text.specs.Reading.{and_then, step_or_refusal}
use Rattle.check_text.specs.declared.image_line.ImageLine.{ImageLine}
use Rattle.check_text.specs.declared.image_line.ImageLine.TheVariants.{Says, Refused}
use Rattle.check_text.specs.TraceLines.{first_word, most_lines}
use Rattle.vst_base.specs.declared.step.TheConstants.{MAX_STEPS}

-- an image has a header where it is a schedule of some stack
abbrev pub has_header : Option StackId → Bool
has_header None = false
has_header (Some s) = true

-- and then that of a schedule of this stack, which is known by its word
abbrev pub heads : Option StackId → StackId → Bool
heads None t = false
heads (Some s) t = is_text (stack_word s) (stack_word t)

abbrev pub header_if : Option StackId → Header → Option Header
header_if below h = if heads below h.stack then Some h else None

-- the header of an image that a line is, if it is one
abbrev pub image_header : Option StackId → List ℕ → Option Header
image_header below line = option_and_then (header_if below) (header_of line)

-- where an image has a header, there is one, of a schedule of that stack
abbrev pub IsHeaded : Option StackId → Option Header → Type 0
IsHeaded None o = Unit {0}
IsHeaded (Some s) None = ⊥
IsHeaded (Some s) (Some h) = IsHeader h × (h.stack ≡ s)

abbrev pub said_or_refused : {X : Type 0} → Result X Why → ImageLine X
said_or_refused (Ok x) = Says x
said_or_refused (Err w) = Refused w

-- the words of acts and stops, which no image has
abbrev pub begins_as_act : List ℕ → Bool
begins_as_act line = is_text (first_word line) (codes "act") || is_text (first_word line) (codes "stop")

-- a line of a schedule, by its refusals in the order in which they are tried there. Its numbers name what they like
abbrev pub step_says : {I : Type 0} → (List ℕ → Option I) → List ℕ → ImageLine (Step I)
step_says input_of line = if begins_as_act line then Refused why.UnknownWord else said_or_refused (step_or_refusal input_of 0 line)

-- a line of an order: the word `order`, and a request
abbrev pub after_order : List ℕ → Option (List ℕ)
after_order line = option_and_then (λ p. if is_text p.0 (codes "order") then Some p.1 else None) (cut line)

abbrev pub order_says : {I : Type 0} → (List ℕ → Option I) → List ℕ → ImageLine I
order_says input_of line =
    said_or_refused (and_then (ok_or (after_order line) why.UnknownWord) (λ text. ok_or (input_of text) why.Text))

module _ {X : Type 0} where
  abbrev pub image_unless : Option Why → ImageLine X → ImageLine X
  image_unless (Some w) l = Refused w
  image_unless None l = l

  -- what a line of an image is after so many others, where a line says this
  abbrev pub counted_line : (List ℕ → ImageLine X) → ℕ → List ℕ → ImageLine X
  counted_line says count line = image_unless (first_of ((why.TooManyEvents, nat_le MAX_STEPS count) ∷ [])) (says line)

  abbrev pub line_of_image : (List ℕ → ImageLine X) → ℕ → ℕ → List ℕ → ImageLine X
  line_of_image says number count line = image_unless (first_of (line_refusals most_lines number line)) (counted_line says count line)
