-- The text of a claim: lines of a trace, the line `below`, and those of an image.
use Rattle.std.specs.Prelude.{ℕ, ◌+◌, List, [], ◌∷◌, Option, Some, None}
use Rattle.vst_base.specs.Firsts.{first_of}
use Rattle.line_reader.specs.declared.why.Why.{Why}
use Rattle.line_reader.specs.declared.why.Why.TheVariants as why
use Rattle.line_reader.specs.Whys.{line_refusals}
use Rattle.schedule_text.specs.declared.header.Header.{Header}
use Rattle.vst_base.specs.declared.stack.StackId.{StackId}
use Rattle.check_text.specs.declared.trace_line.TraceLine.{TraceLine}
use Rattle.check_text.specs.declared.trace_line.TraceLine.TheVariants.{Below, IsItem, Refused}
use Rattle.check_text.specs.declared.image_line.ImageLine.{ImageLine}
use Rattle.check_text.specs.declared.image_line.ImageLine.TheVariants as line
use Rattle.check_text.specs.Claims.{Claim, only_image, with_item}
use Rattle.check_text.specs.ImageLines.{image_header, line_of_image}
use Rattle.check_text.specs.Reading.{Reading, Whole, RefusedAt, EndedAt, read_map}
use Rattle.check_text.specs.TraceLines.{count_item, most_lines, trace_line}

-- how a claim on a stack is spelled: how many nodes its trace may name, how inputs and outputs are read, the stack of whose schedules
-- its image has the header, if it has one, and what a line of the image says
pub record Form (I O X : Type 0) : Type 0 where
  pub nodes : ℕ
  pub input_of : List ℕ → Option I
  pub output_of : List ℕ → Option O
  pub below : Option StackId
  pub says : List ℕ → ImageLine X

abbrev pub form_of : {I O X : Type 0} → ℕ → (List ℕ → Option I) → (List ℕ → Option O) → Option StackId → (List ℕ → ImageLine X) → Form I O X
form_of nodes input_of output_of below says = record { nodes = nodes; input_of = input_of; output_of = output_of; below = below; says = says }

module _ {X : Type 0} where
  abbrev pub onto : ImageLine X → ℕ → Reading (List X) → Reading (List X)
  onto (line.Says x) number rest = read_map (λ xs. x ∷ xs) rest
  onto (line.Refused w) number rest = RefusedAt number w

  -- the lines of an image from this number on, after so many of them
  abbrev pub image_from : (List ℕ → ImageLine X) → ℕ → ℕ → List (List ℕ) → Reading (List X)
  image_from says number count [] = Whole []
  image_from says number count (l ∷ ls) = onto (line_of_image says number count l) number (image_from says (number + 1) (count + 1) ls)

module _ {I O X : Type 0} (form : Form I O X) where
  -- an image after a header that was found, or not, on this line
  abbrev pub headed : Option Header → ℕ → Reading (List X) → Reading (Claim I O X)
  headed None number rest = RefusedAt number why.Header
  headed (Some h) number rest = read_map (only_image (Some h)) rest

  abbrev pub headed_unless : Option Why → ℕ → Reading (Claim I O X) → Reading (Claim I O X)
  headed_unless (Some w) number rest = RefusedAt number w
  headed_unless None number rest = rest

  -- the lines of an image that has such a header
  abbrev pub with_header : Option StackId → ℕ → List (List ℕ) → Reading (Claim I O X)
  with_header below number [] = EndedAt number
  with_header below number (l ∷ ls) =
      headed_unless (first_of (line_refusals most_lines number l)) number (headed (image_header below l) number (image_from form.says (number + 1) 0 ls))

  -- the lines after `below`
  abbrev pub after_below : Option StackId → ℕ → List (List ℕ) → Reading (Claim I O X)
  after_below None number ls = read_map (only_image None) (image_from form.says number 0 ls)
  after_below (Some s) number ls = with_header (Some s) number ls

  -- a line of the trace at this number, after so many inputs, with what the lines after it are by the inputs before
  -- them, and what they are if it is `below`
  abbrev pub claim_line : TraceLine I O → ℕ → ℕ → (ℕ → Reading (Claim I O X)) → Reading (Claim I O X) → Reading (Claim I O X)
  claim_line Below number inputs rest image = image
  claim_line (IsItem x) number inputs rest image = read_map (with_item x) (rest (count_item inputs x))
  claim_line (Refused w) number inputs rest image = RefusedAt number w

  -- the lines of a claim from this number on, after so many inputs
  abbrev pub claim_from : ℕ → ℕ → List (List ℕ) → Reading (Claim I O X)
  claim_from number inputs [] = EndedAt number
  claim_from number inputs (l ∷ ls) =
      claim_line (trace_line form.input_of form.output_of form.nodes number inputs l) number inputs
      (λ n. claim_from (number + 1) n ls) (after_below form.below (number + 1) ls)

  -- the claim that the lines of a text are
  abbrev pub claim_of : List (List ℕ) → Reading (Claim I O X)
  claim_of ls = claim_from 1 0 ls
