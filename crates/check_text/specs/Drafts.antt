-- A claim of which some lines were read, and what it comes to with those that follow.
use Rattle.std.specs.Prelude.{◌≡◌, ◌≢◌, ℕ, ◌+◌, List, [], ◌∷◌, ◌++◌, length, Option, Some, None, Result, Ok, Err}
use Rattle.vst_base.specs.Firsts.{first_of}
use Rattle.vst_base.specs.declared.step.Item.{Item}
use Rattle.line_reader.specs.declared.why.Why.{Why}
use Rattle.line_reader.specs.declared.why.Why.TheVariants as why
use Rattle.line_reader.specs.declared.read_fault.ReadFault.{ReadFault}
use Rattle.line_reader.specs.declared.read_fault.ReadFault.TheVariants as fault
use Rattle.line_reader.specs.Whys.{line_refusals}
use Rattle.schedule_text.specs.declared.header.Header.{Header}
use Rattle.schedule_text.specs.declared.text_faults.TextFault.{TextFault}
use Rattle.schedule_text.specs.declared.text_faults.TextFault.TheVariants as text
use Rattle.check_text.specs.declared.stage.Stage.{Stage}
use Rattle.check_text.specs.declared.stage.Stage.TheVariants as stage
use Rattle.check_text.specs.Claims.{Claim}
use Rattle.check_text.specs.Forms.{Form, claim_from, image_from, with_header}
use Rattle.check_text.specs.Reading.{Reading, Whole, RefusedAt, EndedAt, read_map}
use Rattle.check_text.specs.TraceLines.{most_lines}

-- the items so far, how many of them are inputs, where the next line belongs, and the image so far
pub record Draft (I O X : Type 0) : Type 0 where
  pub trace : List (Item I O)
  pub inputs : ℕ
  pub stage : Stage
  pub header : Option Header
  pub image : List X

-- how many lines it has, `below` and a header left out
abbrev pub lines_of : {I O X : Type 0} → Draft I O X → ℕ
lines_of d = length d.trace + length d.image

abbrev pub no_lines : {I O X : Type 0} → Draft I O X
no_lines = record { trace = []; inputs = 0; stage = stage.Trace; header = None; image = [] }

-- no line of an image comes before the trace is whole, and none before its header
pub record IsStaged {I O X : Type 0} (d : Draft I O X) : Type 0 where
  pub image : d.stage ≢ stage.Image → d.image ≡ []
  pub header : d.stage ≡ stage.Trace → d.header ≡ None

module _ {I O X : Type 0} where
  -- a claim after further items of a trace
  abbrev pub after_items : List (Item I O) → Claim I O X → Claim I O X
  after_items items c = record { trace = items ++ c.trace; header = c.header; image = c.image }

  -- the claim of a draft whose image goes on with these lines
  abbrev pub with_image : Draft I O X → List X → Claim I O X
  with_image d xs = record { trace = d.trace; header = d.header; image = d.image ++ xs }

  -- by the stage, with the lines that follow from this number on
  abbrev pub goes_on : Form I O X → Draft I O X → Stage → ℕ → List (List ℕ) → Reading (Claim I O X)
  goes_on form d stage.Trace number ls = read_map (after_items d.trace) (claim_from form number d.inputs ls)
  goes_on form d stage.Header number ls = read_map (after_items d.trace) (with_header form form.below number ls)
  goes_on form d stage.Image number ls = read_map (with_image d) (image_from form.says number (length d.image) ls)

  abbrev pub comes_to : Form I O X → Draft I O X → ℕ → List (List ℕ) → Reading (Claim I O X)
  comes_to form d number ls = goes_on form d d.stage number ls

  -- a line that is neither too long nor one too many was taken into a draft, or is refused
  abbrev pub TakesLine : Form I O X → Draft I O X → Draft I O X → List ℕ → Option Why → Type 0
  TakesLine form d d' line None =
      (number : ℕ) (ls : List (List ℕ)) → first_of (line_refusals most_lines number line) ≡ None → comes_to form d number (line ∷ ls) ≡ comes_to form d' (number + 1) ls
  TakesLine form d d' line (Some w) =
      (number : ℕ) (ls : List (List ℕ)) → first_of (line_refusals most_lines number line) ≡ None → comes_to form d number (line ∷ ls) ≡ RefusedAt number w

  -- a draft after which no line follows is a claim, or ends too early
  abbrev pub Finishes : Form I O X → Draft I O X → Option (Claim I O X) → Type 0
  Finishes form d None = (number : ℕ) → comes_to form d number [] ≡ EndedAt number
  Finishes form d (Some c) = (number : ℕ) → comes_to form d number [] ≡ Whole c

  -- and where it ends too early, the line after the last is refused
  abbrev pub EndsClaim : Form I O X → Draft I O X → ℕ → Result (Claim I O X) TextFault → Type 0
  EndsClaim form d number (Ok c) = Finishes form d (Some c)
  EndsClaim form d number (Err found) = (found ≡ text.Refused (number + 1) why.Header) × Finishes form d None

  -- and where no line was read for some fault
  abbrev pub EndsBy : Form I O X → Draft I O X → ℕ → ReadFault → Result (Claim I O X) TextFault → Type 0
  EndsBy form d number fault.End r = EndsClaim form d number r
  EndsBy form d number fault.Read r = r ≡ Err text.Read
  EndsBy form d number fault.Memory r = r ≡ Err text.Memory
  EndsBy form d number (fault.Refused n w) r = r ≡ Err (text.Refused n w)
