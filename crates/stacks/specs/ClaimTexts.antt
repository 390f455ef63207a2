-- The text of a claim: the lines of its trace, the line `below`, and those of its image.
use Rattle.std.specs.Prelude.{ℕ, List, [], ◌∷◌, ◌++◌, Option, Some, None, codes}
use Rattle.std.specs.List.{flat_map}
use Rattle.vst_base.specs.declared.step.Step.{Step}
use Rattle.check_text.specs.Claims.{Claim}
use Rattle.schedule_text.specs.Headers.{header_text}
use Rattle.schedule_text.specs.Printing.{as_line, lines_text, trace_text}
use Rattle.schedule_text.specs.declared.header.Header.{Header}
use Rattle.stacks.specs.Plays.{Play}

abbrev pub header_lines : Option Header → List (List ℕ)
header_lines None = []
header_lines (Some h) = header_text h ∷ []

-- the line below a trace, and the header of the image, if it has one
abbrev pub image_head : Option Header → List ℕ
image_head h = as_line (codes "below") ++ flat_map as_line (header_lines h)

-- and the other lines of the image, which are spelled so
abbrev pub image_text : {G : Type 0} → Option Header → (G → List ℕ) → List G → List ℕ
image_text h line gs = image_head h ++ lines_text line gs

module _ {I O G : Type 0} (p : Play I O G) where
  abbrev pub claim_text : Claim I O G → List ℕ
  claim_text c = trace_text p.texts.input_text p.texts.output_text c.trace ++ image_text c.header p.below.line c.image

  -- the claim that a schedule makes: its trace and its image
  abbrev pub claim_by : List (Step I) → Claim I O G
  claim_by ss = record { trace = p.trace ss; header = p.below.header; image = p.image ss }
