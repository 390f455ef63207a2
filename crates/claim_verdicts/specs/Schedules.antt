-- When a schedule explains a trace: its network allows it, and what clients then see is the trace.
use Rattle.std.specs.Prelude.{ℕ, List, [], ◌∷◌, ◌++◌, map, Option, option_map, codes}
use Rattle.handler_trait.specs.Handling.{Meaning}
use Rattle.vst_base.specs.declared.net.Net.{Net}
use Rattle.vst_base.specs.declared.step.Item.{Item}
use Rattle.vst_base.specs.declared.step.Step.{Step}
use Rattle.net_semantics.specs.Runs.{first_refused, no_recovery, trace}
use Rattle.schedule_text.specs.Printing.{item_text}
use Rattle.check_text.specs.Claims.{Claim, image_line, item_line}
use Rattle.claim_verdicts.specs.Places.{first_difference, verdict_by}
use Rattle.claim_verdicts.specs.declared.verdict.Verdict.{Verdict}

-- a claim whose image is a schedule of inputs of this type
abbrev pub ScheduleClaim : Type 0 → Type 0 → Type 0
ScheduleClaim I O = Claim I O (Step I)

module _ {I O : Type 0} (input_text : I → List ℕ) (output_text : O → List ℕ) where
  -- the lines of a trace, and the line below it
  abbrev pub shown_lines : List (Item I O) → List (List ℕ)
  shown_lines items = map (item_text input_text output_text) items ++ codes "below" ∷ []

  -- by the network of the image and the handlers on it
  module _ {S M : Type 0} (net : Net) (m : Meaning S I O M) where
    -- the line of the first step that is refused
    abbrev pub refused_line : ScheduleClaim I O → Option ℕ
    refused_line c = option_map (λ p. image_line c p.0) (first_refused net m (no_recovery {S = S}) c.image)

    -- the first line of the trace that is not the image's
    abbrev pub other_line : ScheduleClaim I O → Option ℕ
    other_line c = option_map item_line (first_difference 0 (shown_lines c.trace) (shown_lines (trace m (no_recovery {S = S}) c.image)))

    abbrev pub schedule_verdict : ScheduleClaim I O → Verdict
    schedule_verdict c = verdict_by ((4, refused_line c) ∷ (5, other_line c) ∷ [])
