-- The verdict on a claim whose image is a schedule, by what the schedule runs to: its first refused step, and what clients see.
use Rattle.std.specs.Prelude.{ℕ, List, [], ◌∷◌, Option, option_map}
use Rattle.vst_base.specs.declared.step.Item.{Item}
use Rattle.vst_base.specs.declared.step.StepRefusal.{StepRefusal}
use Rattle.check_text.specs.Claims.{image_line, item_line}
use Rattle.claim_verdicts.specs.Places.{first_difference, verdict_by}
use Rattle.claim_verdicts.specs.Schedules.{ScheduleClaim, shown_lines}
use Rattle.claim_verdicts.specs.declared.verdict.Verdict.{Verdict}

abbrev pub explained_by : {I O : Type 0} → (I → List ℕ) → (O → List ℕ) → ScheduleClaim I O → Option (ℕ × StepRefusal) → List (Item I O) → Verdict
explained_by input_text output_text c first shown =
    verdict_by ((4, option_map (λ p. image_line c p.0) first) ∷ (5, option_map item_line (first_difference 0 (shown_lines input_text output_text c.trace) (shown_lines input_text output_text shown))) ∷ [])
