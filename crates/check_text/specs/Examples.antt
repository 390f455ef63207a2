-- Claims on the lock service, whose image is a list of steps without a header.
use Rattle.std.specs.Prelude.{ℕ, List, Option, None, Result}
use Rattle.app_text.specs.LockTexts.{input_of, output_of}
use Rattle.vst_base.specs.declared.lock.LockInput.{LockInput}
use Rattle.vst_base.specs.declared.lock.LockOutput.{LockOutput}
use Rattle.vst_base.specs.declared.step.Item.{Item}
use Rattle.vst_base.specs.declared.step.Step.{Step}
use Rattle.schedule_text.specs.declared.text_faults.TextFault.{TextFault}
use Rattle.check_text.specs.Claims.{Claim}
use Rattle.check_text.specs.Forms.{Form, form_of}
use Rattle.check_text.specs.ImageLines.{step_says}
use Rattle.check_text.specs.Outcomes.{ReadsClaim}

abbrev pub form : Form LockInput LockOutput (Step LockInput)
form = form_of 9 input_of output_of None (step_says input_of)

abbrev pub claim : List (Item LockInput LockOutput) → List (Step LockInput) → Claim LockInput LockOutput (Step LockInput)
claim trace image = record { trace = trace; header = None; image = image }

-- what reading such a claim from this text comes to, of which the source has this left
abbrev pub reads : List ℕ → Option (List ℕ) → Result (Claim LockInput LockOutput (Step LockInput)) TextFault → Type 0
reads text left r = ReadsClaim form left text r
