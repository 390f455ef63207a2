-- What a replay of handlers wrote whose image is the schedule itself is read as a claim.
use Rattle.std.specs.Prelude.{◌≡◌, ℕ, List, None, ◌≤◌, ◌<◌, length, refl}
use Rattle.std.proofs.Common.{arith}
use Rattle.check_text.specs.Claims.{Claim}
use Rattle.check_text.specs.Forms.{claim_of}
use Rattle.check_text.specs.ImageLines.{step_says}
use Rattle.check_text.specs.Reading.{Whole}
use Rattle.claim_verdicts.specs.declared.verdict.Verdict.{Verdict}
use Rattle.line_reader.specs.Lines.{lines_of}
use Rattle.net_semantics.specs.Runs.{no_recovery}
use Rattle.net_semantics.specs.Worlds.{first_world}
use Rattle.schedule_text.specs.Headers.{IsBy, IsHeader}
use Rattle.schedule_text.specs.declared.header.Header.{Header}
use Rattle.stacks.specs.Checks.{form_on}
use Rattle.stacks.specs.Claimed.{Claimed}
use Rattle.stacks.specs.ClaimTexts.{claim_by, claim_text}
use Rattle.stacks.specs.Kinds.{Service, header_on, schedule_below}
use Rattle.stacks.specs.Plays.{Play, play_of}
use Rattle.vst_base.specs.Stacks.{row_of}
use Rattle.vst_base.specs.declared.stack.StackId.{StackId}
use Rattle.vst_base.specs.declared.step.Step.{Step}
use Rattle.xform_stack.specs.Systems.{played_on, system_of}
use Rattle.trace_check.specs.Spelled.{HasInputText, HasOutputText}
use Rattle.trace_check.proofs.Counts.{trace-inputs}
use Rattle.trace_check.proofs.Headers.{head-image, head-plain, head-short}
use Rattle.trace_check.proofs.Lengths.{short-steps, within-more}
use Rattle.trace_check.proofs.Scripts.{AreReadSteps}
use Rattle.trace_check.proofs.Sights.{IsSpelledService}
use Rattle.trace_check.proofs.StackReading.{stack-read}
use Rattle.trace_check.proofs.StepImages.{headed-by, plain-steps, steps-said}
use Rattle.trace_check.proofs.TextItems.{more-nodes}

-- handlers of n nodes, whose image has the header of this stack on k
module _ (s : Service) (verdict : Claim s.Input s.Output (Step s.Input) → Verdict) (nodes n : ℕ) (few_nodes : nodes < 4294967296) (within : n ≤ nodes) (is : IsSpelledService s n)
    (each_row : (i : StackId) (h : Header) → IsBy (row_of i) h → IsHeader h) (i : StackId) (k : ℕ) (least : (row_of i).least ≤ k) (most : k ≤ (row_of i).most) (small : k < 4294967296) where
  abbrev plays : Play s.Input s.Output (Step s.Input)
  plays = play_of (played_on (system_of s.net (s.handlers n)) (λ ss. ss)) s.texts (schedule_below (header_on i k) s.texts)

  abbrev claimed : Claimed s.Input s.Output (Step s.Input)
  claimed = record { says = step_says s.texts.input_of; verdict = verdict }

  pub itself-read : (ss : List (Step s.Input)) → AreReadSteps (HasInputText s.texts) ss → length ss ≤ 1000000 → plays.refused ss ≡ None
      → claim_of (form_on nodes plays claimed) (lines_of (claim_text plays (claim_by plays ss))) ≡ Whole (claim_by plays ss)
  itself-read ss read few_steps allowed =
      let t = s.texts in
      let HasIn = HasInputText s.texts in
      let HasOut = HasOutputText s.texts in
      let few = read.few in
      let items = more-nodes n nodes HasIn HasOut within (plays.trace ss) (is.items ss allowed read.texts) in
      let seen = is.few ss allowed in
      let inputs = trace-inputs (s.handlers n) (no_recovery {S = s.State}) (first_world (s.handlers n)) ss in
      let brief = within-more HasIn t.input_text is.texts.short_inputs in
      stack-read nodes plays claimed HasIn HasOut few_nodes is.texts.inputs is.texts.outputs brief (within-more HasOut t.output_text is.texts.short_outputs)
      (headed-by (form_on nodes plays claimed) (header_on i k) (λ number ls. refl) (head-image each_row i k least most small)) (head-plain each_row i k least most small, tt) (head-short each_row i k least most small, tt)
      ss items (plain-steps t.input_of t.input_text HasIn is.texts.inputs ss read.texts) (steps-said t.input_of t.input_text HasIn is.texts.inputs ss read.texts)
      (omega (arith, few, few_steps, seen)) (short-steps t.input_text HasIn brief ss read.texts) (omega (arith, inputs, few)) few_steps
