-- What a replay of a machine under primary-backup wrote is read as a claim.
use Rattle.std.specs.Prelude.{◌≡◌, ℕ, List, None, ◌≤◌, ◌<◌, refl}
use Rattle.std.proofs.Common.{arith}
use Rattle.std.proofs.lemmas.List.{length-map}
use Rattle.check_text.specs.Forms.{claim_of}
use Rattle.check_text.specs.Reading.{Whole}
use Rattle.line_reader.specs.Lines.{lines_of}
use Rattle.net_semantics.specs.BelowPb.{below_pb, inputs_at, outputs_at, replies_in}
use Rattle.net_semantics.specs.Runs.{no_recovery}
use Rattle.net_semantics.specs.Worlds.{first_world}
use Rattle.primary_backup.specs.Backup.{Backed as Backup, primary_backup}
use Rattle.schedule_text.specs.Headers.{IsBy, IsHeader}
use Rattle.schedule_text.specs.declared.header.Header.{Header}
use Rattle.stacks.specs.Checks.{form_on}
use Rattle.stacks.specs.Claimed.{Claimed, layers_claimed}
use Rattle.stacks.specs.ClaimTexts.{claim_by, claim_text}
use Rattle.stacks.specs.Kinds.{Application, Backed, backed, header_on, pb_texts, service_play}
use Rattle.stacks.specs.Plays.{Play}
use Rattle.trace_maps.specs.SingleNode.{alone}
use Rattle.vst_base.specs.Stacks.{row_of}
use Rattle.vst_base.specs.declared.pb_out.PbOut.{PbOut}
use Rattle.vst_base.specs.declared.stack.StackId.{StackId}
use Rattle.vst_base.specs.declared.step.Step.{Step}
use Rattle.vst_base.specs.declared.step.Step.TheVariants as step
use Rattle.trace_check.specs.Spelled.{HasInputText, HasOutputText}
use Rattle.trace_check.proofs.Counts.{below-few, trace-inputs}
use Rattle.trace_check.proofs.Headers.{head-image, head-plain, head-short}
use Rattle.trace_check.proofs.Lengths.{short-steps, within-more}
use Rattle.trace_check.proofs.PbRuns.{alone-spellable, inputs-text}
use Rattle.trace_check.proofs.Scripts.{AreReadSteps}
use Rattle.trace_check.proofs.Sights.{IsSpelledService}
use Rattle.trace_check.proofs.StackReading.{stack-read}
use Rattle.trace_check.proofs.StepImages.{headed-by, plain-steps, steps-said}
use Rattle.trace_check.proofs.TextItems.{more-nodes}
use Rattle.lists.specs.Each.{each_take}

module _ (p : Application) (nodes n : ℕ) (few_nodes : nodes < 4294967296) (within : n ≤ nodes) (is : IsSpelledService (backed p) n)
    (each_row : (i : StackId) (h : Header) → IsBy (row_of i) h → IsHeader h) (least : (row_of p.own).least ≤ 1) (most : 1 ≤ (row_of p.own).most) where
  abbrev plays : Play p.Command (PbOut p.Output) (Step p.Command)
  plays = service_play (backed p) n

  abbrev claimed : Claimed p.Command (PbOut p.Output) (Step p.Command)
  claimed = layers_claimed (Backed p)

  pub backed-read : (ss : List (Step p.Command)) → AreReadSteps (HasInputText p.texts) ss → plays.refused ss ≡ None
      → claim_of (form_on nodes plays claimed) (lines_of (claim_text plays (claim_by plays ss))) ≡ Whole (claim_by plays ss)
  backed-read ss read allowed =
      let t = p.texts in
      let m = primary_backup p.machine in
      let HasIn = HasInputText p.texts in
      let HasOut = HasOutputText (pb_texts p.texts) in
      let seen = plays.trace ss in
      let steps = alone (below_pb seen) in
      let items = more-nodes n nodes HasIn HasOut within seen (is.items ss allowed read.texts) in
      let image = alone-spellable HasIn (below_pb seen) (each_take HasIn (replies_in (outputs_at 0 seen)) (inputs_at 0 seen) (inputs-text nodes 0 HasIn HasOut seen items)) in
      let few = read.few in
      let many = is.few ss allowed in
      let inputs = trace-inputs m (no_recovery {S = Backup p.State p.Command}) (first_world m) ss in
      let below = below-few seen in
      let as_many = length-map (below_pb seen) (λ (c : p.Command). step.In 0 c) in
      let brief = within-more HasIn t.input_text is.texts.short_inputs in
      stack-read nodes plays claimed HasIn HasOut few_nodes is.texts.inputs is.texts.outputs brief (within-more HasOut (pb_texts p.texts).output_text is.texts.short_outputs)
      (headed-by (form_on nodes plays claimed) (header_on p.own 1) (λ number ls. refl) (head-image each_row p.own 1 least most (omega arith))) (head-plain each_row p.own 1 least most (omega arith), tt) (head-short each_row p.own 1 least most (omega arith), tt)
      ss items (plain-steps t.input_of t.input_text HasIn is.texts.inputs steps image) (steps-said t.input_of t.input_text HasIn is.texts.inputs steps image)
      (omega (arith, few, inputs, below, as_many, many)) (short-steps t.input_text HasIn brief steps image) (omega (arith, inputs, few)) (omega (arith, few, inputs, below, as_many))
