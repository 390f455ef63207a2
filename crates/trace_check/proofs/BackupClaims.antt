-- What a claim on a machine under primary-backup holds has texts, where the claim was read, and so the lines of its image tell its
-- steps.
use Rattle.std.specs.Prelude.{◌≡◌, ℕ, List, map}
use Rattle.std.proofs.Common.{ap}
use Rattle.app_text.specs.PbTexts.{IsPbOutput}
use Rattle.app_text.specs.PbTextLaws.{pb_outputs_are_spelled}
use Rattle.check_text.specs.Forms.{claim_of}
use Rattle.check_text.specs.Reading.{Whole}
use Rattle.claim_verdicts.specs.Backups.{BackupClaim}
use Rattle.claim_verdicts.specs.Laws.{AreSpelledReplies, IsExplained, IsSpelledReply}
use Rattle.claim_verdicts.proofs.Decided.{yes-one-machine}
use Rattle.net_semantics.specs.BelowPb.{below_pb, inputs_at, outputs_at, replies_in}
use Rattle.schedule_text.specs.Printing.{step_text}
use Rattle.stacks.specs.Claimed.{claims}
use Rattle.stacks.specs.Kinds.{Application, Backed, IsOneMachine, Steady, pb_texts}
use Rattle.trace_maps.specs.SingleNode.{alone}
use Rattle.vst_base.specs.declared.pb_out.PbOut.{PbOut}
use Rattle.vst_base.specs.declared.pb_out.PbOut.TheVariants as pb
use Rattle.vst_base.specs.declared.step.Item.{Item}
use Rattle.vst_base.specs.declared.step.Item.TheVariants as item
use Rattle.trace_check.specs.Spelled.{HasInputText, HasOutputText, IsSpelledMachine, IsTextItem}
use Rattle.trace_check.proofs.ImageSteps.{same-steps}
use Rattle.trace_check.proofs.PbRuns.{alone-spellable, inputs-text}
use Rattle.trace_check.proofs.ReadClaims.{AreApart}
use Rattle.trace_check.proofs.ScheduleClaims.{IsReadSchedule, schedule-read, schedule_form}
use Rattle.trace_check.proofs.Verdicts.{IsDecided}
use Rattle.lists.specs.Each.{Each, each_take, each_weaker}

reply-spelled : {C O : Type 0} (nodes : ℕ) (HasIn : C → Type 0) (HasOut : O → Type 0) (x : Item C (PbOut O)) → IsTextItem nodes HasIn (IsPbOutput HasOut) x → IsSpelledReply HasOut x
reply-spelled nodes HasIn HasOut (item.Input n c) has = tt
reply-spelled nodes HasIn HasOut (item.Output n (pb.Reply o)) has = has.1
reply-spelled nodes HasIn HasOut (item.Output n pb.Redirect) has = tt

module _ (apart : AreApart) (nodes : ℕ) (p : Application) (spelled : IsSpelledMachine p) where
  abbrev HasIn : p.Command → Type 0
  HasIn c = HasInputText p.texts c

  abbrev HasOut : p.Output → Type 0
  HasOut o = HasOutputText p.texts o

  module _ (ls : List (List ℕ)) (c : BackupClaim p.Command p.Output) (is : claim_of (schedule_form nodes p.own (pb_texts p.texts)) ls ≡ Whole c) where
    read : IsReadSchedule nodes p.own HasIn (IsPbOutput HasOut) c
    read = schedule-read apart nodes p.own (pb_texts p.texts) HasIn (IsPbOutput HasOut) spelled.texts.inputs (pb_outputs_are_spelled spelled.texts.outputs spelled.no_redirect) ls c is

    inputs : Each HasIn (inputs_at 0 c.trace)
    inputs = inputs-text nodes 0 HasIn (IsPbOutput HasOut) c.trace read.trace

    replies-spelled : AreSpelledReplies HasOut p.machine c
    replies-spelled = record {
      trace = each_weaker (IsTextItem nodes HasIn (IsPbOutput HasOut)) (IsSpelledReply HasOut) (reply-spelled nodes HasIn HasOut) c.trace read.trace;
      outputs = spelled.answers (inputs_at 0 c.trace) inputs;
    }

    one-machine : IsExplained p.texts.input_text p.machine c → IsOneMachine p.machine c
    one-machine by = record {
      machine = by.machine;
      image = same-steps p.texts.input_of p.texts.input_text HasIn spelled.texts.inputs c.image (alone (below_pb c.trace)) read.image
          (alone-spellable HasIn (below_pb c.trace) (each_take HasIn (replies_in (outputs_at 0 c.trace)) (inputs_at 0 c.trace) inputs)) by.image;
    }

    explained : IsOneMachine p.machine c → IsExplained p.texts.input_text p.machine c
    explained by = record { machine = by.machine; image = ap (map (step_text p.texts.input_text)) by.image }

  pub backup-decided : (n : ℕ) → IsDecided nodes (claims (Steady (Backed p)) n)
  backup-decided n ls c is =
      let yes = yes-one-machine HasOut p.texts.output_of p.texts.output_text spelled.texts.outputs p.machine p.texts.input_text c (replies-spelled ls c is) in
      (λ y. one-machine ls c is (yes.0 y), λ by. yes.1 (explained ls c is by))
