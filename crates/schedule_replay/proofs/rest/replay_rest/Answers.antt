use Rattle.std.proofs.Common.{◌≡◌, ◌∙◌, List, Option, subst}
use Rattle.vst_base.specs.declared.step.Step.{Step}
use Rattle.schedule_text.specs.declared.header.Header.{Header}
use Rattle.vst_base.specs.declared.step.Item.{Item}
use Rattle.xform_stack.specs.Running.{HasRun}
use Rattle.xform_stack.specs.SystemLaws.{IsCausal}
use Rattle.xform_stack.specs.Systems.{Played}
use Rattle.schedule_replay.specs.Rests.{stack_so_far, stack_whole}
use Rattle.stacks.specs.Plays.{ImageTexts, image_of, play_of, texts_of}
use Rattle.schedule_replay.specs.declared.halt.Halt.TheVariants as halt
use Rattle.schedule_replay.proofs.Endings.{rest-read, rest-refused, rest-finishing, rest-done, rest-fails, rest-front}
use Rattle.schedule_replay.proofs.Keeping.{kept-front, kept-more}
use Rattle.schedule_replay.proofs.rest.replay_rest.Given as given
use Rattle.schedule_replay.proofs.rest.replay_rest.Goals as goal

-- how the image below the trace is spelled
abbrev image : (g : given.Over) → Option Header → ImageTexts g.row.L.Denot
image g below = image_of below g.L.Printed.text

abbrev PlayedOf : given.Over → Type 0
PlayedOf g = Played g.row.R-Input.Denot g.row.R-Output.Denot g.row.L.Denot

causal : (g : given.Over) (running : g.row.R.Denot) → IsCausal (g.R.Runs.played running)
causal g running = g.met.R.Runs.causal running

pub returns-in-Ok-Read-clause-told : goal.returns-in-Ok-Read-clause-told
returns-in-Ok-Read-clause-told g c = λ rest has.
    let r = g.R.Runs in
    let a = g.A.AppText in
    let t = texts_of a.input_of a.input_text a.output_of a.output_text a.replies in
    let run = r.played c.args.running in
    let i = image g c.args.below in
    let old = c.args.reader.now in
    let out = g.K.Sink.written c.args.sink.now in
    let mid = g.K.Sink.written c.play.new.sink in
    let left = g.S.Source.left c.args.source.now in
    let left' = g.S.Source.left c.play.new.source in
    let halted = c.in-Ok-Read.ensures.halted i in
    rest-read run r.follows r.progress t i c.play.new.running c.play.new.tally old c.play.new.reader left left' out mid rest has (causal g c.args.running) (rw c.in-Ok-Read.field-0-is at halted)

pub returns-in-Ok-Refused-clause-told : goal.returns-in-Ok-Refused-clause-told
returns-in-Ok-Refused-clause-told g c = λ rest has.
    let r = g.R.Runs in
    let a = g.A.AppText in
    let t = texts_of a.input_of a.input_text a.output_of a.output_text a.replies in
    let run = r.played c.args.running in
    let i = image g c.args.below in
    let old = c.args.reader.now in
    let out = g.K.Sink.written c.args.sink.now in
    let mid = g.K.Sink.written c.play.new.sink in
    let left = g.S.Source.left c.args.source.now in
    let left' = g.S.Source.left c.play.new.source in
    let halted = c.in-Ok-Refused.ensures.halted i in
    rest-refused run r.follows r.progress t i c.play.new.running c.play.new.tally old c.play.new.reader left left' out mid rest has c.in-Ok-Refused.line c.in-Ok-Refused.why (rw c.in-Ok-Refused.field-0-is at halted)

-- no memory for the image: the trace was written
pub returns-in_default-clause-told : goal.returns-in_default-clause-told
returns-in_default-clause-told g c = λ rest has.
    let r = g.R.Runs in
    let a = g.A.AppText in
    let t = texts_of a.input_of a.input_text a.output_of a.output_text a.replies in
    let run = r.played c.args.running in
    let i = image g c.args.below in
    let old = c.args.reader.now in
    let out = g.K.Sink.written c.args.sink.now in
    let mid = g.K.Sink.written c.play.new.sink in
    let left = g.S.Source.left c.args.source.now in
    let left' = g.S.Source.left c.play.new.source in
    let halted = c.in-Ok-End.ensures.halted i in
    rest-front run r.follows r.progress t i c.play.new.running c.play.new.tally old c.play.new.reader left left' out mid rest has (causal g c.args.running) halt.End
    (rw c.in-Ok-End.field-0-is at halted)

pub returns-clause-told : goal.returns-clause-told
returns-clause-told g c = λ rest has.
    let r = g.R.Runs in
    let a = g.A.AppText in
    let t = texts_of a.input_of a.input_text a.output_of a.output_text a.replies in
    let run = r.played c.args.running in
    let i = image g c.args.below in
    let old = c.args.reader.now in
    let y = c.in-Err-finish.fault in
    let st = play_of run t i in
    let out = g.K.Sink.written c.args.sink.now in
    let mid = g.K.Sink.written c.play.new.sink in
    let left = g.S.Source.left c.args.source.now in
    let left' = g.S.Source.left c.play.new.source in
    let halted = c.in-Ok-End.ensures.halted i in
    let out' = g.K.Sink.written c.finish.new.sink in
    let shows = subst (λ (x : PlayedOf g). (ss : List (Step g.row.R-Input.Denot)) (gone : List (Item g.row.R-Input.Denot g.row.R-Output.Denot))
    → HasRun x r.follows r.progress ss gone c.play.new.running → c.in-Ok.ran.image ≡ x.image ss) c.in-Ok-End.ensures.played c.in-Ok.ensures.image in
    let more = c.in-Err-finish.ensures.err in
    rw c.write_fault-in-Err-finish.ensures (rest-fails (stack_whole st old) (stack_so_far st old) old.number rest left' out out' _ _ y c.in-Err-finish.ensures.fault
    (rest-finishing run r.follows r.progress t i c.play.new.running c.play.new.tally old c.play.new.reader left left' out mid rest has c.lines.result.now (λ ss gone ran. c.lines.ensures ∙ shows ss gone ran) out' (rw c.in-Ok-End.field-0-is at halted) more))

pub returns-in-Ok-finish-clause-told : goal.returns-in-Ok-finish-clause-told
returns-in-Ok-finish-clause-told g c = λ rest has.
    let r = g.R.Runs in
    let a = g.A.AppText in
    let t = texts_of a.input_of a.input_text a.output_of a.output_text a.replies in
    let run = r.played c.args.running in
    let i = image g c.args.below in
    let old = c.args.reader.now in
    let out = g.K.Sink.written c.args.sink.now in
    let mid = g.K.Sink.written c.play.new.sink in
    let left = g.S.Source.left c.args.source.now in
    let left' = g.S.Source.left c.play.new.source in
    let halted = c.in-Ok-End.ensures.halted i in
    let shows = subst (λ (x : PlayedOf g). (ss : List (Step g.row.R-Input.Denot)) (gone : List (Item g.row.R-Input.Denot g.row.R-Output.Denot))
    → HasRun x r.follows r.progress ss gone c.play.new.running → c.in-Ok.ran.image ≡ x.image ss) c.in-Ok-End.ensures.played c.in-Ok.ensures.image in
    rest-done run r.follows r.progress t i c.play.new.running c.play.new.tally old c.play.new.reader left left' out mid rest has c.lines.result.now (λ ss gone ran. c.lines.ensures ∙ shows ss gone ran) (g.K.Sink.written c.finish.new.sink) c.in-Ok-finish.done c.taken-events.result (rw c.in-Ok-End.field-0-is at halted) c.in-Ok-finish.ensures.ok c.in-Ok-finish.ensures.done c.taken-events.ensures

pub returns-in-Ok-finish-clause-kept_up : goal.returns-in-Ok-finish-clause-kept_up
returns-in-Ok-finish-clause-kept_up g c = λ rest has.
    kept-more (c.play.ensures.kept_up (image g c.args.below) rest has) (g.K.Sink.written c.finish.new.sink) _ c.in-Ok-finish.ensures.ok

pub returns-clause-kept_up : goal.returns-clause-kept_up
returns-clause-kept_up g c = λ rest has.
    kept-front (c.play.ensures.kept_up (image g c.args.below) rest has) (g.K.Sink.written c.finish.new.sink) _ c.in-Err-finish.ensures.err
