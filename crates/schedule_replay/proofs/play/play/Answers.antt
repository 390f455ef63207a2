use Rattle.std.proofs.Common.{◌≡◌, true, ℕ, List, [], Ok, Some, inl, inr, arith, ap, ◌∙◌, sym, refl}
use Rattle.std.proofs.lemmas.Result.{err_from_is_err_and}
use Rattle.vst_base.specs.declared.step.Step.{Step}
use Rattle.vst_base.specs.declared.step.Item.{Item}
use Rattle.line_reader.specs.Readers.{ReaderView, HasRest}
use Rattle.schedule_text.specs.Reading.{tells_next}
use Rattle.schedule_text.specs.Streams.{StepIsNear}
use Rattle.xform_stack.specs.Running.{HasRun, Progress}
use Rattle.xform_stack.specs.SystemLaws.{IsCausal}
use Rattle.stacks.specs.Plays.{ImageTexts, Texts, play_of, texts_of}
use Rattle.schedule_replay.specs.Outcomes.{KeptUp}
use Rattle.schedule_replay.specs.Rests.{stack_so_far}
use Rattle.schedule_replay.specs.Playing.{TookStep, is_failed_read}
use Rattle.schedule_replay.specs.declared.halt.Halt.{Halt}
use Rattle.schedule_replay.specs.declared.halt.Halt.TheVariants as halt
use Rattle.schedule_replay.specs.declared.tally.Tally.{Tally}
use Rattle.schedule_replay.proofs.Counting.{all-written, as-many, has-room, of-before-reading, of-step}
use Rattle.schedule_replay.proofs.Keeping.{kept-before-reading, kept-front, kept-more, kept-start, kept-step}
use Rattle.schedule_replay.proofs.Plays.{HasPlayed, Standing, played-start, played-before-reading, played-more, played-halts}
use Rattle.schedule_replay.proofs.Plays.{played-front, playing-front, writes-nothing}
use Rattle.schedule_replay.proofs.play.play.Given as given
use Rattle.schedule_replay.proofs.play.play.Goals as goal
use Rattle.schedule_replay.proofs.play.play.Goals.{In_ok-write_before_reading, In_ok-halt, In-Some}

-- how inputs and outputs are spelled
abbrev texts : (g : given.Over) → Texts g.row.R-Input.Denot g.row.R-Output.Denot
texts g = let a = g.A.AppText in texts_of a.input_of a.input_text a.output_of a.output_text a.replies

-- where a replay stands
abbrev standing : (g : given.Over) → g.row.R.Denot → Tally → ReaderView → g.row.S.Denot → g.row.K.Denot → Standing g.row.R.Denot
standing g running tally reader source sink =
    record { running = running; tally = tally; reader = reader; left = g.S.Source.left source; written = g.K.Sink.written sink }

-- whatever steps follow
causal : (g : given.Over) (running : g.row.R.Denot) → IsCausal (g.R.Runs.played running)
causal g running = g.met.R.Runs.causal running

only-read : (x : Halt) → is_failed_read x ≡ true → x ≡ halt.Read
only-read halt.End e = cc
only-read halt.Read e = refl
only-read (halt.Refused number why) e = cc

pub loop-running-init : goal.loop-running-init
loop-running-init g c =
    let now = g.R.Runs.progress c.args.running.now in
    let taken : now.taken ≡ 0 = c.requires.started.counted in
    let nothing = (causal g c.args.running.now).nothing in
    let none : now.trace ≡ [] = c.requires.started.traced ∙ nothing in
    record {
      same = refl;
      sound = c.requires.sound;
      most = refl;
      counted = omega (arith, taken);
      within = omega (arith, taken);
      played = played-start c.requires.started c.requires.tally;
      kept = λ few i rest has. kept-start (g.R.Runs.played c.args.running.now) c.requires.started.allowed nothing (texts g) i c.args.reader.now (g.S.Source.left c.args.source.now)
          (g.K.Sink.written c.args.sink.now) rest has few;
      few = rw (none, c.requires.tally) (record { inputs = omega arith; outputs = omega arith; replies = omega arith });
      stays = λ is. is;
      reads = refl;
      writes = refl;
      wants = refl;
    }

pub write_before_reading-requires : goal.write_before_reading-requires
write_before_reading-requires g c = has-room c.loop-running.invariant.few c.loop-running.invariant.within

pub returns-in_err-write_before_reading-clause-front : goal.returns-in_err-write_before_reading-clause-front
returns-in_err-write_before_reading-clause-front g c =
    let p = err_from_is_err_and c.from_residual.result c.from_residual.ensures.1 in
    let written = g.K.Sink.written c.write_before_reading.new.sink in
    rw p.1 (λ i rest has. playing-front c.loop-running.invariant.played (causal g c.args.running.now) i rest has written c.in_err-write_before_reading.ensures.err)

-- what was played once all was written that has to be before reading
begun : (g : given.Over) (c : In_ok-write_before_reading g)
    → HasPlayed (g.R.Runs.played c.args.running.now) g.R.Runs.follows g.R.Runs.progress (texts g)
    (standing g c.args.running.now c.args.tally.now c.args.reader.now c.args.source.now c.args.sink.now)
    (standing g c.write_before_reading.new.running c.write_before_reading.new.tally c.loop-running.reader c.loop-running.source
    c.write_before_reading.new.sink)
begun g c = played-before-reading c.loop-running.invariant.played c.in_ok-write_before_reading.ensures.ok

-- what was kept up with, once all was written that has to be, and once a step was read
abbrev KeepsUp : (g : given.Over) (reader : ReaderView) (source source' : g.row.S.Denot) (sink sink' : g.row.K.Denot) (running : g.row.R.Denot) → Type 0
KeepsUp g reader source source' sink sink' running =
    (i : ImageTexts g.row.R-Line.Denot) (rest : List ℕ) → HasRest reader (g.S.Source.left source) rest
    → KeptUp (stack_so_far (play_of (g.R.Runs.played running) (texts g) i) reader) rest (g.S.Source.left source') (g.K.Sink.written sink) (g.K.Sink.written sink')

kept-before : (g : given.Over) (c : In_ok-write_before_reading g)
    → KeepsUp g c.args.reader.now c.args.source.now c.loop-running.source c.args.sink.now c.write_before_reading.new.sink c.args.running.now
kept-before g c = λ i rest has.
    kept-before-reading (c.loop-running.invariant.kept c.write_before_reading.ensures.few i rest has) c.in_ok-write_before_reading.ensures.ok

kept-after : (g : given.Over) (c : In_ok-write_before_reading g) (source' : g.row.S.Denot)
    → ((later : List ℕ) → HasRest c.loop-running.reader (g.S.Source.left c.loop-running.source) later
    → StepIsNear g.A.AppText.input_of c.loop-running.reader (g.S.Source.left source') later)
    → (tells_next c.loop-running.reader.ahead ≡ true → source' ≡ c.loop-running.source)
    → KeepsUp g c.args.reader.now c.args.source.now source' c.args.sink.now c.write_before_reading.new.sink c.args.running.now
kept-after g c source' near unread = λ i rest has.
    kept-step (begun g c) i rest has (g.S.Source.left source') near
    (elim c.in_ok-write_before_reading.ensures.ok [
      | inl w ↦ inl (ap g.S.Source.left (unread w.told))
      | inr w ↦ inr (ap (λ (x : Progress g.row.R-Input.Denot g.row.R-Output.Denot). x.trace) w.forgets)
    ])
    (kept-before g c i rest has)

pub returns-in_err-write_before_reading-clause-kept_up : goal.returns-in_err-write_before_reading-clause-kept_up
returns-in_err-write_before_reading-clause-kept_up g c = λ i rest has.
    kept-front (c.loop-running.invariant.kept c.write_before_reading.ensures.few i rest has) (g.K.Sink.written c.write_before_reading.new.sink) _
    c.in_err-write_before_reading.ensures.err

pub returns-in_err-halt-clause-kept_up : goal.returns-in_err-halt-clause-kept_up
returns-in_err-halt-clause-kept_up g c =
    let here = goal.at.returns-in_err-halt-clause-kept_up g c in
    kept-after g here.In_ok-write_before_reading c.take_step.new.source c.take_step.ensures.near c.take_step.ensures.unread

pub returns-in_err-write_trace-clause-kept_up : goal.returns-in_err-write_trace-clause-kept_up
returns-in_err-write_trace-clause-kept_up g c = λ i rest has.
    let here = goal.at.returns-in_err-write_trace-clause-kept_up g c in
    kept-front (kept-after g here.In_ok-write_before_reading c.take_step.new.source c.take_step.ensures.near c.take_step.ensures.unread i rest has)
    (g.K.Sink.written c.write_trace.new.sink) _ c.in_err-write_trace.ensures.err

pub returns-in_ok-write_trace-clause-kept_up : goal.returns-in_ok-write_trace-clause-kept_up
returns-in_ok-write_trace-clause-kept_up g c = λ i rest has.
    let here = goal.at.returns-in_ok-write_trace-clause-kept_up g c in
    kept-more (kept-after g here.In_ok-write_before_reading c.take_step.new.source c.take_step.ensures.near c.take_step.ensures.unread i rest has)
    (g.K.Sink.written c.write_trace.new.sink) _ c.in_ok-write_trace.ensures.ok.written

pub returns-else-not-is_failed_read-clause-kept_up : goal.returns-else-not-is_failed_read-clause-kept_up
returns-else-not-is_failed_read-clause-kept_up g c =
    let here = goal.at.returns-else-not-is_failed_read-clause-kept_up g c in
    kept-after g here.In_ok-write_before_reading c.take_step.new.source c.take_step.ensures.near c.take_step.ensures.unread

pub take_step-requires-clause-counted : goal.take_step-requires-clause-counted
take_step-requires-clause-counted g c =
    omega (arith, as-many c.in_ok-write_before_reading.ensures.ok, c.loop-running.invariant.counted)

pub returns-in_err-halt-clause-front : goal.returns-in_err-halt-clause-front
returns-in_err-halt-clause-front g c =
    let p = err_from_is_err_and c.from_residual-in_err-halt.result c.from_residual-in_err-halt.ensures.1 in
    let here = goal.at.returns-in_err-halt-clause-front g c in
    rw p.1 (λ i rest has. played-front (begun g here.In_ok-write_before_reading) (causal g c.args.running.now) i rest has)

-- what reading and taking a step came to, after any steps
took : (g : given.Over) (c : In_ok-halt g) {ss : List (Step g.row.R-Input.Denot)}
    {gone : List (Item g.row.R-Input.Denot g.row.R-Output.Denot)}
    → HasRun (g.R.Runs.played c.args.running.now) g.R.Runs.follows g.R.Runs.progress ss gone c.write_before_reading.new.running
    → TookStep (g.R.Runs.played c.args.running.now) g.R.Runs.follows g.R.Runs.progress g.A.AppText.input_of c.take_step.new.running ss gone
    c.loop-running.reader c.take_step.new.reader (g.S.Source.left c.loop-running.source) (g.S.Source.left c.take_step.new.source)
    c.in_ok-halt.field-0
took g c {ss} {gone} ran =
    let same = c.in_ok-write_before_reading.ensures.played ∙ c.loop-running.invariant.same in
    (rw same at c.in_ok-halt.ensures.took) ss gone ran

-- where the steps end nothing was taken
unchanged : (g : given.Over) (c : In-Some g) → c.take_step.new.running ≡ c.write_before_reading.new.running
unchanged g c = c.take_step.ensures.unchanged c.in-Some.halt (c.in_ok-halt.was ∙ ap Ok c.in-Some.is)

pub write_trace-requires : goal.write_trace-requires
write_trace-requires g c =
    let before = c.in_ok-write_before_reading.ensures.ok in
    let few = of-before-reading before c.loop-running.invariant.few in
    let within = c.loop-running.invariant.within in
    rw (unchanged g (goal.at.write_trace-requires g c).In-Some) (has-room few (omega (arith, as-many before, within)))

pub returns-in_err-write_trace-clause-front : goal.returns-in_err-write_trace-clause-front
returns-in_err-write_trace-clause-front g c =
    let here = goal.at.returns-in_err-write_trace-clause-front g c in
    let p = err_from_is_err_and c.from_residual-in_err-write_trace.result c.from_residual-in_err-write_trace.ensures.1 in
    let same = unchanged g here.In-Some in
    let written = g.K.Sink.written c.write_trace.new.sink in
    let err = rw same at c.in_err-write_trace.ensures.err in
    rw p.1 (λ i rest has. playing-front (begun g here.In_ok-write_before_reading) (causal g c.args.running.now) i rest has written err)

pub returns-in_ok-write_trace-clause-halted : goal.returns-in_ok-write_trace-clause-halted
returns-in_ok-write_trace-clause-halted g c =
    let here = goal.at.returns-in_ok-write_trace-clause-halted g c in
    let p = begun g here.In_ok-write_before_reading in
    λ i. played-halts p (causal g c.args.running.now) i (rw c.in-Some.is at (took g here.In_ok-halt p.ran)) c.in_ok-write_trace.ensures.ok

pub returns-else-not-is_failed_read-clause-halted : goal.returns-else-not-is_failed_read-clause-halted
returns-else-not-is_failed_read-clause-halted g c =
    let here = goal.at.returns-else-not-is_failed_read-clause-halted g c in
    let p = begun g here.In_ok-write_before_reading in
    let failed = only-read c.in-Some.halt (sym c.is_failed_read.ensures ∙ c.if-not-is_failed_read.false) in
    let answered = c.in_ok-halt.was ∙ ap Ok (c.in-Some.is ∙ ap (λ x. Some x) failed) in
    let all = all-written c.in_ok-write_before_reading.ensures.ok (λ is. c.take_step.ensures.ahead is answered) in
    let none = ap (λ (x : g.row.R.Denot). (g.R.Runs.progress x).trace) (unchanged g here.In-Some) ∙ all in
    λ i. played-halts p (causal g c.args.running.now) i (rw c.in-Some.is at (took g here.In_ok-halt p.ran)) (writes-nothing none)

pub loop-running-preserved : goal.loop-running-preserved
loop-running-preserved g c =
    let here = goal.at.loop-running-preserved g c in
    let p = begun g here.In_ok-write_before_reading in
    let inv = c.loop-running.invariant in
    let before = c.in_ok-write_before_reading.ensures in
    let none = c.in_ok-halt.was ∙ ap Ok c.in_default.is in
    let events = c.take_step.ensures.events none in
    let taken = c.take_step.ensures.taken none in
    let many = as-many before.ok in
    record {
      same = c.take_step.ensures.played ∙ before.played ∙ inv.same;
      sound = c.in_ok-halt.ensures.sound;
      most = c.take_step.ensures.most ∙ inv.most;
      counted = omega (arith, events, taken, many, inv.counted);
      within = c.take_step.ensures.few none;
      played = played-more p (rw c.in_default.is at (took g here.In_ok-halt p.ran)) events c.take_step.ensures.most;
      kept = λ short i rest has. kept-after g here.In_ok-write_before_reading c.take_step.new.source c.take_step.ensures.near c.take_step.ensures.unread i rest has;
      few = of-step (of-before-reading before.ok inv.few) taken (c.take_step.ensures.grows none);
      stays = λ is. c.take_step.ensures.stays (inv.stays is);
      reads = c.take_step.ensures.quiet (λ e. let both = sym none ∙ e in cc) ∙ inv.reads;
      writes = before.quiet.0 ∙ inv.writes;
      wants = before.quiet.1 ∙ inv.wants;
    }
