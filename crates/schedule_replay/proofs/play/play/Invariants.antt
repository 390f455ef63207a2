use Rattle.std.proofs.Common.{◌≡◌, ◌-◌, ◌≤◌, ℕ, List, length, true}
use Rattle.vst_base.specs.declared.step.TheConstants.{MAX_STEPS}
use Rattle.stacks.specs.Plays.{ImageTexts, play_of, texts_of}
use Rattle.line_reader.specs.Readers.{HasRest}
use Rattle.schedule_replay.specs.Outcomes.{KeptUp}
use Rattle.schedule_replay.specs.Rests.{stack_so_far}
use Rattle.schedule_replay.specs.Tallying.{IsOfSteps}
use Rattle.schedule_replay.proofs.Plays.{HasPlayed}
use Rattle.schedule_replay.proofs.play.play.Given as goal

-- some steps were taken, and what is left of the text goes on from them
abbrev pub invariant-loop-running : goal.invariant-loop-running
invariant-loop-running g l =
    let r = g.R.Runs in
    let a = g.A.AppText in
    let left = g.S.Source.left in
    let written = g.K.Sink.written in
    let fn = l.fn in
    record {
      same : r.played l.running ≡ r.played l.fn.running;
      sound : r.sound l.running;
      most : l.reader.most ≡ l.fn.reader.most;
      counted : (r.progress l.running).taken ≤ l.reader.events;
      within : (r.progress l.running).taken ≤ MAX_STEPS;
      played : HasPlayed (r.played l.fn.running) r.follows r.progress (texts_of a.input_of a.input_text a.output_of a.output_text a.replies)
          (record { running = fn.running; tally = fn.tally; reader = fn.reader; left = left fn.source; written = written fn.sink })
          (record { running = l.running; tally = l.tally; reader = l.reader; left = left l.source; written = written l.sink });
      kept : length l.reader.ahead ≤ 4096 → (i : ImageTexts g.row.R-Line.Denot) (rest : List ℕ) → HasRest fn.reader (left fn.source) rest
          → KeptUp (stack_so_far (play_of (r.played fn.running) (texts_of a.input_of a.input_text a.output_of a.output_text a.replies) i) fn.reader) rest
          (left l.source) (written fn.sink) (written l.sink);
      few : IsOfSteps (r.progress l.running).taken (length (r.progress l.running).trace) l.tally;
      stays : l.fn.reader.ended ≡ true → l.reader.ended ≡ true;
      reads : g.S.Source.faults l.source ≡ g.S.Source.faults l.fn.source;
      writes : g.K.Sink.faults l.sink ≡ g.K.Sink.faults l.fn.sink;
      wants : g.K.Sink.wants l.sink ≡ g.K.Sink.wants l.fn.sink;
    }

abbrev pub decreases-loop-running : goal.decreases-loop-running
decreases-loop-running g l = l.reader.most - l.reader.number
