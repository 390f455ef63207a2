-- The counts of a replay.
use Rattle.std.specs.Prelude.{ℕ, List, length}
use Rattle.schedule_replay.specs.declared.done.Done.{Done}
use Rattle.schedule_replay.specs.declared.tally.Tally.{Tally}

-- so many steps were taken, and these lines are the image's
abbrev pub counted_done : {G : Type 0} → Tally → ℕ → List G → Done
counted_done tally events gs = record {
  events = events;
  inputs = tally.inputs;
  outputs = tally.outputs;
  replies = tally.replies;
  image = length gs;
}
