-- What replay makes of what stands after where a reader stands.
use Rattle.std.specs.Prelude.{ℕ, ◌+◌, true, false, List}
use Rattle.line_reader.specs.Lines.{lines_of, whole_lines}
use Rattle.line_reader.specs.Readers.{ReaderView}
use Rattle.schedule_text.specs.declared.header.Header.{Header}
use Rattle.stacks.specs.Plays.{Play}
use Rattle.schedule_replay.specs.Replaying.{Replayed}
use Rattle.schedule_replay.specs.Replays.{replayed_by, replayed_header}

-- the rest of a stack's schedule, and the whole lines of one that broke off
abbrev pub stack_whole : {I O G : Type 0} → Play I O G → ReaderView → List ℕ → Replayed
stack_whole p r rest = replayed_by p true r.most (r.number + 1) r.events (lines_of rest)

abbrev pub stack_so_far : {I O G : Type 0} → Play I O G → ReaderView → List ℕ → Replayed
stack_so_far p r rest = replayed_by p false r.most (r.number + 1) r.events (whole_lines rest)

-- the same after a header
abbrev pub rest_whole : Header → ReaderView → List ℕ → Replayed
rest_whole h r rest = replayed_header true h r.most (r.number + 1) r.events (lines_of rest)

abbrev pub rest_so_far : Header → ReaderView → List ℕ → Replayed
rest_so_far h r rest = replayed_header false h r.most (r.number + 1) r.events (whole_lines rest)
