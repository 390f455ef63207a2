-- What replay makes of the bytes of a schedule.
use Rattle.std.specs.Prelude.{ℕ, ◌-◌, Bool, true, false, List, [], None}
use Rattle.line_reader.specs.Lines.{lines_of, whole_lines}
use Rattle.line_reader.specs.declared.why.Why.TheVariants as why
use Rattle.schedule_text.specs.Schedules.{Opening, Opened, RefusedAt, EndedAt, opening, script}
use Rattle.schedule_text.specs.declared.header.Header.{Header}
use Rattle.stacks.specs.Plays.{found_or, Play}
use Rattle.stacks.specs.Table.{plays_at}
use Rattle.schedule_replay.specs.Replaying.{Replayed, refused_at, no_counts, replayed_script}
use Rattle.schedule_replay.specs.Explained.{most_lines}

-- what replay makes of these lines of a stack's schedule: the first has this number, so many events stand before it, and no line
-- may have a number over the most
abbrev pub replayed_by : {I O G : Type 0} → Play I O G → Bool → ℕ → ℕ → ℕ → List (List ℕ) → Replayed
replayed_by p whole most number events ls = replayed_script p whole (script most p.texts.input_of number events ls)

-- and of those after a header, which stands on the line before them. A header without a stack in the table is refused at its line
abbrev pub replayed_header : Bool → Header → ℕ → ℕ → ℕ → List (List ℕ) → Replayed
replayed_header whole h most number events ls =
    found_or (refused_at (number - 1) why.Header) (λ a. replayed_by a.play whole most number events ls) (plays_at h)

-- a text without a header is refused at the line after its last, if that was its end
abbrev pub replayed_opening : Bool → Opening → Replayed
replayed_opening whole (Opened h number ls) = replayed_header whole h most_lines number 0 ls
replayed_opening whole (RefusedAt number w) = refused_at number w
replayed_opening true (EndedAt number) = refused_at number why.Header
replayed_opening false (EndedAt number) = record { out = []; refused = None; counts = no_counts }

-- a whole text
abbrev pub replayed : List ℕ → Replayed
replayed bytes = replayed_opening true (opening most_lines 1 (lines_of bytes))

-- the whole lines of a text that broke off
abbrev pub replayed_so_far : List ℕ → Replayed
replayed_so_far bytes = replayed_opening false (opening most_lines 1 (whole_lines bytes))
