use Rattle.std.proofs.Common.{◌≡◌, ◌∙◌, ℕ, true, List, None, ap, refl, sym}
use Rattle.line_reader.specs.Lines.{lines_of}
use Rattle.schedule_text.specs.Schedules.{Opening, Opened, RefusedAt, EndedAt, opening}
use Rattle.schedule_replay.specs.Explained.{IsReplay, most_lines}
use Rattle.schedule_replay.specs.Replays.{replayed_opening}
use Rattle.stacks.specs.Table.{plays_at}
use Rattle.schedule_replay.proofs.Explained.{found-replays, found-written, header-good}
use Rattle.schedule_replay.proofs.laws.replays_are_explained.Goals as goal

by-opening : goal.After-stacks_explain → (bytes : List ℕ) (o : Opening) → opening most_lines 1 (lines_of bytes) ≡ o → (replayed_opening true o).refused ≡ None → IsReplay bytes (replayed_opening true o).out
by-opening c bytes (Opened h number ls) is e = record {
  header = h;
  number = number;
  lines = ls;
  opens = is;
  replayed = found-replays number ls (plays_at h) (c.stacks_explain.ensures h (header-good most_lines 1 (lines_of bytes) h number ls is)) e;
}
by-opening c bytes (RefusedAt number w) is e = cc
by-opening c bytes (EndedAt number) is e = cc

pub returns-clause-explained : goal.returns-clause-explained
returns-clause-explained c = λ bytes e. by-opening c bytes (opening most_lines 1 (lines_of bytes)) refl e

pub returns-clause-nothing_else : goal.returns-clause-nothing_else
returns-clause-nothing_else c = λ bytes text by.
    let both = found-written by.number by.lines (plays_at by.header) text by.replayed in
    (ap (λ (o : Opening). (replayed_opening true o).refused) by.opens ∙ both.0, both.1 ∙ sym (ap (λ (o : Opening). (replayed_opening true o).out) by.opens))
