use Rattle.std.proofs.Common.{◌≡◌, ◌-◌, ◌≤◌, ℕ, List, Some, length}
use Rattle.check_text.specs.Drafts.{lines_of}
use Rattle.check_text.specs.ImageLines.{IsHeaded}
use Rattle.check_text.specs.declared.stage.Stage.TheVariants as stage
use Rattle.check_text.specs.Forms.{form_of}
use Rattle.check_text.specs.TraceLines.{most_lines}
use Rattle.check_text.proofs.Readings.{ReadSoFar}
use Rattle.check_text.proofs.reading.read_claim.Given as goal

-- the lines so far were taken into the draft
abbrev pub invariant-loop-fault : goal.invariant-loop-fault
invariant-loop-fault g l =
    let s = g.S.Source in
    record {
      told : (bytes : List ℕ) → s.left l.fn.source ≡ Some bytes
          → ReadSoFar (form_of l.nodes g.A.AppText.input_of g.A.AppText.output_of l.below g.G.ImageText.says) l.reader l.draft (s.left l.source) bytes;
      headed : l.draft.stage ≡ stage.Image → IsHeaded l.below l.draft.header;
      counted : length l.draft.image ≤ 1000000;
      few : lines_of l.draft ≤ l.reader.number;
      number : l.reader.number ≤ l.reader.most;
      most : l.reader.most ≡ most_lines;
      quiet : s.faults l.source ≡ s.faults l.fn.source;
    }

abbrev pub decreases-loop-fault : goal.decreases-loop-fault
decreases-loop-fault g l = l.reader.most - l.reader.number
