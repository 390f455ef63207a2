use Rattle.std.proofs.Common.{◌≡◌, take}
use Rattle.schedule_text.specs.Printing.{lines_text}
use Rattle.schedule_text.specs.Sending.{Spilled}
use Rattle.schedule_text.proofs.sinks.print_lines.Given as goal

-- the lines so far were written, or are gathered
abbrev pub invariant-loop-line : goal.invariant-loop-line
invariant-loop-line g l =
    let k = g.K.Sink in
    record {
      lines : Spilled (k.written l.fn.sink) (k.written l.sink) (lines_text g.P.Printed.text (take l.line-index l.lines)) l.text.items;
      faults : k.faults l.sink ≡ k.faults l.fn.sink;
      wants : k.wants l.sink ≡ k.wants l.fn.sink;
    }
