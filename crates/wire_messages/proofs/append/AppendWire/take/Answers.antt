use Rattle.wire_messages.proofs.Reading.{takes_err}
use Rattle.wire_messages.specs.RaftBytes.{append}
use Rattle.wire_messages.proofs.append.AppendWire.take.Goals as goal

pub returns-in_err-entries : goal.returns-in_err-entries
returns-in_err-entries g c = takes_err (append g.C.Wire.format) c.args.input.now c.take_entries.new.input c.from_residual.result c.from_residual.ensures.0
