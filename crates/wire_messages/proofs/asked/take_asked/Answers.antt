use Rattle.wire_messages.specs.EntryBytes.{asked}
use Rattle.wire_messages.proofs.Reading.{none_taken, takes_err}
use Rattle.wire_messages.proofs.asked.take_asked.Goals as goal

pub returns-in_default-clause-asked : goal.returns-in_default-clause-asked
returns-in_default-clause-asked g c = rw c.in_default.ensures.value

pub returns-in_default-u64-clause-asked : goal.returns-in_default-u64-clause-asked
returns-in_default-u64-clause-asked g c = rw (c.in-Some.ensures.value, c.in_default-u64.ensures.value)

pub returns-in_default-u8-clause-asked : goal.returns-in_default-u8-clause-asked
returns-in_default-u8-clause-asked g c = rw (c.in-Some.ensures.value, c.in-Some-u64.ensures.value, c.in_default-u8.ensures.value)

pub returns-in_err-cmd-clause-asked : goal.returns-in_err-cmd-clause-asked
returns-in_err-cmd-clause-asked g c = takes_err (asked g.C.Wire.format) c.args.input.now c.take.new.input c.from_residual.result c.from_residual.ensures.0

pub returns-in_default-2-clause-asked : goal.returns-in_default-2-clause-asked
returns-in_default-2-clause-asked g c =
    let none = none_taken g.C.Wire.format c.u8.new.self c.take.new.input c.in_ok-cmd.field-0 c.in_default-2.is c.in_ok-cmd.ensures in
    rw (c.in-Some.ensures.value, c.in-Some-u64.ensures.value, c.in-Some-u8.ensures.value, none)
