use Rattle.std.proofs.Common.{Err, ap, refl, arith}
use Rattle.command_line.specs.declared.command.Command.TheVariants as command
use Rattle.commands.specs.Seen.{ran_beside}
use Rattle.commands.proofs.Answering.{wanted_memory}
use Rattle.commands.proofs.Complained.{memory-told}
use Rattle.commands.proofs.making.run_make.Goals as goal

pub returns-in-Err-Memory : goal.returns-in-Err-Memory
returns-in-Err-Memory g c = λ input.
    let run = ran_beside g.O.Sink g.E.Sink input c.args.out.now c.make.new.sink c.args.err.now c.tell.new.err in
    let found = c.in-Err-Memory in
    wanted_memory (command.Make c.args.schedule) run _ c.tell.ensures.told (memory-told run refl (found.ensures.unfailed (ap Err found.field-0-is)))
    (record { out = found.ensures.err; verdict = tt; kept_up = tt }) (record { reads = omega arith; writes = found.ensures.counts; complains = c.tell.ensures.counts })
