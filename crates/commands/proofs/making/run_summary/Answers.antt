use Rattle.std.proofs.Common.{Err, ap, refl, subst, ◌∙◌, arith}
use Rattle.outside.specs.Wholes.{GainedPrefix}
use Rattle.command_line.specs.declared.command.Command.TheVariants as command
use Rattle.commands.specs.Seen.{ran_beside}
use Rattle.commands.specs.declared.complaint.Complaint.TheVariants as complaint
use Rattle.commands.proofs.Answering.{wanted_memory}
use Rattle.commands.proofs.Complained.{memory-told, none-hidden, unwritten}
use Rattle.commands.proofs.making.run_summary.Goals as goal

pub returns-in-Err : goal.returns-in-Err
returns-in-Err g c = λ input.
    let run = ran_beside g.O.Sink g.E.Sink input c.args.out.now c.args.out.now c.args.err.now c.tell.new.err in
    wanted_memory (command.Summarize c.args.schedule) run _ c.tell.ensures.told (none-hidden complaint.Memory run refl refl) (unwritten _ run tt refl)
    (record { reads = omega arith; writes = omega arith; complains = c.tell.ensures.counts })

pub returns : goal.returns
returns g c = λ input.
    let out = g.O.Sink.written c.args.out.now in
    let out' = g.O.Sink.written c.write_all.new.sink in
    let run = ran_beside g.O.Sink g.E.Sink input c.args.out.now c.write_all.new.sink c.args.err.now c.tell-in-Err-Memory.new.err in
    let found = c.in-Err-Memory in
    wanted_memory (command.Summarize c.args.schedule) run _ c.tell-in-Err-Memory.ensures.told (memory-told run refl (found.ensures.memory (ap Err found.field-0-is)).0)
    (record { out = subst (λ text. GainedPrefix out out' text) (c.deref.ensures.value ∙ c.in-Ok.ensures) found.ensures.err; verdict = tt; kept_up = tt })
    (record { reads = omega arith; writes = found.ensures.counts; complains = c.tell-in-Err-Memory.ensures.counts })
