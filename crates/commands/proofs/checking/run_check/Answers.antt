use Rattle.std.proofs.Common.{Err, ap, refl, arith}
use Rattle.command_line.specs.declared.command.Command.TheVariants as command
use Rattle.commands.specs.Seen.{ran}
use Rattle.commands.specs.declared.complaint.Complaint.TheVariants as complaint
use Rattle.commands.proofs.Answering.{complained, wanted_memory}
use Rattle.commands.proofs.Complained.{memory-told, none-hidden, read-told, unwritten}
use Rattle.commands.proofs.Endings.{claim-broke, claim-cause, claim-denied, claim-refused, denied-cause, permitted-front}
use Rattle.commands.proofs.checking.run_check.Goals as goal

pub returns-in-Err-Memory-write_all : goal.returns-in-Err-Memory-write_all
returns-in-Err-Memory-write_all g c =
    let run = ran g.S.Source g.O.Sink g.E.Sink c.args.input.now c.check.new.source c.args.out.now c.write_all.new.sink c.args.err.now c.tell.new.err in
    let wanted = c.in-Err-Memory-write_all in
    let hides = memory-told run (c.in-Ok-Yes.ensures.quiet (λ e. cc)) (wanted.ensures.memory (ap Err wanted.field-0-is)).0 in
    wanted_memory (command.Check c.args.stack) run _ c.tell.ensures.told hides
    (permitted-front c.args.stack run (rw c.in-Ok-Yes.field-0-is at c.in-Ok-Yes.ensures.told) wanted.ensures.err)
    (record { reads = c.check.ensures.counts; writes = c.write_all.ensures.counts; complains = c.tell.ensures.counts })

pub returns-in-Ok-No : goal.returns-in-Ok-No
returns-in-Ok-No g c =
    let run = ran g.S.Source g.O.Sink g.E.Sink c.args.input.now c.check.new.source c.args.out.now c.args.out.now c.args.err.now c.tell-in-Ok-No.new.err in
    let found = c.in-Ok-No in
    let told = rw found.field-0-is at found.ensures.told in
    let unread = found.ensures.quiet (λ e. cc) in
    let hides = none-hidden (complaint.Condition found.condition found.line) run unread refl in
    complained (command.Check c.args.stack) (complaint.Condition found.condition found.line) run _ c.tell-in-Ok-No.ensures.told
    (denied-cause c.args.stack run found.condition found.line told) hides (unwritten _ run tt refl)
    (record { reads = c.check.ensures.counts; writes = omega arith; complains = c.tell-in-Ok-No.ensures.counts })
    (λ line kept. claim-denied c.args.stack run found.condition found.line (c.permitted_claims_are_explained.ensures.refuted c.args.stack) told unread refl line kept)

pub returns-in-Err-Read : goal.returns-in-Err-Read
returns-in-Err-Read g c =
    let run = ran g.S.Source g.O.Sink g.E.Sink c.args.input.now c.check.new.source c.args.out.now c.args.out.now c.args.err.now c.tell-in-Err-Read.new.err in
    let found = c.in-Err-Read in
    let rose = rw found.field-0-is at found.ensures.fault in
    let broke = claim-broke c.args.stack run refl (rw found.field-0-is at found.ensures.told) in
    complained (command.Check c.args.stack) complaint.Read run _ c.tell-in-Err-Read.ensures.told (refl, rose, broke) (read-told run refl refl) (unwritten _ run tt refl)
    (record { reads = c.check.ensures.counts; writes = omega arith; complains = c.tell-in-Err-Read.ensures.counts })
    (λ line kept. record {
      reading = refl;
      rose = rose;
      given = broke;
      verdict = refl;
      err = line;
      quiet = record { out = record { faults = refl; wants = refl }; err = kept };
    })

pub returns-in-Err-Refused : goal.returns-in-Err-Refused
returns-in-Err-Refused g c =
    let run = ran g.S.Source g.O.Sink g.E.Sink c.args.input.now c.check.new.source c.args.out.now c.args.out.now c.args.err.now c.tell-in-Err-Refused.new.err in
    let found = c.in-Err-Refused in
    let told = rw found.field-0-is at found.ensures.told in
    let unread = (rw found.field-0-is at found.ensures.quiet) (λ e. cc) in
    complained (command.Check c.args.stack) (complaint.Line found.line found.why) run _ c.tell-in-Err-Refused.ensures.told
    (claim-cause c.args.stack run found.line found.why told) (none-hidden (complaint.Line found.line found.why) run unread refl) (unwritten _ run tt refl)
    (record { reads = c.check.ensures.counts; writes = omega arith; complains = c.tell-in-Err-Refused.ensures.counts })
    (λ line kept. claim-refused c.args.stack run found.line found.why told (rw found.field-0-is at found.ensures.ahead) unread refl line kept)

pub returns-in-Err-Memory : goal.returns-in-Err-Memory
returns-in-Err-Memory g c =
    let run = ran g.S.Source g.O.Sink g.E.Sink c.args.input.now c.check.new.source c.args.out.now c.args.out.now c.args.err.now c.tell-in-Err-Memory.new.err in
    let found = c.in-Err-Memory in
    let hides = none-hidden complaint.Memory run ((rw found.field-0-is at found.ensures.quiet) (λ e. cc)) refl in
    wanted_memory (command.Check c.args.stack) run _ c.tell-in-Err-Memory.ensures.told hides (unwritten _ run tt refl)
    (record { reads = c.check.ensures.counts; writes = omega arith; complains = c.tell-in-Err-Memory.ensures.counts })
