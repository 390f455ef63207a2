use Rattle.std.proofs.Common.{refl}
use Rattle.command_line.specs.declared.command.Command.TheVariants as command
use Rattle.commands.specs.Seen.{ran}
use Rattle.commands.specs.declared.complaint.Complaint.TheVariants as complaint
use Rattle.commands.proofs.Answering.{complained, wanted_memory}
use Rattle.commands.proofs.Complained.{line-told, memory-told, read-told}
use Rattle.commands.proofs.Endings.{broke-front, broke-line, line-cause, line-front, line-refused, wanting-front}
use Rattle.commands.proofs.replaying.run_replay.Goals as goal

pub returns-in-Err-Read : goal.returns-in-Err-Read
returns-in-Err-Read g c =
    let run = ran g.S.Source g.O.Sink g.E.Sink c.args.input.now c.replay.new.source c.args.out.now c.replay.new.sink c.args.err.now c.tell.new.err in
    let found = c.in-Err-Read in
    let told = rw found.field-0-is at found.ensures.told in
    let quiet = rw found.field-0-is at found.ensures.quiet in
    let rose = rw found.field-0-is at found.ensures.fault in
    let broke = broke-line run told in
    complained command.Replay complaint.Read run _ c.tell.ensures.told (refl, rose, broke) (read-told run quiet.0 quiet.1) (broke-front run found.ensures.kept_up told)
    (record { reads = found.ensures.reads; writes = found.ensures.writes; complains = c.tell.ensures.counts })
    (λ line kept. record {
      reading = refl;
      rose = rose;
      given = broke;
      verdict = tt;
      err = line;
      quiet = record { out = record { faults = quiet.0; wants = quiet.1 }; err = kept };
    })

pub returns-in-Err-Refused : goal.returns-in-Err-Refused
returns-in-Err-Refused g c =
    let run = ran g.S.Source g.O.Sink g.E.Sink c.args.input.now c.replay.new.source c.args.out.now c.replay.new.sink c.args.err.now c.tell-in-Err-Refused.new.err in
    let found = c.in-Err-Refused in
    let told = rw found.field-0-is at found.ensures.told in
    let quiet = rw found.field-0-is at found.ensures.quiet in
    let unread = (rw found.field-0-is at found.ensures.reads_quiet) (λ e. cc) in
    let hides = line-told run found.line found.why unread quiet.0 quiet.1 in
    complained command.Replay (complaint.Line found.line found.why) run _ c.tell-in-Err-Refused.ensures.told (line-cause run found.line found.why told) hides
    (line-front run found.line found.why found.ensures.kept_up told)
    (record { reads = found.ensures.reads; writes = found.ensures.writes; complains = c.tell-in-Err-Refused.ensures.counts })
    (λ line kept. line-refused run found.line found.why told line (record { reads = unread; writes = record { out = record { faults = quiet.0; wants = quiet.1 }; err = kept } }))

pub returns-in-Err-Memory : goal.returns-in-Err-Memory
returns-in-Err-Memory g c =
    let run = ran g.S.Source g.O.Sink g.E.Sink c.args.input.now c.replay.new.source c.args.out.now c.replay.new.sink c.args.err.now c.tell-in-Err-Memory.new.err in
    let found = c.in-Err-Memory in
    let hides = memory-told run ((rw found.field-0-is at found.ensures.reads_quiet) (λ e. cc)) (rw found.field-0-is at found.ensures.quiet) in
    wanted_memory command.Replay run _ c.tell-in-Err-Memory.ensures.told hides (wanting-front run found.ensures.kept_up (rw found.field-0-is at found.ensures.told))
    (record { reads = found.ensures.reads; writes = found.ensures.writes; complains = c.tell-in-Err-Memory.ensures.counts })
