use Rattle.std.proofs.lemmas.Result.{on_ok_weaker}
use Rattle.node_body.specs.JournalLaws.{change_fits}
use Rattle.wire_fields.specs.Fronts.{front_stays}
use Rattle.wire_messages.specs.EntryBytes.{entry}
use Rattle.node_body.proofs.records.put_record.Goals as goal

pub returns-clause-fits : goal.returns-clause-fits
returns-clause-fits g c =
    on_ok_weaker c.put_log.result
    (λ entries nodes few voted. change_fits (entry g.C.Wire.format) c.args.term c.args.voted c.args.keep c.args.entries.now nodes c.requires.term few voted c.requires.index entries)
    c.put_log.ensures.fits

pub returns-clause-err : goal.returns-clause-err
returns-clause-err g c =
    let result = c.put_log.result in
    let new = c.put_log.new.out.items in
    front_stays result c.args.out.now.items _ c.put_u64.new.out.items new c.in_ok-put_u64.ensures.ok
    (front_stays result c.put_u64.new.out.items _ c.put_vote.new.out.items new c.in_ok-put_vote.ensures.ok
    (front_stays result c.put_vote.new.out.items _ c.put_u32.new.out.items new c.in_ok-put_u32.ensures.ok c.put_log.ensures.err))
