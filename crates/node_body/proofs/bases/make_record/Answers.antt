use Rattle.std.proofs.Common.{[], ◌∷◌, ap, arith, length, length-append}
use Rattle.wire_messages.specs.EntryBytes.{entry}
use Rattle.vst_base.specs.declared.node.TheConstants.{MAX_NODES}
use Rattle.node_body.specs.BaseLaws.{record_length}
use Rattle.node_body.specs.Journals.{change_as, spell_change}
use Rattle.node_body.proofs.bases.make_record.Goals as goal

pub returns-clause-short : goal.returns-clause-short
returns-clause-short g c =
    let spelled = spell_change (entry g.C.Wire.format) (change_as c.args.term c.args.voted c.args.keep c.args.entries.now) in
    let fits = c.in_ok-put_record.ensures.fits MAX_NODES (omega arith) c.requires.voted in
    let long = record_length g.C.Commands.stack g.C.Wire.format g.met.C.Commands.short MAX_NODES c.args.term c.args.voted c.args.keep c.args.entries.now fits in
    let bytes = ap length c.in_ok-put_record.ensures.ok in
    let both = length-append c.new-bytes.result.items spelled in
    let empty = ap length c.new-bytes.ensures.items in
    let last = ap length c.in_ok-push.ensures.items in
    let one = length-append c.put_record.new.out.items (0 ∷ []) in
    let whole = length-append spelled (0 ∷ []) in
    omega (arith, c.push.new.self.ok.0, last, one, bytes, both, empty, whole, long)
