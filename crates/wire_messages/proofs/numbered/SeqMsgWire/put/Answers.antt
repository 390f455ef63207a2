use Rattle.wire_messages.proofs.Broken.{nothing_added}
use Rattle.wire_fields.specs.Fronts.{front_stays}
use Rattle.wire_messages.proofs.numbered.SeqMsgWire.put.Goals as goal

pub returns-clause-err : goal.returns-clause-err
returns-clause-err g c = front_stays c.put.result c.args.out.now.items _ c.put_u64.new.out.items c.put.new.out.items c.in_ok-put_u64.ensures.ok c.put.ensures.err

pub returns-in_err-put_u64-clause-err : goal.returns-in_err-put_u64-clause-err
returns-in_err-put_u64-clause-err g c = nothing_added c.from_residual.result c.args.out.now.items c.put_u64.new.out.items c.in_err-put_u64.ensures.err
