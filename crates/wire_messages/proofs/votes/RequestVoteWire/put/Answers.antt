use Rattle.wire_fields.specs.Fronts.{front_stays}
use Rattle.wire_messages.proofs.Broken.{none_added, nothing_added}
use Rattle.wire_messages.proofs.votes.RequestVoteWire.put.Goals as goal

pub returns-in_err-put_u64-clause-err : goal.returns-in_err-put_u64-clause-err
returns-in_err-put_u64-clause-err c = nothing_added c.from_residual.result c.args.out.now.items c.put_u64.new.out.items c.in_err-put_u64.ensures.err

pub returns-in_err-put_u32-clause-err : goal.returns-in_err-put_u32-clause-err
returns-in_err-put_u32-clause-err c =
    front_stays c.from_residual-in_err-put_u32.result c.args.out.now.items _ c.put_u64.new.out.items c.put_u32.new.out.items c.in_ok-put_u64.ensures.ok (nothing_added c.from_residual-in_err-put_u32.result c.put_u64.new.out.items c.put_u32.new.out.items c.in_err-put_u32.ensures.err)

pub returns-clause-err : goal.returns-clause-err
returns-clause-err c =
    front_stays c.put_u64-2.result c.args.out.now.items _ c.put_u64.new.out.items c.put_u64-2.new.out.items c.in_ok-put_u64.ensures.ok
    (front_stays c.put_u64-2.result c.put_u64.new.out.items _ c.put_u32.new.out.items c.put_u64-2.new.out.items c.in_ok-put_u32.ensures.ok (none_added c.put_u64-2.result c.put_u32.new.out.items c.put_u64-2.new.out.items c.put_u64-2.ensures.err))
