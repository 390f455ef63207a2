use Rattle.wire_fields.specs.Fronts.{front_stays}
use Rattle.wire_messages.proofs.retried.RetryMsgWire.put.Goals as goal

pub returns-in_ok-put_u64-in-Data-clause-err : goal.returns-in_ok-put_u64-in-Data-clause-err
returns-in_ok-put_u64-in-Data-clause-err g c =
    front_stays c.put.result c.args.out.now.items _ c.push.new.self.items c.put.new.out.items c.in_ok-push-in-Data.ensures.items
    (front_stays c.put.result c.push.new.self.items _ c.put_u64.new.out.items c.put.new.out.items c.in_ok-put_u64-in-Data.ensures.ok c.put.ensures.err)
