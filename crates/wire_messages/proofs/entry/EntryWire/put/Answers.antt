use Rattle.wire_fields.specs.Fronts.{front_stays}
use Rattle.wire_messages.proofs.Broken.{nothing_added}
use Rattle.wire_messages.proofs.entry.EntryWire.put.Goals as goal

pub returns-in_err-put_u64-in-Noop-clause-err : goal.returns-in_err-put_u64-in-Noop-clause-err
returns-in_err-put_u64-in-Noop-clause-err g c = nothing_added c.from_residual.result c.args.out.now.items c.put_u64.new.out.items c.in_err-put_u64-in-Noop.ensures.err

pub returns-in_err-put_request_front-in-Request-clause-err : goal.returns-in_err-put_request_front-in-Request-clause-err
returns-in_err-put_request_front-in-Request-clause-err g c = nothing_added c.from_residual-in_err-put_request_front-in-Request.result c.args.out.now.items c.put_request_front.new.out.items c.in_err-put_request_front-in-Request.ensures.err

pub returns-in_ok-put_request_front-in-Request-clause-err : goal.returns-in_ok-put_request_front-in-Request-clause-err
returns-in_ok-put_request_front-in-Request-clause-err g c =
    front_stays c.put.result c.args.out.now.items _ c.put_request_front.new.out.items c.put.new.out.items c.in_ok-put_request_front-in-Request.ensures.ok c.put.ensures.err
