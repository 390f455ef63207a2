use Rattle.wire_fields.specs.Fronts.{front_stays}
use Rattle.wire_messages.proofs.Broken.{nothing_added}
use Rattle.wire_messages.proofs.append.AppendWire.put.Goals as goal

pub returns-in_err-put_append_front-clause-err : goal.returns-in_err-put_append_front-clause-err
returns-in_err-put_append_front-clause-err g c =
    nothing_added c.from_residual.result c.args.out.now.items c.put_append_front.new.out.items c.in_err-put_append_front.ensures.err

pub returns-clause-err : goal.returns-clause-err
returns-clause-err g c =
    front_stays c.put_each.result c.args.out.now.items _ c.put_append_front.new.out.items c.put_each.new.out.items c.in_ok-put_append_front.ensures.ok c.put_each.ensures.err
