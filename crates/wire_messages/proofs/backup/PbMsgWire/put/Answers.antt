use Rattle.wire_messages.proofs.Broken.{nothing_added}
use Rattle.wire_fields.specs.Fronts.{front_stays}
use Rattle.wire_messages.proofs.backup.PbMsgWire.put.Goals as goal

pub returns-in_ok-push-in-Apply-clause-err : goal.returns-in_ok-push-in-Apply-clause-err
returns-in_ok-push-in-Apply-clause-err g c =
    front_stays c.put.result c.args.out.now.items _ c.push.new.self.items c.put.new.out.items c.in_ok-push-in-Apply.ensures.items c.put.ensures.err

pub returns-in_err-push-in-Apply-clause-err : goal.returns-in_err-push-in-Apply-clause-err
returns-in_err-push-in-Apply-clause-err g c = nothing_added c.from_residual.result c.args.out.now.items c.push.new.self.items c.in_err-push-in-Apply.ensures.items

pub returns-in_err-push-in-Ack-clause-err : goal.returns-in_err-push-in-Ack-clause-err
returns-in_err-push-in-Ack-clause-err g c = nothing_added c.from_residual-in_err-push-in-Ack.result c.args.out.now.items c.push-in-Ack.new.self.items c.in_err-push-in-Ack.ensures.items
