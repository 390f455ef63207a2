use Rattle.wire_messages.proofs.Broken.{nothing_added}
use Rattle.wire_fields.specs.Fronts.{front_stays}
use Rattle.wire_messages.proofs.client.AnswerWire.put.Goals as goal

pub returns-in_ok-push-in-Reply-clause-err : goal.returns-in_ok-push-in-Reply-clause-err
returns-in_ok-push-in-Reply-clause-err g c =
    front_stays c.put.result c.args.out.now.items _ c.push.new.self.items c.put.new.out.items c.in_ok-push-in-Reply.ensures.items c.put.ensures.err

pub returns-in_err-push-in-Reply-clause-err : goal.returns-in_err-push-in-Reply-clause-err
returns-in_err-push-in-Reply-clause-err g c = nothing_added c.from_residual.result c.args.out.now.items c.push.new.self.items c.in_err-push-in-Reply.ensures.items

pub returns-in_err-push-in-NotLeader-clause-err : goal.returns-in_err-push-in-NotLeader-clause-err
returns-in_err-push-in-NotLeader-clause-err g c = nothing_added c.from_residual-in_err-push-in-NotLeader.result c.args.out.now.items c.push-in-NotLeader.new.self.items c.in_err-push-in-NotLeader.ensures.items

pub returns-in_err-push-in-Full-clause-err : goal.returns-in_err-push-in-Full-clause-err
returns-in_err-push-in-Full-clause-err g c = nothing_added c.from_residual-in_err-push-in-Full.result c.args.out.now.items c.push-in-Full.new.self.items c.in_err-push-in-Full.ensures.items
