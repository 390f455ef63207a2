use Rattle.wire_messages.proofs.Broken.{nothing_added}
use Rattle.wire_fields.specs.Fronts.{front_stays}
use Rattle.wire_messages.proofs.raft.RaftMsgWire.put.Goals as goal

pub returns-in_ok-push-in-RequestVote-clause-err : goal.returns-in_ok-push-in-RequestVote-clause-err
returns-in_ok-push-in-RequestVote-clause-err g c =
    front_stays c.put.result c.args.out.now.items _ c.push.new.self.items c.put.new.out.items c.in_ok-push-in-RequestVote.ensures.items c.put.ensures.err

pub returns-in_ok-push-in-Vote-clause-err : goal.returns-in_ok-push-in-Vote-clause-err
returns-in_ok-push-in-Vote-clause-err g c =
    front_stays c.put-in-Vote.result c.args.out.now.items _ c.push-in-Vote.new.self.items c.put-in-Vote.new.out.items c.in_ok-push-in-Vote.ensures.items c.put-in-Vote.ensures.err

pub returns-in_ok-push-in-Append-clause-err : goal.returns-in_ok-push-in-Append-clause-err
returns-in_ok-push-in-Append-clause-err g c =
    front_stays c.put-in-Append.result c.args.out.now.items _ c.push-in-Append.new.self.items c.put-in-Append.new.out.items c.in_ok-push-in-Append.ensures.items c.put-in-Append.ensures.err

pub returns-in_ok-push-in-Appended-clause-err : goal.returns-in_ok-push-in-Appended-clause-err
returns-in_ok-push-in-Appended-clause-err g c =
    front_stays c.put-in-Appended.result c.args.out.now.items _ c.push-in-Appended.new.self.items c.put-in-Appended.new.out.items c.in_ok-push-in-Appended.ensures.items c.put-in-Appended.ensures.err

pub returns-in_err-push-in-RequestVote-clause-err : goal.returns-in_err-push-in-RequestVote-clause-err
returns-in_err-push-in-RequestVote-clause-err g c = nothing_added c.from_residual.result c.args.out.now.items c.push.new.self.items c.in_err-push-in-RequestVote.ensures.items

pub returns-in_err-push-in-Vote-clause-err : goal.returns-in_err-push-in-Vote-clause-err
returns-in_err-push-in-Vote-clause-err g c = nothing_added c.from_residual-in_err-push-in-Vote.result c.args.out.now.items c.push-in-Vote.new.self.items c.in_err-push-in-Vote.ensures.items

pub returns-in_err-push-in-Append-clause-err : goal.returns-in_err-push-in-Append-clause-err
returns-in_err-push-in-Append-clause-err g c = nothing_added c.from_residual-in_err-push-in-Append.result c.args.out.now.items c.push-in-Append.new.self.items c.in_err-push-in-Append.ensures.items

pub returns-in_err-push-in-Appended-clause-err : goal.returns-in_err-push-in-Appended-clause-err
returns-in_err-push-in-Appended-clause-err g c = nothing_added c.from_residual-in_err-push-in-Appended.result c.args.out.now.items c.push-in-Appended.new.self.items c.in_err-push-in-Appended.ensures.items
