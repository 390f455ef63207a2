use Rattle.wire_messages.proofs.Reading.{reads_none}
use Rattle.wire_messages.specs.RaftBytes.{request_vote}
use Rattle.wire_messages.proofs.votes.read_request_vote.Goals as goal

pub returns-in_err-term : goal.returns-in_err-term
returns-in_err-term c = reads_none request_vote c.args.input.now c.u64.new.self c.from_residual.result c.from_residual.ensures (rw c.in_err-term.ensures.value)

pub returns-in_err-last_index : goal.returns-in_err-last_index
returns-in_err-last_index c =
    reads_none request_vote c.args.input.now c.u32.new.self c.from_residual-in_err-last_index.result c.from_residual-in_err-last_index.ensures
    (rw (c.in_ok-term.ensures.value, c.in_err-last_index.ensures.value))

pub returns-in_err-last_term : goal.returns-in_err-last_term
returns-in_err-last_term c =
    reads_none request_vote c.args.input.now c.u64-2.new.self c.from_residual-in_err-last_term.result c.from_residual-in_err-last_term.ensures
    (rw (c.in_ok-term.ensures.value, c.in_ok-last_index.ensures.value, c.in_err-last_term.ensures.value))
