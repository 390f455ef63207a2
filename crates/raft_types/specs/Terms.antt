-- The term that each message carries.
use Rattle.std.specs.Prelude.{ℕ}
use Rattle.raft_types.specs.declared.msg.RaftMsg.{RaftMsg}
use Rattle.raft_types.specs.declared.msg.RaftMsg.TheVariants as msg

-- the term of the node that sent it
abbrev pub term_of : {C : Type 0} → RaftMsg C → ℕ
term_of (msg.RequestVote request) = request.term
term_of (msg.Vote vote) = vote.term
term_of (msg.Append append) = append.term
term_of (msg.Appended appended) = appended.term
