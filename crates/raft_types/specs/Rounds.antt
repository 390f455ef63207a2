-- Messages with a round, as the nodes of a cluster send them whose reads take no entry of the log (Ongaro's dissertation, section 6.4).
use Rattle.std.specs.Prelude.{ℕ}
use Rattle.raft_types.specs.declared.limits.TheConstants.{MAX_ROUND}
use Rattle.raft_types.specs.declared.msg.RaftMsg.{RaftMsg}
use Rattle.raft_types.specs.declared.msg.RaftMsg.TheVariants as msg

-- a message of Raft with a round: of AppendEntries the leader's, of an answer to it the one that it acknowledges, and else 0
pub record ReadMsg (C : Type 0) : Type 0 where
  pub raft : RaftMsg C
  pub round : ℕ

-- the greatest round of a message: a vote has none, nor has who asks for one
abbrev pub greatest_round : {C : Type 0} → RaftMsg C → ℕ
greatest_round (msg.RequestVote r) = 0
greatest_round (msg.Vote v) = 0
greatest_round (msg.Append a) = MAX_ROUND
greatest_round (msg.Appended a) = MAX_ROUND
