-- The messages of Raft, for each kind, and the kind that keeps its whole log.
use Rattle.std.specs.Prelude.{ℕ}
use Rattle.vst_base.specs.Machines.{MachineMeaning}
use Rattle.raft_types.specs.declared.msg.RaftMsg.{RaftMsg}
use Rattle.raft_types.specs.declared.msg.RaftMsg.TheVariants as msg
use Rattle.raft_snapshots.specs.Electing.{on_request, on_vote}
use Rattle.raft_snapshots.specs.Nodes.{Kind, NodeView, RaftEffect}
use Rattle.raft_snapshots.specs.Replicating.{on_append, on_appended}
use Rattle.raft_snapshots.specs.Sending.{append}

module _ {S C O X M : Type 0} (kind : Kind S C O X M) where
  abbrev pub by_raft_message : MachineMeaning S C O → ℕ → ℕ → NodeView S C O X → ℕ → RaftMsg C → RaftEffect S C O X M
  by_raft_message m nodes me s from (msg.RequestVote r) = on_request kind s from r
  by_raft_message m nodes me s from (msg.Vote v) = on_vote kind m nodes me s from v
  by_raft_message m nodes me s from (msg.Append a) = on_append kind m me s from a
  by_raft_message m nodes me s from (msg.Appended a) = on_appended kind m nodes me s from a

-- Raft that knows nothing beside, sends entries alone, and never shortens its log
abbrev pub plain : {S C O : Type 0} → Kind S C O (Unit {0}) (RaftMsg C)
plain = record { message = λ r. r; says = append; leads = λ nodes x. x; settles = λ es s. s }
