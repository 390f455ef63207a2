-- What the state of a node keeps to.
use Rattle.std.specs.Prelude.{◌≡◌, ℕ, suc, ◌<◌, ◌≤◌, List, [], ◌∷◌, length, IfSome, IsTrue}
use Rattle.std.specs.List.{All}
use Rattle.vst_base.specs.Entries.{IsElectionTerm}
use Rattle.vst_base.specs.declared.entry.TheConstants.{MAX_TERM}
use Rattle.raft_commit.specs.Peers.{PeerView}
use Rattle.raft_types.specs.Messages.{IsClusterSize}
use Rattle.raft_types.specs.declared.limits.TheConstants.{MAX_INDEX}
use Rattle.raft_types.specs.declared.msg.RaftMsg.{RaftMsg}
use Rattle.raft_types.specs.declared.msg.RaftMsg.TheVariants as msg
use Rattle.raft_xform.specs.declared.role.Role.{Role}
use Rattle.raft_xform.specs.declared.role.Role.TheVariants as role
use Rattle.raft_xform.specs.Nodes.{RaftView, is_leader}
use Rattle.raft_xform.specs.Replicating.{last_new}

-- what a leader whose log has this length knows of a node: it sends entries from an index in the log on, or from
-- right after its end, and it is past the index up to which the node's log is known to match
abbrev pub IsPeer : ℕ → PeerView → Type 0
IsPeer len p = (p.matched < p.next) × (p.next ≤ suc len)

-- it knows something of each of so many nodes
pub record ArePeers (nodes len : ℕ) (peers : List PeerView) : Type 0 where
  pub each : length peers ≡ nodes
  pub within : All (IsPeer len) peers

-- a follower may be in term 0; any other node was elected, or wants to be, in term 1 or a later one
abbrev pub HasTerm : Role → ℕ → Type 0
HasTerm role.Follower term = Unit {0}
HasTerm role.Candidate term = 1 ≤ term
HasTerm role.Leader term = 1 ≤ term

-- the node of this number, of so many nodes
pub record IsSoundNode {S C O : Type 0} (nodes me : ℕ) (s : RaftView S C O) : Type 0 where
  pub cluster : IsClusterSize nodes
  pub here : me < nodes
  pub term : s.ballot.term ≤ MAX_TERM
  pub in_a_term : HasTerm s.role s.ballot.term
  pub vote : IfSome s.ballot.voted (λ node. node < nodes)
  pub applied : s.applied ≤ s.commit
  pub committed : s.commit ≤ length s.log
  pub short : length s.log ≤ MAX_INDEX
  pub peers : IsTrue (is_leader s.role) → ArePeers nodes (length s.log) s.peers

-- a message whose term is in range, and whose entries end at an index in range: as those of all messages are, of forged
-- ones too
abbrev pub IsInRange : {C : Type 0} → RaftMsg C → Type 0
IsInRange (msg.RequestVote r) = r.term ≤ MAX_TERM
IsInRange (msg.Vote v) = v.term ≤ MAX_TERM
IsInRange (msg.Append a) = (a.term ≤ MAX_TERM) × (last_new a ≤ MAX_INDEX)
IsInRange (msg.Appended a) = a.term ≤ MAX_TERM

-- a leader in this state may send entries
pub record MaySend {S C O : Type 0} (s : RaftView S C O) : Type 0 where
  pub term : IsElectionTerm s.ballot.term
  pub commit : s.commit ≤ MAX_INDEX
  pub peers : All (IsPeer (length s.log)) s.peers

-- each of these packets holds a message in its range
abbrev pub AreInRange : {C : Type 0} → List (ℕ × RaftMsg C) → Type 0
AreInRange [] = Unit {0}
AreInRange (p ∷ ps) = IsInRange p.1 × AreInRange ps
