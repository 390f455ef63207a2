-- What the messages between the nodes of a Raft cluster say, what a crash leaves of a node (the Raft paper, Figure 2), and what the
-- numbers of a cluster range over.
use Rattle.std.specs.Prelude.{ℕ, Bool, List, Option, ◌≤◌}
use Rattle.vst_base.specs.declared.entry.Entry.{Entry}
use Rattle.vst_base.specs.declared.entry.TheConstants.{MAX_TERM}
use Rattle.vst_base.specs.declared.node.TheConstants.{MAX_NODES}
use Rattle.raft_types.specs.declared.limits.TheConstants.{MAX_INDEX}

-- a cluster has so many nodes
abbrev pub IsClusterSize : ℕ → Type 0
IsClusterSize n = (1 ≤ n) × (n ≤ MAX_NODES)

-- a node may be in this term, which is 0 before the first election
abbrev pub IsTerm : ℕ → Type 0
IsTerm t = t ≤ MAX_TERM

-- an index of a log, or 0, the place before its first entry
abbrev pub IsIndex : ℕ → Type 0
IsIndex n = n ≤ MAX_INDEX

-- the node's term, for whom it voted in it, and its log
pub record KeptView (C : Type 0) : Type 0 where
  pub term : ℕ
  pub voted : Option ℕ
  pub log : List (Entry C)

-- a candidate of the term asks for a vote, and tells of the last entry of its log
pub record RequestVoteView : Type 0 where
  pub term : ℕ
  pub last_index : ℕ
  pub last_term : ℕ

-- the answer of a node in the term
pub record VoteView : Type 0 where
  pub term : ℕ
  pub granted : Bool

-- the leader of the term sends the entries after an index, with the term there, and how far it has committed
pub record AppendView (C : Type 0) : Type 0 where
  pub term : ℕ
  pub prev_index : ℕ
  pub prev_term : ℕ
  pub commit : ℕ
  pub entries : List (Entry C)

-- the answer of a node in the term: it has the leader's entries up to the index, or took none after it
pub record AppendedView : Type 0 where
  pub term : ℕ
  pub ok : Bool
  pub index : ℕ
