-- What a node of Raft knows of reads that take no entry of the log (Ongaro's dissertation, section 6.4).
use Rattle.std.specs.Prelude.{ℕ, suc, max, Bool, true, false, ◌&&◌, List, [], ◌∷◌, ◌++◌, replicate, nat_le, ◌==◌, if◌then◌else◌, slice_index_or, slice_set}
use Rattle.vst_base.specs.Elections.{is_majority, with_node}
use Rattle.vst_base.specs.Logs.{term_at}
use Rattle.raft_types.specs.declared.client.RaftInput.{RaftInput}
use Rattle.raft_types.specs.declared.msg.RaftMsg.{RaftMsg}
use Rattle.raft_types.specs.declared.msg.RaftMsg.TheVariants as msg
use Rattle.raft_xform.specs.Nodes.{RaftView, is_leader}

-- a read that waits at a leader: what a client put in, the round that it began, and its read index: the leader's commit then
pub record Waiting (C : Type 0) : Type 0 where
  pub input : RaftInput C
  pub round : ℕ
  pub read_index : ℕ

-- a leader's round, for each node the greatest round that it acknowledged, and the reads that wait
pub record Reads (C : Type 0) : Type 0 where
  pub round : ℕ
  pub acked : List ℕ
  pub waiting : List (Waiting C)

-- a node of Raft, what it knows of reads, and the reads that the last event answered
pub record ReadView (S C O : Type 0) : Type 0 where
  pub raft : RaftView S C O
  pub reads : Reads C
  pub answered : List (Waiting C)

module _ {C : Type 0} where
  -- of a node that does not lead, or has just begun to
  abbrev pub no_reads : ℕ → Reads C
  no_reads nodes = record { round = 0; acked = replicate nodes 0; waiting = [] }

  -- the greatest round that a node acknowledged
  abbrev pub acked_by : Reads C → ℕ → ℕ
  acked_by r node = slice_index_or r.acked node 0

  -- a read comes to a leader with this commit: it begins a round, and waits
  abbrev pub with_read : Reads C → RaftInput C → ℕ → Reads C
  with_read r i commit = record {
    round = suc r.round;
    acked = r.acked;
    waiting = r.waiting ++ record { input = i; round = suc r.round; read_index = commit } ∷ [];
  }

  -- a node acknowledges this round
  abbrev pub with_ack : Reads C → ℕ → ℕ → Reads C
  with_ack r node round = record { round = r.round; acked = slice_set r.acked node (max (acked_by r node) round); waiting = r.waiting }

  -- this leader and the nodes that acknowledged at least this round
  abbrev pub in_round : ℕ → Reads C → ℕ → ℕ → Bool
  in_round me r round = with_node me (λ node. nat_le round (acked_by r node))

  -- the answer to AppendEntries
  abbrev pub is_appended : RaftMsg C → Bool
  is_appended (msg.RequestVote r) = false
  is_appended (msg.Vote v) = false
  is_appended (msg.Append a) = false
  is_appended (msg.Appended a) = true

  -- the round of a message that a node sends: its own with AppendEntries, and in an answer to a message of this term and
  -- round that round, where the answer is of the same term
  abbrev pub round_of : ℕ → ℕ → ℕ → RaftMsg C → ℕ
  round_of own term round (msg.RequestVote r) = 0
  round_of own term round (msg.Vote v) = 0
  round_of own term round (msg.Append a) = own
  round_of own term round (msg.Appended a) = if a.term == term then round else 0

module _ {S C O : Type 0} where
  -- a node that starts
  abbrev pub started : ℕ → RaftView S C O → ReadView S C O
  started nodes s = record { raft = s; reads = no_reads nodes; answered = [] }

  -- the last entry that the node knows to be committed is of its term
  abbrev pub has_committed_own : RaftView S C O → Bool
  has_committed_own s = term_at s.log s.commit == s.ballot.term

  -- the node leads after an event in the term in which it led before
  abbrev pub still_leads : RaftView S C O → RaftView S C O → Bool
  still_leads before after = is_leader before.role && (is_leader after.role && after.ballot.term == before.ballot.term)

  -- a read may be answered: a quorum has acknowledged its round, and the node has applied all up to its read index
  abbrev pub is_ready : ℕ → ℕ → RaftView S C O → Reads C → Waiting C → Bool
  is_ready nodes me s r x = is_majority nodes (in_round me r x.round) && nat_le x.read_index s.applied
