-- What a leader knows of the other nodes' logs, and what it sends at once (the Raft paper, Figure 2 and section 5.3).
use Rattle.std.specs.Prelude.{ℕ, suc, Bool, true, false, ◌&&◌, List, map, slice_index, nat_le, nat_lt, ◌==◌, if◌then◌else◌, ◌-◌, take, drop}
use Rattle.raft_commit.specs.declared.peer.Moved.{Moved}
use Rattle.raft_commit.specs.declared.peer.Moved.TheVariants.{Raised, Back, Nothing}
use Rattle.vst_base.specs.declared.entry.Entry.{Entry}
use Rattle.raft_types.specs.declared.limits.TheConstants.{MAX_BATCH}

-- the entries of a log from the index next on, as many as one message has
abbrev pub batch : {C : Type 0} → List (Entry C) → ℕ → List (Entry C)
batch log next = take MAX_BATCH (drop (next - 1) log)

-- the index of the next entry to send to the node, and up to which its log is known to be the leader's
pub record PeerView : Type 0 where
  pub next : ℕ
  pub matched : ℕ

-- a node of which a new leader, whose log has this length, knows nothing
abbrev pub new_peer : ℕ → PeerView
new_peer len = record { next = suc len; matched = 0 }

-- up to where each node's log is known to be the leader's, node n being the n-th
abbrev pub matched_of : List PeerView → ℕ → ℕ
matched_of peers = slice_index (map (λ p. p.matched) peers)

-- a node that says that its log is the leader's up to the index tells something new, to a leader whose log has this
-- length
abbrev pub is_news : PeerView → ℕ → ℕ → Bool
is_news p index len = nat_lt p.matched index && nat_le index len

-- a node refuses the entries after the index: those that the leader would send it next, where it is not known to have
-- that index already
abbrev pub is_refusal : PeerView → ℕ → Bool
is_refusal p index = suc index == p.next && nat_lt p.matched index

-- how the leader's knowledge moves by a node's answer
abbrev pub moved : PeerView → Bool → ℕ → ℕ → Moved
moved p true index len = if is_news p index len then Raised else Nothing
moved p false index len = if is_refusal p index then Back else Nothing

-- what the leader knows once it moved
abbrev pub peer_after : PeerView → ℕ → Moved → PeerView
peer_after p index Raised = record { next = suc index; matched = index }
peer_after p index Back = record p { next = index }
peer_after p index Nothing = p
