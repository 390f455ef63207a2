-- The nodes of a cluster and their packets (the Raft paper, Figure 2).
use Rattle.std.specs.Prelude.{ℕ, Bool, true, Option, None, List, []}
use Rattle.vst_base.specs.declared.entry.Entry.{Entry}
use Rattle.vst_base.specs.Elections.{nobody}

pub data Role : Type 0 where
  Follower : Role
  Candidate : Role
  Leader : Role

-- a node that is down still has its fields: a reboot keeps its term, vote and log, may lower its commit, and sets what it
-- has applied to anything up to that
pub record NodeState (C : Type 0) : Type 0 where
  pub is_up : Bool
  pub term : ℕ
  pub voted : Option ℕ  -- for whom, in its term
  pub log : List (Entry C)
  pub role : Role
  pub votes : ℕ → Bool  -- who has voted for this candidate
  pub matched : ℕ → ℕ  -- how much of the leader's log each node is known to have
  pub commit : ℕ
  pub applied : ℕ

pub data Message (C : Type 0) : Type 0 where
  RequestVote : (last last_term : ℕ) → Message C
  Vote : (granted : Bool) → Message C
  Append : (prev prev_term : ℕ) → (entries : List (Entry C)) → (commit : ℕ) → Message C
  Appended : (taken : Bool) → (index : ℕ) → Message C

-- a message with its ends, and the term of the node that sent it
pub record Packet (C : Type 0) : Type 0 where
  pub source : ℕ
  pub destination : ℕ
  pub term : ℕ
  pub message : Message C

-- the nodes, and every packet that was ever sent: any of them may come at any time, again, or never
pub record FreeWorld (C : Type 0) : Type 0 where
  pub node : ℕ → NodeState C
  pub sent : List (Packet C)

abbrev pub nothing : ℕ → ℕ
nothing node = 0

abbrev pub first_node : (C : Type 0) → NodeState C
first_node C = record {
  is_up = true;
  term = 0;
  voted = None;
  log = [];
  role = Follower;
  votes = nobody;
  matched = nothing;
  commit = 0;
  applied = 0;
}

abbrev pub first_world : (C : Type 0) → FreeWorld C
first_world C = record { node = λ i. first_node C; sent = [] }
