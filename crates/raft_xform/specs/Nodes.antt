-- What a node of a Raft cluster knows (the Raft paper, Figure 2, State).
use Rattle.std.specs.Prelude.{ℕ, Bool, true, false, List, [], Option, slice_index_or, slice_set}
use Rattle.std.specs.FinMap as map
use Rattle.handler_trait.specs.Handling.{Effect}
use Rattle.vst_base.specs.Machines.{MachineMeaning}
use Rattle.vst_base.specs.declared.entry.Entry.{Entry}
use Rattle.raft_clients.specs.Sessions.{Sessions}
use Rattle.raft_commit.specs.Peers.{PeerView, new_peer}
use Rattle.raft_election.specs.Ballots.{BallotView, kept}
use Rattle.raft_types.specs.declared.client.RaftOut.{RaftOut}
use Rattle.raft_types.specs.declared.msg.RaftMsg.{RaftMsg}
use Rattle.raft_xform.specs.declared.role.Role.{Role}
use Rattle.raft_xform.specs.declared.role.Role.TheVariants as role

-- its role; its term, vote and counted votes; its log, how far it knows it to be committed, and how far it has
-- applied it; what it knows of each node's log as a leader, where its own place counts for no commit; the machine's state and the
-- sessions of clients, from what it has applied
pub record RaftView (S C O : Type 0) : Type 0 where
  pub role : Role
  pub ballot : BallotView
  pub log : List (Entry C)
  pub commit : ℕ
  pub applied : ℕ
  pub peers : List PeerView
  pub machine : S
  pub sessions : Sessions O

-- what an event makes of a node
abbrev pub RaftEffect : Type 0 → Type 0 → Type 0 → Type 0
RaftEffect S C O = Effect (RaftView S C O) (RaftOut O) (RaftMsg C)

abbrev pub is_leader : Role → Bool
is_leader role.Leader = true
is_leader role.Candidate = false
is_leader role.Follower = false

abbrev pub is_candidate : Role → Bool
is_candidate role.Candidate = true
is_candidate role.Leader = false
is_candidate role.Follower = false

-- what a leader knows of a node
abbrev pub peer_at : List PeerView → ℕ → PeerView
peer_at peers node = slice_index_or peers node (new_peer 0)

module _ {S C O : Type 0} where
  -- a node that starts with a term, a vote and a log: it follows, and knows of nothing that is committed
  abbrev pub started_with : MachineMeaning S C O → ℕ → Option ℕ → List (Entry C) → RaftView S C O
  started_with m term voted log = record {
    role = role.Follower;
    ballot = kept term voted;
    log = log;
    commit = 0;
    applied = 0;
    peers = [];
    machine = m.init;
    sessions = map.empty;
  }

  -- with this known of a node
  abbrev pub with_peer : RaftView S C O → ℕ → PeerView → RaftView S C O
  with_peer s node peer = record s { peers = slice_set s.peers node peer }

  -- nothing happens
  abbrev pub stays : RaftView S C O → RaftEffect S C O
  stays s = record { state = s; outputs = []; sends = [] }

  -- a node in this state sends these packets
  abbrev pub sending : RaftView S C O → List (ℕ × RaftMsg C) → RaftEffect S C O
  sending s packets = record { state = s; outputs = []; sends = packets }
