-- What a node of a cluster knows, for each kind of Raft: the kinds differ in what they do beside the rules of Raft, which are
-- the same for all (the Raft paper, Figure 2).
use Rattle.std.specs.Prelude.{ℕ, List, [], slice_set}
use Rattle.handler_trait.specs.Handling.{Effect}
use Rattle.vst_base.specs.declared.entry.Entry.{Entry}
use Rattle.raft_clients.specs.Sessions.{Sessions}
use Rattle.raft_commit.specs.Peers.{PeerView}
use Rattle.raft_election.specs.Ballots.{BallotView}
use Rattle.raft_types.specs.declared.client.RaftOut.{RaftOut}
use Rattle.raft_types.specs.declared.msg.RaftMsg.{RaftMsg}
use Rattle.raft_xform.specs.declared.role.Role.{Role}
use Rattle.raft_xform.specs.declared.role.Role.TheVariants as role
use Rattle.raft_snapshots.specs.Logs.{LogView}

-- what each kind of Raft knows, with a log whose first entries may be gone, and what its kind knows beside
pub record NodeView (S C O X : Type 0) : Type 0 where
  pub role : Role
  pub ballot : BallotView
  pub log : LogView C
  pub commit : ℕ
  pub applied : ℕ
  pub peers : List PeerView
  pub machine : S
  pub sessions : Sessions O
  pub more : X

-- what an event makes of a node
abbrev pub RaftEffect : Type 0 → Type 0 → Type 0 → Type 0 → Type 0 → Type 0
RaftEffect S C O X M = Effect (NodeView S C O X) (RaftOut O) M

-- in what the kinds of Raft differ: how a message of Raft is one of theirs, what a leader in this state sends a node, what a
-- node becomes that leads in a cluster of so many, and what it does once it has applied these entries
pub record Kind (S C O X M : Type 0) : Type 0 where
  pub message : RaftMsg C → M
  pub says : NodeView S C O X → ℕ → M
  pub leads : ℕ → X → X
  pub settles : List (Entry C) → NodeView S C O X → NodeView S C O X

module _ {S C O X : Type 0} where
  -- with this known of a node
  abbrev pub with_peer : NodeView S C O X → ℕ → PeerView → NodeView S C O X
  with_peer s node peer = record s { peers = slice_set s.peers node peer }

  abbrev pub follower : NodeView S C O X → NodeView S C O X
  follower s = record s { role = role.Follower }

module _ {S C O X M : Type 0} where
  -- nothing happens
  abbrev pub stays : NodeView S C O X → RaftEffect S C O X M
  stays s = record { state = s; outputs = []; sends = [] }

  -- a node in this state sends these packets
  abbrev pub sending : NodeView S C O X → List (ℕ × M) → RaftEffect S C O X M
  sending s packets = record { state = s; outputs = []; sends = packets }

  -- packets with what else happens
  abbrev pub and_sending : RaftEffect S C O X M → List (ℕ × M) → RaftEffect S C O X M
  and_sending e packets = record { state = e.state; outputs = e.outputs; sends = packets }
