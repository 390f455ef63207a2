-- When a world of Raft with free choices mirrors a world of a cluster.
use Rattle.std.specs.Prelude.{◌≡◌, ℕ, Bool, List, if◌then◌else◌}
use Rattle.net_semantics.specs.Worlds.{Packet}
use Rattle.vst_base.specs.declared.entry.Entry.{Entry}
use Rattle.raft_commit.specs.Peers.{matched_of}
use Rattle.raft_election.specs.Ballots.{has_vote}
use Rattle.raft_free.specs.Events.{In}
use Rattle.raft_free.specs.Nodes as free
use Rattle.raft_types.specs.Terms.{term_of}
use Rattle.raft_types.specs.declared.msg.RaftMsg.{RaftMsg}
use Rattle.raft_types.specs.declared.msg.RaftMsg.TheVariants as msg
use Rattle.raft_xform.specs.declared.role.Role.{Role}
use Rattle.raft_xform.specs.declared.role.Role.TheVariants as role
use Rattle.raft_xform.specs.Nodes.{RaftView}
use Rattle.raft_safety.specs.Runs.{RaftWorld}

abbrev pub free_role : Role → free.Role
free_role role.Follower = free.Follower
free_role role.Candidate = free.Candidate
free_role role.Leader = free.Leader

-- the free node has the whole log: this node's, as long as nodes keep all of theirs
abbrev pub MirrorsLog : {C : Type 0} → List (Entry C) → List (Entry C) → Type 0
MirrorsLog log whole = whole ≡ log

-- a node, which is up or not, and a free one are the same. One that is down has its fields, and follows
pub record MirrorsNode {S C O : Type 0} (is_up : Bool) (s : RaftView S C O) (x : free.NodeState C) : Type 0 where
  pub up : x.is_up ≡ is_up
  pub term : x.term ≡ s.ballot.term
  pub voted : x.voted ≡ s.ballot.voted
  pub log : MirrorsLog s.log x.log
  pub role : x.role ≡ (if is_up then free_role s.role else free.Follower)
  pub votes : (node : ℕ) → x.votes node ≡ has_vote s.ballot.votes node
  pub matched : (node : ℕ) → x.matched node ≡ matched_of s.peers node
  pub commit : x.commit ≡ s.commit
  pub applied : x.applied ≡ s.applied

abbrev pub free_message : {C : Type 0} → RaftMsg C → free.Message C
free_message (msg.RequestVote r) = free.RequestVote r.last_index r.last_term
free_message (msg.Vote v) = free.Vote v.granted
free_message (msg.Append a) = free.Append a.prev_index a.prev_term a.entries a.commit
free_message (msg.Appended a) = free.Appended a.ok a.index

-- a message with its ends
abbrev pub free_packet : {C : Type 0} → ℕ → ℕ → RaftMsg C → free.Packet C
free_packet source destination message =
    record { source = source; destination = destination; term = term_of message; message = free_message message }

-- each node is the same, and each packet that was sent was sent there too
pub record Mirrors {S C O : Type 0} (w : RaftWorld S C O) (v : free.FreeWorld C) : Type 0 where
  pub node : (i : ℕ) → MirrorsNode (w.is_up i) (w.state i) (v.node i)
  pub sent : (p : Packet (RaftMsg C)) → In p w.packets → In (free_packet p.source p.destination p.content) v.sent
