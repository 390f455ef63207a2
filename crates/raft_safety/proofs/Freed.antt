-- The one free node that mirrors a node.
use Rattle.std.proofs.Common.{◌≡◌, ℕ, Bool, ap, cond}
use Rattle.net_semantics.specs.Worlds.{Packet}
use Rattle.raft_commit.specs.Peers.{matched_of}
use Rattle.raft_election.specs.Ballots.{has_vote}
use Rattle.raft_free.specs.Events.{In}
use Rattle.raft_free.specs.Nodes as free
use Rattle.raft_types.specs.declared.msg.RaftMsg.{RaftMsg}
use Rattle.raft_xform.specs.Nodes.{RaftView}
use Rattle.raft_safety.specs.Mirrors.{Mirrors, MirrorsNode, free_packet, free_role}
use Rattle.raft_safety.specs.Runs.{RaftWorld}

abbrev pub free_node : {S C O : Type 0} → Bool → RaftView S C O → free.NodeState C
free_node is_up s = record {
  is_up = is_up;
  term = s.ballot.term;
  voted = s.ballot.voted;
  log = s.log;
  role = cond is_up (free_role s.role) free.Follower;
  votes = has_vote s.ballot.votes;
  matched = matched_of s.peers;
  commit = s.commit;
  applied = s.applied;
}

module _ {S C O : Type 0} where
  pub freed : {b : Bool} {s : RaftView S C O} {x : free.NodeState C} → MirrorsNode b s x → x ≡ free_node b s
  freed m = λ i. record {
    is_up = m.up i;
    term = m.term i;
    voted = m.voted i;
    log = m.log i;
    role = m.role i;
    votes = λ k. m.votes k i;
    matched = λ k. m.matched k i;
    commit = m.commit i;
    applied = m.applied i;
  }

  pub mirrors_node : {b : Bool} {s : RaftView S C O} {x : free.NodeState C} → x ≡ free_node b s → MirrorsNode b s x
  mirrors_node e = record {
    up = ap (λ y. y.is_up) e;
    term = ap (λ y. y.term) e;
    voted = ap (λ y. y.voted) e;
    log = ap (λ y. y.log) e;
    role = ap (λ y. y.role) e;
    votes = λ k. ap (λ y. y.votes k) e;
    matched = λ k. ap (λ y. y.matched k) e;
    commit = ap (λ y. y.commit) e;
    applied = ap (λ y. y.applied) e;
  }

  -- each node of a world that is mirrored
  pub node_is : {w : RaftWorld S C O} {v : free.FreeWorld C} → Mirrors w v → (i : ℕ) → v.node i ≡ free_node (w.is_up i) (w.state i)
  node_is m i = freed (m.node i)

  pub mirrored : {w : RaftWorld S C O} {v : free.FreeWorld C} → ((i : ℕ) → v.node i ≡ free_node (w.is_up i) (w.state i)) →
      ((p : Packet (RaftMsg C)) → In p w.packets → In (free_packet p.source p.destination p.content) v.sent) → Mirrors w v
  mirrored nodes sent = record { node = λ i. mirrors_node (nodes i); sent = sent }
