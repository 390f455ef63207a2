-- What a node sends of its own accord, and to whom (the Raft paper, Figure 2, Rules for Servers).
use Rattle.std.specs.Prelude.{ℕ, ◌-◌, List, [], ◌∷◌, nat_le, if◌then◌else◌}
use Rattle.raft_types.specs.Messages.{AppendView}
use Rattle.raft_types.specs.declared.limits.TheConstants.{MAX_BATCH}
use Rattle.raft_types.specs.declared.msg.RaftMsg.{RaftMsg}
use Rattle.raft_types.specs.declared.msg.RaftMsg.TheVariants as msg
use Rattle.raft_xform.specs.Nodes.{peer_at}
use Rattle.raft_xform.specs.Sending.{to_others}
use Rattle.raft_snapshots.specs.Logs.{entries_after, last_index, last_term, term_at}
use Rattle.raft_snapshots.specs.Nodes.{Kind, NodeView}

module _ {S C O X : Type 0} where
  -- a candidate asks for a vote
  abbrev pub request : NodeView S C O X → RaftMsg C
  request s = msg.RequestVote (record { term = s.ballot.term; last_index = last_index s.log; last_term = last_term s.log })

  -- the entries of a leader's log from an index on, which stand after its base, with its commit
  abbrev pub entries_from : NodeView S C O X → ℕ → AppendView C
  entries_from s next = record {
    term = s.ballot.term;
    prev_index = next - 1;
    prev_term = term_at s.log (next - 1);
    commit = s.commit;
    entries = entries_after s.log (next - 1) MAX_BATCH;
  }

  -- a leader sends a node the entries from its nextIndex on; where there are none it is a heartbeat
  abbrev pub append : NodeView S C O X → ℕ → RaftMsg C
  append s node = msg.Append (entries_from s (peer_at s.peers node).next)

module _ {S C O X M : Type 0} (kind : Kind S C O X M) where
  -- what a leader has for each other node
  abbrev pub says_all : ℕ → ℕ → NodeView S C O X → List (ℕ × M)
  says_all nodes me s = to_others nodes me (kind.says s)

  -- and for one, if the log has an entry at its nextIndex
  abbrev pub says_rest : NodeView S C O X → ℕ → List (ℕ × M)
  says_rest s node = if nat_le (peer_at s.peers node).next (last_index s.log) then (node, kind.says s node) ∷ [] else []
