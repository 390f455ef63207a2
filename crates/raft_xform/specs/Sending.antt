-- What a node sends of its own accord, and to whom (the Raft paper, Figure 2, Rules for Servers).
use Rattle.std.specs.Prelude.{ℕ, zero, suc, ◌-◌, List, [], ◌∷◌, ◌++◌, length, nat_le, ◌==◌, if◌then◌else◌}
use Rattle.vst_base.specs.Logs.{last_term, term_at}
use Rattle.raft_commit.specs.Peers.{batch}
use Rattle.raft_types.specs.Messages.{AppendView}
use Rattle.raft_types.specs.declared.msg.RaftMsg.{RaftMsg}
use Rattle.raft_types.specs.declared.msg.RaftMsg.TheVariants as msg
use Rattle.raft_xform.specs.Nodes.{RaftView, peer_at}

-- a message to each of so many nodes but this one, in ascending order
abbrev pub to_others : {M : Type 0} → ℕ → ℕ → (ℕ → M) → List (ℕ × M)
to_others zero me message = []
to_others (suc n) me message = to_others n me message ++ (if n == me then [] else (n, message n) ∷ [])

module _ {S C O : Type 0} where
  -- a candidate asks for a vote
  abbrev pub request : RaftView S C O → RaftMsg C
  request s = msg.RequestVote (record { term = s.ballot.term; last_index = length s.log; last_term = last_term s.log })

  -- the entries of a leader's log from an index on, with its commit
  abbrev pub entries_from : RaftView S C O → ℕ → AppendView C
  entries_from s next = record {
    term = s.ballot.term;
    prev_index = next - 1;
    prev_term = term_at s.log (next - 1);
    commit = s.commit;
    entries = batch s.log next;
  }

  -- a leader sends a node the entries from its nextIndex on; where there are none it is a heartbeat
  abbrev pub append : RaftView S C O → ℕ → RaftMsg C
  append s node = msg.Append (entries_from s (peer_at s.peers node).next)

  -- the same to every other node
  abbrev pub appends : ℕ → ℕ → RaftView S C O → List (ℕ × RaftMsg C)
  appends nodes me s = to_others nodes me (append s)

  -- the same to one node, if the log has an entry at its nextIndex
  abbrev pub append_rest : RaftView S C O → ℕ → List (ℕ × RaftMsg C)
  append_rest s node = if nat_le (peer_at s.peers node).next (length s.log) then (node, append s node) ∷ [] else []
