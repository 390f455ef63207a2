-- How the leader's log comes to the other nodes (the Raft paper, section 5.3 and Figure 2).
use Rattle.std.specs.Prelude.{ℕ, ◌-◌, Bool, true, false, not, ◌&&◌, List, [], ◌∷◌, drop, nat_lt, ◌==◌, if◌then◌else◌}
use Rattle.vst_base.specs.Elections.{learned_commit}
use Rattle.vst_base.specs.Machines.{MachineMeaning}
use Rattle.vst_base.specs.declared.what.What.TheVariants.{Request}
use Rattle.raft_commit.specs.Peers.{moved, peer_after}
use Rattle.raft_commit.specs.declared.peer.Moved.{Moved}
use Rattle.raft_commit.specs.declared.peer.Moved.TheVariants as moves
use Rattle.raft_types.specs.Messages.{AppendView, AppendedView}
use Rattle.raft_types.specs.declared.client.RaftInput.{RaftInput}
use Rattle.raft_types.specs.declared.client.RaftOut.{RaftOut}
use Rattle.raft_types.specs.declared.client.RaftOut.TheVariants as told
use Rattle.raft_types.specs.declared.limits.TheConstants.{MAX_INDEX}
use Rattle.raft_types.specs.declared.msg.RaftMsg.TheVariants as msg
use Rattle.raft_xform.specs.declared.role.Role.TheVariants as role
use Rattle.raft_xform.specs.Nodes.{is_leader, peer_at}
use Rattle.raft_xform.specs.Replicating.{last_new}
use Rattle.raft_snapshots.specs.Applying.{caught_up, settled}
use Rattle.raft_snapshots.specs.Electing.{broadcasts, with_entry}
use Rattle.raft_snapshots.specs.Logs.{LogView, accepted, has_conflict, last_index, matches}
use Rattle.raft_snapshots.specs.Nodes.{Kind, NodeView, RaftEffect, and_sending, follower, sending, stays, with_peer}
use Rattle.raft_snapshots.specs.Sending.{says_rest}

-- the part of a message that stands after the base of a log
abbrev pub from_base : {C : Type 0} → LogView C → AppendView C → AppendView C
from_base log a =
    if nat_lt a.prev_index log.base
    then record a { prev_index = log.base; prev_term = log.base_term; entries = drop (log.base - a.prev_index) a.entries }
    else a

module _ {S C O X : Type 0} where
  -- a leader has a client's request at the end of its log
  abbrev pub proposed : ℕ → NodeView S C O X → RaftInput C → NodeView S C O X
  proposed me s i = with_entry s (Request i.client i.request me i.cmd)

  -- the log matches prevLogTerm at prevLogIndex, and none of the entries conflicts with what the node knows to be committed
  abbrev pub may_take : NodeView S C O X → AppendView C → Bool
  may_take s a = matches s.log a.prev_index a.prev_term && not (has_conflict s.log s.commit a.prev_index a.entries)

  -- delete what conflicts with new entries, append the missing ones, and set commitIndex to the lesser of leaderCommit
  -- and the index of the last new entry, if that is greater
  abbrev pub taken : NodeView S C O X → AppendView C → NodeView S C O X
  taken s a = record s {
    role = role.Follower;
    log = accepted s.log a.prev_index a.entries;
    commit = learned_commit s.commit a.commit (last_new a);
  }

  -- how a node's answer moves what the leader knows of it
  abbrev pub moved_by : NodeView S C O X → ℕ → AppendedView → Moved
  moved_by s from a = moved (peer_at s.peers from) a.ok a.index (last_index s.log)

  abbrev pub known : NodeView S C O X → ℕ → AppendedView → NodeView S C O X
  known s from a = with_peer s from (peer_after (peer_at s.peers from) a.index (moved_by s from a))

module _ {S C O X M : Type 0} (kind : Kind S C O X M) where
  -- a client is told this, and nothing else happens
  abbrev pub telling : NodeView S C O X → RaftOut O → RaftEffect S C O X M
  telling s out = record { state = s; outputs = out ∷ []; sends = [] }

  -- command received from client: append the entry to the local log, commit and apply what may be, and send it
  abbrev pub proposes : MachineMeaning S C O → ℕ → ℕ → NodeView S C O X → RaftInput C → RaftEffect S C O X M
  proposes m nodes me s i = broadcasts kind m nodes me (proposed me s i)

  -- a request comes: to the leader, unless its log is full
  abbrev pub on_input : MachineMeaning S C O → ℕ → ℕ → NodeView S C O X → RaftInput C → RaftEffect S C O X M
  on_input m nodes me s i =
      if not (is_leader s.role) then telling s (told.NotLeader i.client i.request)
      else (if last_index s.log == MAX_INDEX then telling s (told.Full i.client i.request) else proposes m nodes me s i)

  -- a node in this state answers a leader
  abbrev pub answer : NodeView S C O X → Bool → ℕ → ℕ → List (ℕ × M)
  answer s ok index to = (to, kind.message (msg.Appended (record { term = s.ballot.term; ok = ok; index = index }))) ∷ []

  abbrev pub takes : MachineMeaning S C O → ℕ → NodeView S C O X → ℕ → AppendView C → RaftEffect S C O X M
  takes m me s from a = and_sending (caught_up kind m me (taken s a)) (answer s true (last_new a) from)

  -- AppendEntries: refuse an earlier term; a leader of the term ignores it; any other node follows. It has what does not reach
  -- its base, and takes what stands after its base if it may
  abbrev pub on_append : MachineMeaning S C O → ℕ → NodeView S C O X → ℕ → AppendView C → RaftEffect S C O X M
  on_append m me s from a =
      if nat_lt a.term s.ballot.term then sending s (answer s false a.prev_index from)
      else (if is_leader s.role then stays s
      else (if nat_lt (last_new a) s.log.base then sending (follower s) (answer s true (last_new a) from)
      else (if may_take s (from_base s.log a) then takes m me s from (from_base s.log a)
      else sending (follower s) (answer s false a.prev_index from))))

  -- with what the leader knows now of the node: if successful, commit and apply what may be, and send what is left; if
  -- it failed, retry from one index earlier on
  abbrev pub on_moved : MachineMeaning S C O → ℕ → ℕ → NodeView S C O X → ℕ → Moved → RaftEffect S C O X M
  on_moved m nodes me s from moves.Raised = let e = settled kind m nodes me s in and_sending e (says_rest kind e.state from)
  on_moved m nodes me s from moves.Back = sending s ((from, kind.says s from) ∷ [])
  on_moved m nodes me s from moves.Nothing = stays s

  -- the answer to AppendEntries comes to a leader in the same term
  abbrev pub on_appended : MachineMeaning S C O → ℕ → ℕ → NodeView S C O X → ℕ → AppendedView → RaftEffect S C O X M
  on_appended m nodes me s from a =
      if is_leader s.role && a.term == s.ballot.term then on_moved m nodes me (known s from a) from (moved_by s from a) else stays s
