-- How the leader's log comes to the other nodes (the Raft paper, section 5.3 and Figure 2).
use Rattle.std.specs.Prelude.{ℕ, ◌+◌, Bool, true, false, not, ◌&&◌, List, [], ◌∷◌, length, nat_lt, ◌==◌, if◌then◌else◌}
use Rattle.vst_base.specs.Elections.{learned_commit}
use Rattle.vst_base.specs.Logs.{accepted, has_conflict, matches}
use Rattle.vst_base.specs.Machines.{MachineMeaning}
use Rattle.vst_base.specs.declared.what.What.TheVariants.{Request}
use Rattle.raft_commit.specs.Peers.{moved, peer_after}
use Rattle.raft_commit.specs.declared.peer.Moved.{Moved}
use Rattle.raft_commit.specs.declared.peer.Moved.TheVariants as moves
use Rattle.raft_types.specs.Messages.{AppendView, AppendedView}
use Rattle.raft_types.specs.declared.client.RaftInput.{RaftInput}
use Rattle.raft_types.specs.declared.client.RaftOut.{RaftOut}
use Rattle.raft_types.specs.declared.client.RaftOut.TheVariants as told
use Rattle.raft_types.specs.declared.limits.TheConstants.{MAX_INDEX}
use Rattle.raft_types.specs.declared.msg.RaftMsg.{RaftMsg}
use Rattle.raft_types.specs.declared.msg.RaftMsg.TheVariants as msg
use Rattle.raft_xform.specs.declared.role.Role.TheVariants as role
use Rattle.raft_xform.specs.Applying.{caught_up, settled}
use Rattle.raft_xform.specs.Electing.{and_sending, broadcasts, with_entry}
use Rattle.raft_xform.specs.Nodes.{RaftEffect, RaftView, is_leader, peer_at, sending, stays, with_peer}
use Rattle.raft_xform.specs.Sending.{append, append_rest}

-- the index of the last new entry
abbrev pub last_new : {C : Type 0} → AppendView C → ℕ
last_new a = a.prev_index + length a.entries

module _ {S C O : Type 0} where
  -- a client is told this, and nothing else happens
  abbrev pub telling : RaftView S C O → RaftOut O → RaftEffect S C O
  telling s out = record { state = s; outputs = out ∷ []; sends = [] }

  -- a leader has a client's request at the end of its log
  abbrev pub proposed : ℕ → RaftView S C O → RaftInput C → RaftView S C O
  proposed me s i = with_entry s (Request i.client i.request me i.cmd)

  -- command received from client: append the entry to the local log, commit and apply what may be, and send it
  abbrev pub proposes : MachineMeaning S C O → ℕ → ℕ → RaftView S C O → RaftInput C → RaftEffect S C O
  proposes m nodes me s i = broadcasts m nodes me (proposed me s i)

  -- a request comes: to the leader, unless its log is full
  abbrev pub on_input : MachineMeaning S C O → ℕ → ℕ → RaftView S C O → RaftInput C → RaftEffect S C O
  on_input m nodes me s i =
      if not (is_leader s.role) then telling s (told.NotLeader i.client i.request)
      else (if length s.log == MAX_INDEX then telling s (told.Full i.client i.request) else proposes m nodes me s i)

  -- a node in this state answers a leader
  abbrev pub answer : RaftView S C O → Bool → ℕ → ℕ → List (ℕ × RaftMsg C)
  answer s ok index to = (to, msg.Appended (record { term = s.ballot.term; ok = ok; index = index })) ∷ []

  -- the node has an entry at prevLogIndex whose term matches prevLogTerm, and none of the entries conflicts with what
  -- it knows to be committed
  abbrev pub may_take : RaftView S C O → AppendView C → Bool
  may_take s a = matches s.log a.prev_index a.prev_term && not (has_conflict s.log s.commit a.prev_index a.entries)

  abbrev pub follower : RaftView S C O → RaftView S C O
  follower s = record s { role = role.Follower }

  -- delete what conflicts with new entries, append the missing ones, and set commitIndex to the lesser of leaderCommit
  -- and the index of the last new entry, if that is greater
  abbrev pub taken : RaftView S C O → AppendView C → RaftView S C O
  taken s a = record s {
    role = role.Follower;
    log = accepted s.log a.prev_index a.entries;
    commit = learned_commit s.commit a.commit (last_new a);
  }

  abbrev pub takes : MachineMeaning S C O → ℕ → RaftView S C O → ℕ → AppendView C → RaftEffect S C O
  takes m me s from a = and_sending (caught_up m me (taken s a)) (answer s true (last_new a) from)

  -- AppendEntries: refuse an earlier term; a leader of the term ignores it; any other node follows, and takes the
  -- entries if it may
  abbrev pub on_append : MachineMeaning S C O → ℕ → RaftView S C O → ℕ → AppendView C → RaftEffect S C O
  on_append m me s from a =
      if nat_lt a.term s.ballot.term then sending s (answer s false a.prev_index from)
      else (if is_leader s.role then stays s
      else (if may_take s a then takes m me s from a
      else sending (follower s) (answer s false a.prev_index from)))

  -- with what the leader knows now of the node: if successful, commit and apply what may be, and send what is left; if
  -- it failed, retry from one index earlier on
  abbrev pub on_moved : MachineMeaning S C O → ℕ → ℕ → RaftView S C O → ℕ → Moved → RaftEffect S C O
  on_moved m nodes me s from moves.Raised = let e = settled m nodes me s in and_sending e (append_rest e.state from)
  on_moved m nodes me s from moves.Back = sending s ((from, append s from) ∷ [])
  on_moved m nodes me s from moves.Nothing = stays s

  -- how a node's answer moves what the leader knows of it
  abbrev pub moved_by : RaftView S C O → ℕ → AppendedView → Moved
  moved_by s from a = moved (peer_at s.peers from) a.ok a.index (length s.log)

  abbrev pub known : RaftView S C O → ℕ → AppendedView → RaftView S C O
  known s from a = with_peer s from (peer_after (peer_at s.peers from) a.index (moved_by s from a))

  -- the answer to AppendEntries comes to a leader in the same term
  abbrev pub on_appended : MachineMeaning S C O → ℕ → ℕ → RaftView S C O → ℕ → AppendedView → RaftEffect S C O
  on_appended m nodes me s from a =
      if is_leader s.role && a.term == s.ballot.term then on_moved m nodes me (known s from a) from (moved_by s from a) else stays s
