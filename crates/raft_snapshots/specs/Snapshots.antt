-- Raft with snapshots (the Raft paper, section 7): a node's log begins at what its snapshot holds, and a leader whose log no
-- longer has what a node lacks sends the snapshot, piece by piece.
use Rattle.std.specs.Prelude.{◌≡◌, ℕ, ◌+◌, ◌-◌, Bool, true, not, ◌&&◌, ◌||◌, List, [], ◌∷◌, ◌++◌, length, take, drop, Option, Some, None, nat_le, nat_lt, ◌==◌, replicate, slice_index, slice_set, if◌then◌else◌}
use Rattle.std.specs.FinMap as map
use Rattle.handler_trait.specs.Handling.{Meaning, Recovery}
use Rattle.vst_base.specs.Machines.{MachineMeaning}
use Rattle.vst_base.specs.declared.entry.Entry.{Entry}
use Rattle.raft_clients.specs.Sessions.{Sessions}
use Rattle.raft_election.specs.Ballots.{kept}
use Rattle.raft_types.specs.Terms.{term_of}
use Rattle.raft_types.specs.declared.client.RaftInput.{RaftInput}
use Rattle.raft_types.specs.declared.client.RaftOut.{RaftOut}
use Rattle.raft_types.specs.declared.msg.RaftMsg.{RaftMsg}
use Rattle.raft_xform.specs.declared.role.Role.TheVariants.{Follower}
use Rattle.raft_xform.specs.Nodes.{is_leader, peer_at}
use Rattle.raft_snapshots.specs.Electing.{heard, tick}
use Rattle.raft_snapshots.specs.Logs.{LogView, matches, no_entries, shortened}
use Rattle.raft_snapshots.specs.Nodes.{Kind, NodeView, RaftEffect, follower, sending, stays}
use Rattle.raft_snapshots.specs.Raft.{by_raft_message}
use Rattle.raft_snapshots.specs.Replicating.{answer, on_input}
use Rattle.raft_snapshots.specs.Sending.{append}

-- so many bytes of a snapshot go in one message
abbrev pub MAX_PIECE : ℕ
MAX_PIECE = 8192

-- what the machine and the sessions are after the entries that are gone
pub record Snapshot (S O : Type 0) : Type 0 where
  pub state : S
  pub sessions : Sessions O

-- a piece of the leader's snapshot, which holds the entries up to an index, the last of this term: the bytes after an offset,
-- and whether they are the last
pub record InstallView : Type 0 where
  pub term : ℕ
  pub index : ℕ
  pub last_term : ℕ
  pub offset : ℕ
  pub bytes : List ℕ
  pub done : Bool

-- the answer of a node that wants more of the snapshot, from a place on
pub record InstalledView : Type 0 where
  pub term : ℕ
  pub index : ℕ
  pub place : ℕ

-- a message of Raft, a piece of a snapshot, or a wish for more of one
pub data SnapMsg (C : Type 0) : Type 0 where
  Plain : RaftMsg C → SnapMsg C
  Install : InstallView → SnapMsg C
  Installed : InstalledView → SnapMsg C

-- the term that a message is of
abbrev pub snap_term_of : {C : Type 0} → SnapMsg C → ℕ
snap_term_of (Plain m) = term_of m
snap_term_of (Install q) = q.term
snap_term_of (Installed a) = a.term

-- what a node has of a snapshot that comes in pieces
pub record PartView : Type 0 where
  pub term : ℕ
  pub index : ℕ
  pub last_term : ℕ
  pub bytes : List ℕ

-- it is of the snapshot of which this is a piece
abbrev pub is_of : InstallView → PartView → Bool
is_of q p = p.term == q.term && p.index == q.index && p.last_term == q.last_term

-- the bytes that are kept of that snapshot
abbrev pub bytes_of : InstallView → Option PartView → List ℕ
bytes_of q None = []
bytes_of q (Some p) = if is_of q p then p.bytes else []

-- the log after a snapshot: the entries behind it stay where the log had its last one
abbrev pub log_behind : {C : Type 0} → LogView C → InstallView → LogView C
log_behind log q = record {
  base = q.index;
  base_term = q.last_term;
  entries = if matches log q.index q.last_term then drop (q.index - log.base) log.entries else [];
}

-- its snapshot, the part of another that it has, up to which place each node was sent its snapshot, and the entries that the
-- last event applied
pub record SnapView (S C O : Type 0) : Type 0 where
  pub snapshot : Snapshot S O
  pub part : Option PartView
  pub places : List ℕ
  pub just : List (Entry C)

abbrev pub SnapNode : Type 0 → Type 0 → Type 0 → Type 0
SnapNode S C O = NodeView S C O (SnapView S C O)

abbrev pub SnapEffect : Type 0 → Type 0 → Type 0 → Type 0
SnapEffect S C O = RaftEffect S C O (SnapView S C O) (SnapMsg C)

-- the way in which snapshots are kept: whether a node in this state, which has just applied entries, shortens its log; how
-- snapshots are spelled in bytes; and what is read of bytes, with at most so many parts: of what spells a snapshot, that snapshot
-- or nothing
pub record Way (S C O : Type 0) : Type 0 where
  pub is_due : SnapNode S C O → Bool
  pub spell : Snapshot S O → List ℕ
  pub read : ℕ → List ℕ → Option (Snapshot S O)
  pub back : (most : ℕ) (x y : Snapshot S O) → read most (spell x) ≡ Some y → x ≡ y

-- it is due once so many entries were applied since the last time
abbrev pub after_some : {S C O : Type 0} → ℕ → SnapNode S C O → Bool
after_some many s = nat_le many (s.applied - s.log.base)

module _ {S C O : Type 0} where
  -- up to where a node was sent the snapshot
  abbrev pub place_of : SnapView S C O → ℕ → ℕ
  place_of x node = slice_index x.places node

  abbrev pub with_more : SnapNode S C O → SnapView S C O → SnapNode S C O
  with_more s x = record s { more = x }

  -- what was applied becomes the snapshot, and its entries go
  abbrev pub compacted : SnapNode S C O → SnapNode S C O
  compacted s = record s {
    log = shortened s.log s.applied;
    more = record s.more { snapshot = record { state = s.machine; sessions = s.sessions }; places = replicate (length s.more.places) 0 };
  }

  -- once it has applied entries
  abbrev pub settles : Way S C O → List (Entry C) → SnapNode S C O → SnapNode S C O
  settles way es s = let t = with_more s (record s.more { just = es }) in if way.is_due t then compacted t else t

  -- at the start of an event nothing is just applied
  abbrev pub fresh : SnapNode S C O → SnapNode S C O
  fresh s = with_more s (record s.more { just = [] })

  -- the piece of the snapshot from a place on
  abbrev pub piece : Way S C O → SnapNode S C O → ℕ → InstallView
  piece way s place =
      let whole = way.spell s.more.snapshot in
      record {
        term = s.ballot.term;
        index = s.log.base;
        last_term = s.log.base_term;
        offset = place;
        bytes = take MAX_PIECE (drop place whole);
        done = nat_le (length whole) (place + MAX_PIECE);
      }

  -- a leader sends a node the entries from its next index on, or, where some of them are gone, the next piece of the snapshot
  abbrev pub snap_says : Way S C O → SnapNode S C O → ℕ → SnapMsg C
  snap_says way s node =
      if nat_lt ((peer_at s.peers node).next - 1) s.log.base
      then Install (piece way s (place_of s.more node))
      else Plain (append s node)

  -- the kind with snapshots: a new leader has sent no node anything of its snapshot
  abbrev pub snap : Way S C O → Kind S C O (SnapView S C O) (SnapMsg C)
  snap way = record {
    message = Plain;
    says = snap_says way;
    leads = λ nodes x. record x { places = replicate nodes 0 };
    settles = settles way;
  }

  -- what the node has of the snapshot of which this is a piece
  abbrev pub had : SnapNode S C O → InstallView → List ℕ
  had s q = bytes_of q s.more.part

  -- a piece begins anew, or goes on where what is kept ends
  abbrev pub fits : SnapNode S C O → InstallView → Bool
  fits s q = q.offset == 0 || q.offset == length (had s q)

  -- and with the piece
  abbrev pub so_far : SnapNode S C O → InstallView → List ℕ
  so_far s q = (if q.offset == 0 then [] else had s q) ++ q.bytes

  abbrev pub with_part : SnapNode S C O → Option PartView → SnapNode S C O
  with_part s part = with_more s (record s.more { part = part })

  -- once it took the snapshot: it knows all that this holds to be committed, and has applied it
  abbrev pub installed : SnapNode S C O → InstallView → Snapshot S O → SnapNode S C O
  installed s q x = record s {
    role = Follower;
    log = log_behind s.log q;
    commit = q.index;
    applied = q.index;
    machine = x.state;
    sessions = x.sessions;
    more = record { snapshot = x; part = None; places = []; just = [] };
  }

  -- a node in this state wants more, from a place on
  abbrev pub wants : SnapNode S C O → InstallView → ℕ → ℕ → List (ℕ × SnapMsg C)
  wants s q place to = (to, Installed (record { term = s.ballot.term; index = q.index; place = place })) ∷ []

  -- the whole snapshot came: it is taken, or, where it can't be read, dropped
  abbrev pub on_whole : Way S C O → SnapNode S C O → ℕ → InstallView → Option (Snapshot S O) → SnapEffect S C O
  on_whole way s from q None = stays (with_part (follower s) None)
  on_whole way s from q (Some x) = sending (installed s q x) (answer (snap way) s true q.index from)

  -- a piece that fits
  abbrev pub on_piece : Way S C O → SnapNode S C O → ℕ → InstallView → SnapEffect S C O
  on_piece way s from q =
      if q.done then on_whole way s from q (way.read q.index (so_far s q))
      else sending
      (with_part (follower s) (Some (record { term = q.term; index = q.index; last_term = q.last_term; bytes = so_far s q })))
      (wants s q (length (so_far s q)) from)

  -- InstallSnapshot: refuse an earlier term; a leader of the term ignores it; any other node follows. What it knows to be
  -- committed it has; a piece that does not fit changes nothing
  abbrev pub on_install : Way S C O → SnapNode S C O → ℕ → InstallView → SnapEffect S C O
  on_install way s from q =
      if nat_lt q.term s.ballot.term then sending s (wants s q 0 from)
      else (if is_leader s.role then stays s
      else (if nat_le q.index s.commit then sending (follower s) (answer (snap way) s true q.index from)
      else (if fits s q then on_piece way s from q
      else sending (follower s) (wants s q (length (had s q)) from))))

  -- a leader that is asked for another place of its snapshot goes on from there
  abbrev pub asks_on : Way S C O → SnapNode S C O → ℕ → InstalledView → Bool
  asks_on way s from a =
      is_leader s.role && a.term == s.ballot.term && a.index == s.log.base && nat_le a.place (length (way.spell s.more.snapshot))
      && not (a.place == place_of s.more from)

  abbrev pub with_place : SnapNode S C O → ℕ → ℕ → SnapNode S C O
  with_place s node place = with_more s (record s.more { places = slice_set s.more.places node place })

  abbrev pub on_installed : Way S C O → SnapNode S C O → ℕ → InstalledView → SnapEffect S C O
  on_installed way s from a =
      if asks_on way s from a
      then (let t = with_place s from a.place in sending t ((from, snap_says way t from) ∷ []))
      else stays s

  -- a message, once the node is in its term or a later one
  abbrev pub by_snap_message : Way S C O → MachineMeaning S C O → ℕ → ℕ → SnapNode S C O → ℕ → SnapMsg C → SnapEffect S C O
  by_snap_message way m nodes me s from (Plain r) = by_raft_message (snap way) m nodes me s from r
  by_snap_message way m nodes me s from (Install q) = on_install way s from q
  by_snap_message way m nodes me s from (Installed a) = on_installed way s from a

  -- what happens at a node
  abbrev pub snap_input : Way S C O → MachineMeaning S C O → ℕ → ℕ → SnapNode S C O → RaftInput C → SnapEffect S C O
  snap_input way m nodes me s i = on_input (snap way) m nodes me (fresh s) i

  abbrev pub snap_timeout : Way S C O → MachineMeaning S C O → ℕ → ℕ → SnapNode S C O → SnapEffect S C O
  snap_timeout way m nodes me s = tick (snap way) m nodes me (fresh s)

  abbrev pub snap_message : Way S C O → MachineMeaning S C O → ℕ → ℕ → SnapNode S C O → ℕ → SnapMsg C → SnapEffect S C O
  snap_message way m nodes me s from message =
      by_snap_message way m nodes me (heard (snap_term_of message) (fresh s)) from message

-- what outlives a crash
pub record SnapKept (S C O : Type 0) : Type 0 where
  pub term : ℕ
  pub voted : Option ℕ
  pub log : LogView C
  pub snapshot : Snapshot S O

module _ {S C O : Type 0} where
  -- a node that stops keeps its term, its vote, its log and its snapshot, and starts from these alone: what its snapshot holds is
  -- committed and applied
  abbrev pub snap_keep : SnapNode S C O → SnapKept S C O
  snap_keep s = record { term = s.ballot.term; voted = s.ballot.voted; log = s.log; snapshot = s.more.snapshot }

  abbrev pub snap_reboot : SnapKept S C O → SnapNode S C O
  snap_reboot k = record {
    role = Follower;
    ballot = kept k.term k.voted;
    log = k.log;
    commit = k.log.base;
    applied = k.log.base;
    peers = [];
    machine = k.snapshot.state;
    sessions = k.snapshot.sessions;
    more = record { snapshot = k.snapshot; part = None; places = []; just = [] };
  }

  -- a node that starts for the first time
  abbrev pub snap_first : MachineMeaning S C O → SnapNode S C O
  snap_first m =
      let snapshot : Snapshot S O = record { state = m.init; sessions = map.empty } in
      snap_reboot (record { term = 0; voted = None; log = no_entries C; snapshot = snapshot })

  -- Raft with snapshots of a machine, as handlers
  abbrev pub snap_raft : Way S C O → ℕ → MachineMeaning S C O → Meaning (SnapNode S C O) (RaftInput C) (RaftOut O) (SnapMsg C)
  snap_raft way nodes m = record {
    nodes = nodes;
    takes_input = λ _. true;
    init = λ _. snap_first m;
    input = snap_input way m nodes;
    message = snap_message way m nodes;
    timeout = snap_timeout way m nodes;
  }

  abbrev pub snap_recovery : Recovery (SnapNode S C O) (SnapKept S C O)
  snap_recovery = record { keep = snap_keep; reboot = λ _ k. snap_reboot k }
