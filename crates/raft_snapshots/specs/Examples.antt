-- Logs, nodes and messages that the rules are computed on, with a machine that adds.
use Rattle.std.specs.Prelude.{ℕ, Bool, true, List, [], ◌∷◌, Option, Some, None}
use Rattle.std.specs.FinMap.{empty, insert}
use Rattle.std.proofs.lemmas.Option.{none-some}
use Rattle.handler_trait.specs.Handling.{Meaning}
use Rattle.vst_base.specs.Examples.{counter}
use Rattle.vst_base.specs.LogExamples as lists
use Rattle.vst_base.specs.declared.entry.Entry.{Entry}
use Rattle.raft_commit.specs.Peers.{PeerView}
use Rattle.raft_types.specs.Messages.{AppendView}
use Rattle.raft_types.specs.declared.client.RaftInput.{RaftInput}
use Rattle.raft_types.specs.declared.client.RaftOut.{RaftOut}
use Rattle.raft_xform.specs.Examples as plain
use Rattle.raft_xform.specs.declared.role.Role.TheVariants as role
use Rattle.raft_snapshots.specs.Logs.{LogView}
use Rattle.raft_snapshots.specs.Nodes as nodes
use Rattle.raft_snapshots.specs.Snapshots.{Install, InstallView, Installed, PartView, Plain, SnapEffect, SnapMsg, SnapNode, Snapshot, Way, after_some, on_whole, snap_raft}

abbrev pub Node : Type 0
Node = SnapNode ℕ ℕ ℕ

-- a log whose last entry that is gone has this index and term, with entries of these terms behind it
abbrev pub cut : ℕ → ℕ → List ℕ → LogView ℕ
cut base base_term terms = record { base = base; base_term = base_term; entries = lists.log terms }

-- entries 5 and 6 are there
abbrev pub two_left : LogView ℕ
two_left = cut 4 2 (2 ∷ 3 ∷ [])

-- a leader's entries of these terms, after an index
abbrev pub entries : ℕ → ℕ → List ℕ → AppendView ℕ
entries prev_index prev_term terms =
    record { term = 3; prev_index = prev_index; prev_term = prev_term; commit = 6; entries = lists.log terms }

-- a way that shortens logs after four entries, spells each snapshot by these bytes, and can read none
abbrev pub spelled : List ℕ → Way ℕ ℕ ℕ
spelled bytes = record { is_due = after_some 4; spell = λ _. bytes; read = λ _ _. None; back = λ most x y e. absurd (none-some y e) }

-- three nodes in the way in which these three bytes spell each snapshot
abbrev pub three : Meaning Node (RaftInput ℕ) (RaftOut ℕ) (SnapMsg ℕ)
three = snap_raft (spelled (1 ∷ 2 ∷ 3 ∷ [])) 3 counter

-- messages by their parts
abbrev pub piece : ℕ → ℕ → ℕ → List ℕ → Bool → SnapMsg ℕ
piece term index offset bytes done =
    Install (record { term = term; index = index; last_term = 1; offset = offset; bytes = bytes; done = done })

abbrev pub wish : ℕ → ℕ → ℕ → SnapMsg ℕ
wish term index place = Installed (record { term = term; index = index; place = place })

abbrev pub append : ℕ → ℕ → ℕ → ℕ → List (Entry ℕ) → SnapMsg ℕ
append term prev_index prev_term commit es = Plain (plain.append term prev_index prev_term commit es)

abbrev pub appended : ℕ → Bool → ℕ → SnapMsg ℕ
appended term ok index = Plain (plain.appended term ok index)

-- what is kept of a snapshot whose last entry has this index, and the term 1
abbrev pub part_of : ℕ → ℕ → List ℕ → PartView
part_of term index bytes = record { term = term; index = index; last_term = 1; bytes = bytes }

-- the machine has come to this sum, and no client has asked
abbrev pub sum : ℕ → Snapshot ℕ ℕ
sum x = record { state = x; sessions = empty }

-- a follower of a term with a log, that has applied all up to an index, and what it has of a snapshot
abbrev pub follower : ℕ → LogView ℕ → ℕ → Option PartView → Node
follower term log applied part = record {
  role = role.Follower;
  ballot = record { term = term; voted = None; votes = 0 };
  log = log;
  commit = applied;
  applied = applied;
  peers = [];
  machine = 0;
  sessions = empty;
  more = record { snapshot = sum 0; part = part; places = []; just = [] };
}

-- a follower of term 1 that has nothing but this of a snapshot; and one that has its first two bytes
abbrev pub lagging : Option PartView → Node
lagging part = follower 1 (cut 0 0 []) 0 part

abbrev pub with_two_bytes : Node
with_two_bytes = lagging (Some (part_of 1 4 (1 ∷ 2 ∷ [])))

-- the last piece of a snapshot up to index 4
abbrev pub last_piece : InstallView
last_piece = record { term = 1; index = 4; last_term = 1; offset = 1; bytes = 2 ∷ []; done = true }

-- the last piece came to a node: its snapshot is whole, and the machine came to this sum in it
abbrev pub whole_came : ℕ → Node → SnapEffect ℕ ℕ ℕ
whole_came x s = on_whole (spelled []) s 0 last_piece (Some (sum x))

-- a follower whose log has entries of these terms from index 2 on, of which it has applied none
abbrev pub unapplied : List ℕ → Node
unapplied terms = follower 1 (cut 1 1 terms) 1 None

-- node 0 leads three nodes in term 1; its log begins after index 4. Node 1 needs an entry that is gone, and was sent its snapshot
-- up to this place; node 2 needs none
abbrev pub leader : ℕ → Node
leader place = record {
  role = role.Leader;
  ballot = record { term = 1; voted = Some 0; votes = 3 };
  log = cut 4 1 [];
  commit = 4;
  applied = 4;
  peers = plain.peer 5 0 ∷ plain.peer 1 0 ∷ plain.peer 5 4 ∷ [];
  machine = 0;
  sessions = empty;
  more = record { snapshot = sum 0; part = None; places = 0 ∷ place ∷ 0 ∷ []; just = [] };
}

-- the same node with other fields
abbrev pub with_peers : List PeerView → Node → Node
with_peers peers s = record s { peers = peers }

abbrev pub just_applied : List (Entry ℕ) → Node → Node
just_applied es s = record s { more = record s.more { just = es } }

-- once its machine came to this sum, by a snapshot
abbrev pub restored : ℕ → Node → Node
restored x s = record s { machine = x; more = record s.more { snapshot = sum x } }

-- client 7's first request added 5
abbrev pub five_added : Snapshot ℕ ℕ
five_added = record { state = 5; sessions = insert empty 7 (record { request = 1; output = 0 }) }

-- once that was applied
abbrev pub with_five_added : Node → Node
with_five_added s = record s { machine = five_added.state; sessions = five_added.sessions }

-- once it heard of term 2
abbrev pub deposed : Node → Node
deposed s = record s { role = role.Follower; ballot = record { term = 2; voted = None; votes = s.ballot.votes } }

-- what an event does that tells clients nothing
abbrev pub sending : Node → List (ℕ × SnapMsg ℕ) → SnapEffect ℕ ℕ ℕ
sending s packets = nodes.sending s packets
