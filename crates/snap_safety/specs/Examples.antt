-- Runs with snapshots that the definitions are computed on, with a machine that adds.
use Rattle.std.specs.Prelude.{◌≡◌, ℕ, ◌≤◌, List, [], ◌∷◌, ◌++◌, length, Some, None, true}
use Rattle.vst_base.specs.Examples.{counter}
use Rattle.vst_base.specs.LogExamples.{noop}
use Rattle.vst_base.specs.declared.entry.Entry.{Entry}
use Rattle.vst_base.specs.declared.step.Step.{Step}
use Rattle.vst_base.specs.declared.step.Step.TheVariants as step
use Rattle.raft_free.specs.Nodes.{Append, Packet}
use Rattle.raft_types.specs.declared.client.RaftInput.{RaftInput}
use Rattle.raft_xform.specs.Examples.{entry}
use Rattle.linearizability.specs.Examples.{asks}
use Rattle.raft_snapshots.specs.Examples.{Node, cut, follower, just_applied, spelled}
use Rattle.raft_snapshots.specs.Snapshots.{InstallView, MAX_PIECE, Snapshot, Way, after_some}
use Rattle.snap_safety.specs.Mirrors.{packet, snapshot_of}

abbrev pub CounterWay : Type 0
CounterWay = Way ℕ ℕ ℕ

-- any way of keeping snapshots, where logs are shortened after four entries
abbrev pub every_four : CounterWay → CounterWay
every_four way = record way { is_due = after_some 4 }

-- client 7's first request, to add 5, and its next two, to add nothing
abbrev pub five : RaftInput ℕ
five = asks 7 1 5

abbrev pub none : RaftInput ℕ
none = asks 7 2 0

abbrev pub none_again : RaftInput ℕ
none_again = asks 7 3 0

-- a node alone executes three requests, shortens its log and stops; it starts again and leads, and answers the last of them again
abbrev pub alone : List (Step (RaftInput ℕ))
alone =
    step.Tick 0 ∷ step.In 0 five ∷ step.In 0 none ∷ step.In 0 none_again ∷ step.Crash 0 ∷ step.Reboot 0 ∷ step.Tick 0
    ∷ step.In 0 none_again ∷ []

-- the four entries, as node 0 leads in term 1
abbrev pub four : List (Entry ℕ)
four = noop 1 ∷ entry 1 0 1 5 ∷ entry 1 0 2 0 ∷ entry 1 0 3 0 ∷ []

-- what they make of the first state and of no sessions
abbrev pub of_four : Snapshot ℕ ℕ
of_four = snapshot_of counter four

-- a way in which their snapshot has at most so many bytes as one message, and can be read
pub record IsShort (way : CounterWay) : Type 0 where
  pub fits : length (way.spell of_four) ≤ MAX_PIECE
  pub reads : way.read 4 (way.spell of_four) ≡ Some of_four

-- node 2 of three has no entry of what the others commit, and node 0 shortens its log
abbrev pub until_applied : List (Step (RaftInput ℕ))
until_applied =
    step.Tick 0 ∷ step.Deliver 0 ∷ step.Deliver 2 ∷ step.In 0 five ∷ step.In 0 none ∷ step.In 0 none_again ∷ step.Deliver 9
    ∷ step.Deliver 11 ∷ []

-- it sends node 2 its snapshot, which is elected, and answers the last request again, from the sessions of the snapshot
abbrev pub once_applied : List (Step (RaftInput ℕ))
once_applied =
    step.Tick 0 ∷ step.Deliver 13 ∷ step.Tick 2 ∷ step.Deliver 15 ∷ step.Deliver 17 ∷ step.In 2 none_again ∷ step.Deliver 20
    ∷ step.Deliver 22 ∷ []

abbrev pub behind : List (Step (RaftInput ℕ))
behind = until_applied ++ once_applied

-- what is gone of the log of a leader whose base is 4
abbrev pub noops : List (Entry ℕ)
noops = noop 1 ∷ noop 1 ∷ noop 1 ∷ noop 1 ∷ []

-- each snapshot is spelled by these three bytes
abbrev pub three_bytes : CounterWay
three_bytes = spelled (1 ∷ 2 ∷ 3 ∷ [])

-- as the leader of term 1 sends the last two to node 1
abbrev pub last_piece : InstallView
last_piece = record { term = 1; index = 4; last_term = 1; offset = 1; bytes = 2 ∷ 3 ∷ []; done = true }

-- the free leader sent it all that is gone
abbrev pub all_sent : List (Packet ℕ)
all_sent = packet 0 1 1 (Append 0 0 noops 4) ∷ []

-- a node that has applied so many entries, the last of them just now
abbrev pub applying : ℕ → List (Entry ℕ) → Node
applying applied es = just_applied es (follower 1 (cut 0 0 []) applied None)
