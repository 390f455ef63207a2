-- What one event leaves of a node's log, and what it brings.
use Rattle.std.specs.Prelude.{◌≡◌, ℕ, ◌<◌, ◌≤◌, List, [], ◌∷◌, ◌++◌, length, ◌==◌, min, if◌then◌else◌, ◌⊎◌}
use Rattle.vst_base.specs.Entries.{EntryView}
use Rattle.vst_base.specs.Logs.{accepted}
use Rattle.raft_types.specs.Messages.{KeptView, IsIndex, IsTerm}
use Rattle.raft_types.specs.declared.msg.RaftMsg.TheVariants as msg
use Rattle.raft_xform.specs.Replicating.{last_new}
use Rattle.raft_xform.specs.Sound.{IsInRange}
use Rattle.node_body.specs.Bodies.{VoteAmong}
use Rattle.node_run.specs.declared.event.Event.{Event}
use Rattle.node_run.specs.declared.event.Event.TheVariants.{Peer}

-- So many entries at the front of a log an event leaves at least, by the log's length before and after it. Only a leader's entries can
-- cut a log, which ends with them then: those up to the index after which they came are left.
abbrev pub left_by : {C : Type 0} → Event C → ℕ → ℕ → ℕ
left_by (Peer from (msg.Append a)) old new = if new == last_new a then min old a.prev_index else min old new
left_by event old new = min old new

-- how many entries an event may bring to the log
abbrev pub brought : {C : Type 0} → Event C → ℕ
brought (Peer from (msg.Append a)) = length a.entries
brought event = 1

-- a log stays, or has one entry more at its end
abbrev pub IsWithOne : {C : Type 0} → List (EntryView C) → List (EntryView C) → Type 0
IsWithOne {C} old new = (new ≡ old) ⊎ ((entry : EntryView C) × (new ≡ old ++ entry ∷ []))

-- a log stays, or takes entries for the places after an index that it reaches
abbrev pub IsTaking : {C : Type 0} → ℕ → List (EntryView C) → List (EntryView C) → List (EntryView C) → Type 0
IsTaking prev entries old new = (new ≡ old) ⊎ ((prev ≤ length old) × (new ≡ accepted old prev entries))

-- what an event may make of a log (the Raft paper, section 5.3)
abbrev pub Becomes : {C : Type 0} → Event C → List (EntryView C) → List (EntryView C) → Type 0
Becomes (Peer from (msg.Append a)) old new = IsTaking a.prev_index a.entries old new
Becomes event old new = IsWithOne old new

-- An event of a cluster of so many nodes: a message comes from one of them, and is in range.
abbrev pub IsOfCluster : {C : Type 0} → ℕ → Event C → Type 0
IsOfCluster nodes (Peer from message) = (from < nodes) × IsInRange message
IsOfCluster nodes event = Unit {0}

-- what a node of so many keeps is in range
pub record IsKept {C : Type 0} (nodes : ℕ) (kept : KeptView C) : Type 0 where
  pub term : IsTerm kept.term
  pub vote : VoteAmong nodes kept.voted
  pub log : IsIndex (length kept.log)
