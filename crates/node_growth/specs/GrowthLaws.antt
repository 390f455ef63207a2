-- What holds of each event of a node, of every machine. An event's effect is stated with the formats of commands and outputs, and does
-- not depend on them.
use Rattle.std.specs.Prelude.{◌≡◌, ℕ, ◌+◌, ◌≤◌, List, length, drop, Some}
use Rattle.outside.specs.declared.device.Address.{Address}
use Rattle.raft_xform.specs.Nodes.{RaftView}
use Rattle.raft_xform.specs.Raft.{raft_recovery}
use Rattle.raft_xform.specs.Sound.{IsSoundNode}
use Rattle.vst_base.specs.Entries.{EntryView}
use Rattle.vst_base.specs.Machines.{MachineMeaning}
use Rattle.wire_fields.specs.Formats.{Format}
use Rattle.node_acts.specs.Stores.{StoreView, Knows, Continues, common, terms_of}
use Rattle.node_run.specs.Events.{event_of}
use Rattle.node_run.specs.Runs.{effect_of}
use Rattle.node_run.specs.Settings.{Settings}
use Rattle.node_run.specs.declared.event.Event.{Event}
use Rattle.node_growth.specs.Growth.{Becomes, IsKept, IsOfCluster, brought, left_by}

-- Of a list of terms and a log whose first entries have the first n of them, the rest is counted from there on.
abbrev pub CountsOn : Type 0 → Type 0
CountsOn C =
    (terms : List ℕ) (log : List (EntryView C)) (n : ℕ) → n ≤ common terms log →
    common terms log ≡ n + common (drop n terms) (drop n log)

module _ (S : Type 0) {C O : Type 0} (f : Format C) (g : Format O) where
  -- the log stays, has one entry more, or takes those of a leader
  abbrev pub LogBecomes : Type 0
  LogBecomes =
      (settings : Settings) (m : MachineMeaning S C O) (s : RaftView S C O) (event : Event C) →
      Becomes event s.log (effect_of settings m f g s event).state.log

  -- up to the first place where the terms differ, the entries of the new log are those of the old one
  abbrev pub LogContinues : Type 0
  LogContinues =
      (settings : Settings) (m : MachineMeaning S C O) (s : RaftView S C O) (event : Event C) (store : StoreView) →
      Knows store ((raft_recovery m).keep s) →
      Continues store ((raft_recovery m).keep s) ((raft_recovery m).keep (effect_of settings m f g s event).state)

  -- the entries that an event is known to leave are among those that have their old terms
  abbrev pub LeftIsCommon : Type 0
  LeftIsCommon =
      (settings : Settings) (m : MachineMeaning S C O) (s : RaftView S C O) (event : Event C) →
      let log = (effect_of settings m f g s event).state.log in
      left_by event (length s.log) (length log) ≤ common (terms_of s.log) log

  -- after them stand no more entries than the event brings
  abbrev pub FewAreNew : Type 0
  FewAreNew =
      (settings : Settings) (m : MachineMeaning S C O) (s : RaftView S C O) (event : Event C) →
      let log = (effect_of settings m f g s event).state.log in
      length log ≤ left_by event (length s.log) (length log) + brought event

  -- a sound node stays so
  abbrev pub StaysSound : Type 0
  StaysSound =
      (settings : Settings) (m : MachineMeaning S C O) (s : RaftView S C O) (event : Event C) →
      IsSoundNode (length settings.peers) settings.me s → IsOfCluster (length settings.peers) event →
      IsSoundNode (length settings.peers) settings.me (effect_of settings m f g s event).state

-- what a sound node keeps is in range
abbrev pub KeptFits : Type 0 → Type 0 → Type 0 → Type 0
KeptFits S C O =
    (m : MachineMeaning S C O) (nodes me : ℕ) (s : RaftView S C O) → IsSoundNode nodes me s → IsKept nodes ((raft_recovery m).keep s)

-- each datagram that is an event is one of the cluster
abbrev pub HeardIsOfCluster : {C : Type 0} → Format C → Type 0
HeardIsOfCluster {C} f =
    (settings : Settings) (from : Address) (bytes : List ℕ) (event : Event C) → event_of settings f from bytes ≡ Some event →
    IsOfCluster (length settings.peers) event
