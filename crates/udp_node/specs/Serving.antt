-- What a node does from its opening on, as its device tells it.
use Rattle.std.specs.Prelude.{◌≡◌, ◌≤◌, ℕ, zero, suc, List, Option, Some, None, Result, Ok, Err, ◌⊎◌}
use Rattle.disk.specs.Acts.{Act}
use Rattle.disk.specs.Disk.{contents}
use Rattle.node_acts.specs.StateActs.{first_kept, opening_acts}
use Rattle.node_acts.specs.Stores.{StoreView, Holds, found_by}
use Rattle.node_config.specs.declared.config.Config.{Config}
use Rattle.node_core.specs.Replicas.{kept_of, view_of, who_of}
use Rattle.node_core.specs.declared.replica.Replica.{Replica}
use Rattle.node_datagrams.specs.Configured.{settings_of}
use Rattle.node_device.specs.Telling.{Told, told_after, StoppedIn, TellsOn}
use Rattle.node_progress.specs.Progress.{Goes, Halts}
use Rattle.node_run.specs.Runs.{Stage, Starting, Between}
use Rattle.node_state.specs.Answers.{refusal_of}
use Rattle.node_state.specs.Crashes.{LeavesFound}
use Rattle.node_state.specs.declared.opening.Refusal.{Refusal}
use Rattle.raft_types.specs.Messages.{KeptView}
use Rattle.slots.specs.Opening.{Opening, Why, Fresh, Held, Refused, opening}
use Rattle.slots.specs.Saving.{sync_acts}
use Rattle.udp_node.specs.declared.fault.NodeFault.{NodeFault}
use Rattle.udp_node.specs.declared.fault.NodeFault.TheVariants as fault
use Rattle.vst_base.specs.Machines.{MachineMeaning}
use Rattle.vst_base.specs.declared.stack.StackId.{StackId}
use Rattle.wire_fields.specs.Formats.{Format}

-- Where the device tells to the end, as it does unless its record is full of clock values when so many are added. None begins to.
abbrev pub StillTold : ℕ → Option Told → Option Told → (Told → Told → Type 0) → Type 0
StillTold n (Some before) (Some now) P = P before now
StillTold n old new P = TellsOn n old new

-- what a node starts from where its areas open as this
abbrev pub StartsFrom : {C : Type 0} → Opening (KeptView C) → KeptView C → Type 0
StartsFrom Fresh kept = kept ≡ first_kept
StartsFrom (Held found selector) kept = kept ≡ found
StartsFrom (Refused why) kept = ⊥

-- why areas that open as this are refused, if they are
abbrev pub refusal_in : {K : Type 0} → Opening K → Option Why
refusal_in Fresh = None
refusal_in (Held found selector) = None
refusal_in (Refused why) = Some why

-- Areas are refused exactly where this is why. A fault of the disk, and want of memory, may come before; a receive comes after.
abbrev pub Meets : {T : Type 0} → Option Why → Result T NodeFault → Type 0
Meets first (Ok x) = first ≡ None
Meets first (Err (fault.Refused why)) = first ≡ Some (refusal_of why)
Meets first (Err fault.Receive) = first ≡ None
Meets first (Err fault.Store) = Unit {0}
Meets first (Err fault.Memory) = Unit {0}

module _ {C : Type 0} (s : StackId) (config : Config) (f : Format C) where
  -- the acts of the node's opening
  abbrev pub opening_of : Told → List Act
  opening_of before = opening_acts s f (who_of config) (contents before.disk)

  -- what its areas open as
  abbrev pub found_in : Told → Opening (KeptView C)
  found_in before = opening (found_by s f (who_of config)) (contents before.disk)

  -- The areas were opened, and at each moment of that a crash leaves what was found. The node starts from this, which the areas then
  -- hold as it knows.
  pub record HasOpened (store : StoreView) (kept : KeptView C) (before opened : Told) : Type 0 where
    pub who : store.who ≡ who_of config
    pub holds : Holds s f store kept opened.disk
    pub from : StartsFrom (found_in before) kept
    pub is : opened ≡ told_after before (opening_of before)
    pub leaves : LeavesFound s f (who_of config) before opened

  -- An opening that was cut short: a crash leaves what was found.
  pub record Unopened (before now : Told) : Type 0 where
    pub stopped : StoppedIn (Some before) (Some now) (opening_of before)
    pub leaves : LeavesFound s f (who_of config) before now

  -- Where the areas are refused they were synced, and nothing else was done.
  pub record IsRefused (why : Refusal) (before now : Told) : Type 0 where
    pub is : now ≡ told_after before sync_acts
    pub refused : found_in before ≡ Refused (refusal_of why)

  -- how an opening ends by a fault
  abbrev pub OpeningEnds : NodeFault → Told → Told → Type 0
  OpeningEnds (fault.Refused why) before now = IsRefused why before now
  OpeningEnds fault.Receive before now = ⊥
  OpeningEnds fault.Store before now = Unopened before now
  OpeningEnds fault.Memory before now = Unopened before now

module _ {S C O : Type 0} (s : StackId) (config : Config) (m : MachineMeaning S C O) (f : Format C) (g : Format O) where
  -- whole turns of a node, and turns of which the last was cut short
  abbrev pub TurnsGo : Stage S C O → KeptView C → StoreView → ℕ → Replica S C O → Told → Told → Type 0
  TurnsGo stage kept store count next before now =
      Goes (settings_of config) m s f g (who_of config) stage kept store count (view_of next) (kept_of next.state) next.store before now

  abbrev pub TurnsHalt : Stage S C O → KeptView C → StoreView → ℕ → Told → Told → Type 0
  TurnsHalt stage kept store most before now =
      Halts (settings_of config) m s f g (who_of config) stage kept store most before now

  -- the same from a node that stands between two turns
  abbrev pub Went : Replica S C O → ℕ → Replica S C O → Told → Told → Type 0
  Went replica count next before now = TurnsGo (Between (view_of replica)) (kept_of replica.state) replica.store count next before now

  abbrev pub Halted : Replica S C O → ℕ → Told → Told → Type 0
  Halted replica most before now = TurnsHalt (Between (view_of replica)) (kept_of replica.state) replica.store most before now

  -- So many turns one after the other, each a record of its own: what its event says leaves before the next turn begins.
  abbrev pub WentEach : ℕ → Replica S C O → Replica S C O → Told → Told → Type 0
  WentEach zero replica next before now = (next ≡ replica) × (now ≡ before)
  WentEach (suc n) replica next before now =
      (middle : Replica S C O) × (mid : Told) × WentEach n replica middle before mid × Went middle 1 next mid now

  -- Its opening, its first clock value, and so many whole turns, after which it is this.
  pub record Served (count : ℕ) (next : Replica S C O) (before now : Told) : Type 0 where
    pub kept : KeptView C
    pub store : StoreView
    pub opened : Told
    pub opening : HasOpened s config f store kept before opened
    pub turns : TurnsGo (Starting kept) kept store count next opened now

  -- Its opening and first clock value, then so many turns one after the other; and what they come to together.
  pub record HasServed (count : ℕ) (before now : Told) : Type 0 where
    pub first : Replica S C O
    pub begun : Told
    pub next : Replica S C O
    pub starts : Served 0 first before begun
    pub each : WentEach count first next begun now
    pub all : Served count next before now

  -- Whole turns one after the other, each a record of its own, and then one that was cut short.
  pub record HaltedEach (most : ℕ) (replica : Replica S C O) (before now : Told) : Type 0 where
    pub count : ℕ
    pub below : count ≤ most
    pub middle : Replica S C O
    pub mid : Told
    pub each : WentEach count replica middle before mid
    pub last : Halted middle 1 mid now

  -- The same cut short in a turn.
  pub record Interrupted (most : ℕ) (before now : Told) : Type 0 where
    pub first : Replica S C O
    pub begun : Told
    pub starts : Served 0 first before begun
    pub each : HaltedEach most first begun now
    pub all : TurnsHalt (Starting starts.kept) starts.kept starts.store most starts.opened now

  -- How it ends by a fault: in its opening, or in a turn.
  abbrev pub EndsWith : NodeFault → ℕ → Told → Told → Type 0
  EndsWith (fault.Refused why) most before now = IsRefused s config f why before now
  EndsWith fault.Receive most before now = Interrupted most before now
  EndsWith fault.Store most before now = Unopened s config f before now ⊎ Interrupted most before now
  EndsWith fault.Memory most before now = Unopened s config f before now ⊎ Interrupted most before now
