-- How records grow turn by turn, and what one turn is.
use Rattle.std.specs.Prelude.{◌≡◌, ℕ, ◌+◌, List, [], ◌∷◌, ◌++◌, Some, None}
use Rattle.outside.specs.declared.device.Address.{Address}
use Rattle.disk.specs.Acts.{Act, Now, Took, Quiet, ReceiveFailed}
use Rattle.disk.specs.Disk.{Disk, after}
use Rattle.disk.specs.DiskLaws.{IsCutShort}
use Rattle.raft_types.specs.Messages.{KeptView}
use Rattle.slots.specs.Turns.{Says, datagrams}
use Rattle.vst_base.specs.Machines.{MachineMeaning}
use Rattle.wire_fields.specs.Formats.{Format}
use Rattle.node_acts.specs.StateActs.{state_acts}
use Rattle.node_acts.specs.Stores.{StoreView}
use Rattle.node_run.specs.Events.{event_of}
use Rattle.node_run.specs.Runs.{Done, NodeView, Stage, Starting, Between, Waiting, Broken, Step, done_in, stage_after, step, takes, turns_in}
use Rattle.node_run.specs.Settings.{Settings, due}
use Rattle.node_run.specs.declared.due.Due.TheVariants.{Timeout, Wait}
use Rattle.node_run.specs.declared.event.Event.{Event}
use Rattle.node_run.specs.declared.event.Event.TheVariants.{Tick}
use Rattle.node_records.specs.Records.{AreRecord, HearsAs, IsStopped, kept_by, store_by}
use Rattle.lists.specs.Each.{Each}
use Rattle.lists.specs.Prefixes.{IsPrefix}

module _ {S C O : Type 0} (settings : Settings) (m : MachineMeaning S C O) (f : Format C) (g : Format O) where
  -- what two lists of acts make, the one after the other
  pub record IsJoined (stage : Stage S C O) (known : StoreView) (held : KeptView C) (first : Disk) (xs ys : List Act) : Type 0 where
    pub stands : stage_after settings m f g stage (xs ++ ys) ≡ stage_after settings m f g (stage_after settings m f g stage xs) ys
    pub events : done_in settings m f g stage (xs ++ ys)
        ≡ done_in settings m f g stage xs ++ done_in settings m f g (stage_after settings m f g stage xs) ys
    pub turns : turns_in settings m f g stage (xs ++ ys)
        ≡ turns_in settings m f g stage xs + turns_in settings m f g (stage_after settings m f g stage xs) ys
    pub store : store_by settings.stack f known (done_in settings m f g stage (xs ++ ys))
        ≡ store_by settings.stack f (store_by settings.stack f known (done_in settings m f g stage xs))
        (done_in settings m f g (stage_after settings m f g stage xs) ys)
    pub kept : kept_by held (done_in settings m f g stage (xs ++ ys))
        ≡ kept_by (kept_by held (done_in settings m f g stage xs)) (done_in settings m f g (stage_after settings m f g stage xs) ys)
    pub disk : after first (xs ++ ys) ≡ after (after first xs) ys

  -- what a node hears whose step is this one
  abbrev pub HearsStep : Stage S C O → List Act → Step S C O → Type 0
  HearsStep stage acts taken = HearsAs settings m f g stage acts taken.done taken.turns taken.stage

  -- What a node hears: nothing yet, its first clock value, and then in each turn.
  pub record Turns : Type 0 where
    pub nothing : (stage : Stage S C O) → HearsAs settings m f g stage [] [] 0 stage
    pub first : (kept : KeptView C) (time : ℕ) → HearsStep (Starting kept) (Now time ∷ []) (step settings m f g (Starting kept) (Now time))
    pub timeout : (node : NodeView S C O) (time : ℕ) → due node.deadline time ≡ Timeout →
        HearsStep (Between node) (Now time ∷ []) (takes settings m f g node time Tick)
    pub event : (node : NodeView S C O) (time wait : ℕ) (from : Address) (bytes : List ℕ) (event : Event C) → due node.deadline time ≡ Wait wait →
        event_of settings f from bytes ≡ Some event →
        HearsStep (Between node) (Now time ∷ Took wait from bytes ∷ []) (takes settings m f g node time event)
    pub no_event : (node : NodeView S C O) (time wait : ℕ) (from : Address) (bytes : List ℕ) → due node.deadline time ≡ Wait wait →
        event_of settings f from bytes ≡ None →
        HearsAs settings m f g (Between node) (Now time ∷ Took wait from bytes ∷ []) [] 1 (Between node)
    pub quiet : (node : NodeView S C O) (time wait : ℕ) → due node.deadline time ≡ Wait wait →
        HearsAs settings m f g (Between node) (Now time ∷ Quiet wait ∷ []) [] 1 (Between node)
    pub failed : (node : NodeView S C O) (time wait : ℕ) → due node.deadline time ≡ Wait wait →
        HearsAs settings m f g (Between node) (Now time ∷ ReceiveFailed wait ∷ []) [] 0 Broken
    -- nothing was received yet
    pub waits : (node : NodeView S C O) (time wait : ℕ) → due node.deadline time ≡ Wait wait →
        HearsAs settings m f g (Between node) (Now time ∷ []) [] 0 (Waiting node time)

abbrev pub ActsJoin : {C O : Type 0} → Type 0 → Format C → Format O → Type 0
ActsJoin {C} {O} S f g =
    (settings : Settings) (m : MachineMeaning S C O) (stage : Stage S C O) (store : StoreView) (kept : KeptView C) (disk : Disk) (xs ys : List Act) →
    IsJoined settings m f g stage store kept disk xs ys

abbrev pub RecordsGrow : {C O : Type 0} → Type 0 → Format C → Format O → Type 0
RecordsGrow {C} {O} S f g =
    (settings : Settings) (m : MachineMeaning S C O) (stage : Stage S C O) (store : StoreView) (a b : ℕ) (xs ys : List Act) →
    AreRecord settings m f g stage store a xs →
    AreRecord settings m f g (stage_after settings m f g stage xs) (store_by settings.stack f store (done_in settings m f g stage xs)) b ys →
    AreRecord settings m f g stage store (a + b) (xs ++ ys)

-- No act is a record of no turn, and so is the first clock value. A turn without an event is one of one turn.
abbrev pub NothingIsRecord : {C O : Type 0} → Type 0 → Format C → Format O → Type 0
NothingIsRecord {C} {O} S f g =
    (settings : Settings) (m : MachineMeaning S C O) (stage : Stage S C O) (store : StoreView) → AreRecord settings m f g stage store 0 []

abbrev pub QuietTurnIsRecord : {C O : Type 0} → Type 0 → Format C → Format O → Type 0
QuietTurnIsRecord {C} {O} S f g =
    (settings : Settings) (m : MachineMeaning S C O) (stage : Stage S C O) (store : StoreView) (count : ℕ) (node : NodeView S C O) (hs : List Act) →
    HearsAs settings m f g stage hs [] count (Between node) → AreRecord settings m f g stage store count hs

-- one with an event: what was heard, the save of the state after it, and what it says
abbrev pub EventTurnIsRecord : {C O : Type 0} → Type 0 → Format C → Format O → Type 0
EventTurnIsRecord {C} {O} S f g =
    (settings : Settings) (m : MachineMeaning S C O) (stage : Stage S C O) (store : StoreView) (count : ℕ) (node : NodeView S C O) (d : Done C)
    (hs saves said : List Act) → HearsAs settings m f g stage hs (d ∷ []) count (Between node) →
    saves ≡ state_acts settings.stack f store d.kept → Each Says said → datagrams said ≡ d.said →
    AreRecord settings m f g stage store count (hs ++ (saves ++ said))

-- Whole turns, and none that was cut short.
abbrev pub RecordIsStopped : {C O : Type 0} → Type 0 → Format C → Format O → Type 0
RecordIsStopped {C} {O} S f g =
    (settings : Settings) (m : MachineMeaning S C O) (stage : Stage S C O) (store : StoreView) (count : ℕ) (acts : List Act) →
    AreRecord settings m f g stage store count acts → IsStopped settings m f g stage store count acts

-- A turn that was cut short: in what it hears, in the save of its event, or in what this says.
abbrev pub HeardIsStopped : {C O : Type 0} → Type 0 → Format C → Format O → Type 0
HeardIsStopped {C} {O} S f g =
    (settings : Settings) (m : MachineMeaning S C O) (stage : Stage S C O) (store : StoreView) (done : List (Done C)) (count : ℕ)
    (next : Stage S C O) (hs : List Act) → HearsAs settings m f g stage hs done count next → IsStopped settings m f g stage store count hs

abbrev pub EventIsStopped : {C O : Type 0} → Type 0 → Format C → Format O → Type 0
EventIsStopped {C} {O} S f g =
    (settings : Settings) (m : MachineMeaning S C O) (stage : Stage S C O) (store : StoreView) (count : ℕ) (node : NodeView S C O) (d : Done C)
    (hs saves said : List Act) → HearsAs settings m f g stage hs (d ∷ []) count (Between node) →
    IsCutShort (state_acts settings.stack f store d.kept) saves → Each Says said → IsPrefix (datagrams said) d.said →
    IsStopped settings m f g stage store count (hs ++ (saves ++ said))

-- Whole turns, and then one that was cut short.
abbrev pub StopsGrow : {C O : Type 0} → Type 0 → Format C → Format O → Type 0
StopsGrow {C} {O} S f g =
    (settings : Settings) (m : MachineMeaning S C O) (stage : Stage S C O) (store : StoreView) (a b : ℕ) (xs ys : List Act) →
    AreRecord settings m f g stage store a xs →
    IsStopped settings m f g (stage_after settings m f g stage xs) (store_by settings.stack f store (done_in settings m f g stage xs)) b ys →
    IsStopped settings m f g stage store (a + b) (xs ++ ys)

abbrev pub TurnsHear : {C O : Type 0} → Type 0 → Format C → Format O → Type 0
TurnsHear {C} {O} S f g = (settings : Settings) (m : MachineMeaning S C O) → Turns settings m f g
