-- What the whole record of a node's device is: turn after turn what was heard, the save of each event, and then what it says.
use Rattle.std.specs.Prelude.{◌≡◌, ℕ, ◌≤◌, Bool, true, false, ◌||◌, List, [], ◌∷◌, ◌++◌, if◌then◌else◌}
use Rattle.disk.specs.Acts.{Act, Began, BeginFailed, Now, ReceiveFailed, Wrote, Cut, Synced, StoreFailed}
use Rattle.disk.specs.DiskLaws.{IsCutShort}
use Rattle.raft_types.specs.Messages.{KeptView}
use Rattle.slots.specs.Turns.{Hears, datagrams}
use Rattle.vst_base.specs.Machines.{MachineMeaning}
use Rattle.vst_base.specs.declared.stack.StackId.{StackId}
use Rattle.wire_fields.specs.Formats.{Format}
use Rattle.node_acts.specs.StateActs.{state_acts, store_after}
use Rattle.node_acts.specs.Stores.{StoreView}
use Rattle.node_run.specs.Runs.{Done, Stage, AreOrderly, done_in, said_in, stage_after, turns_in}
use Rattle.node_run.specs.Settings.{Settings}
use Rattle.lists.specs.Each.{Each}
use Rattle.lists.specs.Prefixes.{IsPrefix}

-- an act on the areas, or one that failed
abbrev pub Stores : Act → Type 0
Stores (Wrote area at bytes) = Unit {0}
Stores (Cut area len) = Unit {0}
Stores (Synced area) = Unit {0}
Stores (StoreFailed call) = Unit {0}
Stores act = ⊥

-- these alone
abbrev pub store_acts : List Act → List Act
store_acts [] = []
store_acts (Wrote area at bytes ∷ acts) = Wrote area at bytes ∷ store_acts acts
store_acts (Cut area len ∷ acts) = Cut area len ∷ store_acts acts
store_acts (Synced area ∷ acts) = Synced area ∷ store_acts acts
store_acts (StoreFailed call ∷ acts) = StoreFailed call ∷ store_acts acts
store_acts (act ∷ acts) = store_acts acts

-- the saves of these events, one after the other, and what the node knows of its areas after them
abbrev pub saves_of : {C : Type 0} → StackId → Format C → StoreView → List (Done C) → List Act
saves_of s f store [] = []
saves_of s f store (d ∷ done) = state_acts s f store d.kept ++ saves_of s f (store_after s f store d.kept) done

abbrev pub store_by : {C : Type 0} → StackId → Format C → StoreView → List (Done C) → StoreView
store_by s f store [] = store
store_by s f store (d ∷ done) = store_by s f (store_after s f store d.kept) done

-- what is kept after the last of these events, and where there is none what was kept before
abbrev pub kept_by : {C : Type 0} → KeptView C → List (Done C) → KeptView C
kept_by kept [] = kept
kept_by kept (d ∷ done) = kept_by d.kept done

-- A turn begins as the clock is read; whether one begins among these acts.
abbrev pub reads_clock : Act → Bool
reads_clock (Now ms) = true
reads_clock act = false

abbrev pub begins_turn : List Act → Bool
begins_turn [] = false
begins_turn (act ∷ acts) = reads_clock act || begins_turn acts

-- those before the last turn began: the turns that have ended
abbrev pub ended_turns : List Act → List Act
ended_turns [] = []
ended_turns (act ∷ acts) = if begins_turn acts then act ∷ ended_turns acts else []

-- A device begins before the first turn, and in none.
abbrev pub IsOfTurns : Act → Type 0
IsOfTurns (Began at dir) = ⊥
IsOfTurns (BeginFailed at dir) = ⊥
IsOfTurns act = Unit {0}

-- A datagram that was lost in sending is no fault.
abbrev pub IsNoFault : Act → Type 0
IsNoFault (ReceiveFailed wait) = ⊥
IsNoFault (StoreFailed call) = ⊥
IsNoFault act = Unit {0}

module _ {S C O : Type 0} (settings : Settings) (m : MachineMeaning S C O) (f : Format C) (g : Format O) where
  -- From this stage on, where the node knows this of its areas, the acts are so many whole turns: the areas were touched by the saves
  -- of their events alone, what these say was sent or lost, and nothing failed.
  pub record AreRecord (stage : Stage S C O) (store : StoreView) (count : ℕ) (acts : List Act) : Type 0 where
    pub of_turns : Each IsOfTurns acts
    pub orderly : AreOrderly settings m f g stage acts
    pub turns : turns_in settings m f g stage acts ≡ count
    pub stored : store_acts acts ≡ saves_of settings.stack f store (done_in settings m f g stage acts)
    pub said : datagrams acts ≡ said_in (done_in settings m f g stage acts)
    pub faultless : Each IsNoFault acts

  -- The same of acts that a fault, or want of memory, cut short: at most so many turns, the saves of their events cut short, and a
  -- front of what these say.
  pub record IsStopped (stage : Stage S C O) (store : StoreView) (most : ℕ) (acts : List Act) : Type 0 where
    pub of_turns : Each IsOfTurns acts
    pub orderly : AreOrderly settings m f g stage acts
    pub turns : turns_in settings m f g stage acts ≤ most
    pub stored : IsCutShort (saves_of settings.stack f store (done_in settings m f g stage acts)) (store_acts acts)
    pub said : IsPrefix (datagrams acts) (said_in (done_in settings m f g stage acts))

  -- The acts only hear: they decide these events, none before the last turn, and so many turns, and then the node stands there.
  pub record HearsAs (stage : Stage S C O) (acts : List Act) (done : List (Done C)) (count : ℕ) (next : Stage S C O) : Type 0 where
    pub hears : Each Hears acts
    pub orderly : AreOrderly settings m f g stage acts
    pub events : done_in settings m f g stage acts ≡ done
    pub last : done_in settings m f g stage (ended_turns acts) ≡ []
    pub turns : turns_in settings m f g stage acts ≡ count
    pub stands : stage_after settings m f g stage acts ≡ next
