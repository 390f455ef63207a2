-- What a node hears in a turn, as its device tells it.
use Rattle.std.specs.Prelude.{◌≡◌, ◌≤◌, ℕ, List, [], ◌∷◌, length, Option, Some, None}
use Rattle.disk.specs.Acts.{Act, Took, Quiet, ReceiveFailed}
use Rattle.node_device.specs.Telling.{Told, told_after}
use Rattle.node_records.specs.Records.{HearsAs}
use Rattle.node_run.specs.Events.{event_of}
use Rattle.node_run.specs.Runs.{Done, NodeView, Stage, Between, Step, takes}
use Rattle.node_run.specs.Settings.{Settings}
use Rattle.node_run.specs.declared.event.Event.{Event}
use Rattle.vst_base.specs.Machines.{MachineMeaning}
use Rattle.wire_fields.specs.Formats.{Format}

-- an act by which a node that waited so long received this event, or none
abbrev pub IsReceipt : {C : Type 0} → Settings → Format C → ℕ → Act → Option (Event C) → Type 0
IsReceipt settings f wait (Took w from bytes) event = (w ≡ wait) × (event_of settings f from bytes ≡ event)
IsReceipt settings f wait (Quiet w) event = (w ≡ wait) × (event ≡ None)
IsReceipt settings f wait act event = ⊥

pub record HasReceived {C : Type 0} (settings : Settings) (f : Format C) (wait : ℕ) (event : Option (Event C))
    (before now : Told) : Type 0 where
  pub act : Act
  pub is : now ≡ told_after before (act ∷ [])
  pub receipt : IsReceipt settings f wait act event

-- a receive that was not done, that failed, or whose datagram could not be taken
abbrev pub IsCutOff : ℕ → List Act → Type 0
IsCutOff wait [] = Unit {0}
IsCutOff wait (Took w from bytes ∷ []) = w ≡ wait
IsCutOff wait (ReceiveFailed w ∷ []) = w ≡ wait
IsCutOff wait acts = ⊥

pub record HasCutOff (wait : ℕ) (before now : Told) : Type 0 where
  pub acts : List Act
  pub is : now ≡ told_after before acts
  pub cut : IsCutOff wait acts

module _ {S C O : Type 0} (settings : Settings) (m : MachineMeaning S C O) (f : Format C) (g : Format O) where
  -- The node hears an event in its turn, or ends it without one.
  abbrev pub Hears : NodeView S C O → ℕ → List Act → Option (Event C) → Type 0
  Hears node time acts None = HearsAs settings m f g (Between node) acts [] 1 (Between node)
  Hears node time acts (Some event) =
      let step : Step S C O = takes settings m f g node time event in
      HearsAs settings m f g (Between node) acts step.done step.turns step.stage

  -- The node was cut off as it heard.
  pub record StopsHearing (node : NodeView S C O) (acts : List Act) : Type 0 where
    pub done : List (Done C)
    pub count : ℕ
    pub next : Stage S C O
    pub heard : HearsAs settings m f g (Between node) acts done count next
    pub few : count ≤ 1
    pub one : length done ≤ 1

-- the same for every machine, as the device tells it
pub record HasHeard {C O : Type 0} (S : Type 0) (settings : Settings) (f : Format C) (g : Format O) (node : NodeView S C O)
    (time : ℕ) (event : Option (Event C)) (before now : Told) : Type 0 where
  pub acts : List Act
  pub is : now ≡ told_after before acts
  pub heard : (m : MachineMeaning S C O) → Hears settings m f g node time acts event

pub record HasStoppedHearing {C O : Type 0} (S : Type 0) (settings : Settings) (f : Format C) (g : Format O) (node : NodeView S C O)
    (before now : Told) : Type 0 where
  pub acts : List Act
  pub is : now ≡ told_after before acts
  pub heard : (m : MachineMeaning S C O) → StopsHearing settings m f g node acts
