-- How turns follow each other, what one turn is, and each way in which one is cut short.
use Rattle.std.specs.Prelude.{◌≡◌, ℕ, ◌+◌, ◌≤◌, List, [], ◌∷◌, ◌++◌, length}
use Rattle.disk.specs.Acts.{Act, Now}
use Rattle.disk.specs.DiskLaws.{IsCutShort}
use Rattle.raft_types.specs.Messages.{KeptView}
use Rattle.raft_xform.specs.Raft.{raft_recovery}
use Rattle.slots.specs.Turns.{Says, datagrams}
use Rattle.vst_base.specs.Machines.{MachineMeaning}
use Rattle.vst_base.specs.declared.stack.StackId.{StackId}
use Rattle.wire_fields.specs.Formats.{Format}
use Rattle.node_body.specs.declared.who.Who.{Who}
use Rattle.node_acts.specs.StateActs.{state_acts, store_after}
use Rattle.node_acts.specs.StateLaws.{StateSaved}
use Rattle.node_acts.specs.Stores.{StoreView, Holds, found_by}
use Rattle.node_device.specs.Telling.{Told, told_after}
use Rattle.node_run.specs.Runs.{Done, NodeView, Stage, Starting, Between}
use Rattle.node_run.specs.Settings.{Settings, later}
use Rattle.node_records.specs.Records.{HearsAs}
use Rattle.node_records.specs.MomentLaws.{OpensAsEither}
use Rattle.node_progress.specs.Progress.{Goes, Halts}
use Rattle.lists.specs.Each.{Each}
use Rattle.lists.specs.Prefixes.{IsPrefix}

module _ {C O : Type 0} (S : Type 0) (s : StackId) (f : Format C) (g : Format O) where
  -- Whole turns, and then whole turns.
  abbrev pub GoesOn : Type 0
  GoesOn =
      (settings : Settings) (m : MachineMeaning S C O) (who : Who) (stage : Stage S C O) (kept kept_mid kept_now : KeptView C)
      (store store_mid store_now : StoreView) (a b : ℕ) (node next : NodeView S C O) (before mid now : Told) →
      Goes settings m s f g who stage kept store a node kept_mid store_mid before mid →
      Goes settings m s f g who (Between node) kept_mid store_mid b next kept_now store_now mid now →
      Goes settings m s f g who stage kept store (a + b) next kept_now store_now before now

  -- Whole turns, and then turns of which the last was cut short.
  abbrev pub HaltsAfter : Type 0
  HaltsAfter =
      (settings : Settings) (m : MachineMeaning S C O) (who : Who) (stage : Stage S C O) (kept kept_mid : KeptView C)
      (store store_mid : StoreView) (a b : ℕ) (node : NodeView S C O) (before mid now : Told) →
      Goes settings m s f g who stage kept store a node kept_mid store_mid before mid →
      Halts settings m s f g who (Between node) kept_mid store_mid b mid now →
      Halts settings m s f g who stage kept store (a + b) before now

  -- Whole turns, and none that was cut short.
  abbrev pub GoesIsHalts : Type 0
  GoesIsHalts =
      (settings : Settings) (m : MachineMeaning S C O) (who : Who) (stage : Stage S C O) (kept kept_now : KeptView C)
      (store store_now : StoreView) (count : ℕ) (node : NodeView S C O) (before now : Told) →
      Goes settings m s f g who stage kept store count node kept_now store_now before now →
      Halts settings m s f g who stage kept store count before now

  -- A node stays who it is.
  abbrev pub WhoStays : Type 0
  WhoStays =
      (settings : Settings) (m : MachineMeaning S C O) (who : Who) (stage : Stage S C O) (kept kept_now : KeptView C)
      (store store_now : StoreView) (count : ℕ) (node : NodeView S C O) (before now : Told) →
      Goes settings m s f g who stage kept store count node kept_now store_now before now → store_now.who ≡ store.who

  -- The first clock value begins the node's run, with no turn yet.
  abbrev pub FirstGoes : Type 0
  FirstGoes =
      (settings : Settings) (m : MachineMeaning S C O) (who : Who) (kept : KeptView C) (store : StoreView) (time : ℕ) (before : Told) →
      Holds s f store kept before.disk → store.who ≡ who →
      Goes settings m s f g who (Starting kept) kept store 0
      (record { state = (raft_recovery m).reboot settings.me kept; deadline = later time settings.election }) kept store before
      (told_after before (Now time ∷ []))

  -- What was heard is no event: nothing is new.
  abbrev pub QuietGoes : Type 0
  QuietGoes =
      (settings : Settings) (m : MachineMeaning S C O) (who : Who) (stage : Stage S C O) (kept : KeptView C) (store : StoreView)
      (count : ℕ) (node : NodeView S C O) (hs : List Act) (before : Told) → HearsAs settings m f g stage hs [] count (Between node) →
      Holds s f store kept before.disk → store.who ≡ who →
      Goes settings m s f g who stage kept store count node kept store before (told_after before hs)

  -- What was heard is an event; the state after it was saved, and then all was said that the event says.
  abbrev pub EventGoes : Type 0
  EventGoes =
      (settings : Settings) (m : MachineMeaning S C O) (who : Who) (stage : Stage S C O) (kept : KeptView C) (store : StoreView)
      (count : ℕ) (node : NodeView S C O) (d : Done C) (hs said : List Act) (before now : Told) → settings.stack ≡ s →
      HearsAs settings m f g stage hs (d ∷ []) count (Between node) → Holds s f store kept before.disk → store.who ≡ who →
      StateSaved s f store kept d.kept (told_after before hs).disk → Each Says said → datagrams said ≡ d.said →
      now ≡ told_after (told_after (told_after before hs) (state_acts s f store d.kept)) said →
      Goes settings m s f g who stage kept store count node d.kept (store_after s f store d.kept) before now

  -- A turn is cut short in what it hears, with one event at most.
  abbrev pub HeardHalts : Type 0
  HeardHalts =
      (settings : Settings) (m : MachineMeaning S C O) (who : Who) (stage next : Stage S C O) (kept : KeptView C) (store : StoreView)
      (done : List (Done C)) (count : ℕ) (hs : List Act) (before : Told) → HearsAs settings m f g stage hs done count next →
      length done ≤ 1 → Holds s f store kept before.disk → store.who ≡ who →
      Halts settings m s f g who stage kept store count before (told_after before hs)

  -- In its save: at each moment of the acts of it that were done, a crash leaves the state before the event or the one after it.
  abbrev pub SaveHalts : Type 0
  SaveHalts =
      (settings : Settings) (m : MachineMeaning S C O) (who : Who) (stage : Stage S C O) (kept : KeptView C) (store : StoreView)
      (count : ℕ) (node : NodeView S C O) (d : Done C) (hs did : List Act) (before now : Told) → settings.stack ≡ s →
      HearsAs settings m f g stage hs (d ∷ []) count (Between node) → Holds s f store kept before.disk → store.who ≡ who →
      IsCutShort (state_acts s f store d.kept) did → OpensAsEither (found_by s f who) kept d.kept (told_after before hs).disk did →
      now.acts ≡ (told_after before hs).acts ++ did →
      Halts settings m s f g who stage kept store count before now

  -- In what its event says, of which a front was said.
  abbrev pub SayHalts : Type 0
  SayHalts =
      (settings : Settings) (m : MachineMeaning S C O) (who : Who) (stage : Stage S C O) (kept : KeptView C) (store : StoreView)
      (count : ℕ) (node : NodeView S C O) (d : Done C) (hs said : List Act) (before now : Told) → settings.stack ≡ s →
      HearsAs settings m f g stage hs (d ∷ []) count (Between node) → Holds s f store kept before.disk → store.who ≡ who →
      StateSaved s f store kept d.kept (told_after before hs).disk → Each Says said → IsPrefix (datagrams said) d.said →
      now ≡ told_after (told_after (told_after before hs) (state_acts s f store d.kept)) said →
      Halts settings m s f g who stage kept store count before now
