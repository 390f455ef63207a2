-- What a crash leaves at any moment of a node's record.
use Rattle.std.specs.Prelude.{◌≡◌, ℕ, suc, ◌-◌, ◌≤◌, nat_le, true, List, [], ◌∷◌, length, take, ◌⊎◌, if◌then◌else◌}
use Rattle.disk.specs.Acts.{Act}
use Rattle.disk.specs.Disk.{Disk, Image, may_leave}
use Rattle.raft_types.specs.Messages.{KeptView}
use Rattle.slots.specs.Opening.{Found, OpensAs}
use Rattle.slots.specs.Turns.{datagrams}
use Rattle.vst_base.specs.Machines.{MachineMeaning}
use Rattle.vst_base.specs.declared.stack.StackId.{StackId}
use Rattle.wire_fields.specs.Formats.{Format}
use Rattle.node_acts.specs.StateActs.{state_acts, store_after}
use Rattle.node_acts.specs.Stores.{StoreView}
use Rattle.node_run.specs.Runs.{Done, Stage, done_in, said_in}
use Rattle.node_run.specs.Settings.{Settings}
use Rattle.node_records.specs.Records.{ended_turns, kept_by, store_acts}
use Rattle.lists.specs.Prefixes.{IsPrefix}

-- How many of these events are saved by so many store acts: each by the last one of its save, or as it comes where that has none.
abbrev pub saved_by : {C : Type 0} → StackId → Format C → StoreView → List (Done C) → ℕ → ℕ
saved_by s f store [] n = 0
saved_by s f store (d ∷ done) n =
    let save : ℕ = length (state_acts s f store d.kept) in
    if nat_le save n then suc (saved_by s f (store_after s f store d.kept) done (n - save)) else 0

module _ {S C O : Type 0} (settings : Settings) (m : MachineMeaning S C O) (f : Format C) (g : Format O) where
  -- After these acts, from this stage and kept state on, an image opens as the state after c events: all that the acts decided, or
  -- all but the last, and this one alone where no turn has begun after its own. What went out is a front of what these c events say.
  pub record IsAt (found : List ℕ → Found (KeptView C)) (stage : Stage S C O) (kept : KeptView C) (acts : List Act) (image : Image) : Type 0 where
    pub c : ℕ
    pub near : (c ≡ length (done_in settings m f g stage acts)) ⊎ (suc c ≡ length (done_in settings m f g stage acts))
    pub ended : length (done_in settings m f g stage (ended_turns acts)) ≤ c
    pub opens : OpensAs found (kept_by kept (take c (done_in settings m f g stage acts))) image
    pub sent : IsPrefix (datagrams acts) (said_in (take c (done_in settings m f g stage acts)))

  -- so it is at each moment of these acts
  abbrev pub Leaves : (List ℕ → Found (KeptView C)) → Stage S C O → KeptView C → Disk → List Act → Type 0
  Leaves found stage kept disk acts =
      (n : ℕ) (image : Image) → may_leave disk (take n acts) image ≡ true → IsAt found stage kept (take n acts) image

  -- Of whole turns of a node that knew this of its areas: an image opens besides as the state after no fewer events than are saved.
  pub record IsSavedAt (found : List ℕ → Found (KeptView C)) (stage : Stage S C O) (kept : KeptView C) (store : StoreView) (acts : List Act)
      (image : Image) : Type 0 where
    pub at : IsAt found stage kept acts image
    pub saved : saved_by settings.stack f store (done_in settings m f g stage acts) (length (store_acts acts)) ≤ at.c

  abbrev pub LeavesSaved : (List ℕ → Found (KeptView C)) → Stage S C O → KeptView C → StoreView → Disk → List Act → Type 0
  LeavesSaved found stage kept store disk acts =
      (n : ℕ) (image : Image) → may_leave disk (take n acts) image ≡ true → IsSavedAt found stage kept store (take n acts) image
