-- What a crash leaves at each moment of a turn, whole or cut short, and of turns one after the other.
use Rattle.std.specs.Prelude.{◌≡◌, ℕ, true, List, [], ◌∷◌, ◌++◌, length, take, ◌⊎◌}
use Rattle.disk.specs.Acts.{Act}
use Rattle.disk.specs.Disk.{Disk, Image, after, may_leave}
use Rattle.disk.specs.DiskLaws.{IsCutShort}
use Rattle.raft_types.specs.Messages.{KeptView}
use Rattle.slots.specs.Opening.{Found, OpensAs}
use Rattle.slots.specs.SavingLaws.{Rests}
use Rattle.slots.specs.Turns.{Says, datagrams}
use Rattle.slots.specs.TurnLaws.{Keeps}
use Rattle.vst_base.specs.Machines.{MachineMeaning}
use Rattle.wire_fields.specs.Formats.{Format}
use Rattle.node_run.specs.Runs.{Done, NodeView, Stage, Between, Waiting, done_in, said_in, stage_after}
use Rattle.node_run.specs.Settings.{Settings}
use Rattle.node_acts.specs.StateActs.{state_acts}
use Rattle.node_acts.specs.Stores.{StoreView}
use Rattle.node_records.specs.Records.{Stores, HearsAs, kept_by, saves_of, store_acts, store_by}
use Rattle.node_records.specs.Moments.{IsAt, Leaves, LeavesSaved}
use Rattle.lists.specs.Each.{Each}
use Rattle.lists.specs.Prefixes.{IsPrefix}

-- at each moment of these acts the areas open as the old state or the new one
abbrev pub OpensAsEither : {K : Type 0} → (List ℕ → Found K) → K → K → Disk → List Act → Type 0
OpensAsEither found old new disk acts =
    (n : ℕ) (image : Image) → may_leave disk (take n acts) image ≡ true → OpensAs found old image ⊎ OpensAs found new image

-- after them they open as this state
abbrev pub OpensThenAs : {K : Type 0} → (List ℕ → Found K) → K → Disk → List Act → Type 0
OpensThenAs found kept disk acts = (image : Image) → may_leave disk acts image ≡ true → OpensAs found kept image

-- Acts that make a state durable, whole or cut short, are store acts, at each moment of which the areas open as either. If they are
-- whole, they open as the new state after them.
pub record IsSaving {K : Type 0} (found : List ℕ → Found K) (old new : K) (acts : List Act) (disk : Disk) : Type 0 where
  pub short : (did : List Act) → IsCutShort acts did → Each Stores did × OpensAsEither found old new disk did
  pub whole : Each Stores acts × OpensAsEither found old new disk acts × OpensThenAs found new disk acts

-- Acts that nothing cut short are the longest of those that were.
abbrev pub WholeIsCutShort : Type 0
WholeIsCutShort = (acts : List Act) → IsCutShort acts acts

abbrev pub KeepsIsSaving : Type 0 → Type 0
KeepsIsSaving K =
    (found : List ℕ → Found K) (old new : K) (selector : ℕ) (acts : List Act) (disk : Disk) → Keeps found old new selector acts disk →
    IsSaving found old new acts disk

-- One list of acts after the other.
abbrev pub MomentsGrow : {C O : Type 0} → Type 0 → Format C → Format O → Type 0
MomentsGrow {C} {O} S f g =
    (settings : Settings) (m : MachineMeaning S C O) (found : List ℕ → Found (KeptView C)) (stage : Stage S C O) (kept : KeptView C)
    (disk : Disk) (xs ys : List Act) → Leaves settings m f g found stage kept disk xs →
    datagrams xs ≡ said_in (done_in settings m f g stage xs) →
    Leaves settings m f g found (stage_after settings m f g stage xs) (kept_by kept (done_in settings m f g stage xs)) (after disk xs) ys →
    Leaves settings m f g found stage kept disk (xs ++ ys)

-- Acts that only hear, and decide no event.
abbrev pub QuietTurnsLeave : {C O : Type 0} → Type 0 → Format C → Format O → Type 0
QuietTurnsLeave {C} {O} S f g =
    (settings : Settings) (m : MachineMeaning S C O) (found : List ℕ → Found (KeptView C)) (stage next : Stage S C O) (kept : KeptView C)
    (selector : ℕ) (disk : Disk) (count : ℕ) (hs : List Act) → HearsAs settings m f g stage hs [] count next → Rests found kept selector disk →
    Leaves settings m f g found stage kept disk hs × (after disk hs ≡ disk)

-- An event is heard; then store acts, and then what was said of it. Nothing was said unless the areas open as the new state.
abbrev pub EventTurnsLeave : {C O : Type 0} → Type 0 → Format C → Format O → Type 0
EventTurnsLeave {C} {O} S f g =
    (settings : Settings) (m : MachineMeaning S C O) (found : List ℕ → Found (KeptView C)) (stage : Stage S C O) (kept : KeptView C)
    (selector : ℕ) (disk : Disk) (count : ℕ) (node : NodeView S C O) (d : Done C) (hs saves said : List Act) →
    HearsAs settings m f g stage hs (d ∷ []) count (Between node) → Rests found kept selector disk →
    Each Stores saves → Each Says said → IsPrefix (datagrams said) d.said → OpensAsEither found kept d.kept disk saves →
    (said ≡ []) ⊎ OpensThenAs found d.kept disk saves →
    Leaves settings m f g found stage kept disk (hs ++ (saves ++ said)) × (after disk (hs ++ (saves ++ said)) ≡ after disk saves)

-- A turn that waits has decided no event: an image then opens as the state after all events, which are those of the turns before.
abbrev pub WaitingTurnsLeave : {C O : Type 0} → Type 0 → Format C → Format O → Type 0
WaitingTurnsLeave {C} {O} S f g =
    (settings : Settings) (m : MachineMeaning S C O) (found : List ℕ → Found (KeptView C)) (stage : Stage S C O) (kept : KeptView C)
    (acts : List Act) (image : Image) (node : NodeView S C O) (time : ℕ) → stage_after settings m f g stage acts ≡ Waiting node time →
    (at : IsAt settings m f g found stage kept acts image) → at.c ≡ length (done_in settings m f g stage acts)

-- The same three of whole turns, in which each event counts as soon as it is saved.
abbrev pub SavesGrow : {C O : Type 0} → Type 0 → Format C → Format O → Type 0
SavesGrow {C} {O} S f g =
    (settings : Settings) (m : MachineMeaning S C O) (found : List ℕ → Found (KeptView C)) (stage : Stage S C O) (kept : KeptView C)
    (store : StoreView) (disk : Disk) (xs ys : List Act) → LeavesSaved settings m f g found stage kept store disk xs →
    datagrams xs ≡ said_in (done_in settings m f g stage xs) →
    store_acts xs ≡ saves_of settings.stack f store (done_in settings m f g stage xs) →
    LeavesSaved settings m f g found (stage_after settings m f g stage xs) (kept_by kept (done_in settings m f g stage xs))
    (store_by settings.stack f store (done_in settings m f g stage xs)) (after disk xs) ys →
    LeavesSaved settings m f g found stage kept store disk (xs ++ ys)

abbrev pub QuietTurnsSave : {C O : Type 0} → Type 0 → Format C → Format O → Type 0
QuietTurnsSave {C} {O} S f g =
    (settings : Settings) (m : MachineMeaning S C O) (found : List ℕ → Found (KeptView C)) (stage next : Stage S C O) (kept : KeptView C)
    (store : StoreView) (selector : ℕ) (disk : Disk) (count : ℕ) (hs : List Act) → HearsAs settings m f g stage hs [] count next →
    Rests found kept selector disk → LeavesSaved settings m f g found stage kept store disk hs

abbrev pub EventTurnsSave : {C O : Type 0} → Type 0 → Format C → Format O → Type 0
EventTurnsSave {C} {O} S f g =
    (settings : Settings) (m : MachineMeaning S C O) (found : List ℕ → Found (KeptView C)) (stage : Stage S C O) (kept : KeptView C)
    (store : StoreView) (selector : ℕ) (disk : Disk) (count : ℕ) (node : NodeView S C O) (d : Done C) (hs saves said : List Act) →
    HearsAs settings m f g stage hs (d ∷ []) count (Between node) → Rests found kept selector disk →
    saves ≡ state_acts settings.stack f store d.kept → Each Stores saves → Each Says said → IsPrefix (datagrams said) d.said →
    OpensAsEither found kept d.kept disk saves → OpensThenAs found d.kept disk saves →
    LeavesSaved settings m f g found stage kept store disk (hs ++ (saves ++ said))
