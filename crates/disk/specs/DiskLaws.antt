-- What holds of any disk, and by either test of what a crash may make of an area.
use Rattle.std.specs.Prelude.{◌≡◌, ◌↔◌, ℕ, suc, ◌<◌, ◌≤◌, true, false, List, [], ◌∷◌, length, take, slice_get, ◌⊎◌}
use Rattle.disk.specs.Acts.{StoreCall, ReadAt, WriteAt, CutTo, Sync, Act, Wrote, Cut, Synced, StoreFailed}
use Rattle.disk.specs.Areas.{area_at}
use Rattle.disk.specs.Disk.{Area, Disk, Image, contents, NothingPending, failed, effect, after, is_pending, is_one_of, may_become, may_hold, may_leave}
use Rattle.disk.specs.Between.{Crash, holds_by, leaves_by, may_become_between, may_hold_between}
use Rattle.lists.specs.Each.{Each}

-- The areas as they read are always one of the images.
abbrev pub ReadsAreAnImage : Crash → Type 0
ReadsAreAnImage crash = (disk : Disk) → holds_by crash disk (contents disk) ≡ true

-- With nothing pending they are the only one.
abbrev pub SettledStays : Crash → Type 0
SettledStays crash = (disk : Disk) (image : Image) → NothingPending disk → holds_by crash disk image ≡ true → image ≡ contents disk

-- A sync permits nothing new.
abbrev pub SyncOnlyTakesAway : Crash → Type 0
SyncOnlyTakesAway crash =
    (area : ℕ) (disk : Disk) (image : Image) → holds_by crash (effect (Synced area) disk) image ≡ true → holds_by crash disk image ≡ true

-- an image's length is one that the area has or had, and each byte that is not pending is the one that a read gives
pub record Permits (area : Area) (image : List ℕ) : Type 0 where
  pub size : is_one_of (length image) (length area.bytes ∷ area.lengths) ≡ true
  pub bytes : (i : ℕ) → i < length image → is_pending area i ≡ false → slice_get image i ≡ slice_get area.bytes i

-- The test says just that.
abbrev pub TestSays : Type 0
TestSays = (area : Area) (image : List ℕ) → (may_become area image ≡ true) ↔ Permits area image

-- the same where the length is no less than some that the area has or had, and no greater than some
pub record PermitsBetween (area : Area) (image : List ℕ) : Type 0 where
  pub least : (n : ℕ) × (is_one_of n (length area.bytes ∷ area.lengths) ≡ true) × (n ≤ length image)
  pub greatest : (n : ℕ) × (is_one_of n (length area.bytes ∷ area.lengths) ≡ true) × (length image ≤ n)
  pub bytes : (i : ℕ) → i < length image → is_pending area i ≡ false → slice_get image i ≡ slice_get area.bytes i

abbrev pub TestBetweenSays : Type 0
TestBetweenSays = (area : Area) (image : List ℕ) → (may_become_between area image ≡ true) ↔ PermitsBetween area image

-- By the model's own test of an area, what a crash may leave is as the model has it.
abbrev pub ModelIsByItsTest : Type 0
ModelIsByItsTest = (first : Disk) (acts : List Act) (image : Image) → leaves_by may_become first acts image ≡ may_leave first acts image

-- All that the model permits, the test with lengths between permits too; and what it permits of an area besides has a length that the
-- area did not have.
abbrev pub BetweenIsMore : Type 0
BetweenIsMore = (disk : Disk) (image : Image) → may_hold disk image ≡ true → may_hold_between disk image ≡ true

abbrev pub OnlyLengthsAreMore : Type 0
OnlyLengthsAreMore =
    (area : Area) (image : List ℕ) → may_become_between area image ≡ true →
    is_one_of (length image) (length area.bytes ∷ area.lengths) ≡ true → may_become area image ≡ true

abbrev pub IsNoSync : Act → Type 0
IsNoSync (Synced area) = ⊥
IsNoSync act = Unit {0}

-- A byte that is not pending is as it was before the pending acts.
abbrev pub OthersAreAsBefore : Type 0
OthersAreAsBefore =
    (disk : Disk) (acts : List Act) (area i : ℕ) → Each IsNoSync acts → is_pending (area_at (after disk acts) area) i ≡ false →
    slice_get (area_at (after disk acts) area).bytes i ≡ slice_get (area_at disk area).bytes i

-- The acts of a run, of which the last may have failed: a store call of it, or a read at any place.
abbrev pub Fails : Act → Act → Type 0
Fails (Wrote area at bytes) act = act ≡ StoreFailed (WriteAt area at bytes)
Fails (Cut area len) act = act ≡ StoreFailed (CutTo area len)
Fails (Synced area) act = act ≡ StoreFailed (Sync area)
Fails other act = ⊥

abbrev pub IsReadFault : Act → Type 0
IsReadFault (StoreFailed (ReadAt area at room)) = Unit {0}
IsReadFault act = ⊥

-- a beginning of these acts, or one and then the failure of the next or of a read
abbrev pub IsCutShort : List Act → List Act → Type 0
IsCutShort acts [] = Unit {0}
IsCutShort [] (did ∷ more) = IsReadFault did × (more ≡ [])
IsCutShort (act ∷ acts) (did ∷ more) = ((did ≡ act) × IsCutShort acts more) ⊎ ((Fails act did ⊎ IsReadFault did) × (more ≡ []))

-- What a crash leaves after acts that were cut short, the whole acts may leave at that moment: after as many acts as were done, or
-- one less.
abbrev pub FaultsAddNothing : Crash → Type 0
FaultsAddNothing crash =
    (disk : Disk) (acts did : List Act) (image : Image) → IsCutShort acts did → leaves_by crash disk did image ≡ true →
    (n : ℕ) × ((n ≡ length did) ⊎ (suc n ≡ length did)) × (leaves_by crash disk (take n acts) image ≡ true)

-- A front of acts that were cut short is cut short itself.
abbrev pub FrontsAreCutShort : Type 0
FrontsAreCutShort = (acts did : List Act) (m : ℕ) → IsCutShort acts did → IsCutShort acts (take m did)

-- A call that failed may have done nothing.
abbrev pub FailureMayDoNothing : Crash → Type 0
FailureMayDoNothing crash =
    (call : StoreCall) (disk : Disk) (image : Image) → holds_by crash disk image ≡ true → holds_by crash (failed call disk) image ≡ true

-- An act that is no sync takes no image away. So what stood at the last sync is an image until the next.
abbrev pub ActsOnlyAdd : Crash → Type 0
ActsOnlyAdd crash =
    (disk : Disk) (acts : List Act) (image : Image) → Each IsNoSync acts → holds_by crash disk image ≡ true →
    leaves_by crash disk acts image ≡ true
