-- Ways to make a state durable within a turn.
use Rattle.std.specs.Prelude.{◌≡◌, ℕ, true, List, [], ◌++◌, take, ◌⊎◌}
use Rattle.disk.specs.Acts.{Act}
use Rattle.disk.specs.Disk.{Disk, Image, overwritten, after, may_become}
use Rattle.disk.specs.Between.{Crash, leaves_by}
use Rattle.disk.specs.Areas.{area_at}
use Rattle.slots.specs.Opening.{Found, Is, named, OpensAs}
use Rattle.slots.specs.Saving.{next, save_acts}
use Rattle.slots.specs.SavingLaws.{Rests}
use Rattle.slots.specs.PatchLaws.{patch_acts, TornIsEither}
use Rattle.slots.specs.Turns.{OnAreas}
use Rattle.lists.specs.Each.{Each}

-- Acts that make a state durable: at each moment of them the areas open as the old state or the new one, and in the end as the new
-- one, at rest. The acts of a save are such, and so are those of a patch.
pub record KeepsBy (crash : Crash) {K : Type 0} (found : List ℕ → Found K) (old new : K) (selector : ℕ) (acts : List Act) (disk : Disk) : Type 0 where
  pub each : (n : ℕ) (image : Image) → leaves_by crash disk (take n acts) image ≡ true →
      OpensAs found old image ⊎ OpensAs found new image
  pub done : Rests found new selector (after disk acts)
  pub only : Each OnAreas acts

-- as the model has it
abbrev pub Keeps : {K : Type 0} → (List ℕ → Found K) → K → K → ℕ → List Act → Disk → Type 0
Keeps found old new selector acts disk = KeepsBy may_become found old new selector acts disk

abbrev pub SaveIsSuch : Crash → Type 0 → Type 0
SaveIsSuch crash K =
    (found : List ℕ → Found K) (disk : Disk) (s : ℕ) (old new : K) (slot : List ℕ) → Rests found old s disk → found slot ≡ Is new →
    KeepsBy crash found old new (next s) (save_acts s slot) disk

abbrev pub PatchIsSuch : Crash → Type 0 → Type 0
PatchIsSuch crash K =
    (found : List ℕ → Found K) (disk : Disk) (s : ℕ) (old new : K) (at : ℕ) (bytes : List ℕ) → Rests found old s disk →
    TornIsEither crash found old new (area_at disk (named s)).bytes at bytes →
    found (overwritten (area_at disk (named s)).bytes at bytes) ≡ Is new →
    KeepsBy crash found old new s (patch_acts (named s) at bytes) disk

-- no act, where nothing is new
abbrev pub NothingIsSuch : Crash → Type 0 → Type 0
NothingIsSuch crash K =
    (found : List ℕ → Found K) (disk : Disk) (s : ℕ) (kept : K) → Rests found kept s disk → KeepsBy crash found kept kept s [] disk

-- acts that change nothing that counts, and then others: a record, and then its gate
abbrev pub BothAreSuch : Crash → Type 0 → Type 0
BothAreSuch crash K =
    (found : List ℕ → Found K) (disk : Disk) (s t : ℕ) (old new : K) (first second : List Act) → KeepsBy crash found old old s first disk →
    KeepsBy crash found old new t second (after disk first) → KeepsBy crash found old new t (first ++ second) disk
