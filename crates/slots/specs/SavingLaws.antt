-- What a crash leaves, at each moment of a save and of an opening, by either test of what it may make of an area.
use Rattle.std.specs.Prelude.{◌≡◌, ◌≢◌, ℕ, ◌≤◌, true, List, [], ◌∷◌, length, take, ◌⊎◌}
use Rattle.disk.specs.Acts.{Act}
use Rattle.disk.specs.Disk.{Disk, Image, contents, NothingPending, after}
use Rattle.disk.specs.Between.{Crash, holds_by, leaves_by}
use Rattle.disk.specs.DiskLaws.{IsCutShort}
use Rattle.slots.specs.Opening.{Found, Is, Fresh, Held, opening, OpensAs}
use Rattle.slots.specs.Saving.{next, save_acts, sync_acts, open_acts, move_acts}

-- nothing is pending, and the areas open as this state under this selector
pub record Rests {K : Type 0} (found : List ℕ → Found K) (kept : K) (s : ℕ) (disk : Disk) : Type 0 where
  pub pending : NothingPending disk
  pub opens : opening found (contents disk) ≡ Held kept s

pub record Saved (crash : Crash) {K : Type 0} (found : List ℕ → Found K) (old new : K) (s : ℕ) (acts : List Act) (disk : Disk) : Type 0 where
  -- while the other slot is written, cut and synced: as before
  pub slot : (n : ℕ) (image : Image) → n ≤ 3 → leaves_by crash disk (take n acts) image ≡ true → opening found image ≡ Held old s
  -- from then on, while the selector's byte may be torn: as either
  pub flip : (n : ℕ) (image : Image) → leaves_by crash disk (take n acts) image ≡ true →
      OpensAs found old image ⊎ OpensAs found new image
  -- the same where a fault cuts the save short
  pub short : (did : List Act) (image : Image) → IsCutShort acts did → leaves_by crash disk did image ≡ true →
      OpensAs found old image ⊎ OpensAs found new image
  -- in the end as the new one, for good
  pub done : Rests found new (next s) (after disk acts)

abbrev pub SaveKeeps : Crash → Type 0 → Type 0
SaveKeeps crash K =
    (found : List ℕ → Found K) (disk : Disk) (s : ℕ) (old new : K) (bytes : List ℕ) → Rests found old s disk → found bytes ≡ Is new →
    Saved crash found old new s (save_acts s bytes) disk

-- nothing is pending, and area 2 holds this selector
pub record Ready (s : ℕ) (disk : Disk) : Type 0 where
  pub pending : NothingPending disk
  pub selector : disk.selector.bytes ≡ s ∷ []

-- What opened as a state, at rest, is ready for a save.
abbrev pub RestsIsReady : Type 0 → Type 0
RestsIsReady K = (found : List ℕ → Found K) (kept : K) (s : ℕ) (disk : Disk) → Rests found kept s disk → Ready s disk

-- After a save the areas open as what was saved, whatever the slots held before.
abbrev pub SaveDone : Type 0 → Type 0
SaveDone K =
    (found : List ℕ → Found K) (disk : Disk) (s : ℕ) (new : K) (bytes : List ℕ) → Ready s disk → found bytes ≡ Is new →
    Rests found new (next s) (after disk (save_acts s bytes))

-- An opening that a fault cut short did at most three acts, or the three syncs first. In the one case there is no new image, and in
-- the other each is as from the third sync on.
pub record Interrupted (crash : Crash) (acts : List Act) (disk : Disk) (Stays : Image → Type 0) : Type 0 where
  pub places : (did : List Act) → IsCutShort acts did → (length did ≤ 3) ⊎ (take 3 did ≡ sync_acts)
  pub before : (did : List Act) (image : Image) → IsCutShort acts did → length did ≤ 3 → leaves_by crash disk did image ≡ true →
      holds_by crash disk image ≡ true
  pub stays : (did : List Act) (image : Image) → IsCutShort acts did → take 3 did ≡ sync_acts → leaves_by crash disk did image ≡ true →
      Stays image

-- what was read, or where area 2 was empty what opens as fresh or as the first state
pub record StaysFound {K : Type 0} (found : List ℕ → Found K) (first : K) (disk : Disk) (image : Image) : Type 0 where
  pub held : disk.selector.bytes ≢ [] → image ≡ contents disk
  pub fresh : disk.selector.bytes ≡ [] → (opening found image ≡ Fresh) ⊎ OpensAs found first image

-- Opening, whatever is pending at first.
pub record Opens (crash : Crash) {K : Type 0} (found : List ℕ → Found K) (first : K) (acts : List Act) (disk : Disk) : Type 0 where
  -- before the third sync has succeeded nothing is written or cut, and there is no new image
  pub syncs : take 3 acts ≡ sync_acts
  pub before : (n : ℕ) (image : Image) → n ≤ 3 → leaves_by crash disk (take n acts) image ≡ true → holds_by crash disk image ≡ true
  -- from then on each image is what was read
  pub found_stays : disk.selector.bytes ≢ [] → (n : ℕ) (image : Image) → 3 ≤ n → leaves_by crash disk (take n acts) image ≡ true →
      image ≡ contents disk
  pub found_done : (kept : K) (s : ℕ) → opening found (contents disk) ≡ Held kept s → Rests found kept s (after disk acts)
  -- where area 2 was empty, each opens as fresh or as the first state
  pub fresh : disk.selector.bytes ≡ [] → (n : ℕ) (image : Image) → 3 ≤ n → leaves_by crash disk (take n acts) image ≡ true →
      (opening found image ≡ Fresh) ⊎ OpensAs found first image
  pub fresh_done : disk.selector.bytes ≡ [] → Rests found first 0 (after disk acts)
  -- the same where a fault cuts the opening short
  pub short : Interrupted crash acts disk (λ image. StaysFound found first disk image)

abbrev pub OpenKeeps : Crash → Type 0 → Type 0
OpenKeeps crash K =
    (found : List ℕ → Found K) (disk : Disk) (first : K) (bytes : List ℕ) → (disk.selector.bytes ≡ [] → found bytes ≡ Is first) →
    Opens crash found first (open_acts disk.selector.bytes bytes) disk

-- Opening a slot of an older form.
pub record Moves (crash : Crash) {K : Type 0} (found : List ℕ → Found K) (kept : K) (s : ℕ) (acts : List Act) (disk : Disk) : Type 0 where
  pub syncs : take 3 acts ≡ sync_acts
  pub before : (n : ℕ) (image : Image) → n ≤ 3 → leaves_by crash disk (take n acts) image ≡ true → holds_by crash disk image ≡ true
  -- from the third sync on each image opens as what was found
  pub stays : (n : ℕ) (image : Image) → 3 ≤ n → leaves_by crash disk (take n acts) image ≡ true → OpensAs found kept image
  -- the same where a fault cuts it short
  pub short : Interrupted crash acts disk (λ image. OpensAs found kept image)
  pub done : Rests found kept (next s) (after disk acts)

abbrev pub MoveKeeps : Crash → Type 0 → Type 0
MoveKeeps crash K =
    (found : List ℕ → Found K) (disk : Disk) (s : ℕ) (kept : K) (bytes : List ℕ) → opening found (contents disk) ≡ Held kept s →
    found bytes ≡ Is kept → Moves crash found kept s (move_acts s bytes) disk
