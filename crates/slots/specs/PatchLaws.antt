-- A write into the slot that the selector names, as a journal's record and its gate are written.
use Rattle.std.specs.Prelude.{◌≡◌, ℕ, suc, ◌<◌, ◌≤◌, true, List, [], ◌∷◌, ◌++◌, length, take, drop, ◌⊎◌}
use Rattle.disk.specs.Acts.{Act, Wrote, Synced}
use Rattle.disk.specs.Areas.{area_at}
use Rattle.disk.specs.Disk.{Disk, Image, settled, overwritten, written, after}
use Rattle.disk.specs.Between.{Crash, leaves_by}
use Rattle.slots.specs.Opening.{Found, Is, named, OpensAs}
use Rattle.slots.specs.SavingLaws.{Rests}

abbrev pub patch_acts : ℕ → ℕ → List ℕ → List Act
patch_acts slot at bytes = Wrote slot at bytes ∷ Synced slot ∷ []

-- whatever a crash makes of these bytes while others are written over them, they are found to be one of two states
abbrev pub TornIsEither : Crash → {K : Type 0} → (List ℕ → Found K) → K → K → List ℕ → ℕ → List ℕ → Type 0
TornIsEither crash found old new slot at bytes =
    (torn : List ℕ) → crash (written at bytes (settled slot)) torn ≡ true → (found torn ≡ Is old) ⊎ (found torn ≡ Is new)

pub record Patched (crash : Crash) {K : Type 0} (found : List ℕ → Found K) (old new : K) (s : ℕ) (acts : List Act) (disk : Disk) : Type 0 where
  pub each : (n : ℕ) (image : Image) → leaves_by crash disk (take n acts) image ≡ true →
      OpensAs found old image ⊎ OpensAs found new image
  pub done : Rests found new s (after disk acts)

-- A patch that is harmless where it is torn leaves the old state or the new one at each moment.
abbrev pub PatchKeeps : Crash → Type 0 → Type 0
PatchKeeps crash K =
    (found : List ℕ → Found K) (disk : Disk) (s : ℕ) (old new : K) (at : ℕ) (bytes : List ℕ) → Rests found old s disk →
    TornIsEither crash found old new (area_at disk (named s)).bytes at bytes →
    found (overwritten (area_at disk (named s)).bytes at bytes) ≡ Is new →
    Patched crash found old new s (patch_acts (named s) at bytes) disk

-- A record after a closed gate: what stands in front of it stays.
abbrev pub FrontStays : Crash → Type 0
FrontStays crash =
    (slot : List ℕ) (at : ℕ) (bytes torn : List ℕ) (n : ℕ) → n ≤ at → n ≤ length slot →
    crash (written at bytes (settled slot)) torn ≡ true →
    take n torn ≡ take n slot

-- A gate: one byte may be any, and the rest stays.
abbrev pub GateIsTornAlone : Crash → Type 0
GateIsTornAlone crash =
    (slot : List ℕ) (at b : ℕ) (torn : List ℕ) → at < length slot → crash (written at (b ∷ []) (settled slot)) torn ≡ true →
    (v : ℕ) × (torn ≡ take at slot ++ v ∷ drop (suc at) slot)

-- So a record is harmless where only what stands in front of it counts,
abbrev pub RecordIsHarmless : Crash → Type 0 → Type 0
RecordIsHarmless crash K =
    (found : List ℕ → Found K) (kept : K) (slot : List ℕ) (at : ℕ) (bytes : List ℕ) (n : ℕ) → n ≤ at → n ≤ length slot →
    ((other : List ℕ) → take n other ≡ take n slot → found other ≡ Is kept) → TornIsEither crash found kept kept slot at bytes

-- and a gate where each byte there leaves the one state or the other.
abbrev pub GateIsEither : Crash → Type 0 → Type 0
GateIsEither crash K =
    (found : List ℕ → Found K) (old new : K) (slot : List ℕ) (at b : ℕ) → at < length slot →
    ((v : ℕ) → (found (take at slot ++ v ∷ drop (suc at) slot) ≡ Is old) ⊎ (found (take at slot ++ v ∷ drop (suc at) slot) ≡ Is new)) →
    TornIsEither crash found old new slot at (b ∷ [])
