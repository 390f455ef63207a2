-- The bytes of the slot that is named, at rest, after a save and after a patch.
use Rattle.std.proofs.Common.{◌≡◌, ℕ, List, [], ◌∷◌, sym, ap, ◌∙◌, refl}
use Rattle.disk.specs.Areas.{area_at}
use Rattle.disk.specs.Disk.{Disk, NothingPending, contents, overwritten, after}
use Rattle.slots.specs.Opening.{Found, Is, named}
use Rattle.slots.specs.Saving.{next, save_acts}
use Rattle.slots.specs.SavingLaws.{Rests}
use Rattle.slots.specs.PatchLaws.{patch_acts}
use Rattle.slots.proofs.Images.{held_from, held_parts, contents_at}
use Rattle.slots.proofs.Patching.{patch_done}
use Rattle.slots.proofs.Saves.{save_done}

-- a slot that is found to be its bytes
abbrev pub as_bytes : List ℕ → Found (List ℕ)
as_bytes bytes = Is bytes

pub bytes_rest : (disk : Disk) (s : ℕ) → NothingPending disk → disk.selector.bytes ≡ s ∷ [] → Rests as_bytes (area_at disk (named s)).bytes s disk
bytes_rest disk s p e = record {
  pending = p;
  opens = held_from as_bytes (contents disk) (area_at disk (named s)).bytes s e (ap Is (contents_at disk (named s)));
}

pub resting_selector : (bytes : List ℕ) (s : ℕ) (disk : Disk) → Rests as_bytes bytes s disk → disk.selector.bytes ≡ s ∷ []
resting_selector bytes s disk r = (held_parts as_bytes (contents disk) bytes s r.opens).0

same_is : (xs ys : List ℕ) → as_bytes xs ≡ Is ys → xs ≡ ys
same_is xs ys e = cc e

pub resting_bytes : (bytes : List ℕ) (s : ℕ) (disk : Disk) → Rests as_bytes bytes s disk → (area_at disk (named s)).bytes ≡ bytes
resting_bytes bytes s disk r =
    sym (contents_at disk (named s)) ∙ same_is _ bytes (held_parts as_bytes (contents disk) bytes s r.opens).1

pub after_save : (disk : Disk) (s : ℕ) (bytes : List ℕ) → NothingPending disk → disk.selector.bytes ≡ s ∷ [] →
    Rests as_bytes bytes (next s) (after disk (save_acts s bytes))
after_save disk s bytes p e = save_done as_bytes disk s bytes bytes (record { pending = p; selector = e }) refl

pub after_patch : (disk : Disk) (s : ℕ) (old : List ℕ) (at : ℕ) (bytes : List ℕ) → Rests as_bytes old s disk →
    Rests as_bytes (overwritten old at bytes) s (after disk (patch_acts (named s) at bytes))
after_patch disk s old at bytes r =
    patch_done as_bytes disk s old (overwritten old at bytes) at bytes r
    (ap (λ x. as_bytes (overwritten x at bytes)) (resting_bytes old s disk r))
