-- Four images of each moment, by a word.
use Rattle.std.specs.Prelude.{◌≡◌, ℕ, zero, suc, ◌%◌, true, if◌then◌else◌, List, [], ◌∷◌}
use Rattle.disk.specs.Acts.{Act, Synced}
use Rattle.disk.specs.Areas.{area_at, changed, each}
use Rattle.disk.specs.Disk.{Area, Disk, Image, contents, effect, is_pending, may_leave}

-- a disk, and what stood on each area at its last sync
pub record Trail : Type 0 where
  pub disk : Disk
  pub stood : Image

-- before the first sync of an area, that is what it held at first
abbrev pub started : Disk → Trail
started disk = record { disk = disk; stood = contents disk }

abbrev pub stood_after : Act → Trail → Image
stood_after (Synced area) trail = changed trail.stood area (λ _. area_at (contents trail.disk) area)
stood_after act trail = trail.stood

abbrev pub follow : Act → Trail → Trail
follow act trail = record { disk = effect act trail.disk; stood = stood_after act trail }

abbrev pub followed : Trail → List Act → Trail
followed trail [] = trail
followed trail (act ∷ acts) = followed (follow act trail) acts

-- an area's bytes from the place i on, with this one in each place that is pending
abbrev pub torn_from : ℕ → Area → ℕ → List ℕ → List ℕ
torn_from byte area i [] = []
torn_from byte area i (x ∷ bytes) = (if is_pending area i then byte else x) ∷ torn_from byte area (suc i) bytes

abbrev pub torn : ℕ → Area → List ℕ
torn byte area = torn_from byte area 0 area.bytes

-- what stood at the last syncs, what a read gives, and the present lengths with `FF` or `00` in each place that is pending
abbrev pub image_of_kind : ℕ → Trail → Image
image_of_kind zero trail = trail.stood
image_of_kind (suc zero) trail = contents trail.disk
image_of_kind (suc (suc zero)) trail = each (torn 255) trail.disk
image_of_kind (suc (suc (suc n))) trail = each (torn 0) trail.disk

abbrev pub image_by_word : Disk → List Act → ℕ → Image
image_by_word first acts word = image_of_kind (word % 4) (followed (started first) acts)

-- Each is an image that a crash may leave.
abbrev pub WordsGiveImages : Type 0
WordsGiveImages = (first : Disk) (acts : List Act) (word : ℕ) → may_leave first acts (image_by_word first acts word) ≡ true
