-- What contracts see of areas with what is pending on them.
use Rattle.std.specs.Prelude.{◌≡◌, ℕ, ◌+◌, ◌<◌, Bool, false, ◌&&◌, ◌||◌, nat_le, nat_lt, List, [], ◌∷◌, length, map, reverse, take, Option, Some, None}
use Rattle.disk.specs.Acts.{Act}
use Rattle.disk.specs.Disk.{Area, Image, overwritten, resized}
use Rattle.disk.specs.Images.{Trail, followed}
use Rattle.store_acts.specs.declared.images.Image as left
use Rattle.store_acts.specs.declared.pending_area.PendingArea.{PendingArea}
use Rattle.store_acts.specs.declared.pending_area.Undo.{Undo}
use Rattle.store_acts.specs.declared.pending_areas.PendingAreas.{PendingAreas}

-- the bytes from before a pending act, and from before all of these, the last of them first
abbrev pub undone : Undo → List ℕ → List ℕ
undone undo bytes = resized undo.len (overwritten bytes undo.at undo.over.items)

abbrev pub all_undone : List Undo → List ℕ → List ℕ
all_undone [] bytes = bytes
all_undone (undo ∷ undos) bytes = all_undone undos (undone undo bytes)

-- the ranges of the writes among pending acts
abbrev pub with_range : ℕ → Option ℕ → List (ℕ × ℕ) → List (ℕ × ℕ)
with_range at None ranges = ranges
with_range at (Some n) ranges = (at, n) ∷ ranges

abbrev pub ranges_of : List Undo → List (ℕ × ℕ)
ranges_of [] = []
ranges_of (undo ∷ undos) = with_range undo.at undo.wrote (ranges_of undos)

-- its pending acts, the last of them first
abbrev pub last_first : PendingArea → List Undo
last_first area = reverse area.undos.items

abbrev pub area_of : PendingArea → Area
area_of area = record {
  bytes = area.bytes.items;
  ranges = ranges_of (last_first area);
  lengths = map (λ (undo : Undo). undo.len) (last_first area);
}

-- whether a crash may leave any byte at a place because of a pending act
abbrev pub wrote_at : ℕ → Option ℕ → ℕ → Bool
wrote_at at None i = false
wrote_at at (Some n) i = nat_le at i && nat_lt i (at + n)

abbrev pub reaches : Undo → ℕ → Bool
reaches undo i = nat_le undo.len i || wrote_at undo.at undo.wrote i

-- what stood on it at its last sync
abbrev pub stood_of : PendingArea → List ℕ
stood_of area = all_undone (last_first area) area.bytes.items

abbrev pub trail_of : PendingAreas → Trail
trail_of areas = record {
  disk = record { slot0 = area_of areas.slot0; slot1 = area_of areas.slot1; selector = area_of areas.selector };
  stood = record { slot0 = stood_of areas.slot0; slot1 = stood_of areas.slot1; selector = stood_of areas.selector };
}

-- a first part of the acts is done, and nothing of the others
abbrev pub FirstDone : Trail → List Act → Trail → Type 0
FirstDone old acts new = (n : ℕ) × (n < length acts) × (new ≡ followed old (take n acts))

abbrev pub image_of : left.Image → Image
image_of image = record { slot0 = image.slot0.items; slot1 = image.slot1.items; selector = image.selector.items }
