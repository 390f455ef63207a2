-- What a crash may leave where an area's length may be between two of those that it had, as file systems leave it that allocate late,
-- or that are full. The model's own test stands beside this one, and the laws take either.
use Rattle.std.specs.Prelude.{ℕ, max, Bool, ◌&&◌, nat_le, List, [], ◌∷◌, length}
use Rattle.disk.specs.Acts.{Act}
use Rattle.disk.specs.Disk.{Area, Disk, Image, after, least, agrees}

-- a test of what a crash may make of one area
abbrev pub Crash : Type 0
Crash = Area → List ℕ → Bool

-- what such a crash may make of three areas, and what it may leave after these acts
abbrev pub holds_by : Crash → Disk → Image → Bool
holds_by crash disk image = crash disk.slot0 image.slot0 && (crash disk.slot1 image.slot1 && crash disk.selector image.selector)

abbrev pub leaves_by : Crash → Disk → List Act → Image → Bool
leaves_by crash first acts image = holds_by crash (after first acts) image

-- the greatest length that the area has and had since its last sync
abbrev pub greatest : ℕ → List ℕ → ℕ
greatest n [] = n
greatest n (m ∷ lengths) = max m (greatest n lengths)

-- the bytes as in `may_become`, and any length from the least to the greatest
abbrev pub may_become_between : Crash
may_become_between area image =
    nat_le (least (length area.bytes) area.lengths) (length image)
    && (nat_le (length image) (greatest (length area.bytes) area.lengths) && agrees area 0 area.bytes image)

abbrev pub may_hold_between : Disk → Image → Bool
may_hold_between disk image = holds_by may_become_between disk image

abbrev pub may_leave_between : Disk → List Act → Image → Bool
may_leave_between first acts image = leaves_by may_become_between first acts image
