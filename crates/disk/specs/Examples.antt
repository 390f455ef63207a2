-- Disks for examples: most with slot 0 alone.
use Rattle.std.specs.Prelude.{ℕ, Bool, List, [], ◌∷◌}
use Rattle.disk.specs.Acts.{Act}
use Rattle.disk.specs.Disk.{Area, Disk, settled, may_leave}
use Rattle.disk.specs.Between.{may_leave_between}
use Rattle.disk.specs.Images.{image_by_word}

-- a disk with this slot 0, the other areas being empty
abbrev pub on_slot : Area → Disk
on_slot area = record { slot0 = area; slot1 = settled []; selector = settled [] }

-- whether a crash after these acts may leave this image of slot 0, which was like this at first
abbrev pub leaves_from : Area → List Act → List ℕ → Bool
leaves_from area acts image = may_leave (on_slot area) acts (record { slot0 = image; slot1 = []; selector = [] })

-- the same where it held these bytes at first, with nothing pending
abbrev pub leaves : List ℕ → List Act → List ℕ → Bool
leaves first acts image = leaves_from (settled first) acts image

-- the same with lengths between
abbrev pub leaves_between : List ℕ → List Act → List ℕ → Bool
leaves_between first acts image =
    may_leave_between (on_slot (settled first)) acts (record { slot0 = image; slot1 = []; selector = [] })

-- the image of slot 0 by a word, after these acts
abbrev pub worded : List ℕ → List Act → ℕ → List ℕ
worded first acts word = (image_by_word (on_slot (settled first)) acts word).slot0

-- whether a crash after these acts may leave this image, where each area held one byte at first: 1, 2 and 3
abbrev pub leaves_all : List Act → List ℕ → List ℕ → List ℕ → Bool
leaves_all acts slot0 slot1 selector =
    may_leave (record { slot0 = settled (1 ∷ []); slot1 = settled (2 ∷ []); selector = settled (3 ∷ []) }) acts
    (record { slot0 = slot0; slot1 = slot1; selector = selector })
