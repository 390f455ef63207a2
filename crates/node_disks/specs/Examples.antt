-- Areas on which a write is pending.
use Rattle.std.specs.Prelude.{ℕ, List, [], ◌∷◌}
use Rattle.disk.specs.Acts.{Wrote}
use Rattle.disk.specs.Disk.{Image}
use Rattle.disk.specs.Images.{Trail, followed, started}
use Rattle.act_disks.specs.NodeStores.{empty_areas}

-- one byte was written into slot 0 of empty areas; what is known is a number
abbrev pub after_a_write : ℕ × Trail
after_a_write = (7, followed (started empty_areas) (Wrote 0 0 (5 ∷ []) ∷ []))

-- these bytes of slot 0
abbrev pub left : List ℕ → Image
left bytes = record { slot0 = bytes; slot1 = []; selector = [] }
