-- The acts that save a state, and those that open the areas.
use Rattle.std.specs.Prelude.{ℕ, ◌+◌, ◌%◌, List, [], ◌∷◌, ◌++◌, length}
use Rattle.disk.specs.Acts.{Act, Wrote, Cut, Synced}
use Rattle.slots.specs.Opening.{other}

abbrev pub next : ℕ → ℕ
next s = (s + 1) % 256

abbrev pub slot_acts : ℕ → List ℕ → List Act
slot_acts slot bytes = Wrote slot 0 bytes ∷ Cut slot (length bytes) ∷ Synced slot ∷ []

abbrev pub flip_acts : ℕ → List Act
flip_acts s = Wrote 2 0 (s ∷ []) ∷ Synced 2 ∷ []

-- saving a slot's bytes where the areas open under the selector s
abbrev pub save_acts : ℕ → List ℕ → List Act
save_acts s bytes = slot_acts (other s) bytes ++ flip_acts (next s)

abbrev pub sync_acts : List Act
sync_acts = Synced 0 ∷ Synced 1 ∷ Synced 2 ∷ []

abbrev pub fresh_acts : List ℕ → List Act
fresh_acts first = slot_acts 0 first ++ (slot_acts 1 first ++ flip_acts 0)

-- opening, by what area 2 reads as; `first` is the slot of the first state
abbrev pub open_acts : List ℕ → List ℕ → List Act
open_acts [] first = sync_acts ++ fresh_acts first
open_acts (s ∷ rest) first = sync_acts

-- opening a slot of an older form, whose state is then saved in these bytes
abbrev pub move_acts : ℕ → List ℕ → List Act
move_acts s bytes = sync_acts ++ save_acts s bytes
