-- Pending acts whose vectors are any that hold these bytes.
use Rattle.std.specs.Prelude.{◌≡◌, ℕ, Bool, List, ◌∷◌, [], Option}
use Rattle.std.specs.Global.{Vec}
use Rattle.store_acts.specs.PendingAreas.{all_undone, ranges_of, reaches, undone}
use Rattle.store_acts.specs.declared.pending_area.Undo.{Undo}

-- an act before which there were so many bytes, and after which some no longer stand at a place
abbrev pub undo_of : ℕ → ℕ → Option ℕ → Vec ℕ → Undo
undo_of len at wrote over = record { len = len; at = at; over = over; wrote = wrote }

-- it is taken back to these bytes
abbrev pub takes_back : ℕ → ℕ → List ℕ → List ℕ → List ℕ → Type 0
takes_back len at stood now before =
    (over : Vec ℕ) (wrote : Option ℕ) → over.items ≡ stood → undone (undo_of len at wrote over) now ≡ before

-- a cut of three bytes to one, and then a write of one byte at place 1, taken back
abbrev pub both_taken_back : List ℕ → List ℕ → Type 0
both_taken_back now before =
    (none cut : Vec ℕ) (wrote : Option ℕ) → none.items ≡ [] → cut.items ≡ 2 ∷ 3 ∷ [] →
    all_undone (undo_of 1 1 wrote none ∷ undo_of 3 1 wrote cut ∷ []) now ≡ before

-- the range of an act at a place, and whether it reaches another
abbrev pub has_range : ℕ → Option ℕ → List (ℕ × ℕ) → Type 0
has_range at wrote ranges = (len : ℕ) (over : Vec ℕ) → ranges_of (undo_of len at wrote over ∷ []) ≡ ranges

abbrev pub reaches_so : ℕ → ℕ → Option ℕ → ℕ → Bool → Type 0
reaches_so len at wrote place so = (over : Vec ℕ) → reaches (undo_of len at wrote over) place ≡ so
