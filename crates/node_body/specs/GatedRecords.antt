-- A journal by the list of its records: each after an open gate, and then a closed gate, which hides what stands after it.
use Rattle.std.specs.Prelude.{◌≡◌, ℕ, ◌-◌, ◌≤◌, nat_le, true, false, List, [], ◌∷◌, ◌++◌, length, Some}
use Rattle.raft_types.specs.Messages.{KeptView}
use Rattle.wire_fields.specs.Formats.{Format}
use Rattle.node_body.specs.Journals.{from_gate, is_closed, journal_as, patched}
use Rattle.node_body.specs.declared.journal.Journal.{Journal}
use Rattle.node_body.specs.declared.records.Record.{Record}

-- the bytes of gates and records
abbrev pub spell_gated : {C : Type 0} → Format (Record C) → List (ℕ × Record C) → List ℕ
spell_gated f [] = []
spell_gated f (p ∷ ps) = p.0 ∷ (f.spell p.1 ++ spell_gated f ps)

-- an open gate, and a record that has bytes and keeps no more entries than there are
pub record IsGated {C : Type 0} (f : Format (Record C)) (k : KeptView C) (gate : ℕ) (r : Record C) : Type 0 where
  pub odd : is_closed gate ≡ false
  pub fits : f.Fits r
  pub keeps : nat_le r.keep (length k.log) ≡ true

-- each of them, in the state that those before it make
abbrev pub AreGated : {C : Type 0} → Format (Record C) → KeptView C → List (ℕ × Record C) → Type 0
AreGated f k [] = Unit {0}
AreGated f k (p ∷ ps) = IsGated f k p.0 p.1 × AreGated f (patched p.1 k) ps

-- the state that they make
abbrev pub patched_by : {C : Type 0} → KeptView C → List (ℕ × Record C) → KeptView C
patched_by k [] = k
patched_by k (p ∷ ps) = patched_by (patched p.1 k) ps

-- These bytes are at most so many records, from a gate on, and the journal is what they make of a state.
pub record HoldsRecords {C : Type 0} (f : Format (Record C)) (n : ℕ) (k : KeptView C) (bs : List ℕ) (j : Journal C) : Type 0 where
  pub gated : List (ℕ × Record C)
  pub last : ℕ  -- the closed gate
  pub hidden : List ℕ
  pub are : AreGated f k gated
  pub few : length gated ≤ n
  pub closed : is_closed last ≡ true
  pub bytes : bs ≡ spell_gated f gated ++ last ∷ hidden
  pub found : j ≡ journal_as (patched_by k gated) (n - length gated) (length hidden)

-- Such bytes are followed to that journal.
abbrev pub RecordsAreFound : {C : Type 0} → Format (Record C) → Type 0
RecordsAreFound {C} f = (n : ℕ) (k : KeptView C) (bs : List ℕ) (j : Journal C) → HoldsRecords f n k bs j → from_gate f n k bs ≡ Some j

-- And no others are.
abbrev pub RecordsAlone : {C : Type 0} → Format (Record C) → Type 0
RecordsAlone {C} f = (n : ℕ) (k : KeptView C) (bs : List ℕ) (j : Journal C) → from_gate f n k bs ≡ Some j → HoldsRecords f n k bs j
