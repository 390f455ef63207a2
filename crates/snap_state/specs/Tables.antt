-- The bytes of finite maps: the number of pairs in four bytes, and the pairs, in the order of their keys.
use Rattle.std.specs.Prelude.{ℕ, Bool, true, List, [], ◌∷◌, length, nat_le}
use Rattle.std.specs.FinMap.{FinMap, entries, from_entries, is_sorted}
use Rattle.std.specs.declared.cmp.Ordering.{Ordering}
use Rattle.std.specs.Ordering.{is_lt}
use Rattle.raft_types.specs.declared.limits.TheConstants.{MAX_INDEX}
use Rattle.wire_fields.specs.Fields.{number}
use Rattle.wire_fields.specs.Formats.{Format, keyed, listed, mapped, pair, tested}

-- how many parts a state may have: a log has so many entries, and none adds more than one
abbrev pub a_count : Format ℕ
a_count = number 4 0 MAX_INDEX

-- a state of at most so many parts
abbrev pub at_most : {S : Type 0} → (S → ℕ) → ℕ → Format S → Format S
at_most parts most f = tested (λ s. nat_le (parts s) most) f

-- whether a key stands before the first of these pairs
abbrev pub goes_first : {K X : Type 0} → (K → K → Ordering) → K → List (K × X) → Bool
goes_first R k [] = true
goes_first R k (e ∷ es) = is_lt (R k e.0)

module _ {K X : Type 0} (R : K → K → Ordering) where
  -- pairs after their number, of which each key is over the one before
  abbrev pub in_order : Format K → Format X → Format (List (K × X))
  in_order key value = tested (is_sorted R) (keyed length a_count (listed (pair key value)))

  -- the map of these pairs
  abbrev pub table : Format K → Format X → Format (FinMap R X)
  table key value = mapped from_entries entries (in_order key value)
