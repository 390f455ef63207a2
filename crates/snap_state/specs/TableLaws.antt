-- Each finite map has one spelling, and what is read of it piece by piece.
use Rattle.std.proofs.Common.{◌≡◌, ◌<◌, ◌≤◌, ℕ, Bool, true, false, ◌&&◌, List, [], ◌∷◌, ◌++◌, length, slice_get, Option, Some, None, nat_le, refl, sym, ap, subst, ◌∙◌, lit<, T, map, if◌then◌else◌, arith}
use Rattle.std.proofs.lemmas.Bool.Decides.{nat_tests}
use Rattle.std.specs.List.{AllByRecursion}
use Rattle.std.specs.List.Sorted.{IsStrictlySortedBy}
use Rattle.std.specs.Cmp.{IsTotalOrder}
use Rattle.std.specs.BTreeMap.{insert_entry}
use Rattle.std.specs.FinMap.{FinMap, empty, entries, entries_sorted, entries-insert, from_entries, is_sorted, len-empty, len-entries, put, same_entries_map}
use Rattle.std.specs.FinMap.Entries.{below_all, by_order}
use Rattle.std.specs.declared.cmp.Ordering.{Ordering}
use Rattle.std.specs.declared.cmp.Ordering.TheVariants.{Less, Equal, Greater}
use Rattle.std.specs.Ordering.{is_lt, match_ordering}
use Rattle.std.proofs.lemmas.Option.{same_Some}
use Rattle.raft_types.specs.declared.limits.TheConstants.{MAX_INDEX}
use Rattle.wire_fields.specs.FieldLaws.{number_is_format}
use Rattle.wire_fields.specs.FormatLaws.{both_read, keyed_is_format, listed_is_format, pair_is_format, same_answer, tested_is_format}
use Rattle.wire_fields.specs.Formats.{Format, IsFormat, IsSpelled, and_then, keyed, listed, pair}
use Rattle.snap_state.specs.Tables.{a_count, at_most, goes_first, in_order, table}

pub a_count_is_format : IsFormat a_count
a_count_is_format = number_is_format 4 0 MAX_INDEX (lit< tt)

pub at_most_is_format : {S : Type 0} (parts : S → ℕ) (most : ℕ) (f : Format S) → IsFormat f → IsFormat (at_most parts most f)
at_most_is_format parts most f is_f = tested_is_format _ f is_f

-- of two tests that both pass
passes_first : (b c : Bool) → T (b && c) → T b
passes_first true c t = tt
passes_first false c t = absurd t

passes_second : (b c : Bool) → T (b && c) → T c
passes_second true c t = t
passes_second false c t = absurd t

both : (b c : Bool) → T b → T c → T (b && c)
both true c s t = t
both false c s t = absurd s

is_true : (b : Bool) → T b → b ≡ true
is_true true t = refl
is_true false t = absurd t

is_less : (r : Ordering) → T (is_lt r) → r ≡ Less
is_less Less t = refl
is_less Equal t = absurd t
is_less Greater t = absurd t

none_there : {A : Type 0} (xs : List A) → length xs ≡ 0 → xs ≡ []
none_there [] e = refl
none_there (x ∷ xs) e = absurd (omega (arith, e))

module _ {K X : Type 0} (R : K → K → Ordering) where
  -- a pair whose key is below all others stands in front of them
  put_front : (k : K) (v : X) (es : List (K × X)) → T (below_all R k es) → put R k v es ≡ (k, v) ∷ es
  put_front k v [] below = refl
  put_front k v (e ∷ es) below = by (R k e.0) below
    where
      by : (r : Ordering) → T (is_lt r && below_all R k es) → by_order r ((k, v) ∷ e ∷ es) ((e.0, v) ∷ es) (e ∷ put R k v es) ≡ (k, v) ∷ e ∷ es
      by Less b = refl
      by Equal b = absurd b
      by Greater b = absurd b

  no_entries : entries (empty {X = X} {R = R}) ≡ []
  no_entries = none_there (entries (empty {X = X} {R = R})) (sym (len-entries (empty {X = X} {R = R})) ∙ len-empty R X)

  module _ (o : IsTotalOrder R) where
    -- pairs in order are those of their map
    pub entries_of : (es : List (K × X)) → T (is_sorted R es) → entries (from_entries {R = R} es) ≡ es
    entries_of [] sorted = no_entries
    entries_of (e ∷ es) sorted =
        entries-insert o (from_entries {R = R} es) e.0 e.1 ∙ ap (put R e.0 e.1) (entries_of es (passes_second (below_all R e.0 es) (is_sorted R es) sorted))
        ∙ put_front e.0 e.1 es (passes_first (below_all R e.0 es) (is_sorted R es) sorted)

    pub map_of_its_entries : (m : FinMap R X) → from_entries {R = R} (entries m) ≡ m
    map_of_its_entries m = same_entries_map (from_entries {R = R} (entries m)) m (entries_of (entries m) (entries_sorted m))

    -- one more key in front, which is below the first
    below_rest : (k l : K) (es : List (K × X)) → R k l ≡ Less → T (below_all R l es) → T (below_all R k es)
    below_rest k l [] less below = tt
    below_rest k l (e ∷ es) less below =
        let first : R l e.0 ≡ Less = is_less (R l e.0) (passes_first (is_lt (R l e.0)) (below_all R l es) below) in
        both (is_lt (R k e.0)) (below_all R k es) (subst (λ r. T (is_lt r)) (sym (o.trans k l e.0 less first)) tt) (below_rest k l es less (passes_second (is_lt (R l e.0)) (below_all R l es) below))

    pub stands_first : (k : K) (v : X) (es : List (K × X)) → goes_first R k es ≡ true → is_sorted R es ≡ true → (insert_entry R es k v ≡ (k, v) ∷ es) × (is_sorted R ((k, v) ∷ es) ≡ true)
    stands_first k v [] first sorted = (refl, refl)
    stands_first k v (e ∷ es) first sorted =
        let less : R k e.0 ≡ Less = is_less (R k e.0) (subst T (sym first) tt) in
        let below : T (below_all R k es) = below_rest k e.0 es less (passes_first (below_all R e.0 es) (is_sorted R es) (subst T (sym sorted) tt)) in (
          ap (λ r. match_ordering r ((k, v) ∷ e ∷ es) ((e.0, v) ∷ es) (e ∷ insert_entry R es k v)) less,
          ap (λ b. b && is_sorted R (e ∷ es)) (ap (λ b. b && below_all R k es) (first) ∙ is_true (below_all R k es) below) ∙ sorted,
        )

  sorted_back : (xs ys : List (K × X)) → T (is_sorted R (xs ++ ys)) → T (is_sorted R ys)
  sorted_back [] ys sorted = sorted
  sorted_back (x ∷ xs) ys sorted = sorted_back xs ys (passes_second (below_all R x.0 (xs ++ ys)) (is_sorted R (xs ++ ys)) sorted)

  first_goes : (k : K) (v : X) (es : List (K × X)) → T (is_sorted R ((k, v) ∷ es)) → T (goes_first R k es)
  first_goes k v [] sorted = tt
  first_goes k v (e ∷ es) sorted =
      passes_first (is_lt (R k e.0)) (below_all R k es) (passes_first (is_lt (R k e.0) && below_all R k es) (is_sorted R (e ∷ es)) sorted)

  -- a key that does not go first is out of order
  pub out_of_order : (xs : List (K × X)) (k : K) (v : X) (es : List (K × X)) → goes_first R k es ≡ false → is_sorted R (xs ++ (k, v) ∷ es) ≡ false
  out_of_order xs k v es first = by (is_sorted R (xs ++ (k, v) ∷ es)) (λ sorted. subst T first (first_goes k v es (sorted_back xs ((k, v) ∷ es) sorted)))
    where
      by : (b : Bool) → (T b → ⊥) → b ≡ false
      by true never = absurd (never tt)
      by false never = refl

  pub first_there : (k l : K) (v : X) (es : List (K × X)) → slice_get es 0 ≡ Some (l, v) → goes_first R k es ≡ is_lt (R k l)
  first_there k l v [] there = cc (there)
  first_there k l v (e ∷ es) there = ap (λ (p : K × X). is_lt (R k p.0)) (same_Some e (l, v) there)

  pub none_before : (k : K) (es : List (K × X)) → ¬ (0 < length es) → goes_first R k es ≡ true
  none_before k [] none = refl
  none_before k (e ∷ es) none = absurd (none (omega arith))

-- what is read of pairs piece by piece
module _ {K X : Type 0} (R : K → K → Ordering) (key : Format K) (value : Format X) (most : ℕ) where
  abbrev f : Format (List (K × X))
  f = at_most length most (in_order R key value)

  pub none_counted : (bs : List ℕ) → a_count.read bs ≡ None → f.read bs ≡ None
  none_counted bs none = rw none refl

  pub none_listed : (bs : List ℕ) (n : ℕ) (between : List ℕ) → a_count.read bs ≡ Some (n, between) → (listed (pair key value) n).read between ≡ None → f.read bs ≡ None
  none_listed bs n between counted none = rw (counted, none) refl

  pub none_sorted : (bs : List ℕ) (n : ℕ) (between : List ℕ) (v : List (K × X)) (rest : List ℕ) → a_count.read bs ≡ Some (n, between) → (listed (pair key value) n).read between ≡ Some (v, rest) → is_sorted R v ≡ false → f.read bs ≡ None
  none_sorted bs n between v rest counted found not = rw (counted, found, not) refl

  pub all_listed : (bs : List ℕ) (n : ℕ) (between : List ℕ) (v es : List (K × X)) (rest : List ℕ) → a_count.read bs ≡ Some (n, between) → (listed (pair key value) n).read between ≡ Some (v, rest) → length v ≡ n → n ≤ most
      → es ≡ v → is_sorted R v ≡ true → f.read bs ≡ Some (es, rest)
  all_listed bs n between v es rest counted found long fits is sorted =
      let few : nat_le (length v) most ≡ true = grind (arith, nat_tests) in
      let all : f.read bs ≡ Some (v, rest) = rw (counted, found, sorted, few) refl in
      all ∙ ap (λ xs. let there : Option (List (K × X) × List ℕ) = Some (xs, rest) in there) (sym is)

  -- more pairs than may be
  pub none_few : IsFormat key → IsFormat value → (bs : List ℕ) (n : ℕ) (between : List ℕ) → a_count.read bs ≡ Some (n, between) → most < n → f.read bs ≡ None
  none_few is_key is_value bs n between counted over = rw counted (by ((listed (pair key value) n).read between) refl)
    where
      kept : List (K × X) → List ℕ → Option (List (K × X) × List ℕ)
      kept v rest = if is_sorted R v then Some (v, rest) else None

      few : List (K × X) → List ℕ → Option (List (K × X) × List ℕ)
      few v rest = if nat_le (length v) most then Some (v, rest) else None

      by_test : (b : Bool) (v : List (K × X)) (rest : List ℕ) → most < length v → and_then (if b then Some (v, rest) else None) few ≡ None
      by_test false v rest long = refl
      by_test true v rest long = let none : nat_le (length v) most ≡ false = grind (arith, nat_tests) in ap (λ c. let there : Option (List (K × X) × List ℕ) = Some (v, rest) in if c then there else None) none

      by : (o : Option (List (K × X) × List ℕ)) → (listed (pair key value) n).read between ≡ o → and_then (and_then o kept) few ≡ None
      by None is = refl
      by (Some (v, rest)) is =
          let long : length v ≡ n = ((listed_is_format (pair key value) (pair_is_format key value is_key is_value) n).one_spelling between v rest is).fits.0 in
          by_test (is_sorted R v) v rest (omega (arith, long, over))

-- in which order the keys of a tree are
module _ {K X : Type 0} (R : K → K → Ordering) where
  below_keys : (k : K) (es : List (K × X)) → AllByRecursion (λ l. R k l ≡ Less) (map (λ e. e.0) es) → T (below_all R k es)
  below_keys k [] all = tt
  below_keys k (e ∷ es) all = both (is_lt (R k e.0)) (below_all R k es) (subst (λ r. T (is_lt r)) (sym all.0) tt) (below_keys k es all.1)

  ascending : (es : List (K × X)) → IsStrictlySortedBy R (map (λ e. e.0) es) → T (is_sorted R es)
  unfolding IsStrictlySortedBy
  ascending [] ascend = tt
  ascending (e ∷ es) ascend = both (below_all R e.0 es) (is_sorted R es) (below_keys e.0 es ascend.0) (ascending es ascend.1)

  pub in_its_order : (es : List (K × X)) → IsStrictlySortedBy R (map (λ e. e.0) es) → is_sorted R es ≡ true
  in_its_order es ascend = is_true (is_sorted R es) (ascending es ascend)

module _ {K X : Type 0} (R : K → K → Ordering) (o : IsTotalOrder R) (key : Format K) (value : Format X) (is_key : IsFormat key) (is_value : IsFormat value) where
  in_order_is_format : IsFormat (in_order R key value)
  in_order_is_format =
      tested_is_format (is_sorted R) (keyed length a_count (listed (pair key value)))
      (keyed_is_format length a_count (listed (pair key value)) (λ n v fits. fits.0) a_count_is_format (listed_is_format (pair key value) (pair_is_format key value is_key is_value)))

  abbrev to : List (K × X) → FinMap R X
  to es = from_entries {R = R} es

  table_back : (m : FinMap R X) (rest : List ℕ) → (table R key value).Fits m → (table R key value).read ((table R key value).spell m ++ rest) ≡ Some (m, rest)
  table_back m rest fits =
      ap (λ o. and_then o (λ es end. let made : Option (FinMap R X × List ℕ) = Some (to es, end) in made)) (in_order_is_format.reads_back (entries m) rest fits)
      ∙ ap (λ n. let made : Option (FinMap R X × List ℕ) = Some (n, rest) in made) (map_of_its_entries R o m)

  table_one : (bs : List ℕ) (m : FinMap R X) (rest : List ℕ) → (table R key value).read bs ≡ Some (m, rest) → IsSpelled (table R key value) bs m rest
  table_one bs m rest e =
      let read = both_read ((in_order R key value).read bs) (λ es end. Some (to es, end)) m rest e in
      let same = same_answer (to read.value) m read.between rest read.next_is in
      let spelled = in_order_is_format.one_spelling bs read.value read.between read.first_is in
      let its : entries (to read.value) ≡ read.value = entries_of R o read.value (subst T (sym spelled.fits.1) tt) in
      let is : entries m ≡ read.value = ap entries (sym same.0) ∙ its in
      record {
        fits = subst (in_order R key value).Fits (sym is) spelled.fits;
        bytes = spelled.bytes ∙ ap (λ es. (in_order R key value).spell es ++ read.between) (sym is) ∙ ap (λ end. (table R key value).spell m ++ end) same.1;
      }

  pub table_is_format : IsFormat (table R key value)
  table_is_format = record { reads_back = table_back; one_spelling = table_one }
