-- A tree's pairs, as the finite map that contracts see.
use Rattle.std.proofs.Common.{◌≡◌, ℕ, Bool, true, false, cond, List, [], ◌∷◌, Option, Some, None, length, nat_le, refl, ap, subst, sym, T, if◌then◌else◌, ◌∙◌}
use Rattle.std.specs.BTreeMap.{is_at}
use Rattle.std.specs.Cmp.Lexicographic.{nat_list_cmp_total, slice_cmp}
use Rattle.std.specs.FinMap.{find, from_entries, get, insert, remove, entries, len, get-from_entries, get-insert, get-remove, is_sorted, len-entries, same_map, slice_cmp-IsAntisymmetric, nat_cmp-IsAntisymmetric}
use Rattle.std.specs.Cmp.{eq_by_cmp_equiv}
use Rattle.std.specs.List.Sorted.{IsStrictlySortedBy}
use Rattle.std.specs.Map.{keys_of, lookup}
use Rattle.std.specs.Ordering.{nat_cmp, eq_by_cmp}
use Rattle.key_map.specs.ByKey.{ByKey}
use Rattle.wire_fields.specs.FieldLaws.{key_is_format, value_is_format}
use Rattle.wire_fields.specs.Fields.{key, value}
use Rattle.wire_fields.specs.FormatLaws.{keyed_is_format, listed_is_format, pair_is_format, tested_is_format}
use Rattle.wire_fields.specs.Formats.{IsFormat, and_then, keyed, listed, pair}
use Rattle.snap_state.specs.States.{store, store_pairs}
use Rattle.snap_state.specs.TableLaws.{a_count_is_format, entries_of, in_its_order}
use Rattle.snap_state.specs.Tables.{a_count, at_most}

abbrev Pairs : Type 0 → Type 0
Pairs V = List (List ℕ × V)

tied : (k q : List ℕ) → is_at (slice_cmp nat_cmp k) q ≡ eq_by_cmp (slice_cmp nat_cmp) q k
tied k q = (eq_by_cmp_equiv nat_list_cmp_total).symm k q

module _ {V : Type 0} where
  abbrev map_of : Pairs V → ByKey V
  map_of es = from_entries es

  find-lookup : (es : Pairs V) (q : List ℕ) → find (slice_cmp nat_cmp) q es ≡ lookup (is_at (slice_cmp nat_cmp q)) es
  find-lookup [] q = refl
  find-lookup (e ∷ es) q = ap (cond (is_at (slice_cmp nat_cmp q) e.0) (Some e.1)) (find-lookup es q)

  pub found : (es : Pairs V) (q : List ℕ) → get (map_of es) q ≡ lookup (is_at (slice_cmp nat_cmp q)) es
  found es q = get-from_entries nat_list_cmp_total es q ∙ find-lookup es q

  same : (m n : ByKey V) → ((q : List ℕ) → get m q ≡ get n q) → m ≡ n
  same = same_map nat_list_cmp_total (slice_cmp-IsAntisymmetric nat_cmp-IsAntisymmetric)

  get-written : (m : ByKey V) (k : List ℕ) (v : V) (q : List ℕ) → get (insert m k v) q ≡ cond (is_at (slice_cmp nat_cmp k) q) (Some v) (get m q)
  get-written m k v q = get-insert nat_list_cmp_total m k v q ∙ ap (λ b. cond b (Some v) (get m q)) (sym (tied k q))

  get-taken : (m : ByKey V) (k q : List ℕ) → get (remove m k) q ≡ cond (is_at (slice_cmp nat_cmp k) q) None (get m q)
  get-taken m k q = get-remove nat_list_cmp_total m k q ∙ ap (λ b. cond b None (get m q)) (sym (tied k q))

  pub inserted : (es fs : Pairs V) (k : List ℕ) (v : V) → ((q : List ℕ) → lookup (is_at (slice_cmp nat_cmp q)) fs ≡ cond (is_at (slice_cmp nat_cmp k) q) (Some v) (lookup (is_at (slice_cmp nat_cmp q)) es))
      → map_of fs ≡ insert (map_of es) k v
  inserted es fs k v written =
      same _ _ (λ q. found fs q ∙ written q ∙ ap (cond (is_at (slice_cmp nat_cmp k) q) (Some v)) (sym (found es q)) ∙ sym (get-written (map_of es) k v q))

  pub removed : (es fs : Pairs V) (k : List ℕ) → ((q : List ℕ) → lookup (is_at (slice_cmp nat_cmp q)) fs ≡ cond (is_at (slice_cmp nat_cmp k) q) None (lookup (is_at (slice_cmp nat_cmp q)) es)) → map_of fs ≡ remove (map_of es) k
  removed es fs k taken =
      same _ _ (λ q. found fs q ∙ taken q ∙ ap (cond (is_at (slice_cmp nat_cmp k) q) None) (sym (found es q)) ∙ sym (get-taken (map_of es) k q))

  -- the pairs of a tree are those of its map
  pub its_pairs : (es : Pairs V) → IsStrictlySortedBy (slice_cmp nat_cmp) (keys_of es) → entries (map_of es) ≡ es
  its_pairs es ascend = entries_of (slice_cmp nat_cmp) nat_list_cmp_total es (subst T (sym (in_its_order (slice_cmp nat_cmp) es ascend)) tt)

  pub its_count : (es : Pairs V) → IsStrictlySortedBy (slice_cmp nat_cmp) (keys_of es) → len (map_of es) ≡ length es
  its_count es ascend = len-entries (map_of es) ∙ ap length (its_pairs es ascend)

store_pairs_is_format : IsFormat store_pairs
store_pairs_is_format =
    tested_is_format (is_sorted (slice_cmp nat_cmp)) (keyed length a_count (listed (pair key value)))
    (keyed_is_format length a_count (listed (pair key value)) (λ n v fits. fits.0) a_count_is_format (listed_is_format (pair key value) (pair_is_format key value key_is_format value_is_format)))

made : Pairs (List ℕ) → List ℕ → Option (ByKey (List ℕ) × List ℕ)
made es rest = Some (map_of es, rest)

-- a store is read where its pairs are
store_reads : (most : ℕ) (bs : List ℕ) → (at_most len most store).read bs ≡ and_then ((at_most length most store_pairs).read bs) made
unfolding made
store_reads most bs = by (store_pairs.read bs) refl
  where
    by_test : (b : Bool) (es : Pairs (List ℕ)) (rest : List ℕ) →
        ◌≡◌ {A = Option (ByKey (List ℕ) × List ℕ)} (if b then Some (map_of es, rest) else None) (and_then (if b then Some (es, rest) else None) made)
    by_test true es rest = refl
    by_test false es rest = refl

    by : (o : Option (Pairs (List ℕ) × List ℕ)) → store_pairs.read bs ≡ o →
        and_then (and_then o made) (λ m rest. let there : Option (ByKey (List ℕ) × List ℕ) = Some (m, rest) in if nat_le (len m) most then there else None)
        ≡ and_then (and_then o (λ es rest. let there : Option (Pairs (List ℕ) × List ℕ) = Some (es, rest) in if nat_le (length es) most then there else None)) made
    by None is = refl
    by (Some (es, rest)) is =
        let sorted : is_sorted (slice_cmp nat_cmp) es ≡ true = (store_pairs_is_format.one_spelling bs es rest is).fits.1 in
        let count : len (map_of es) ≡ length es = len-entries (map_of es) ∙ ap length (entries_of (slice_cmp nat_cmp) nat_list_cmp_total es (subst T (sym sorted) tt)) in
        ap (λ n. let there : Option (ByKey (List ℕ) × List ℕ) = Some (map_of es, rest) in if nat_le n most then there else None) count ∙ by_test (nat_le (length es) most) es rest

pub store_taken : (most : ℕ) (bs : List ℕ) (es : Pairs (List ℕ)) (rest : List ℕ) → (at_most length most store_pairs).read bs ≡ Some (es, rest) → (at_most len most store).read bs ≡ Some (map_of es, rest)
unfolding made
store_taken most bs es rest is = store_reads most bs ∙ ap (λ o. and_then o made) is

pub no_store : (most : ℕ) (bs : List ℕ) → (at_most length most store_pairs).read bs ≡ None → (at_most len most store).read bs ≡ None
no_store most bs none = store_reads most bs ∙ ap (λ o. and_then o made) none
