-- A list of entries, as the finite map that contracts see.
use Rattle.std.proofs.Common.{◌≡◌, ℕ, cond, List, [], ◌∷◌, None, Some, refl, ap, sym, ◌∙◌}
use Rattle.std.specs.Cmp.Lexicographic.{slice_cmp, nat_list_cmp_total, nat_list_eq_equiv, texts_ties}
use Rattle.std.specs.FinMap.{find, from_entries, get, insert, remove, get-from_entries, get-insert, get-remove, same_map, slice_cmp-IsAntisymmetric, nat_cmp-IsAntisymmetric}
use Rattle.std.specs.Map.{lookup}
use Rattle.std.specs.Ordering.{nat_cmp, eq_by_cmp}
use Rattle.std.specs.Str.{bytes_eq}
use Rattle.key_map.specs.ByKey.{ByKey}

-- the order ties two keys exactly where they are equal
tied : (k q : List ℕ) → bytes_eq k q ≡ eq_by_cmp (slice_cmp nat_cmp) q k
tied k q = nat_list_eq_equiv.symm k q ∙ texts_ties q k

abbrev Entries : Type 0 → Type 0
Entries V = List (List ℕ × V)

module _ {V : Type 0} where
  abbrev map_of : Entries V → ByKey V
  map_of es = from_entries es

  find-lookup : (es : Entries V) (q : List ℕ) → find (slice_cmp nat_cmp) q es ≡ lookup (bytes_eq q) es
  find-lookup [] q = refl
  find-lookup (e ∷ es) q = λ i. cond (sym (texts_ties q e.0) i) (Some e.1) (find-lookup es q i)

  pub get-entries : (es : Entries V) (q : List ℕ) → get (map_of es) q ≡ lookup (bytes_eq q) es
  get-entries es q = get-from_entries nat_list_cmp_total es q ∙ find-lookup es q

  same : (m n : ByKey V) → ((q : List ℕ) → get m q ≡ get n q) → m ≡ n
  same = same_map nat_list_cmp_total (slice_cmp-IsAntisymmetric nat_cmp-IsAntisymmetric)

  -- what a map has at a key once the value of one is written or taken out
  pub get-written : (m : ByKey V) (k : List ℕ) (v : V) (q : List ℕ) → get (insert m k v) q ≡ cond (bytes_eq k q) (Some v) (get m q)
  get-written m k v q = get-insert nat_list_cmp_total m k v q ∙ ap (λ b. cond b (Some v) (get m q)) (sym (tied k q))

  pub get-taken : (m : ByKey V) (k q : List ℕ) → get (remove m k) q ≡ cond (bytes_eq k q) None (get m q)
  get-taken m k q = get-remove nat_list_cmp_total m k q ∙ ap (λ b. cond b None (get m q)) (sym (tied k q))

  -- the same of entries
  pub inserted : (es fs : Entries V) (k : List ℕ) (v : V) → ((q : List ℕ) → lookup (bytes_eq q) fs ≡ cond (bytes_eq k q) (Some v) (lookup (bytes_eq q) es)) → map_of fs ≡ insert (map_of es) k v
  inserted es fs k v written =
      same _ _ (λ q. get-entries fs q ∙ written q ∙ ap (cond (bytes_eq k q) (Some v)) (sym (get-entries es q)) ∙ sym (get-written (map_of es) k v q))

  pub removed : (es fs : Entries V) (k : List ℕ) → ((q : List ℕ) → lookup (bytes_eq q) fs ≡ cond (bytes_eq k q) None (lookup (bytes_eq q) es)) → map_of fs ≡ remove (map_of es) k
  removed es fs k taken =
      same _ _ (λ q. get-entries fs q ∙ taken q ∙ ap (cond (bytes_eq k q) None) (sym (get-entries es q)) ∙ sym (get-taken (map_of es) k q))

-- what a call's clause on entries says of the map
pub ruleset views = (get-entries, inserted, removed)
