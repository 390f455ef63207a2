-- A list of entries by number, as the finite map that contracts see.
use Rattle.std.proofs.Common.{◌≡◌, ℕ, cond, eqb, List, [], ◌∷◌, None, Some, refl, ap, sym, ◌∙◌}
use Rattle.std.specs.Cmp.{nat_cmp_total, nat_eq_equiv, unsigned_tied}
use Rattle.std.specs.FinMap.{FinMap, find, from_entries, get, insert, remove, get-from_entries, get-insert, get-remove, same_map, nat_cmp-IsAntisymmetric}
use Rattle.std.specs.Map.{lookup}
use Rattle.std.specs.Ordering.{nat_cmp}

module _ {X : Type 0} where
  find-lookup : (es : List (ℕ × X)) (q : ℕ) → find nat_cmp q es ≡ lookup (eqb q) es
  find-lookup [] q = refl
  find-lookup (e ∷ es) q = λ i. cond (unsigned_tied q e.0 i) (Some e.1) (find-lookup es q i)

  pub get-entries : (es : List (ℕ × X)) (q : ℕ) → get (from_entries {R = nat_cmp} es) q ≡ lookup (eqb q) es
  get-entries es q = get-from_entries nat_cmp_total es q ∙ find-lookup es q

  -- what a map has at a number once the value at one is written or taken out
  pub get-written : (m : FinMap nat_cmp X) (k : ℕ) (v : X) (q : ℕ) → get (insert m k v) q ≡ cond (eqb k q) (Some v) (get m q)
  get-written m k v q = get-insert nat_cmp_total m k v q ∙ ap (λ b. cond b (Some v) (get m q)) (unsigned_tied q k ∙ nat_eq_equiv.symm q k)

  pub get-taken : (m : FinMap nat_cmp X) (k q : ℕ) → get (remove m k) q ≡ cond (eqb k q) None (get m q)
  get-taken m k q = get-remove nat_cmp_total m k q ∙ ap (λ b. cond b None (get m q)) (unsigned_tied q k ∙ nat_eq_equiv.symm q k)

  same : (m n : FinMap nat_cmp X) → ((q : ℕ) → get m q ≡ get n q) → m ≡ n
  same = same_map nat_cmp_total nat_cmp-IsAntisymmetric

  -- the same of entries
  pub written : (es fs : List (ℕ × X)) (k : ℕ) (v : X) → ((q : ℕ) → lookup (eqb q) fs ≡ cond (eqb k q) (Some v) (lookup (eqb q) es)) →
      from_entries {R = nat_cmp} fs ≡ insert (from_entries es) k v
  written es fs k v is = same _ _ (λ q. get-entries fs q ∙ is q ∙ ap (cond (eqb k q) (Some v)) (sym (get-entries es q)) ∙ sym (get-written (from_entries es) k v q))

  pub taken : (es fs : List (ℕ × X)) (k : ℕ) → ((q : ℕ) → lookup (eqb q) fs ≡ cond (eqb k q) None (lookup (eqb q) es)) →
      from_entries {R = nat_cmp} fs ≡ remove (from_entries es) k
  taken es fs k is = same _ _ (λ q. get-entries fs q ∙ is q ∙ ap (cond (eqb k q) None) (sym (get-entries es q)) ∙ sym (get-taken (from_entries es) k q))

-- what a call's clause on entries says of the map
pub ruleset views = (get-entries, written, taken)
