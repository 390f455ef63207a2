-- What the entries of what is kept show after each change.
use Rattle.std.specs.Prelude.{◌≡◌, ◌≢◌, ℕ, zero, suc, ◌+◌, ◌-◌, ◌<◌, ◌≤◌, Bool, true, false, not, ◌&&◌, cond, List, [], ◌∷◌, ◌++◌, length, map, filter, reverse, nat_eq, Option, Some, None, slice_get, option_map, refl}
use Rattle.std.specs.List.{IsDistinct, AllByRecursion}
use Rattle.std.specs.Map.{lookup, lookup_entry, remove_entry, keys_of}
use Rattle.std.proofs.Common.{ap, arith, sym, subst, ◌∙◌, append-nil, eqb}
use Rattle.std.proofs.lemmas.Bool.{eq-eqb, ne_eqb, eqb-true, false≢true}
use Rattle.std.proofs.lemmas.List.{reverse-append, take_all, map-append}
use Rattle.std.proofs.lemmas.List.Elements.{filter-append}
use Rattle.std.proofs.lemmas.Option.{none-some}
use Rattle.lists.specs.Each.{Each, each_front, each_back}
use Rattle.lru.specs.LruCache.{LruCache, last_entry, put_entries, promoted}
use Rattle.retry_xform.specs.Keeping.{Kept, acknowledged, rotated, is_meant}
use Rattle.retry_xform.specs.KeptEntries.{as_kept, all_kept, goes_to}

eqb-sym : (a b : ℕ) → eqb a b ≡ false → eqb b a ≡ false
eqb-sym a b apart = ne_eqb b a (λ same. absurd (false≢true (sym apart ∙ eq-eqb a b (sym same))))

abbrev Entry : Type 0 → Type 0
Entry M = ℕ × (ℕ × M)

module _ {M : Type 0} where
  pub all_kept-cons : (e : Entry M) (es : List (Entry M)) → all_kept (e ∷ es) ≡ all_kept es ++ as_kept e ∷ []
  all_kept-cons e es = reverse-append (as_kept e ∷ []) (map as_kept es)

  pub all_kept-last : (xs : List (Entry M)) (e : Entry M) → all_kept (xs ++ e ∷ []) ≡ as_kept e ∷ all_kept xs
  all_kept-last xs e = ap reverse (map-append as_kept xs (e ∷ [])) ∙ reverse-append (map as_kept xs) (as_kept e ∷ [])

  -- a number that nothing kept has is no key
  pub none-used : (n : ℕ) (es : List (Entry M)) → Each (λ k. k.number ≢ n) (all_kept es) → lookup_entry (nat_eq n) es ≡ None
  none-used n [] unused = refl
  none-used n (e ∷ es) unused =
      let parts = subst (Each (λ (k : Kept M). k.number ≢ n)) (all_kept-cons e es) unused in
      let here = (each_back (λ (k : Kept M). k.number ≢ n) (all_kept es) (as_kept e ∷ []) parts).0 in
      let no : nat_eq n e.0 ≡ false = ne_eqb n e.0 (λ same. here (sym same)) in
      rw no (none-used n es (each_front (λ (k : Kept M). k.number ≢ n) (all_kept es) (as_kept e ∷ []) parts))

  pub put-shown : (c : LruCache ℕ (ℕ × M)) (n : ℕ) (v : ℕ × M) → Each (λ k. k.number ≢ n) (all_kept c.entries) → length c.entries ≤ c.cap - 1
      → all_kept (put_entries nat_eq c n v) ≡ all_kept c.entries ++ as_kept (n, v) ∷ []
  put-shown c n v unused room =
      let none : lookup_entry (nat_eq n) c.entries ≡ None = none-used n c.entries unused in
      rw (none, take_all (c.cap - 1) c.entries room) (all_kept-cons (n, v) c.entries)

  -- keys that stand before the last differ from it
  last-apart : (P : ℕ → Type 0) (xs : List (Entry M)) (e : Entry M) → AllByRecursion P (keys_of (xs ++ e ∷ [])) → P e.0
  last-apart P [] e all = all.0
  last-apart P (x ∷ xs) e all = last-apart P xs e all.1

  first-apart : (x : Entry M) (xs : List (Entry M)) (e : Entry M) → IsDistinct nat_eq (keys_of (x ∷ (xs ++ e ∷ []))) → nat_eq e.0 x.0 ≡ false
  unfolding IsDistinct
  first-apart x xs e apart = eqb-sym x.0 e.0 (last-apart (λ y. nat_eq x.0 y ≡ false) xs e apart.0)

  rest-apart : (x : Entry M) (xs : List (Entry M)) → IsDistinct nat_eq (keys_of (x ∷ xs)) → IsDistinct nat_eq (keys_of xs)
  unfolding IsDistinct
  rest-apart x xs apart = apart.1

  others-apart : (x : Entry M) (xs : List (Entry M)) → IsDistinct nat_eq (keys_of (x ∷ xs)) → AllByRecursion (λ y. nat_eq x.0 y ≡ false) (keys_of xs)
  unfolding IsDistinct
  others-apart x xs apart = apart.0

  find-last : (xs : List (Entry M)) (e : Entry M) → IsDistinct nat_eq (keys_of (xs ++ e ∷ [])) → lookup_entry (nat_eq e.0) (xs ++ e ∷ []) ≡ Some e
  find-last [] e apart = let t : nat_eq e.0 e.0 ≡ true = eq-eqb e.0 e.0 refl in rw t refl
  find-last (x ∷ xs) e apart = rw (first-apart x xs e apart) (find-last xs e (rest-apart x (xs ++ e ∷ []) apart))

  remove-last : (xs : List (Entry M)) (e : Entry M) → IsDistinct nat_eq (keys_of (xs ++ e ∷ [])) → remove_entry (nat_eq e.0) (xs ++ e ∷ []) ≡ xs
  remove-last [] e apart = let t : nat_eq e.0 e.0 ≡ true = eq-eqb e.0 e.0 refl in rw t refl
  remove-last (x ∷ xs) e apart = rw (first-apart x xs e apart) (ap (λ l. x ∷ l) (remove-last xs e (rest-apart x (xs ++ e ∷ []) apart)))

  -- entries and the last of them
  split-at : (es : List (Entry M)) (e : Entry M) (k : ℕ) → k + 1 ≡ length es → slice_get es k ≡ Some e → (xs : List (Entry M)) × (es ≡ xs ++ e ∷ [])
  split-at [] e k last at = absurd (omega arith)
  split-at (x ∷ []) e zero last at = let same : x ≡ e = cc in ([], ap (λ y. y ∷ []) same)
  split-at (x ∷ (y ∷ es)) e zero last at = absurd (omega arith)
  split-at (x ∷ []) e (suc k) last at = absurd (omega arith)
  split-at (x ∷ (y ∷ es)) e (suc k) last at = let more = split-at (y ∷ es) e k (omega arith) at in (x ∷ more.0, ap (λ l. x ∷ l) more.1)

  pub last-split : (es : List (Entry M)) (e : Entry M) → slice_get es (length es - 1) ≡ Some e → (xs : List (Entry M)) × (es ≡ xs ++ e ∷ [])
  last-split [] e at = absurd (none-some e at)
  last-split (x ∷ es) e at = split-at (x ∷ es) e (length (x ∷ es) - 1) (omega arith) at

  none-at : (es : List (Entry M)) (k : ℕ) → k < length es → slice_get es k ≡ None → ⊥
  none-at [] k within at = absurd (omega arith)
  none-at (x ∷ es) zero within at = none-some x (sym at)
  none-at (x ∷ es) (suc k) within at = none-at es k (omega arith) at

  pub none-last : (es : List (Entry M)) → slice_get es (length es - 1) ≡ None → es ≡ []
  none-last [] at = refl
  none-last (x ∷ es) at = absurd (none-at (x ∷ es) (length (x ∷ es) - 1) (omega arith) at)

  pub promoted-shown : (xs : List (Entry M)) (e : Entry M) → IsDistinct nat_eq (keys_of (xs ++ e ∷ [])) → all_kept (promoted (nat_eq e.0) (xs ++ e ∷ [])) ≡ rotated (all_kept (xs ++ e ∷ []))
  promoted-shown xs e apart =
      rw (find-last xs e apart, remove-last xs e apart, all_kept-last xs e) (all_kept-cons e xs)

  -- what is left of entries where a number is acknowledged
  abbrev left_of : ℕ → ℕ → List (Entry M) → List (Entry M)
  left_of from n es = filter (λ e. not (is_meant from n (as_kept e))) es

  left-choice : (b : Bool) (e : Entry M) (ks : List (Kept M)) (es : List (Entry M)) → ks ≡ all_kept es → ks ++ cond (not b) (as_kept e ∷ []) [] ≡ all_kept (cond (not b) (e ∷ es) es)
  left-choice true e ks es same = append-nil ks ∙ same
  left-choice false e ks es same = ap (λ l. l ++ as_kept e ∷ []) same ∙ sym (all_kept-cons e es)

  pub left-shown : (from n : ℕ) (es : List (Entry M)) → acknowledged from n (all_kept es) ≡ all_kept (left_of from n es)
  left-shown from n [] = refl
  left-shown from n (e ∷ es) =
      ap (acknowledged from n) (all_kept-cons e es)
      ∙ (filter-append (λ k. not (is_meant from n k)) (all_kept es) (as_kept e ∷ [])
      ∙ left-choice (is_meant from n (as_kept e)) e (acknowledged from n (all_kept es)) (left_of from n es) (left-shown from n es))

  not-number : (from n : ℕ) (e : Entry M) → nat_eq n e.0 ≡ false → is_meant from n (as_kept e) ≡ false
  not-number from n e other = let t : nat_eq e.0 n ≡ false = eqb-sym n e.0 other in rw t refl

  -- an entry of another number is left
  other-left : (from n : ℕ) (e : Entry M) (es rest : List (Entry M)) → nat_eq n e.0 ≡ false → left_of from n es ≡ rest → left_of from n (e ∷ es) ≡ e ∷ rest
  other-left from n e es rest other same = let t : is_meant from n (as_kept e) ≡ false = not-number from n e other in rw t (ap (λ l. e ∷ l) same)

  all-left : (from n : ℕ) (es : List (Entry M)) → AllByRecursion (λ y. nat_eq n y ≡ false) (keys_of es) → left_of from n es ≡ es
  all-left from n [] all = refl
  all-left from n (e ∷ es) all = other-left from n e es es all.0 (all-left from n es all.1)

  pub absent-left : (from n : ℕ) (es : List (Entry M)) → lookup (nat_eq n) es ≡ None → left_of from n es ≡ es
  absent-left from n [] none = refl
  absent-left from n (e ∷ es) none = elim (nat_eq n e.0) as (λ b. nat_eq n e.0 ≡ b → left_of from n (e ∷ es) ≡ e ∷ es) [
    | true ↦ λ t. let clash = rw t at none in cc
    | false ↦ λ t. let rest = rw t at none in other-left from n e es es t (absent-left from n es rest)
  ] refl

  meant-left : (from n : ℕ) (e : Entry M) (es : List (Entry M)) → e.1.0 ≡ from → e.0 ≡ n → left_of from n (e ∷ es) ≡ left_of from n es
  meant-left from n e es to number = let a : nat_eq e.0 n ≡ true = eq-eqb e.0 n number in let b : nat_eq e.1.0 from ≡ true = eq-eqb e.1.0 from to in rw (a, b) refl

  foreign-left : (from n : ℕ) (e : Entry M) (es : List (Entry M)) → e.1.0 ≢ from → left_of from n (e ∷ es) ≡ e ∷ left_of from n es
  foreign-left from n e es other = let b : nat_eq e.1.0 from ≡ false = ne_eqb e.1.0 from other in elim (nat_eq e.0 n) as (λ x. cond (not (x && nat_eq e.1.0 from)) (e ∷ left_of from n es) (left_of from n es) ≡ e ∷ left_of from n es) [
    | true ↦ rw b refl
    | false ↦ refl
  ]

  same-key : (n : ℕ) (e : Entry M) (es : List (Entry M)) → nat_eq n e.0 ≡ true → IsDistinct nat_eq (keys_of (e ∷ es)) → AllByRecursion (λ y. nat_eq n y ≡ false) (keys_of es)
  same-key n e es same apart = subst (λ j. AllByRecursion (λ y. nat_eq j y ≡ false) (keys_of es)) (sym (eqb-true n e.0 same)) (others-apart e es apart)

  pub meant-removed : (from n : ℕ) (es : List (Entry M)) (v : ℕ × M) → lookup (nat_eq n) es ≡ Some v → v.0 ≡ from → IsDistinct nat_eq (keys_of es) → left_of from n es ≡ remove_entry (nat_eq n) es
  meant-removed from n [] v found to apart = cc
  meant-removed from n (e ∷ es) v found to apart = elim (nat_eq n e.0) as (λ b. nat_eq n e.0 ≡ b → left_of from n (e ∷ es) ≡ cond b es (e ∷ remove_entry (nat_eq n) es)) [
    | true ↦ λ t. let is : Some e.1 ≡ Some v = rw t at found in let same : e.1 ≡ v = cc in
        meant-left from n e es (ap (λ x. x.0) same ∙ to) (sym (eqb-true n e.0 t)) ∙ all-left from n es (same-key n e es t apart)
    | false ↦ λ t. let rest = rw t at found in other-left from n e es (remove_entry (nat_eq n) es) t (meant-removed from n es v rest to (rest-apart e es apart))
  ] refl

  pub foreign-kept : (from n : ℕ) (es : List (Entry M)) (v : ℕ × M) → lookup (nat_eq n) es ≡ Some v → v.0 ≢ from → IsDistinct nat_eq (keys_of es) → left_of from n es ≡ es
  foreign-kept from n [] v found other apart = cc
  foreign-kept from n (e ∷ es) v found other apart = elim (nat_eq n e.0) as (λ b. nat_eq n e.0 ≡ b → left_of from n (e ∷ es) ≡ e ∷ es) [
    | true ↦ λ t. let is : Some e.1 ≡ Some v = rw t at found in let same : e.1 ≡ v = cc in
        foreign-left from n e es (λ to. other (sym (ap (λ x. x.0) same) ∙ to)) ∙ ap (λ l. e ∷ l) (all-left from n es (same-key n e es t apart))
    | false ↦ λ t. let rest = rw t at found in other-left from n e es es t (foreign-kept from n es v rest other (rest-apart e es apart))
  ] refl

  pub left-meant : (from n : ℕ) (es : List (Entry M)) → goes_to from (lookup (nat_eq n) es) ≡ true → IsDistinct nat_eq (keys_of es) → acknowledged from n (all_kept es) ≡ all_kept (remove_entry (nat_eq n) es)
  left-meant from n es meant apart = left-shown from n es ∙ ap all_kept (removed (lookup (nat_eq n) es) refl meant) where
    removed : (o : Option (ℕ × M)) → lookup (nat_eq n) es ≡ o → goes_to from o ≡ true → left_of from n es ≡ remove_entry (nat_eq n) es
    removed None found is = absurd (false≢true is)
    removed (Some v) found is = meant-removed from n es v found (eqb-true v.0 from is) apart

  pub left-other : (from n : ℕ) (es : List (Entry M)) → goes_to from (lookup (nat_eq n) es) ≡ false → IsDistinct nat_eq (keys_of es) → acknowledged from n (all_kept es) ≡ all_kept es
  left-other from n es other apart = left-shown from n es ∙ ap all_kept (stays (lookup (nat_eq n) es) refl other) where
    stays : (o : Option (ℕ × M)) → lookup (nat_eq n) es ≡ o → goes_to from o ≡ false → left_of from n es ≡ es
    stays None found none = absent-left from n es found
    stays (Some v) found none = foreign-kept from n es v found (λ to. absurd (false≢true (sym none ∙ eq-eqb v.0 from to))) apart

  pub oldest-promoted : (es : List (Entry M)) (n : ℕ) (o : Option (Entry M)) → last_entry es ≡ o → Some n ≡ option_map (λ e. e.0) o → IsDistinct nat_eq (keys_of es) → all_kept (promoted (nat_eq n) es) ≡ rotated (all_kept es)
  oldest-promoted es n None last is apart = cc
  oldest-promoted es n (Some e) last is apart =
      let same : n ≡ e.0 = cc in
      let split = last-split es e last in
      rw (same, split.1) (promoted-shown split.0 e (subst (λ l. IsDistinct nat_eq (keys_of l)) split.1 apart))

  pub oldest-none : (es : List (Entry M)) (o : Option (Entry M)) → last_entry es ≡ o → None ≡ option_map {U = ℕ} (λ e. e.0) o → all_kept es ≡ rotated (all_kept es)
  oldest-none es None last is = rw (none-last es last) refl
  oldest-none es (Some e) last is = cc

  pub first-shown : (es : List (Entry M)) (o : Option (Entry M)) → last_entry es ≡ o → slice_get (all_kept es) 0 ≡ option_map as_kept o
  first-shown es None last = rw (none-last es last) refl
  first-shown es (Some e) last = let split = last-split es e last in ap (λ l. slice_get (all_kept l) 0) split.1 ∙ rw (all_kept-last split.0 e) refl
