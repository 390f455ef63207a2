-- A stable sort by place is insertion by place.
use Rattle.std.proofs.Common.{◌≡◌, ℕ, suc, ◌<◌, ◌≤◌, Bool, true, false, cond, eqb, leb, ltb, List, [], ◌∷◌, ◌++◌, length, drop, get_or, append_assoc, refl, sym, ap, ◌∙◌, arith}
use Rattle.std.proofs.lemmas.Bool.{eq-eqb, leb-false, ltb-false, ltb-true}
use Rattle.std.proofs.lemmas.Bool.Decides.{nat_tests}
use Rattle.std.proofs.lemmas.List.{append-nil}
use Rattle.std.specs.List.{filter}
use Rattle.std.specs.List.Sorted.{IsNonDecreasingBy, IsStableByKey, ties}
use Rattle.std.specs.Ordering.{is_lt, nat_cmp}
use Rattle.lists.specs.Each.{Each, each_weaker}
use Rattle.raft_types.specs.declared.client.RaftInput.{RaftInput}
use Rattle.reads_safety.specs.Orders.{insert, insert_all}
use Rattle.reads_safety.proofs.Placing.{Sorted, sorted_insert}

itself : (n : ℕ) → eqb n n ≡ true
itself n = eq-eqb n n refl

module _ {C : Type 0} where
  -- those of one place
  abbrev pub at_place : ℕ → List (ℕ × RaftInput C) → List (ℕ × RaftInput C)
  at_place k xs = filter (λ y. eqb k y.0) xs

  -- none is where all stand later
  none_at : (k : ℕ) (xs : List (ℕ × RaftInput C)) → Each (λ z. k < z.0) xs → at_place k xs ≡ []
  none_at k [] all = refl
  none_at k (x ∷ xs) all =
      let other : eqb k x.0 ≡ false = grind (arith, nat_tests) in
      ap (λ b. cond b (x ∷ at_place k xs) (at_place k xs)) other ∙ none_at k xs all.1

  further : (k : ℕ) (x : ℕ × RaftInput C) (xs : List (ℕ × RaftInput C)) → k < x.0 → Each (λ z. x.0 ≤ z.0) xs → Each (λ z. k < z.0) xs
  further k x xs before all = each_weaker (λ z. x.0 ≤ z.0) (λ z. k < z.0) (λ z h. omega arith) xs all

  -- an element that is put in stands behind those of its place
  at_place-insert : (k : ℕ) (xs : List (ℕ × RaftInput C)) (x : ℕ × RaftInput C) → Sorted xs →
      at_place k (insert xs x) ≡ at_place k xs ++ at_place k (x ∷ [])
  at_place-insert k [] x s = refl
  at_place-insert k (y ∷ ys) x s = go (leb y.0 x.0) refl (at_place-insert k ys x s.1)
    where
      behind : (b : Bool) → at_place k (insert ys x) ≡ at_place k ys ++ at_place k (x ∷ []) →
          cond b (y ∷ at_place k (insert ys x)) (at_place k (insert ys x)) ≡ cond b (y ∷ at_place k ys) (at_place k ys) ++ at_place k (x ∷ [])
      behind true later = ap (λ zs. y ∷ zs) later
      behind false later = later

      before : x.0 < y.0 → (b : Bool) → eqb k x.0 ≡ b →
          cond b (x ∷ at_place k (y ∷ ys)) (at_place k (y ∷ ys)) ≡ at_place k (y ∷ ys) ++ cond b (x ∷ []) []
      before less false t = sym (append-nil (at_place k (y ∷ ys)))
      before less true t =
          let same : k ≡ x.0 = grind (arith, nat_tests) in
          let later : Each (λ z. k < z.0) (y ∷ ys) = (omega (arith, same, less), further k y ys (omega (arith, same, less)) s.0) in
          rw (none_at k (y ∷ ys) later) refl

      go : (b : Bool) → leb y.0 x.0 ≡ b → at_place k (insert ys x) ≡ at_place k ys ++ at_place k (x ∷ []) →
          at_place k (cond b (y ∷ insert ys x) (x ∷ y ∷ ys)) ≡ at_place k (y ∷ ys) ++ at_place k (x ∷ [])
      go true t later = behind (eqb k y.0) later
      go false t later = before (omega (arith, leb-false y.0 x.0 t)) (eqb k x.0) refl

  sorted-all : (xs rs : List (ℕ × RaftInput C)) → Sorted xs → Sorted (insert_all xs rs)
  sorted-all xs [] s = s
  sorted-all xs (r ∷ rs) s = sorted-all (insert xs r) rs (sorted_insert xs r s)

  at_place-all : (k : ℕ) (xs rs : List (ℕ × RaftInput C)) → Sorted xs → at_place k (insert_all xs rs) ≡ at_place k xs ++ at_place k rs
  at_place-all k xs [] s = sym (append-nil (at_place k xs))
  at_place-all k xs (r ∷ rs) s =
      at_place-all k (insert xs r) rs (sorted_insert xs r s)
      ∙ ap (λ zs. zs ++ at_place k rs) (at_place-insert k xs r s)
      ∙ append_assoc (at_place k xs) (at_place k (r ∷ [])) (at_place k rs)
      ∙ ap (λ zs. at_place k xs ++ zs) (go (eqb k r.0))
    where
      go : (b : Bool) → cond b (r ∷ []) [] ++ at_place k rs ≡ cond b (r ∷ at_place k rs) (at_place k rs)
      go true = refl
      go false = refl

  abbrev head_or : List (ℕ × RaftInput C) → ℕ × RaftInput C → ℕ × RaftInput C
  head_or zs d = get_or zs 0 d

  -- of two lists by place, with the same elements at each place in the same order, each is the other
  pub same_lists : (xs ys : List (ℕ × RaftInput C)) → Sorted xs → Sorted ys → ((z : ℕ × RaftInput C) → at_place z.0 xs ≡ at_place z.0 ys) → xs ≡ ys
  same_lists [] [] s t same = refl
  same_lists [] (y ∷ ys) s t same =
      absurd (cc (same y ∙ ap (λ b. cond b (y ∷ at_place y.0 ys) (at_place y.0 ys)) (itself y.0)))
  same_lists (x ∷ xs) [] s t same =
      absurd (cc (sym (same x) ∙ ap (λ b. cond b (x ∷ at_place x.0 xs) (at_place x.0 xs)) (itself x.0)))
  same_lists (x ∷ xs) (y ∷ ys) s t same = go (ltb x.0 y.0) refl (ltb y.0 x.0) refl (λ tails. same_lists xs ys s.1 t.1 tails)
    where
      first : at_place x.0 (x ∷ xs) ≡ x ∷ at_place x.0 xs
      first = ap (λ b. cond b (x ∷ at_place x.0 xs) (at_place x.0 xs)) (itself x.0)

      other : at_place y.0 (y ∷ ys) ≡ y ∷ at_place y.0 ys
      other = ap (λ b. cond b (y ∷ at_place y.0 ys) (at_place y.0 ys)) (itself y.0)

      tail : (z : ℕ × RaftInput C) → x ≡ y → (b : Bool) →
          cond b (x ∷ at_place z.0 xs) (at_place z.0 xs) ≡ cond b (y ∷ at_place z.0 ys) (at_place z.0 ys) → at_place z.0 xs ≡ at_place z.0 ys
      tail z is true e = ap (drop 1) e
      tail z is false e = e

      go : (a : Bool) → ltb x.0 y.0 ≡ a → (b : Bool) → ltb y.0 x.0 ≡ b →
          (((z : ℕ × RaftInput C) → at_place z.0 xs ≡ at_place z.0 ys) → xs ≡ ys) → x ∷ xs ≡ y ∷ ys
      go true p b q rest =
          let less : x.0 < y.0 = ltb-true x.0 y.0 p in
          let none : at_place x.0 (y ∷ ys) ≡ [] = none_at x.0 (y ∷ ys) (less, further x.0 y ys less t.0) in
          absurd (cc (sym first ∙ same x ∙ none))
      go false p true q rest =
          let less : y.0 < x.0 = ltb-true y.0 x.0 q in
          let none : at_place y.0 (x ∷ xs) ≡ [] = none_at y.0 (x ∷ xs) (less, further y.0 x xs less s.0) in
          absurd (cc (sym other ∙ sym (same y) ∙ none))
      go false p false q rest =
          let place : x.0 ≡ y.0 = omega (arith, ltb-false x.0 y.0 p, ltb-false y.0 x.0 q) in
          let heads : x ∷ at_place x.0 xs ≡ y ∷ at_place y.0 ys = sym first ∙ same x ∙ ap (λ k. at_place k (y ∷ ys)) place ∙ other in
          let is : x ≡ y = ap (λ zs. head_or zs x) heads in
          ap (λ h. h ∷ xs) is ∙ ap (λ zs. y ∷ zs) (rest (λ z. tail z is (eqb z.0 x.0) (same z ∙ ap (λ k. cond (eqb z.0 k) (y ∷ at_place z.0 ys) (at_place z.0 ys)) (sym place))))

  -- the order that a stable sort by place leaves
  each_at : (P : ℕ × RaftInput C → Type 0) (xs : List (ℕ × RaftInput C)) → ((j : ℕ) (d : ℕ × RaftInput C) → j < length xs → P (get_or xs j d)) → Each P xs
  each_at P [] at = tt
  each_at P (x ∷ xs) at = (at 0 x (omega arith), each_at P xs (λ j d h. at (suc j) d (omega arith)))

  sorted_from : (xs : List (ℕ × RaftInput C)) → IsNonDecreasingBy (λ p. p.0) xs → Sorted xs
  sorted_from [] up = tt
  sorted_from (x ∷ xs) up =
      (each_at (λ z. x.0 ≤ z.0) xs (λ j d h. up 0 (suc j) d (omega arith) (omega arith)), sorted_from xs (λ i j d h k. up (suc i) (suc j) d (omega arith) (omega arith)))

  tied : (z y : ℕ × RaftInput C) → ties (λ (a b : ℕ × RaftInput C). is_lt (nat_cmp a.0 b.0)) z y ≡ eqb z.0 y.0
  tied z y = grind (arith, nat_tests)

  -- a stable sort by place puts each element in, one after another
  pub sort_inserts : (xs ys : List (ℕ × RaftInput C)) → IsNonDecreasingBy (λ p. p.0) ys → IsStableByKey (λ p. p.0) nat_cmp xs ys → ys ≡ insert_all [] xs
  sort_inserts xs ys up stable = same_lists ys (insert_all [] xs) (sorted_from ys up) (sorted-all [] xs tt) (λ z.
      let tie : ties (λ (a b : ℕ × RaftInput C). is_lt (nat_cmp a.0 b.0)) z ≡ (λ y. eqb z.0 y.0) = λ i y. tied z y i in
      ap (λ p. filter p ys) (sym tie) ∙ stable z ∙ ap (λ p. filter p xs) tie ∙ sym (at_place-all z.0 [] xs tt))

  -- a list by place is put in as it is
  pub insert_sorted : (xs : List (ℕ × RaftInput C)) → Sorted xs → insert_all [] xs ≡ xs
  insert_sorted xs s = same_lists (insert_all [] xs) xs (sorted-all [] xs tt) s (λ z. at_place-all z.0 [] xs tt)
