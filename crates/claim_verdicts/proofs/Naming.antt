-- The places of names.
use Rattle.std.specs.Prelude.{◌≡◌, ℕ, zero, suc, ◌+◌, ◌<◌, ◌≤◌, Bool, true, false, not, ◌==◌, ◌&&◌, ◌||◌, nat_lt, List, [], ◌∷◌, ◌++◌, length, take, drop, Option, Some, None, option_map, position, cond, slice_get, refl}
use Rattle.std.specs.List.{list_any, position_or_len}
use Rattle.std.proofs.Common.{ap, ◌∙◌, sym, subst, arith, eqb-true, get_or, length-take}
use Rattle.std.proofs.lemmas.Bool.{and_parts, and_from, eq-eqb}
use Rattle.std.proofs.lemmas.List.{length-map, map-append, take_more}
use Rattle.std.proofs.lemmas.Option.{slice_get_past, slice_get_read}
use Rattle.std.proofs.lemmas.Bool.Decides.{nat_tests}
use Rattle.raft_types.specs.declared.client.RaftInput.{RaftInput}
use Rattle.linearizability.specs.Linearizable.{AreDistinct, AreOther, is_named}
use Rattle.claim_verdicts.specs.Clusters.{is_among}
use Rattle.claim_verdicts.specs.Places.{place_of}
use Rattle.claim_verdicts.specs.declared.name.Name.{Name}
use Rattle.claim_verdicts.specs.Marks.{IsFront, past_place, is_name, name_of, named, names_of}
use Rattle.lists.specs.Each.{Each}

-- std's position, by cases on the list
more-places : (n m : ℕ) (u : Bool) → nat_lt n m ≡ u → cond (nat_lt (1 + n) (suc m)) (Some (1 + n)) None ≡ option_map suc (cond u (Some n) None)
more-places n m true e = let more : nat_lt (1 + n) (suc m) ≡ true = grind (arith, nat_tests) in rw more (ap Some (omega arith))
more-places n m false e = let less : nat_lt (1 + n) (suc m) ≡ false = grind (arith, nat_tests) in rw less refl

place-by : {A : Type 0} (test : A → Bool) (xs : List A) (t : Bool) → position test xs ≡ place_of test xs
    → cond (nat_lt (cond (not t) (1 + position_or_len test xs) 0) (suc (length xs))) (Some (cond (not t) (1 + position_or_len test xs) 0)) None ≡ cond t (Some 0) (option_map suc (place_of test xs))
place-by test xs true e = let some : nat_lt 0 (suc (length xs)) ≡ true = grind (arith, nat_tests) in rw some refl
place-by test xs false e = more-places (position_or_len test xs) (length xs) (nat_lt (position_or_len test xs) (length xs)) refl ∙ ap (λ o. option_map suc o) e

pub position-place : {A : Type 0} (test : A → Bool) (xs : List A) → position test xs ≡ place_of test xs
position-place test [] = refl
position-place test (x ∷ xs) = place-by test xs (test x) (position-place test xs)

or-parts : (t u : Bool) → (t || u) ≡ false → (t ≡ false) × (u ≡ false)
or-parts true u e = cc
or-parts false u e = (refl, e)

pub eqb-swap : (a b : ℕ) → (a == b) ≡ (b == a)
eqb-swap a b = grind (arith, nat_tests)

module _ {C : Type 0} where
  pub same-name : (client request : ℕ) (r : RaftInput C) → is_name client request (name_of r) ≡ is_named client request r
  same-name client request r = ap (λ b. b && (request == r.request)) (eqb-swap client r.client) ∙ ap (λ b. (r.client == client) && b) (eqb-swap request r.request)

  pub place-named : (client request : ℕ) (order : List (RaftInput C)) → place_of (is_name client request) (names_of order) ≡ place_of (is_named client request) order
  place-named client request [] = refl
  place-named client request (r ∷ rest) = ap (λ b. cond b (Some 0) (option_map suc (place_of (is_name client request) (names_of rest)))) (same-name client request r) ∙ ap (λ o. cond (is_named client request r) (Some 0) (option_map suc o)) (place-named client request rest)

  -- what has this name has not the name of another
  named-other : (client request : ℕ) (a b : RaftInput C) → AreOther a b → is_named client request a ≡ true → is_named client request b ≡ false
  named-other client request a b other is = by (is_named client request b) refl where
    by : (t : Bool) → is_named client request b ≡ t → t ≡ false
    by false e = refl
    by true e =
        let p : ((a.client == client) ≡ true) × ((a.request == request) ≡ true) = and_parts (a.client == client) (a.request == request) is in
        let q : ((b.client == client) ≡ true) × ((b.request == request) ≡ true) = and_parts (b.client == client) (b.request == request) e in
        let both : is_named b.client b.request a ≡ true =
        and_from (a.client == b.client) (a.request == b.request)
        (eq-eqb a.client b.client (eqb-true a.client client p.0 ∙ sym (eqb-true b.client client q.0)))
        (eq-eqb a.request b.request (eqb-true a.request request p.1 ∙ sym (eqb-true b.request request q.1))) in
        sym both ∙ other

  pub others-unnamed : (client request : ℕ) (a : RaftInput C) (rest : List (RaftInput C)) → Each (AreOther a) rest → is_named client request a ≡ true → Each (λ r. is_named client request r ≡ false) rest
  others-unnamed client request a [] each is = tt
  others-unnamed client request a (r ∷ rest) each is = (named-other client request a r each.0 is, others-unnamed client request a rest each.1 is)

  pub unnamed-any : (client request : ℕ) (k : ℕ) (rest : List (RaftInput C)) → Each (λ r. is_named client request r ≡ false) rest → list_any (is_named client request) (drop k rest) ≡ false
  unnamed-any client request zero [] each = refl
  unnamed-any client request (suc k) [] each = refl
  unnamed-any client request zero (r ∷ rest) each = rw each.0 (unnamed-any client request zero rest each.1)
  unnamed-any client request (suc k) (r ∷ rest) each = unnamed-any client request k rest each.1

  pub unnamed-none : (client request : ℕ) (order : List (RaftInput C)) → place_of (is_named client request) order ≡ None → Each (λ r. is_named client request r ≡ false) order
  unnamed-none client request [] e = tt
  unnamed-none client request (r ∷ rest) e = by (unnamed-none client request rest) (is_named client request r) (place_of (is_named client request) rest) refl refl e where
    by : (place_of (is_named client request) rest ≡ None → Each (λ r. is_named client request r ≡ false) rest) → (t : Bool) (o : Option ℕ) → is_named client request r ≡ t → place_of (is_named client request) rest ≡ o
        → cond t (Some 0) (option_map suc o) ≡ None → Each (λ r. is_named client request r ≡ false) (r ∷ rest)
    by behind true o s p e = cc
    by behind false (Some n) s p e = cc
    by behind false None s p e = (s, behind p)

  -- requests from a place on have a name exactly where the place of the name is not before it
  pub among-drop : (client request : ℕ) (k : ℕ) (order : List (RaftInput C)) → AreDistinct order → nat_lt k (past_place (place_of (is_named client request) order)) ≡ list_any (is_named client request) (drop k order)
  among-drop client request zero [] distinct = refl
  among-drop client request (suc k) [] distinct = grind (arith, nat_tests)
  among-drop client request zero (r ∷ rest) distinct = by (among-drop client request zero rest distinct.1) (is_named client request r) (place_of (is_named client request) rest) refl refl where
    by : nat_lt 0 (past_place (place_of (is_named client request) rest)) ≡ list_any (is_named client request) rest → (t : Bool) (o : Option ℕ) → is_named client request r ≡ t → place_of (is_named client request) rest ≡ o
        → nat_lt 0 (past_place (cond t (Some 0) (option_map suc o))) ≡ (t || list_any (is_named client request) rest)
    by behind true o s p = refl
    by behind false (Some n) s p = let here = ap (λ v. nat_lt 0 (past_place v)) (sym p) ∙ behind in let both : nat_lt 0 (suc n + 1) ≡ nat_lt 0 (n + 1) = grind (arith, nat_tests) in both ∙ here
    by behind false None s p = ap (λ v. nat_lt 0 (past_place v)) (sym p) ∙ behind
  among-drop client request (suc k) (r ∷ rest) distinct = by (among-drop client request k rest distinct.1) (is_named client request r) (place_of (is_named client request) rest) refl refl where
    by : nat_lt k (past_place (place_of (is_named client request) rest)) ≡ list_any (is_named client request) (drop k rest) → (t : Bool) (o : Option ℕ) → is_named client request r ≡ t → place_of (is_named client request) rest ≡ o
        → nat_lt (suc k) (past_place (cond t (Some 0) (option_map suc o))) ≡ list_any (is_named client request) (drop k rest)
    by behind true o s p = let none = unnamed-any client request k rest (others-unnamed client request r rest distinct.0 s) in let over : nat_lt (suc k) 1 ≡ false = grind (arith, nat_tests) in over ∙ sym none
    by behind false (Some n) s p = let here = ap (λ v. nat_lt k (past_place v)) (sym p) ∙ behind in let less : nat_lt (suc k) (suc n + 1) ≡ nat_lt k (n + 1) = grind (arith, nat_tests) in less ∙ here
    by behind false None s p = let over : nat_lt (suc k) 0 ≡ nat_lt k 0 = grind (arith, nat_tests) in over ∙ (ap (λ v. nat_lt k (past_place v)) (sym p) ∙ behind)

  any-named : (client request : ℕ) (order : List (RaftInput C)) → list_any (is_name client request) (names_of order) ≡ list_any (is_named client request) order
  any-named client request [] = refl
  any-named client request (r ∷ rest) = ap (λ b. b || list_any (is_name client request) (names_of rest)) (same-name client request r) ∙ ap (λ b. is_named client request r || b) (any-named client request rest)

  each-push : (P : RaftInput C → Type 0) (xs : List (RaftInput C)) (x : RaftInput C) → Each P xs → P x → Each P (xs ++ x ∷ [])
  each-push P [] x each one = (one, tt)
  each-push P (y ∷ ys) x each one = (each.0, each-push P ys x each.1 one)

  distinct-push : (xs : List (RaftInput C)) (x : RaftInput C) → AreDistinct xs → list_any (is_named x.client x.request) xs ≡ false → AreDistinct (xs ++ x ∷ [])
  distinct-push [] x distinct none = (tt, tt)
  distinct-push (y ∷ ys) x distinct none =
      let both : (is_named x.client x.request y ≡ false) × (list_any (is_named x.client x.request) ys ≡ false) = or-parts (is_named x.client x.request y) (list_any (is_named x.client x.request) ys) none in
      (each-push (AreOther y) ys x distinct.0 both.0, distinct-push ys x distinct.1 both.1)

  -- the front so far is the longest
  front-by : (found : List Name) (order : List (RaftInput C)) (i : ℕ) → i ≤ length order → length found ≡ i → found ≡ names_of (take i order) → AreDistinct (take i order)
      → ((r : RaftInput C) → slice_get order i ≡ Some r → is_among (take i order) r.client r.request ≡ true) → IsFront found order
  front-by found order i within many are distinct next = record {
    within = omega (arith, within, many);
    names = subst (λ n. found ≡ names_of (take n order)) (sym many) are;
    distinct = subst (λ n. AreDistinct (take n order)) (sym many) distinct;
    next = subst (λ n. (r : RaftInput C) → slice_get order n ≡ Some r → is_among (take n order) r.client r.request ≡ true) (sym many) next;
  }

  many-names : (found : List Name) (order : List (RaftInput C)) (i : ℕ) → i ≤ length order → found ≡ names_of (take i order) → length found ≡ i
  many-names found order i within are = ap length are ∙ (length-map (take i order) name_of ∙ (length-take i order ∙ omega (arith, within)))

  pub front-stops : (found found' : List Name) (order : List (RaftInput C)) (i : ℕ) (x : RaftInput C) (new : Bool) → i < length order → x ≡ get_or order i x → found ≡ names_of (take i order) → AreDistinct (take i order)
      → new ≡ not (list_any (is_name x.client x.request) found) → found' ≡ cond new (found ++ named x.client x.request ∷ []) found → new ≡ false → IsFront found' order
  front-stops found found' order i x new within at are distinct is added old =
      let kept : found' ≡ found = added ∙ ap (λ b. cond b (found ++ named x.client x.request ∷ []) found) old in
      let there : is_among (take i order) x.client x.request ≡ true =
      sym (any-named x.client x.request (take i order)) ∙ (ap (list_any (is_name x.client x.request)) (sym are) ∙ not-false (list_any (is_name x.client x.request) found) (sym is ∙ old)) in
      let same = kept ∙ are in
      front-by found' order i (omega (arith, within)) (many-names found' order i (omega (arith, within)) same) same distinct (λ r got.
      let one : r ≡ x = some-same (sym got ∙ slice_get_read order (length order) i x refl within at) in
      subst (λ (y : RaftInput C). is_among (take i order) y.client y.request ≡ true) (sym one) there) where
        not-false : (t : Bool) → not t ≡ false → t ≡ true
        not-false true e = refl
        not-false false e = cc

        some-same : {a b : RaftInput C} → Some a ≡ Some b → a ≡ b
        some-same e = cc

  pub front-whole : (found : List Name) (order : List (RaftInput C)) (i : ℕ) → i ≤ length order → length order ≤ i → found ≡ names_of (take i order) → AreDistinct (take i order) → IsFront found order
  front-whole found order i within over are distinct =
      front-by found order i within (many-names found order i within are) are distinct (λ r got. let none = slice_get_past order i over in let both : ◌≡◌ {A = Option (RaftInput C)} None (Some r) = sym none ∙ got in cc)

  pub names-push : (found found' : List Name) (order : List (RaftInput C)) (i : ℕ) (x : RaftInput C) (new : Bool) → i < length order → x ≡ get_or order i x → found ≡ names_of (take i order)
      → found' ≡ cond new (found ++ named x.client x.request ∷ []) found → new ≡ true → found' ≡ names_of (take (i + 1) order)
  names-push found found' order i x new within at are added fresh =
      added ∙ (ap (λ b. cond b (found ++ named x.client x.request ∷ []) found) fresh
      ∙ (ap (λ ns. ns ++ named x.client x.request ∷ []) are
      ∙ (sym (map-append name_of (take i order) (x ∷ [])) ∙ ap names_of (sym (take_more order i x within ∙ ap (λ y. take i order ++ y ∷ []) (sym at))))))

  pub distinct-more : (found : List Name) (order : List (RaftInput C)) (i : ℕ) (x : RaftInput C) (new : Bool) → i < length order → x ≡ get_or order i x → found ≡ names_of (take i order) → AreDistinct (take i order)
      → new ≡ not (list_any (is_name x.client x.request) found) → new ≡ true → AreDistinct (take (i + 1) order)
  distinct-more found order i x new within at are distinct is fresh =
      let none : list_any (is_named x.client x.request) (take i order) ≡ false =
      sym (any-named x.client x.request (take i order)) ∙ (ap (list_any (is_name x.client x.request)) (sym are) ∙ not-true (list_any (is_name x.client x.request) found) (sym is ∙ fresh)) in
      subst AreDistinct (sym (take_more order i x within ∙ ap (λ y. take i order ++ y ∷ []) (sym at))) (distinct-push (take i order) x distinct none) where
        not-true : (t : Bool) → not t ≡ true → t ≡ false
        not-true true e = cc
        not-true false e = refl
