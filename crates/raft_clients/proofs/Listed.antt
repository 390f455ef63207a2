-- Which requests are executed, by what stands before them alone.
use Rattle.std.proofs.Common.{◌≡◌, ℕ, zero, suc, ◌+◌, ◌<◌, Bool, true, false, cond, not, ◌&&◌, ◌||◌, eqb, ltb, List, [], ◌∷◌, ◌++◌, length, map, get_or, Option, None, Some, refl, ap, sym, ◌∙◌, arith}
use Rattle.std.proofs.Math.Bool.{and-true}
use Rattle.std.proofs.lemmas.Bool.{eq-eqb, ltb-true}
use Rattle.std.proofs.lemmas.List.{append_assoc, append-nil, length-append}
use Rattle.std.proofs.lemmas.List.Elements.{All-nil, All-cons}
use Rattle.std.proofs.lemmas.List.Folds.{list_all-append}
use Rattle.std.specs.List.{All, AllPairs, cons_option, enumerate_from, filter_map, slice_get}
use Rattle.std.specs.Option.{option_to_list}
use Rattle.vst_base.specs.declared.entry.Entry.{Entry}
use Rattle.raft_clients.specs.Executed.{exceeds, executed, executed_after, executed_entries, executed_places, is_executed, request_of, requests}
use Rattle.raft_types.specs.declared.client.RaftInput.{RaftInput}
use Rattle.lists.specs.Places.{slice_get_seam}

and_front : (a b : Bool) → (a && b) ≡ true → a ≡ true
and_front true b h = refl
and_front false b h = h

and_back : (a b : Bool) → (a && b) ≡ true → b ≡ true
and_back true b h = h
and_back false b h = absurd (cc)

-- what is left out or kept by a test, on both sides of an equation
chosen : {A B : Type 0} (f : A → B) (b : Bool) (x y : A) (v w : B) → f x ≡ v → f y ≡ w → f (cond b x y) ≡ cond b v w
chosen f true x y v w p q = p
chosen f false x y v w p q = q

module _ {A C : Type 0} (asks : A → Option (RaftInput C)) where
  -- one more request, if there is one, and those after it
  one_more : (earlier : List (RaftInput C)) (o : Option (RaftInput C)) (later : List (RaftInput C)) → (earlier ++ option_to_list o) ++ later ≡ earlier ++ cons_option o later
  one_more earlier None later = ap (λ rs. rs ++ later) (append-nil earlier)
  one_more earlier (Some r) later = append_assoc earlier (r ∷ []) later

  pub executed_after-append : (earlier : List (RaftInput C)) (xs ys : List A) →
      executed_after asks earlier (xs ++ ys) ≡ executed_after asks earlier xs ++ executed_after asks (earlier ++ filter_map asks xs) ys
  executed_after-append earlier [] ys = ap (λ rs. executed_after asks rs ys) (sym (append-nil earlier))
  executed_after-append earlier (x ∷ xs) ys =
      let then : List (RaftInput C) = earlier ++ option_to_list (asks x) in
      go _ _ _ (is_executed earlier (asks x)) (executed_after-append then xs ys ∙ ap (λ rs. executed_after asks then xs ++ executed_after asks rs ys) (one_more earlier (asks x) (filter_map asks xs)))
    where
      go : (all front rest : List A) (b : Bool) → all ≡ front ++ rest → cond b (x ∷ all) all ≡ cond b (x ∷ front) front ++ rest
      go all front rest true e = ap (λ zs. x ∷ zs) e
      go all front rest false e = e

  -- the requests of what is executed are the executed ones
  pub executed_after-filter : (earlier : List (RaftInput C)) (xs : List A) → filter_map asks (executed_after asks earlier xs) ≡ executed_after Some earlier (filter_map asks xs)
  executed_after-filter earlier [] = refl
  executed_after-filter earlier (x ∷ xs) = go (asks x) refl (executed_after-filter (earlier ++ option_to_list (asks x)) xs)
    where
      go : (o : Option (RaftInput C)) → asks x ≡ o →
          filter_map asks (executed_after asks (earlier ++ option_to_list (asks x)) xs) ≡ executed_after Some (earlier ++ option_to_list (asks x)) (filter_map asks xs) →
          filter_map asks (cond (is_executed earlier (asks x)) (x ∷ executed_after asks (earlier ++ option_to_list (asks x)) xs) (executed_after asks (earlier ++ option_to_list (asks x)) xs))
          ≡ executed_after Some earlier (cons_option (asks x) (filter_map asks xs))
      go None e rest = rw (e, append-nil) (rw (e, append-nil) at rest)
      go (Some r) e rest = rw e (chosen (filter_map asks) (exceeds earlier r.client r.request) _ _ _ _ (rw e (ap (λ rs. r ∷ rs) (rw e at rest))) (rw e at rest))

module _ {C : Type 0} where
  pub executed-append : (xs ys : List (RaftInput C)) → executed (xs ++ ys) ≡ executed xs ++ executed_after Some xs ys
  executed-append xs ys = executed_after-append Some [] xs ys ∙ ap (λ rs. executed xs ++ executed_after Some rs ys) (filter_some xs)
    where
      filter_some : (rs : List (RaftInput C)) → filter_map Some rs ≡ rs
      filter_some [] = refl
      filter_some (r ∷ rs) = ap (λ qs. r ∷ qs) (filter_some rs)

  pub executed_entries-append : (xs ys : List (Entry C)) → executed_entries (xs ++ ys) ≡ executed_entries xs ++ executed_after request_of (requests xs) ys
  executed_entries-append xs ys = executed_after-append request_of [] xs ys

  pub requests-executed_entries : (es : List (Entry C)) → requests (executed_entries es) ≡ executed (requests es)
  requests-executed_entries es = executed_after-filter request_of [] es

  at_places : (whole before es : List (Entry C)) (earlier : List (RaftInput C)) (n : ℕ) → length before ≡ n → whole ≡ before ++ es →
      map (slice_get whole) (map (λ p. p.0) (executed_after (λ p. request_of p.1) earlier (enumerate_from n es))) ≡ map Some (executed_after request_of earlier es)
  at_places whole before [] earlier n at is = refl
  at_places whole before (e ∷ es) earlier n at is =
      go _ _ (is_executed earlier (request_of e)) (ap (slice_get whole) (sym at) ∙ (ap (λ l. slice_get l (length before)) is ∙ slice_get_seam before e es))
      (at_places whole (before ++ e ∷ []) es (earlier ++ option_to_list (request_of e)) (n + 1) (omega (arith, length-append before (e ∷ []))) (is ∙ sym (append_assoc before (e ∷ []) es)))
    where
      go : (ps : List (ℕ × Entry C)) (xs : List (Entry C)) (b : Bool) → slice_get whole n ≡ Some e → map (slice_get whole) (map (λ p. p.0) ps) ≡ map Some xs →
          map (slice_get whole) (map (λ p. p.0) (cond b ((n, e) ∷ ps) ps)) ≡ map Some (cond b (e ∷ xs) xs)
      go ps xs true here rest = λ i. here i ∷ rest i
      go ps xs false here rest = rest

  pub executed-at_places : (es : List (Entry C)) → map (slice_get es) (executed_places es) ≡ map Some (executed_entries es)
  executed-at_places es = at_places es [] es [] 0 refl refl

  -- each executed request exceeds those that stand before it, the earlier ones too
  abbrev Exceeds : List (RaftInput C) → RaftInput C → Type 0
  Exceeds earlier r = exceeds earlier r.client r.request ≡ true

  exceeds_front : (earlier : List (RaftInput C)) (r x : RaftInput C) → Exceeds (earlier ++ r ∷ []) x → Exceeds earlier x
  exceeds_front earlier r x h = and_front (exceeds earlier x.client x.request) _ (sym (list_all-append _ earlier (r ∷ [])) ∙ h)

  exceeds_last : (earlier : List (RaftInput C)) (r x : RaftInput C) → Exceeds (earlier ++ r ∷ []) x → r.client ≡ x.client → r.request < x.request
  exceeds_last earlier r x h same =
      let last : ((not (eqb r.client x.client) || ltb r.request x.request) && true) ≡ true = and_back (exceeds earlier x.client x.request) _ (sym (list_all-append _ earlier (r ∷ [])) ∙ h) in
      ltb-true r.request x.request (sym (ap (λ b. not b || ltb r.request x.request) (eq-eqb r.client x.client same)) ∙ (sym (and-true _) ∙ last))

  each_exceeds : (earlier rs : List (RaftInput C)) → All (Exceeds earlier) (executed_after Some earlier rs)
  each_exceeds earlier [] = All-nil (Exceeds earlier)
  each_exceeds earlier (r ∷ rs) = go (exceeds earlier r.client r.request) refl (λ k d h. exceeds_front earlier r (get_or (executed_after Some (earlier ++ r ∷ []) rs) k d) (each_exceeds (earlier ++ r ∷ []) rs k d h))
    where
      go : (b : Bool) → exceeds earlier r.client r.request ≡ b → All (Exceeds earlier) (executed_after Some (earlier ++ r ∷ []) rs) →
          All (Exceeds earlier) (cond b (r ∷ executed_after Some (earlier ++ r ∷ []) rs) (executed_after Some (earlier ++ r ∷ []) rs))
      go true t rest = All-cons (Exceeds earlier) r _ t rest
      go false t rest = rest

  -- a later one of the same client has a greater number
  abbrev pub Rises : RaftInput C → RaftInput C → Type 0
  Rises a b = a.client ≡ b.client → a.request < b.request

  all_pairs_cons : (x : RaftInput C) (xs : List (RaftInput C)) → All (Rises x) xs → AllPairs Rises xs → AllPairs Rises (x ∷ xs)
  all_pairs_cons x xs first rest i zero d h k = absurd (omega arith)
  all_pairs_cons x xs first rest zero (suc j) d h k = first j d (omega arith)
  all_pairs_cons x xs first rest (suc i) (suc j) d h k = rest i j d (omega arith) (omega arith)

  each_rises : (earlier rs : List (RaftInput C)) → AllPairs Rises (executed_after Some earlier rs)
  each_rises earlier [] = λ i j d h k. absurd (omega arith)
  each_rises earlier (r ∷ rs) = go (exceeds earlier r.client r.request) (λ k d h. exceeds_last earlier r (get_or (executed_after Some (earlier ++ r ∷ []) rs) k d) (each_exceeds (earlier ++ r ∷ []) rs k d h)) (each_rises (earlier ++ r ∷ []) rs)
    where
      go : (b : Bool) → All (Rises r) (executed_after Some (earlier ++ r ∷ []) rs) → AllPairs Rises (executed_after Some (earlier ++ r ∷ []) rs) →
          AllPairs Rises (cond b (r ∷ executed_after Some (earlier ++ r ∷ []) rs) (executed_after Some (earlier ++ r ∷ []) rs))
      go true first rest = all_pairs_cons r _ first rest
      go false first rest = rest

  pub executed-rises : (rs : List (RaftInput C)) → AllPairs Rises (executed rs)
  executed-rises rs = each_rises [] rs
