-- Which pairs were used, as it is kept of each.
use Rattle.std.proofs.Common.{◌≡◌, ℕ, Bool, true, false, cond, ◌&&◌, ◌||◌, eqb, List, [], ◌∷◌, ◌++◌, Option, Some, None, refl, sym, ap, ◌∙◌, arith}
use Rattle.std.proofs.lemmas.Bool.Decides.{nat_tests}
use Rattle.std.proofs.lemmas.List.{append-nil}
use Rattle.std.specs.List.{filter, list_any}
use Rattle.raft_types.specs.declared.client.RaftInput.{RaftInput}
use Rattle.linearizability.specs.Linearizable.{is_named}
use Rattle.read_observer.specs.Pairs.{any_reads, uses_again}

-- what is said of a request that reads or not, where this is kept of its pair
abbrev pub used_as : Option Bool → Bool → Bool
used_as None reads = false
used_as (Some was) reads = was || reads

or_true : (b : Bool) → (b || true) ≡ true
or_true true = refl
or_true false = refl

or_false : (b : Bool) → (b || false) ≡ b
or_false true = refl
or_false false = refl

module _ {X : Type 0} where
  any_filter : (p q : X → Bool) (xs : List X) → list_any (λ x. p x && q x) xs ≡ list_any q (filter p xs)
  any_filter p q [] = refl
  any_filter p q (x ∷ xs) = go (p x) (any_filter p q xs)
    where
      go : (b : Bool) → list_any (λ y. p y && q y) xs ≡ list_any q (filter p xs) →
          ((b && q x) || list_any (λ y. p y && q y) xs) ≡ list_any q (cond b (x ∷ filter p xs) (filter p xs))
      go true rest = ap (λ b. q x || b) rest
      go false rest = rest

  any_or_false : (q : X → Bool) (xs : List X) → list_any (λ x. q x || false) xs ≡ list_any q xs
  any_or_false q [] = refl
  any_or_false q (x ∷ xs) = rw (or_false (q x), any_or_false q xs) refl

  filter_more : (p : X → Bool) (xs : List X) (x : X) (b : Bool) → p x ≡ b → filter p (xs ++ x ∷ []) ≡ filter p xs ++ cond b (x ∷ []) []
  filter_more p [] x b is = rw is refl
  filter_more p (y ∷ xs) x b is = go (p y) (filter_more p xs x b is)
    where
      go : (c : Bool) → filter p (xs ++ x ∷ []) ≡ filter p xs ++ cond b (x ∷ []) [] →
          cond c (y ∷ filter p (xs ++ x ∷ [])) (filter p (xs ++ x ∷ [])) ≡ cond c (y ∷ filter p xs) (filter p xs) ++ cond b (x ∷ []) []
      go true rest = ap (λ ys. y ∷ ys) rest
      go false rest = rest

module _ {C : Type 0} (is_read : C → Bool) where
  abbrev reads : RaftInput C → Bool
  reads i = is_read i.cmd

  used_as-all : (fs : List (RaftInput C)) (b : Bool) → list_any (λ i. reads i || b) fs ≡ used_as (any_reads is_read fs) b
  used_as-all [] b = refl
  used_as-all (f ∷ fs) true = rw (or_true (reads f), or_true (list_any reads (f ∷ fs))) refl
  used_as-all (f ∷ fs) false = any_or_false reads (f ∷ fs) ∙ sym (or_false (list_any reads (f ∷ fs)))

  -- what is kept tells whether a request uses its pair again
  pub used-kept : (rs : List (RaftInput C)) (j : RaftInput C) →
      uses_again is_read rs (Some j) ≡ used_as (any_reads is_read (filter (is_named j.client j.request) rs)) (is_read j.cmd)
  used-kept rs j =
      any_filter (is_named j.client j.request) (λ i. reads i || is_read j.cmd) rs
      ∙ used_as-all (filter (is_named j.client j.request) rs) (is_read j.cmd)

  -- one more request of a pair, which doesn't use it again
  any_reads_more : (fs : List (RaftInput C)) (i : RaftInput C) (was b : Bool) → reads i ≡ b → list_any reads fs ≡ was → (was || b) ≡ false →
      list_any reads (fs ++ i ∷ []) ≡ b
  any_reads_more [] i was b r is none = ap (λ c. c || false) r ∙ or_false b
  any_reads_more (f ∷ fs) i was b r is none = go (reads f) refl (λ at. any_reads_more fs i was b r at none)
    where
      go : (c : Bool) → reads f ≡ c → (list_any reads fs ≡ was → list_any reads (fs ++ i ∷ []) ≡ b) → (reads f || list_any reads (fs ++ i ∷ [])) ≡ b
      go true t later =
          let read : true ≡ was = sym (ap (λ c. c || list_any reads fs) t) ∙ is in
          let both : true ≡ false = ap (λ w. w || b) read ∙ none in
          absurd (cc (both))
      go false t later = ap (λ c. c || list_any reads (fs ++ i ∷ [])) t ∙ later (sym (ap (λ c. c || list_any reads fs) t) ∙ is)

  kept_more : (fs : List (RaftInput C)) (i : RaftInput C) → used_as (any_reads is_read fs) (is_read i.cmd) ≡ false →
      any_reads is_read (fs ++ i ∷ []) ≡ Some (is_read i.cmd)
  kept_more [] i unused = ap Some (or_false (is_read i.cmd))
  kept_more (f ∷ fs) i unused = ap Some (any_reads_more (f ∷ fs) i (list_any reads (f ∷ fs)) (is_read i.cmd) refl refl unused)

  -- what is kept of each pair once there is one more request, which doesn't use its pair again
  pub kept-more : (rs : List (RaftInput C)) (i : RaftInput C) → uses_again is_read rs (Some i) ≡ false → (client request : ℕ) (b : Bool) →
      is_named client request i ≡ b → (b ≡ true → is_named {C = C} client request ≡ is_named i.client i.request) →
      any_reads is_read (filter (is_named client request) (rs ++ i ∷ []))
      ≡ cond b (Some (is_read i.cmd)) (any_reads is_read (filter (is_named client request) rs))
  kept-more rs i unused client request false is same =
      ap (any_reads is_read) (filter_more (is_named client request) rs i false is ∙ append-nil (filter (is_named client request) rs))
  kept-more rs i unused client request true is same =
      ap (any_reads is_read) (filter_more (is_named client request) rs i true is)
      ∙ kept_more (filter (is_named client request) rs) i
      (ap (λ p. used_as (any_reads is_read (filter p rs)) (is_read i.cmd)) (same refl) ∙ sym (used-kept rs i) ∙ unused)

and_both : (a b : Bool) → (a && b) ≡ true → (a ≡ true) × (b ≡ true)
and_both true b h = (refl, h)
and_both false b h = absurd (cc (h))

-- a request of this client and number: its client is this, and its number this
pub same_pair : {C : Type 0} (client request : ℕ) (i : RaftInput C) → is_named client request i ≡ true → is_named {C = C} client request ≡ is_named i.client i.request
same_pair {C = C} client request i named =
    let both = and_both (eqb i.client client) (eqb i.request request) named in
    let of_client : i.client ≡ client = grind (arith, nat_tests) in
    let of_number : i.request ≡ request = grind (arith, nat_tests) in
    rw (of_client, of_number) refl
