-- The executed requests with the indexes of their entries.
use Rattle.std.proofs.Common.{◌≡◌, ℕ, zero, suc, ◌+◌, ◌<◌, ◌≤◌, Bool, true, false, cond, leb, List, [], ◌∷◌, ◌++◌, length, take, Option, Some, None, refl, ap, ◌∙◌, append-nil, arith}
use Rattle.std.proofs.lemmas.Bool.{le-leb, leb-true}
use Rattle.std.specs.List.{cons_option}
use Rattle.std.specs.Option.{option_to_list}
use Rattle.vst_base.specs.declared.entry.Entry.{Entry}
use Rattle.raft_clients.specs.Executed.{exceeds, executed_after, request_of, requests}
use Rattle.raft_types.specs.declared.client.RaftInput.{RaftInput}
use Rattle.lists.specs.Each.{Each, each_weaker}
use Rattle.reads_safety.proofs.Keyed.{executed_from, executed_if}
use Rattle.reads_safety.proofs.Placing.{Sorted, asked, below}

module _ {C : Type 0} where
  -- they are the executed requests
  pub executed_asked : (k : ℕ) (earlier : List (RaftInput C)) (es : List (Entry C)) → asked (executed_from k earlier es) ≡ executed_after Some earlier (requests es)
  executed_asked k earlier [] = refl
  executed_asked k earlier (e ∷ es) = go (request_of e) (executed_asked (suc k) (earlier ++ option_to_list (request_of e)) es)
    where
      chosen : (r : RaftInput C) (b : Bool) (xs : List (ℕ × RaftInput C)) (ys : List (RaftInput C)) → asked xs ≡ ys → asked (cond b ((suc k, r) ∷ xs) xs) ≡ cond b (r ∷ ys) ys
      chosen r true xs ys h = ap (λ zs. r ∷ zs) h
      chosen r false xs ys h = h

      go : (o : Option (RaftInput C)) → asked (executed_from (suc k) (earlier ++ option_to_list o) es) ≡ executed_after Some (earlier ++ option_to_list o) (requests es) →
          asked (executed_if (suc k) earlier (executed_from (suc k) (earlier ++ option_to_list o) es) o) ≡ executed_after Some earlier (cons_option o (requests es))
      go None h = h ∙ ap (λ rs. executed_after Some rs (requests es)) (append-nil earlier)
      go (Some r) h = chosen r (exceeds earlier r.client r.request) _ _ h

  -- each has an index in its list
  pub places : (k : ℕ) (earlier : List (RaftInput C)) (es : List (Entry C)) → Each (λ y. (k < y.0) × (y.0 ≤ k + length es)) (executed_from k earlier es)
  places k earlier [] = tt
  places k earlier (e ∷ es) = go (request_of e) (each_weaker _ (λ y. (k < y.0) × (y.0 ≤ k + length (e ∷ es))) (λ y h. (omega (arith, h.0), omega (arith, h.1))) _ (places (suc k) (earlier ++ option_to_list (request_of e)) es))
    where
      P : ℕ × RaftInput C → Type 0
      P y = (k < y.0) × (y.0 ≤ k + length (e ∷ es))

      chosen : (r : RaftInput C) (b : Bool) (xs : List (ℕ × RaftInput C)) → Each (λ y. (k < y.0) × (y.0 ≤ k + length (e ∷ es))) xs → Each (λ y. (k < y.0) × (y.0 ≤ k + length (e ∷ es))) (cond b ((suc k, r) ∷ xs) xs)
      chosen r true xs h = ((omega arith, omega arith), h)
      chosen r false xs h = h

      go : (o : Option (RaftInput C)) → Each (λ y. (k < y.0) × (y.0 ≤ k + length (e ∷ es))) (executed_from (suc k) (earlier ++ option_to_list o) es) →
          Each (λ y. (k < y.0) × (y.0 ≤ k + length (e ∷ es))) (executed_if (suc k) earlier (executed_from (suc k) (earlier ++ option_to_list o) es) o)
      go None h = h
      go (Some r) h = chosen r (exceeds earlier r.client r.request) _ h

  pub sorted : (k : ℕ) (earlier : List (RaftInput C)) (es : List (Entry C)) → Sorted (executed_from k earlier es)
  sorted k earlier [] = tt
  sorted k earlier (e ∷ es) =
      go (request_of e) (each_weaker _ (λ y. suc k ≤ y.0) (λ y h. omega (arith, h.0)) _ (places (suc k) (earlier ++ option_to_list (request_of e)) es)) (sorted (suc k) (earlier ++ option_to_list (request_of e)) es)
    where
      chosen : (r : RaftInput C) (b : Bool) (xs : List (ℕ × RaftInput C)) → Each (λ y. suc k ≤ y.0) xs → Sorted xs → Sorted (cond b ((suc k, r) ∷ xs) xs)
      chosen r true xs h s = (h, s)
      chosen r false xs h s = s

      go : (o : Option (RaftInput C)) → Each (λ y. suc k ≤ y.0) (executed_from (suc k) (earlier ++ option_to_list o) es) → Sorted (executed_from (suc k) (earlier ++ option_to_list o) es) →
          Sorted (executed_if (suc k) earlier (executed_from (suc k) (earlier ++ option_to_list o) es) o)
      go None h s = s
      go (Some r) h s = chosen r (exceeds earlier r.client r.request) _ h s

  none_up : (a k : ℕ) (xs : List (ℕ × RaftInput C)) → a ≤ k → Each (λ y. k < y.0) xs → below a xs ≡ []
  none_up a k [] h e = refl
  none_up a k (x ∷ xs) h e = go (leb x.0 a) refl (none_up a k xs h e.1)
    where
      go : (d : Bool) → leb x.0 a ≡ d → below a xs ≡ [] → cond d (x ∷ below a xs) (below a xs) ≡ []
      go true q r = absurd (let le = leb-true _ _ q in let f = e.0 in omega arith)
      go false q r = r

  -- those up to an index are the executed ones of the entries up to it
  pub up_to_index : (k j : ℕ) (earlier : List (RaftInput C)) (es : List (Entry C)) → below (k + j) (executed_from k earlier es) ≡ executed_from k earlier (take j es)
  up_to_index k zero earlier es = none_up (k + 0) k (executed_from k earlier es) (omega arith) (each_weaker _ (λ y. k < y.0) (λ y h. h.0) _ (places k earlier es))
  up_to_index k (suc j) earlier [] = refl
  up_to_index k (suc j) earlier (e ∷ es) =
      let same : suc k + j ≡ k + suc j = omega arith in
      go (request_of e) (rw same at (up_to_index (suc k) j (earlier ++ option_to_list (request_of e)) es))
    where
      here : leb (suc k) (k + suc j) ≡ true
      here = le-leb (suc k) (k + suc j) (omega arith)

      chosen : (r : RaftInput C) (b : Bool) (xs ys : List (ℕ × RaftInput C)) → below (k + suc j) xs ≡ ys → below (k + suc j) (cond b ((suc k, r) ∷ xs) xs) ≡ cond b ((suc k, r) ∷ ys) ys
      chosen r true xs ys h = rw here (ap (λ zs. (suc k, r) ∷ zs) h)
      chosen r false xs ys h = h

      go : (o : Option (RaftInput C)) → below (k + suc j) (executed_from (suc k) (earlier ++ option_to_list o) es) ≡ executed_from (suc k) (earlier ++ option_to_list o) (take j es) →
          below (k + suc j) (executed_if (suc k) earlier (executed_from (suc k) (earlier ++ option_to_list o) es) o) ≡ executed_if (suc k) earlier (executed_from (suc k) (earlier ++ option_to_list o) (take j es)) o
      go None h = h
      go (Some r) h = chosen r (exceeds earlier r.client r.request) _ _ h

  -- of a longer list there are more
  pub executed_append : (k : ℕ) (earlier : List (RaftInput C)) (es fs : List (Entry C)) → (rest : List (ℕ × RaftInput C)) × (executed_from k earlier (es ++ fs) ≡ executed_from k earlier es ++ rest) × Each (λ y. k + length es < y.0) rest
  executed_append k earlier [] fs = (executed_from k earlier fs, refl, each_weaker _ (λ y. k + 0 < y.0) (λ y h. omega (arith, h.0)) _ (places k earlier fs))
  executed_append k earlier (e ∷ es) fs = go (request_of e) (executed_append (suc k) (earlier ++ option_to_list (request_of e)) es fs)
    where
      later : (rest : List (ℕ × RaftInput C)) → Each (λ y. suc k + length es < y.0) rest → Each (λ y. k + length (e ∷ es) < y.0) rest
      later rest h = each_weaker _ (λ y. k + length (e ∷ es) < y.0) (λ y h. omega (arith, h)) rest h

      chosen : (r : RaftInput C) (b : Bool) (xs ys rest : List (ℕ × RaftInput C)) → xs ≡ ys ++ rest → cond b ((suc k, r) ∷ xs) xs ≡ cond b ((suc k, r) ∷ ys) ys ++ rest
      chosen r true xs ys rest h = ap (λ zs. (suc k, r) ∷ zs) h
      chosen r false xs ys rest h = h

      go : (o : Option (RaftInput C)) →
          (rest : List (ℕ × RaftInput C)) × (executed_from (suc k) (earlier ++ option_to_list o) (es ++ fs) ≡ executed_from (suc k) (earlier ++ option_to_list o) es ++ rest) × Each (λ y. suc k + length es < y.0) rest →
          (rest : List (ℕ × RaftInput C)) × (executed_if (suc k) earlier (executed_from (suc k) (earlier ++ option_to_list o) (es ++ fs)) o ≡ executed_if (suc k) earlier (executed_from (suc k) (earlier ++ option_to_list o) es) o ++ rest) × Each (λ y. k + length (e ∷ es) < y.0) rest
      go None h = (h.0, h.1, later h.0 h.2)
      go (Some r) h = (h.0, chosen r (exceeds earlier r.client r.request) _ _ h.0 h.1, later h.0 h.2)
