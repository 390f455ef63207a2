-- Queues by number, of which those past the last are empty.
use Rattle.std.proofs.Common.{◌≡◌, ℕ, zero, suc, ◌-◌, ◌<◌, ◌≤◌, Bool, List, [], ◌∷◌, ◌++◌, length, get_or, set, take, refl, ap, sym, ◌∙◌, arith, inl, inr, length-append}
use Rattle.std.specs.Prelude.{◌==◌, map, if◌then◌else◌}
use Rattle.std.proofs.lemmas.Bool.{cases_eq, eq-eqb, ne_eqb}
use Rattle.std.proofs.lemmas.Grind.{get_or-set_at}
use Rattle.std.proofs.lemmas.List.{get_or_past, get_or-set_other, length-map, get_or-map, map-set, take_at}

module _ {Q : Type 0} (f : Q → List ℕ) where
  -- an empty one more
  pub at-grown : (qs : List Q) (q : Q) → f q ≡ [] → (i : ℕ) → get_or (map f (qs ++ q ∷ [])) i [] ≡ get_or (map f qs) i []
  at-grown [] q e zero = e
  at-grown [] q e (suc i) = refl
  at-grown (x ∷ qs) q e zero = refl
  at-grown (x ∷ qs) q e (suc i) = at-grown qs q e i

  -- one has other packets
  pub at-changed : (qs : List Q) (n : ℕ) (q : Q) (xs : List ℕ) → n < length qs → f q ≡ xs → (i : ℕ)
      → get_or (map f (set qs n q)) i [] ≡ (if i == n then xs else get_or (map f qs) i [])
  at-changed qs n q xs inside e i = ap (λ ys. get_or ys i []) (map-set f qs n q) ∙ elim (cases_eq i n) [
    | inl same ↦ get_or-set_at (map f qs) n i (f q) [] same (omega (arith, inside, length-map qs f)) ∙ e
        ∙ sym (ap (λ (b : Bool). if b then xs else get_or (map f qs) i []) (eq-eqb i n same))
    | inr other ↦ get_or-set_other (map f qs) n i (f q) [] other
        ∙ sym (ap (λ (b : Bool). if b then xs else get_or (map f qs) i []) (ne_eqb i n other))
  ]

  pub at-past : (qs : List Q) (n : ℕ) → length qs ≤ n → get_or (map f qs) n [] ≡ []
  at-past qs n past = get_or_past (map f qs) n [] (omega (arith, past, length-map qs f))

-- where the queue has these packets, all others have what they had
pub at-same : (qs : List (List ℕ)) (n : ℕ) (xs : List ℕ) → xs ≡ get_or qs n [] → (i : ℕ) → get_or qs i [] ≡ (if i == n then xs else get_or qs i [])
at-same qs n xs e i = elim (cases_eq i n) [
  | inl same ↦ ap (λ k. get_or qs k []) same ∙ sym e ∙ sym (ap (λ (b : Bool). if b then xs else get_or qs i []) (eq-eqb i n same))
  | inr other ↦ sym (ap (λ (b : Bool). if b then xs else get_or qs i []) (ne_eqb i n other))
]

-- what is read of one
pub read : {Q : Type 0} (f : Q → List ℕ) (qs : List Q) (n : ℕ) (q : Q) → n < length qs → q ≡ get_or qs n q → f q ≡ get_or (map f qs) n []
read f qs n q inside e = ap f e ∙ sym (get_or-map f qs n q [] inside)

-- the last leaves a queue that has one
pub last-gone : (xs ys was : List ℕ) (k n : ℕ) → was ≡ xs ++ k ∷ [] → n ≡ length was → ys ≡ take (n - 1) was → ys ≡ xs
last-gone xs ys was k n e number rest =
    rest ∙ ap (take (n - 1)) e ∙ take_at xs (k ∷ []) (n - 1) (omega (arith, number, ap length e, length-append xs (k ∷ [])))

pub none-joined : {A : Type 0} (xs : List ℕ) (k : ℕ) → xs ++ k ∷ [] ≡ [] → A
none-joined [] k e = cc
none-joined (x ∷ xs) k e = cc

-- one that joined is withdrawn
pub withdrawn : (old joined after : List (List ℕ)) (n k : ℕ)
    → ((i : ℕ) → get_or joined i [] ≡ (if i == n then get_or old n [] ++ k ∷ [] else get_or old i []))
    → ((q : List ℕ) (k i : ℕ) → get_or joined n [] ≡ q ++ k ∷ [] → get_or after i [] ≡ (if i == n then q else get_or joined i []))
    → (i : ℕ) → get_or after i [] ≡ get_or old i []
withdrawn old joined after n k join back i =
    let last : get_or joined n [] ≡ get_or old n [] ++ k ∷ [] =
    join n ∙ ap (λ (b : Bool). if b then get_or old n [] ++ k ∷ [] else get_or old n []) (eq-eqb n n refl) in
    back (get_or old n []) k i last ∙ elim (cases_eq i n) [
      | inl same ↦ ap (λ (b : Bool). if b then get_or old n [] else get_or joined i []) (eq-eqb i n same) ∙ ap (λ j. get_or old j []) (sym same)
      | inr other ↦ ap (λ (b : Bool). if b then get_or old n [] else get_or joined i []) (ne_eqb i n other)
          ∙ join i ∙ ap (λ (b : Bool). if b then get_or old n [] ++ k ∷ [] else get_or old i []) (ne_eqb i n other)
    ]
