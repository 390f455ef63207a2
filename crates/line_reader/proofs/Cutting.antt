-- Cuts at the first of some byte.
use Rattle.std.specs.Prelude.{◌≡◌, ℕ, Bool, true, false, ◌==◌, ◌<◌, List, [], ◌∷◌, ◌++◌, length, take, drop, Option, Some, None, cond, refl}
use Rattle.std.proofs.Common.{zero, suc, ap, ◌∙◌, sym, arith}
use Rattle.memchr.specs.Find.{Passes, Nowhere, is_byte}
use Rattle.line_reader.specs.Lines.{cut_at, onto_cut}

-- a cut after a front
abbrev pub after_front : List ℕ → Option (List ℕ × List ℕ) → Option (List ℕ × List ℕ)
after_front front None = None
after_front front (Some p) = Some (front ++ p.0, p.1)

behind_nothing : (o : Option (List ℕ × List ℕ)) → after_front [] o ≡ o
behind_nothing None = refl
behind_nothing (Some p) = refl

behind_onto : (b : ℕ) (bs : List ℕ) (o : Option (List ℕ × List ℕ)) → onto_cut b (after_front bs o) ≡ after_front (b ∷ bs) o
behind_onto b bs None = refl
behind_onto b bs (Some p) = refl

onto-none : (b : ℕ) (o : Option (List ℕ × List ℕ)) → onto_cut b o ≡ None → o ≡ None
onto-none b None e = refl
onto-none b (Some p) e = cc

-- by whether the first byte is the one
none-step : (t : Bool) (b : ℕ) (bs : List ℕ) (o : Option (List ℕ × List ℕ)) → cond t (Some ([], bs)) (onto_cut b o) ≡ None → (t ≡ false) × (o ≡ None)
none-step true b bs o e = cc
none-step false b bs o e = (refl, onto-none b o e)

pub none-parts : (at b : ℕ) (bs : List ℕ) → cut_at at (b ∷ bs) ≡ None → ((b == at) ≡ false) × (cut_at at bs ≡ None)
none-parts at b bs e = none-step (b == at) b bs (cut_at at bs) e

pub none-from : (at b : ℕ) (bs : List ℕ) → (b == at) ≡ false → cut_at at bs ≡ None → cut_at at (b ∷ bs) ≡ None
none-from at b bs other e = rw (other, e) refl

-- after bytes without it
pub cut-behind : (at : ℕ) (xs ys : List ℕ) → cut_at at xs ≡ None → cut_at at (xs ++ ys) ≡ after_front xs (cut_at at ys)
cut-behind at [] ys e = sym (behind_nothing (cut_at at ys))
cut-behind at (x ∷ xs) ys e =
    let parts = none-parts at x xs e in
    ap (λ t. cond t (Some ([], xs ++ ys)) (onto_cut x (cut_at at (xs ++ ys)))) parts.0
    ∙ (ap (onto_cut x) (cut-behind at xs ys parts.1) ∙ behind_onto x xs (cut_at at ys))

pub cut-here : (at : ℕ) (xs ys : List ℕ) → cut_at at xs ≡ None → (at == at) ≡ true → cut_at at (xs ++ at ∷ ys) ≡ Some (xs, ys)
cut-here at xs ys e same =
    cut-behind at xs (at ∷ ys) e ∙ (ap (λ t. after_front xs (cond t (Some ([], ys)) (onto_cut at (cut_at at ys)))) same ∙ ap (λ zs. Some (zs, ys)) (append-nothing xs)) where
      append-nothing : (zs : List ℕ) → zs ++ [] ≡ zs
      append-nothing [] = refl
      append-nothing (z ∷ zs) = ap (λ ws. z ∷ ws) (append-nothing zs)

pub none-append : (at : ℕ) (xs ys : List ℕ) → cut_at at xs ≡ None → cut_at at ys ≡ None → cut_at at (xs ++ ys) ≡ None
none-append at xs ys e f = cut-behind at xs ys e ∙ ap (after_front xs) f

pub none-take : (at n : ℕ) (xs : List ℕ) → cut_at at xs ≡ None → cut_at at (take n xs) ≡ None
none-take at zero xs e = refl
none-take at (suc n) [] e = refl
none-take at (suc n) (x ∷ xs) e =
    let parts = none-parts at x xs e in
    none-from at x (take n xs) parts.0 (none-take at n xs parts.1)

-- what a cut is made of
pub record CutParts (at : ℕ) (bs : List ℕ) (p : List ℕ × List ℕ) : Type 0 where
  pub whole : bs ≡ p.0 ++ at ∷ p.1
  pub front : cut_at at p.0 ≡ None

parts-step : (t : Bool) (at b : ℕ) (bs : List ℕ) (o : Option (List ℕ × List ℕ)) (p : List ℕ × List ℕ) → (b == at) ≡ t → (t ≡ true → b ≡ at)
    → ((q : List ℕ × List ℕ) → o ≡ Some q → CutParts at bs q) → cond t (Some ([], bs)) (onto_cut b o) ≡ Some p → CutParts at (b ∷ bs) p
parts-step true at b bs o p is same parts e =
    let here : ([], bs) ≡ p = cc in
    let b_is = same refl in
    rw (← here, b_is) (record { whole = refl; front = refl })
parts-step false at b bs None p is same parts e = cc
parts-step false at b bs (Some q) p is same parts e =
    let later = parts q refl in
    let here : (b ∷ q.0, q.1) ≡ p = cc in
    rw (← here) (record { whole = ap (λ xs. b ∷ xs) later.whole; front = none-from at b q.0 is later.front })

eqb-same : (b at : ℕ) → (b == at) ≡ true → b ≡ at
eqb-same b at e = grind arith

pub cut-parts : (at : ℕ) (bs : List ℕ) (p : List ℕ × List ℕ) → cut_at at bs ≡ Some p → CutParts at bs p
cut-parts at [] p e = cc
cut-parts at (b ∷ bs) p e = parts-step (b == at) at b bs (cut_at at bs) p refl (eqb-same b at) (λ q is. cut-parts at bs q is) e

-- a search that found it nowhere, and one that found it
not-true : (t : Bool) → (t ≡ true → ⊥) → t ≡ false
not-true true h = absurd (h refl)
not-true false h = refl

pub cut-nowhere : (at : ℕ) (bs : List ℕ) → Nowhere (Passes (is_byte at) bs) 0 (length bs) → cut_at at bs ≡ None
cut-nowhere at [] h = refl
cut-nowhere at (b ∷ bs) h =
    none-from at b bs (not-true (b == at) (λ is. h 0 (omega arith) (omega arith) is))
    (cut-nowhere at bs (λ k low below is. h (suc k) (omega arith) (omega (arith, below)) is))

pub cut-place : (at k : ℕ) (bs : List ℕ) → Nowhere (Passes (is_byte at) bs) 0 k → k < length bs → Passes (is_byte at) bs k → cut_at at bs ≡ Some (take k bs, drop (suc k) bs)
cut-place at k [] h below is = absurd (omega (arith, below))
cut-place at zero (b ∷ bs) h below is = ap (λ t. cond t (Some ([], bs)) (onto_cut b (cut_at at bs))) is
cut-place at (suc k) (b ∷ bs) h below is =
    let other = not-true (b == at) (λ e. h 0 (omega arith) (omega arith) e) in
    let later = cut-place at k bs (λ i low high e. h (suc i) (omega arith) (omega (arith, high)) e) (omega (arith, below)) is in
    ap (λ t. cond t (Some ([], bs)) (onto_cut b (cut_at at bs))) other ∙ ap (onto_cut b) later

pub drop-one : (i : ℕ) (bs : List ℕ) → drop 1 (drop i bs) ≡ drop (suc i) bs
drop-one zero [] = refl
drop-one zero (b ∷ bs) = refl
drop-one (suc i) [] = refl
drop-one (suc i) (b ∷ bs) = drop-one i bs
