-- What the packet before another is.
use Rattle.std.specs.Prelude.{◌≡◌, ◌≢◌, ℕ, zero, suc, ◌+◌, ◌<◌, ◌⊎◌, Bool, true, false, List, [], ◌∷◌, ◌++◌, length, take, slice_get, Option, Some, None, if◌then◌else◌, option_and_then}
use Rattle.std.specs.Option.{option_map, option_or}
use Rattle.std.proofs.Common.{ap, arith, inl, inr, refl, sym, ◌∙◌}
use Rattle.std.proofs.lemmas.Bool.{eq-eqb, false≢true}
use Rattle.std.proofs.lemmas.Bool.Decides.{nat_tests}
use Rattle.std.proofs.lemmas.Option.{slice_get_within, none-some, same_Some}
use Rattle.std.proofs.lemmas.List.{length-take, take-append-le}
use Rattle.lanes.specs.Lanes.{is_same, last_at, previous_of}
use Rattle.lists.specs.Places.{slice_get-front, slice_get-take}

-- two packets of one lane have the same ends
same-ends : (e x : ℕ × ℕ) → is_same e x ≡ true → e ≡ x
same-ends e x h =
    let first : e.0 ≡ x.0 = grind (arith, nat_tests) in
    let second : e.1 ≡ x.1 = grind (arith, nat_tests) in
    λ i. (first i, second i)

same-self : (e : ℕ × ℕ) → is_same e e ≡ true
same-self e = rw (eq-eqb e.0 e.0 refl, eq-eqb e.1 e.1 refl) refl

-- the last one of a list is among those after the first, or is the first
abbrev later_or_first : Option ℕ → Bool → Option ℕ
later_or_first o b = option_or (option_map (λ k. k + 1) o) (if b then Some 0 else None)

cases-some : (o : Option ℕ) (b : Bool) (j : ℕ) → later_or_first o b ≡ Some j → ((i : ℕ) × (o ≡ Some i) × (j ≡ suc i)) ⊎ ((o ≡ None) × (b ≡ true) × (j ≡ 0))
cases-some (Some i) b j h = let e : i + 1 ≡ j = same_Some (i + 1) j h in inl (i, refl, omega (arith, e))
cases-some None true j h = inr (refl, refl, sym (same_Some 0 j h))
cases-some None false j h = absurd (none-some j h)

cases-none : (o : Option ℕ) (b : Bool) → later_or_first o b ≡ None → (o ≡ None) × (b ≡ false)
cases-none (Some i) b h = absurd (none-some (i + 1) (sym h))
cases-none None true h = absurd (none-some 0 (sym h))
cases-none None false h = (refl, refl)

-- the last one is one, with none after it
last-there : (e : ℕ × ℕ) (xs : List (ℕ × ℕ)) (j : ℕ) → last_at e xs ≡ Some j → slice_get xs j ≡ Some e
last-there e [] j h = absurd (none-some j h)
last-there e (x ∷ xs) j h = elim (cases-some (last_at e xs) (is_same e x) j h) [
  | inl w ↦ rw w.2 (last-there e xs w.0 w.1)
  | inr w ↦ rw w.2 (ap Some (sym (same-ends e x w.1)))
]

none-there : (e : ℕ × ℕ) (xs : List (ℕ × ℕ)) → last_at e xs ≡ None → (i : ℕ) → slice_get xs i ≢ Some e
none-there e [] h i at = none-some e at
none-there e (x ∷ xs) h zero at =
    let no = (cases-none (last_at e xs) (is_same e x) h).1 in
    false≢true (sym no ∙ ap (is_same e) (same_Some x e at) ∙ same-self e)
none-there e (x ∷ xs) h (suc i) at = none-there e xs (cases-none (last_at e xs) (is_same e x) h).0 i at

none-later : (e : ℕ × ℕ) (xs : List (ℕ × ℕ)) (j : ℕ) → last_at e xs ≡ Some j → (i : ℕ) → j < i → slice_get xs i ≢ Some e
none-later e [] j h i lt at = none-some e at
none-later e (x ∷ xs) j h zero lt at = absurd (omega (arith, lt))
none-later e (x ∷ xs) j h (suc i) lt at = elim (cases-some (last_at e xs) (is_same e x) j h) [
  | inl w ↦ none-later e xs w.0 w.1 i (omega (arith, lt, w.2)) at
  | inr w ↦ none-there e xs w.0 i at
]

-- after one more at the end
pub last_at-push : (e : ℕ × ℕ) (xs : List (ℕ × ℕ)) (x : ℕ × ℕ) → last_at e (xs ++ x ∷ []) ≡ (if is_same e x then Some (length xs) else last_at e xs)
last_at-push e [] x = refl
last_at-push e (y ∷ xs) x = rw (last_at-push e xs x) (elim (is_same e x) as (λ b. later_or_first (if b then Some (length xs) else last_at e xs) (is_same e y)
    ≡ (if b then Some (suc (length xs)) else later_or_first (last_at e xs) (is_same e y))) [
      | true ↦ let more : length xs + 1 ≡ suc (length xs) = omega arith in ap Some more
      | false ↦ refl
    ])

found : (o : Option (ℕ × ℕ)) (f : ℕ × ℕ → Option ℕ) (j : ℕ) → option_and_then f o ≡ Some j → (e : ℕ × ℕ) × (o ≡ Some e) × (f e ≡ Some j)
found None f j h = absurd (none-some j h)
found (Some e) f j h = (e, refl, h)

-- the packet before is an earlier one of the same ends, with none between
pub previous_some : (es : List (ℕ × ℕ)) (k j : ℕ) → previous_of es k ≡ Some j
    → (j < k) × (slice_get es j ≡ slice_get es k) × ((i : ℕ) → j < i → i < k → slice_get es i ≢ slice_get es k)
previous_some es k j h =
    let w = found (slice_get es k) (λ e. last_at e (take k es)) j h in
    let there = last-there w.0 (take k es) j w.2 in
    let lt : j < k = omega (arith, slice_get_within (take k es) j w.0 there, length-take k es) in (
      lt,
      sym (slice_get-take k es j lt) ∙ there ∙ sym w.1,
      λ i after before same. none-later w.0 (take k es) j w.2 i after (slice_get-take k es i before ∙ same ∙ w.1),
    )

-- where there is none before, no earlier packet has the same ends
pub previous_none : (es : List (ℕ × ℕ)) (k : ℕ) (e : ℕ × ℕ) → slice_get es k ≡ Some e → previous_of es k ≡ None → (i : ℕ) → i < k → slice_get es i ≢ Some e
previous_none es k e at h i lt same =
    let none : last_at e (take k es) ≡ None = ap (option_and_then (λ x. last_at x (take k es))) (sym at) ∙ h in
    none-there e (take k es) none i (slice_get-take k es i lt ∙ same)

-- packets that are sent later change nothing
pub previous_of-append : (es more : List (ℕ × ℕ)) (k : ℕ) → k < length es → previous_of (es ++ more) k ≡ previous_of es k
previous_of-append es more k lt = rw (slice_get-front es more k lt, take-append-le k es more (omega (arith, lt))) refl
