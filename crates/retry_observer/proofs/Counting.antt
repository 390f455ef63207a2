-- What is kept, after one packet more.
use Rattle.std.specs.Prelude.{◌≡◌, ◌≢◌, ℕ, zero, suc, ◌+◌, ◌<◌, nat_lt, false, List, [], ◌∷◌, ◌++◌, length, Option, Some, None, is_some, slice_get}
use Rattle.std.proofs.Common.{ap, arith, inl, inr, refl, sym, ◌∙◌}
use Rattle.std.proofs.lemmas.Bool.{cases_eq, eq-eqb, ltb-false, ltb-true, ne_eqb}
use Rattle.std.proofs.lemmas.List.{length-append, map-append}
use Rattle.std.proofs.lemmas.Option.{slice_get_past}
use Rattle.lists.specs.Places.{slice_get_last, slice_get_there}
use Rattle.retry_xform.specs.Image.{is_same, place_of}
use Rattle.retry_xform.proofs.Names.{place-there}
use Rattle.retry_observer.specs.Places.{Follows, IsKnown, IsNew, PlacesView, all_carried, carried_by, named}
use Rattle.observer_parts.specs.PacketLists.{list_at}
use Rattle.retry_observer.proofs.Naming.{all-stay, is-unused, named-append, named-new, numbered, place-push}

-- a packet that bears no new name
pub follows-known : (v : PlacesView) (carried : Option ℕ) (bs : List (ℕ × Option ℕ)) (n : ℕ) (o : Option ℕ) → Follows v bs → IsKnown carried bs n o
    → Follows (record { carried = v.carried ++ carried ∷ []; lists = v.lists; count = v.count }) (bs ++ (n, o) ∷ [])
follows-known v carried bs n o f known =
    let same : named (bs ++ (n, o) ∷ []) ≡ named bs = named-append [] bs ((n, o) ∷ []) ∙ known.same in
    record {
      carried = (λ i. f.carried i ++ sym known.carries i ∷ []) ∙ (sym (map-append (λ (b : ℕ × Option ℕ). carried_by (named bs) b.0 b.1) bs ((n, o) ∷ [])) ∙ ap (λ ns. all_carried ns (bs ++ (n, o) ∷ [])) (sym same));
      lists = λ k x. f.lists k x ∙ ap (place_of (k, x)) (sym same);
      count = f.count ∙ ap length (sym same);
    }

-- a list is as long as it has elements at the places below
long-as : {A : Type 0} (xs : List A) (n : ℕ) → ((i : ℕ) → is_some (slice_get xs i) ≡ nat_lt i n) → length xs ≡ n
long-as xs n each = elim (cases_eq (length xs) n) [
  | inl same ↦ same
  | inr ne ↦ absurd (no_longer (omega (arith, ne, ltb-false (length xs) n (sym (each (length xs)) ∙ ap is_some (slice_get_past xs (length xs) (omega arith))))))
] where
  no_longer : n < length xs → ⊥
  no_longer lt = let there = slice_get_there xs n lt in omega (arith, ltb-true n n (sym (each n) ∙ ap is_some there.1))

push-elsewhere : {A : Type 0} (xs : List A) (y : A) (i : ℕ) → i ≢ length xs → slice_get (xs ++ y ∷ []) i ≡ slice_get xs i
push-elsewhere [] y zero ne = absurd (ne refl)
push-elsewhere [] y (suc i) ne = refl
push-elsewhere (x ∷ xs) y zero ne = refl
push-elsewhere (x ∷ xs) y (suc i) ne = push-elsewhere xs y i (λ e. ne (ap suc e))

-- new data of a node
pub follows-new : (v : PlacesView) (longer : List (List ℕ)) (bs : List (ℕ × Option ℕ)) (n : ℕ) (o : Option ℕ) → list_at longer n ≡ list_at v.lists n ++ v.count ∷ []
    → ((j : ℕ) → j ≢ n → list_at longer j ≡ list_at v.lists j) → Follows v bs → IsNew bs n o
    → Follows (record { carried = v.carried ++ Some v.count ∷ []; lists = longer; count = v.count + 1 }) (bs ++ (n, o) ∷ [])
follows-new v lists bs n o more others f new =
    let x = new.number in
    let ns = named bs in
    let place : place_of (n, x) ns ≡ None = is-unused n x ns new.next in
    let longer : named (bs ++ (n, o) ∷ []) ≡ ns ++ (n, x) ∷ [] = ap (λ i. named (bs ++ (n, i) ∷ [])) new.is ∙ named-new bs n x new.next in
    let last : carried_by (ns ++ (n, x) ∷ []) n o ≡ Some v.count = ap (carried_by (ns ++ (n, x) ∷ []) n) new.is ∙ (place-there (n, x) ns [] place ∙ ap Some (sym f.count)) in
    let long : length (list_at v.lists n) ≡ x = long-as (list_at v.lists n) x (λ y. ap is_some (f.lists n y) ∙ numbered n x y ns new.next) in
    let pushed : (a : ℕ) → a ≡ n → list_at lists a ≡ list_at v.lists n ++ v.count ∷ [] = λ a here. ap (list_at lists) here ∙ more in
    let stays : (a y : ℕ) → is_same (a, y) (n, x) ≡ false → place_of (a, y) ns ≡ place_of (a, y) (named (bs ++ (n, o) ∷ [])) =
    λ a y differs. sym (place-push (a, y) (n, x) ns differs) ∙ ap (place_of (a, y)) (sym longer) in
    record {
      carried =
          (λ i. (f.carried ∙ sym (all-stay [] ((n, x) ∷ []) bs)) i ++ sym last i ∷ [])
          ∙ (sym (map-append (λ (b : ℕ × Option ℕ). carried_by (ns ++ (n, x) ∷ []) b.0 b.1) bs ((n, o) ∷ [])) ∙ ap (λ ms. all_carried ms (bs ++ (n, o) ∷ [])) (sym longer));
      lists = λ a y. elim (cases_eq a n) [
        | inl here ↦ elim (cases_eq y x) [
          | inl next ↦
              ap (λ l. slice_get l y) (pushed a here)
              ∙ (slice_get_last (list_at v.lists n) v.count y (next ∙ sym long) ∙ (ap Some f.count ∙ (sym (place-there (n, x) ns [] place) ∙ (λ i. place_of (sym here i, sym next i) (sym longer i)))))
          | inr other ↦
              ap (λ l. slice_get l y) (pushed a here)
              ∙ (push-elsewhere (list_at v.lists n) v.count y (λ e. other (e ∙ long))
              ∙ (f.lists n y ∙ ((λ i. place_of (sym here i, y) ns) ∙ stays a y (rw (eq-eqb a n here, ne_eqb y x other) refl))))
        ]
        | inr elsewhere ↦ ap (λ l. slice_get l y) (others a elsewhere) ∙ (f.lists a y ∙ stays a y (rw (ne_eqb a n elsewhere) refl))
      ];
      count = omega (arith, f.count, ap length longer, length-append ns ((n, x) ∷ []));
    }
