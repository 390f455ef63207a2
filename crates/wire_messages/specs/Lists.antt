-- What was read of a list so far, one value after the other.
use Rattle.std.proofs.Common.{◌≡◌, ◌<◌, ◌+◌, ℕ, zero, suc, List, [], ◌∷◌, ◌++◌, Option, None, Some, ap, subst, ◌∙◌, arith}
use Rattle.wire_fields.specs.FormatLaws.{both_read, same_answer}
use Rattle.wire_fields.specs.Formats.{and_then, read_list}

module _ {A : Type 0} (read : List ℕ → Option (A × List ℕ)) where
  -- a value more
  pub list_more : (n : ℕ) (bs : List ℕ) (xs : List A) (between : List ℕ) (x : A) (after : List ℕ) → read_list read n bs ≡ Some (xs, between) → read between ≡ Some (x, after)
      → read_list read (suc n) bs ≡ Some (xs ++ x ∷ [], after)
  list_more zero bs xs between x after so_far is =
      let same = same_answer [] xs bs between so_far in
      let next : A → List ℕ → Option (List A × List ℕ) = λ a rest. Some (a ∷ [], rest) in
      let found : List A → Option (List A × List ℕ) = λ u. Some (u ++ x ∷ [], after) in
      ap (λ o. and_then o next) (ap read same.1 ∙ is) ∙ ap found same.0
  list_more (suc n) bs xs between x after so_far is =
      let first = both_read (read bs) (λ a rest. and_then (read_list read n rest) (λ more end. Some (a ∷ more, end))) xs between so_far in
      let a = first.value in
      let second = both_read (read_list read n first.between) (λ more end. Some (a ∷ more, end)) xs between first.next_is in
      let ys = second.value in
      let same = same_answer (a ∷ ys) xs second.between between second.next_is in
      let found : List A → Option (List A × List ℕ) = λ u. Some (u ++ x ∷ [], after) in
      let shorter = subst (λ r. read_list read n first.between ≡ Some (ys, r)) same.1 second.first_is in
      ap (λ o. and_then o (λ a rest. and_then (read_list read (suc n) rest) (λ more end. Some (a ∷ more, end)))) first.first_is
      ∙ ap (λ o. and_then o (λ more end. Some (a ∷ more, end))) (list_more n first.between ys between x after shorter is)
      ∙ ap found same.0

  -- no value more
  pub list_stops : (n m : ℕ) (bs : List ℕ) (xs : List A) (between : List ℕ) → n < m → read_list read n bs ≡ Some (xs, between) → read between ≡ None → read_list read m bs ≡ None
  list_stops n zero bs xs between less so_far is = let no : ⊥ = omega arith in absurd no
  list_stops zero (suc m) bs xs between less so_far is =
      let same = same_answer [] xs bs between so_far in
      ap (λ o. and_then o (λ a rest. and_then (read_list read m rest) (λ more end. Some (a ∷ more, end)))) (ap read same.1 ∙ is)
  list_stops (suc n) (suc m) bs xs between less so_far is =
      let first = both_read (read bs) (λ a rest. and_then (read_list read n rest) (λ more end. Some (a ∷ more, end))) xs between so_far in
      let a = first.value in
      let second = both_read (read_list read n first.between) (λ more end. Some (a ∷ more, end)) xs between first.next_is in
      let ys = second.value in
      let same = same_answer (a ∷ ys) xs second.between between second.next_is in
      let shorter = subst (λ r. read_list read n first.between ≡ Some (ys, r)) same.1 second.first_is in
      ap (λ o. and_then o (λ a rest. and_then (read_list read m rest) (λ more end. Some (a ∷ more, end)))) first.first_is
      ∙ ap (λ o. and_then o (λ more end. Some (a ∷ more, end))) (list_stops n m first.between ys between (omega arith) shorter is)

  pub list_next : (n m : ℕ) (bs : List ℕ) (xs : List A) (between : List ℕ) (x : A) (after : List ℕ) → m ≡ n + 1 → read_list read n bs ≡ Some (xs, between) → read between ≡ Some (x, after)
      → read_list read m bs ≡ Some (xs ++ x ∷ [], after)
  list_next n m bs xs between x after next so_far is =
      let is_suc : suc n ≡ m = omega arith in
      subst (λ k. read_list read k bs ≡ Some (xs ++ x ∷ [], after)) is_suc (list_more n bs xs between x after so_far is)
