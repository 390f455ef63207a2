use Rattle.std.proofs.Common.{◌≡◌, ℕ, zero, suc, subst, arith, refl, inl, inr, [], ◌∷◌, Some, slice_get}
use Rattle.std.proofs.lemmas.Bool.{false≢true}
use Rattle.std.proofs.lemmas.Option.{none-some, same_Some}
use Rattle.net_semantics.specs.Worlds.{Packet}
use Rattle.retry_xform.specs.Examples.{kept, packet}
use Rattle.retry_xform.specs.Image.{IsKept, place_of}
use Rattle.retry_xform.specs.Keeping.{Kept}
use Rattle.retry_xform.proofs.examples.worked.Goals as goal

-- what holds of both packets
both : (P : ℕ → Packet ℕ → Type 0) → P 0 (packet 1 0 5) → P 1 (packet 2 0 6) → (j : ℕ) (q : Packet ℕ) → slice_get (packet 1 0 5 ∷ packet 2 0 6 ∷ []) j ≡ Some q → P j q
both P first second zero q at = subst (P 0) (same_Some (packet 1 0 5) q at) first
both P first second (suc zero) q at = subst (P 1) (same_Some (packet 2 0 6) q at) second
both P first second (suc (suc j)) q at = absurd (none-some q at)

-- what a kept packet that is the first one has
kept-first : (k : Kept ℕ) → IsKept ((1, 0) ∷ (2, 0) ∷ []) 0 (packet 1 0 5) (k ∷ []) → (place_of (1, k.number) ((1, 0) ∷ (2, 0) ∷ []) ≡ Some 0) × ((k.destination ≡ 0) × (k.content ≡ 5))
kept-first k (inl h) = (h.place, (h.destination, h.content))
kept-first k (inr h) = absurd h

pub returns-clause-pending : goal.returns-clause-pending
returns-clause-pending c = (record { number = omega arith; destination = omega arith }, (record { number = omega arith; destination = omega arith }, tt))

pub returns-clause-number_not_given : goal.returns-clause-number_not_given
returns-clause-number_not_given c = λ h. omega (arith, h.1.0.number)

pub returns-clause-no_such_node : goal.returns-clause-no_such_node
returns-clause-no_such_node c = λ h. omega (arith, h.1.0.destination)

pub returns-clause-both_delivered : goal.returns-clause-both_delivered
returns-clause-both_delivered c = both _ (inl refl) (inl refl)

pub returns-clause-one_delivered_and_one_kept : goal.returns-clause-one_delivered_and_one_kept
returns-clause-one_delivered_and_one_kept c = both _ (inr (inl (record { place = refl; destination = refl; content = refl }))) (inl refl)

pub returns-clause-only_the_other_delivered : goal.returns-clause-only_the_other_delivered
returns-clause-only_the_other_delivered c = λ h. elim (h 0 (packet 1 0 5) refl) [
  | inl was ↦ false≢true was
  | inr keeps ↦ keeps
]

pub returns-clause-only_the_other_kept : goal.returns-clause-only_the_other_kept
returns-clause-only_the_other_kept c = λ h. elim (h 0 (packet 1 0 5) refl) [
  | inl was ↦ false≢true was
  | inr keeps ↦ keeps
]

pub returns-clause-kept_by_another_node : goal.returns-clause-kept_by_another_node
returns-clause-kept_by_another_node c = λ h. elim (h 0 (packet 1 0 5) refl) [
  | inl was ↦ false≢true was
  | inr keeps ↦ keeps
]

pub returns-clause-kept_for_another_node : goal.returns-clause-kept_for_another_node
returns-clause-kept_for_another_node c = λ h. elim (h 0 (packet 1 0 5) refl) [
  | inl was ↦ false≢true was
  | inr keeps ↦ omega (arith, (kept-first (kept 0 2 5) keeps).1.0)
]

pub returns-clause-another_number_is_kept : goal.returns-clause-another_number_is_kept
returns-clause-another_number_is_kept c = λ h. elim (h 0 (packet 1 0 5) refl) [
  | inl was ↦ false≢true was
  | inr keeps ↦ none-some 0 (kept-first (kept 1 0 5) keeps).0
]

pub returns-clause-kept_with_another_content : goal.returns-clause-kept_with_another_content
returns-clause-kept_with_another_content c = λ h. elim (h 0 (packet 1 0 5) refl) [
  | inl was ↦ false≢true was
  | inr keeps ↦ omega (arith, (kept-first (kept 0 0 6) keeps).1.1)
]
