use Rattle.std.proofs.Common.{◌≡◌, ◌∙◌, ℕ, zero, suc, ◌<◌, List, [], ◌∷◌, Some, IsSome, slice_get, refl, ap, sym, subst, arith}
use Rattle.std.proofs.lemmas.Bool.{false≢true}
use Rattle.std.proofs.lemmas.Option.{same_Some}
use Rattle.slab.specs.Slab.{get}
use Rattle.net_semantics.specs.declared.packets.Sent.{Sent}
use Rattle.net_semantics.specs.KeptExamples.{in_places, sent_with}
use Rattle.net_semantics.proofs.pins.contents_apart.Goals as goal

-- two packets, the second of which alone is in flight, in the place that the first had
abbrev one_after_another : List Sent
one_after_another = sent_with 0 0 ∷ sent_with 2 0 ∷ []

no_copies : (s : Sent) → sent_with 0 0 ≡ s → 0 < s.copies → ◌≡◌ {A = ℕ} 0 1
no_copies s e l = let none : 0 ≡ s.copies = ap (λ t. t.copies) e in absurd (omega (arith, none, l))

second : (k : ℕ) (s : Sent) → slice_get one_after_another k ≡ Some s → 0 < s.copies → k ≡ 1
second zero s e l = no_copies s (same_Some (sent_with 0 0) s e) l
second (suc zero) s e l = refl
second (suc (suc k)) s e l = absurd (cc)

has_content : (k : ℕ) (s : Sent) → slice_get one_after_another k ≡ Some s → 0 < s.copies → IsSome (get (in_places (Some 7 ∷ [])) s.place)
has_content zero s e l = absurd (omega (arith, no_copies s (same_Some (sent_with 0 0) s e) l))
has_content (suc zero) s e l = subst (λ t. IsSome (get (in_places (Some 7 ∷ [])) t.place)) (same_Some (sent_with 2 0) s e) refl
has_content (suc (suc k)) s e l = absurd (cc)

pub returns-clause-kept : goal.returns-clause-kept
returns-clause-kept c = record {
  counted = refl;
  there = has_content;
  apart = λ j k s t e f l m q. second j s e l ∙ sym (second k t f m);
}

pub returns-clause-not_without_a_content : goal.returns-clause-not_without_a_content
returns-clause-not_without_a_content c = λ h. false≢true (h.there 1 (sent_with 1 1) refl (omega arith))

pub returns-clause-not_with_another_content : goal.returns-clause-not_with_another_content
returns-clause-not_with_another_content c = λ h. let e : ◌≡◌ {A = ℕ} 2 1 = h.counted in omega (arith, e)

pub returns-clause-not_in_one_place : goal.returns-clause-not_in_one_place
returns-clause-not_in_one_place c = λ h.
    let e : ◌≡◌ {A = ℕ} 0 1 = h.apart 0 1 (sent_with 1 0) (sent_with 1 0) refl refl (omega arith) (omega arith) refl in
    omega (arith, e)
