-- A translation by node, and what there is of one node in it.
use Rattle.std.proofs.Common.{◌≡◌, ◌≢◌, ◌⊎◌, ℕ, Bool, true, false, List, [], ◌∷◌, ◌++◌, cond, eqb, refl, sym, ap, ◌∙◌, inl, inr}
use Rattle.std.proofs.lemmas.Bool.{cases_eq, eq-eqb, ne_eqb}
use Rattle.net_semantics.proofs.Places.{put-elsewhere, put-there}
use Rattle.net_semantics.specs.Worlds.{put}
use Rattle.node_histories.proofs.Adding.{own-append}
use Rattle.node_histories.specs.Histories.{own}
use Rattle.node_histories.specs.Translations.{TranslationsAreByNode, at_node, translated, translated_alone}

own_at_node : {A : Type 0} (n k : ℕ) (xs : List A) (b : Bool) → eqb n k ≡ b → own n (at_node k xs) ≡ cond b xs []
own_at_node n k [] true e = refl
own_at_node n k [] false e = refl
own_at_node n k (x ∷ xs) true e = ap (λ b. cond b (x ∷ own n (at_node k xs)) (own n (at_node k xs))) e ∙ ap (λ zs. x ∷ zs) (own_at_node n k xs true e)
own_at_node n k (x ∷ xs) false e = ap (λ b. cond b (x ∷ own n (at_node k xs)) (own n (at_node k xs))) e ∙ own_at_node n k xs false e

module _ {T X A : Type 0} (step : ℕ → T → X → T × List A) where
  by_node : (t : ℕ → T) (xs : List (ℕ × X)) (n : ℕ) → own n (translated step t xs) ≡ translated_alone step n (t n) (own n xs)
  by_node t [] n = refl
  by_node t (x ∷ xs) n =
      own-append n (at_node x.0 (step x.0 (t x.0) x.1).1) (translated step (put t x.0 (step x.0 (t x.0) x.1).0) xs)
      ∙ (ap (λ zs. own n (at_node x.0 (step x.0 (t x.0) x.1).1) ++ zs) (by_node (put t x.0 (step x.0 (t x.0) x.1).0) xs n)
      ∙ go (cases_eq n x.0))
    where
      go : (n ≡ x.0) ⊎ (n ≢ x.0) → own n (at_node x.0 (step x.0 (t x.0) x.1).1) ++ translated_alone step n (put t x.0 (step x.0 (t x.0) x.1).0 n) (own n xs)
          ≡ translated_alone step n (t n) (cond (eqb n x.0) (x.1 ∷ own n xs) (own n xs))
      go (inl same) =
          ap (λ zs. zs ++ translated_alone step n (put t x.0 (step x.0 (t x.0) x.1).0 n) (own n xs)) (own_at_node n x.0 (step x.0 (t x.0) x.1).1 true (eq-eqb n x.0 same))
          ∙ (ap (λ s. (step x.0 (t x.0) x.1).1 ++ translated_alone step n s (own n xs)) (put-there t x.0 (step x.0 (t x.0) x.1).0 n same)
          ∙ (ap (λ k. (step k (t k) x.1).1 ++ translated_alone step n (step k (t k) x.1).0 (own n xs)) (sym same)
          ∙ ap (λ b. translated_alone step n (t n) (cond b (x.1 ∷ own n xs) (own n xs))) (sym (eq-eqb n x.0 same))))
      go (inr other) =
          ap (λ zs. zs ++ translated_alone step n (put t x.0 (step x.0 (t x.0) x.1).0 n) (own n xs)) (own_at_node n x.0 (step x.0 (t x.0) x.1).1 false (ne_eqb n x.0 other))
          ∙ (ap (λ s. translated_alone step n s (own n xs)) (put-elsewhere t x.0 (step x.0 (t x.0) x.1).0 n other)
          ∙ ap (λ b. translated_alone step n (t n) (cond b (x.1 ∷ own n xs) (own n xs))) (sym (ne_eqb n x.0 other)))

pub translations_are_by_node : (T X A : Type 0) → TranslationsAreByNode T X A
translations_are_by_node T X A step t xs n = by_node step t xs n
