-- One value of a function given anew, and one node put into a set.
use Rattle.std.proofs.Common.{◌≡◌, ◌≢◌, ℕ, Bool, true, ◌⊎◌, inl, inr, refl, eqb, cond}
use Rattle.std.proofs.lemmas.Bool.{eq-eqb}
use Rattle.std.proofs.lemmas.Bool.Decides.{eqb_tells}
use Rattle.vst_base.specs.Elections.{with_node}

abbrev pub put1 : {X : Type 0} → (ℕ → X) → ℕ → X → ℕ → X
put1 f a x u = cond (eqb u a) x (f u)

abbrev pub put2 : {X : Type 0} → (ℕ → ℕ → X) → ℕ → ℕ → X → ℕ → ℕ → X
put2 f a b x u v = cond (eqb u a) (cond (eqb v b) x (f u v)) (f u v)

pub put1_at : {X : Type 0} (f : ℕ → X) (a : ℕ) (x : X) → put1 f a x a ≡ x
put1_at f a x = rw (eq-eqb a a refl) refl

pub put1_cases : {X : Type 0} (f : ℕ → X) (a : ℕ) (x : X) (u : ℕ) → ((u ≡ a) × (put1 f a x u ≡ x)) ⊎ ((u ≢ a) × (put1 f a x u ≡ f u))
put1_cases f a x u = elim (eqb_tells u a) [ inl t ↦ inl (t.1, rw (t.0) refl) | inr t ↦ inr (t.1, rw (t.0) refl) ]

pub put2_at : {X : Type 0} (f : ℕ → ℕ → X) (a b : ℕ) (x : X) → put2 f a b x a b ≡ x
put2_at f a b x = rw (eq-eqb a a refl, eq-eqb b b refl) refl

pub put2_cases : {X : Type 0} (f : ℕ → ℕ → X) (a b : ℕ) (x : X) (u v : ℕ) →
    ((u ≡ a) × (v ≡ b) × (put2 f a b x u v ≡ x)) ⊎ ((u ≡ a → v ≡ b → ⊥) × (put2 f a b x u v ≡ f u v))
put2_cases f a b x u v =
    elim (eqb_tells u a) [
      | inl t ↦ elim (eqb_tells v b) [
        | inl s ↦ inl (t.1, s.1, rw (t.0, s.0) refl)
        | inr s ↦ inr ((λ p q. s.1 q), rw (t.0, s.0) refl)
      ]
      | inr t ↦ inr ((λ p q. t.1 p), rw (t.0) refl)
    ]

pub with_node_cases : (node : ℕ) (set : ℕ → Bool) (other : ℕ) → with_node node set other ≡ true → (other ≡ node) ⊎ (set other ≡ true)
with_node_cases node set other = elim (eqb_tells other node) [ inl t ↦ (λ e. inl t.1) | inr t ↦ rw (t.0) (λ e. inr e) ]
