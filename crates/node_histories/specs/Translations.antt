-- What happens at nodes, told in other words, where each node's words depend on its own past alone.
use Rattle.std.specs.Prelude.{◌≡◌, ℕ, List, [], ◌∷◌, ◌++◌, map}
use Rattle.net_semantics.specs.Worlds.{put}
use Rattle.node_histories.specs.Histories.{own}

abbrev pub at_node : {A : Type 0} → ℕ → List A → List (ℕ × A)
at_node n xs = map (λ x. (n, x)) xs

module _ {T X A : Type 0} (step : ℕ → T → X → T × List A) where
  -- each thing at its node, by what that node has come to, which it changes
  abbrev pub translated : (ℕ → T) → List (ℕ × X) → List (ℕ × A)
  translated t [] = []
  translated t (x ∷ xs) =
      let one = step x.0 (t x.0) x.1 in
      at_node x.0 one.1 ++ translated (put t x.0 one.0) xs

  -- the same of one node by itself
  abbrev pub translated_alone : ℕ → T → List X → List A
  translated_alone n t [] = []
  translated_alone n t (x ∷ xs) = (step n t x).1 ++ translated_alone n (step n t x).0 xs

-- what there is of a node in the whole is what there is of it by itself
abbrev pub TranslationsAreByNode : Type 0 → Type 0 → Type 0 → Type 0
TranslationsAreByNode T X A =
    (step : ℕ → T → X → T × List A) (t : ℕ → T) (xs : List (ℕ × X)) (n : ℕ) →
    own n (translated step t xs) ≡ translated_alone step n (t n) (own n xs)
