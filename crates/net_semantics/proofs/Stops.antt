-- What nodes have kept, as nodes stop and start.
use Rattle.std.proofs.Common.{◌≡◌, ℕ, zero, suc, List, [], ◌∷◌, ◌++◌, Option, None, refl}
use Rattle.std.specs.Prelude.{slice_get}
use Rattle.net_semantics.specs.ShownFail.{kept_at}

-- one more node that has kept nothing
pub nothing_more : {K : Type 0} (xs : List (Option K)) → ((n : ℕ) → kept_at (slice_get xs n) ≡ None) → (n : ℕ) → kept_at (slice_get (xs ++ None ∷ []) n) ≡ None
nothing_more [] h zero = refl
nothing_more [] h (suc n) = refl
nothing_more (x ∷ xs) h zero = h 0
nothing_more (x ∷ xs) h (suc n) = nothing_more xs (λ k. h (suc k)) n
