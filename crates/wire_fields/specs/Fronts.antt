-- What a writer that breaks off leaves.
use Rattle.std.proofs.Common.{◌≡◌, ℕ, List, ◌++◌, Result, OnErr, subst}
use Rattle.std.proofs.lemmas.Result.{on_err_weaker}
use Rattle.lists.specs.Prefixes.{IsPrefix, prefix_before}

-- the bytes before what was added earlier stand in front too
pub front_stays : {T E : Type 0} (r : Result T E) (old added between new : List ℕ) → between ≡ old ++ added → OnErr r (IsPrefix between new) → OnErr r (IsPrefix old new)
front_stays r old added between new is stands =
    on_err_weaker r (λ before. prefix_before old added new (subst (λ front. IsPrefix front new) is before)) stands
