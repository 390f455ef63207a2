-- What a writer that breaks off leaves: the bytes before stand in front.
use Rattle.std.proofs.Common.{◌≡◌, ℕ, List, ◌++◌, length, take, Result, Ok, Err, OnErr, ap, ◌∙◌, arith}
use Rattle.std.proofs.lemmas.List.{take_all}
use Rattle.std.proofs.lemmas.Result.{on_err_weaker}
use Rattle.wire_fields.specs.Fronts.{front_stays}
use Rattle.lists.specs.Prefixes.{IsPrefix}

on_err : {T E : Type 0} (r : Result T E) (P : Type 0) → P → OnErr r P
on_err (Ok x) P p = tt
on_err (Err e) P p = p

same_stands : (old new : List ℕ) → new ≡ old → IsPrefix old new
same_stands old new same = ap (take (length old)) same ∙ take_all (length old) old (omega arith)

-- nothing was added
pub nothing_added : {T E : Type 0} (r : Result T E) (old new : List ℕ) → new ≡ old → OnErr r (IsPrefix old new)
nothing_added r old new same = on_err r (IsPrefix old new) (same_stands old new same)

pub none_added : {T E : Type 0} (r : Result T E) (old new : List ℕ) → OnErr r (new ≡ old) → OnErr r (IsPrefix old new)
none_added r old new same = on_err_weaker r (same_stands old new) same

-- it broke off after something was added
pub broke_off : {T E : Type 0} (r : Result T E) (old added between new : List ℕ) → between ≡ old ++ added → IsPrefix between new → OnErr r (IsPrefix old new)
broke_off r old added between new is stands = front_stays r old added between new is (on_err r (IsPrefix between new) stands)
