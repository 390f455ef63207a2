-- What the facts of a run give where it came to its end.
use Rattle.std.specs.Prelude.{Result, Ok, Err, IfOk, OnOk}

pub when-ended : {A E X : Type 0} {P Q R : A → Type 0} (r : Result A E) → OnOk r X → IfOk r P → IfOk r Q → ((a : A) → X → P a → Q a → R a) → IfOk r R
when-ended (Ok a) x p q then = then a x p q
when-ended (Err e) x p q then = tt
