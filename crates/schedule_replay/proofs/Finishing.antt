-- Two texts that are written one after the other.
use Rattle.std.specs.Prelude.{ℕ, List, [], ◌++◌, Option, Some, None, refl}
use Rattle.std.proofs.Common.{ap, sym}
use Rattle.std.proofs.lemmas.List.{append-nil}
use Rattle.outside.specs.Wholes.{Gained, GainedPrefix}
use Rattle.outside.proofs.Wholes.{gained-nothing, gained-some}

pub front-none : (out : Option (List ℕ)) (text : List ℕ) → GainedPrefix out out text
front-none None text = tt
front-none (Some held) text = (0, ap Some (sym (append-nil held)))

-- a front of the first text is a front of both
pub front-first : (out out' : Option (List ℕ)) (head more : List ℕ) → GainedPrefix out out' head → GainedPrefix out out' (head ++ more)
front-first out out' head more front = gained-some out out out' [] head (head ++ more) more refl (gained-nothing out) front

-- the first and a front of the second
pub front-second : (out mid out' : Option (List ℕ)) (head more : List ℕ) → Gained out mid head → GainedPrefix mid out' more → GainedPrefix out out' (head ++ more)
front-second out mid out' head more first next = gained-some out mid out' head more (head ++ more) [] (ap (λ xs. head ++ xs) (sym (append-nil more))) first next
