-- The value after one command, and by induction after any number of them, is at least the value before.
use Rattle.std.proofs.Common.{ℕ, ◌≤◌, List, [], ◌∷◌, arith}
use Rattle.std.proofs.lemmas.Grind.{common_steps}
use Rattle.counter.proofs.values_never_fall.Goals as goal
use Rattle.counter.specs.Counter.{apply, counter}
use Rattle.counter.specs.declared.CounterCmd.{CounterCmd}
use Rattle.counter.specs.declared.CounterCmd.TheVariants.{Add, Read}
use Rattle.vst_base.specs.Machines.{state_after}

add_keeps : (v n : ℕ) → v ≤ (apply v (Add n)).0
add_keeps v n = grind (arith, common_steps)

never_falls : (v : ℕ) (cs : List CounterCmd) → v ≤ state_after counter v cs
never_falls v [] = omega arith
never_falls v (Add n ∷ cs) = omega (arith, add_keeps v n, never_falls (apply v (Add n)).0 cs)
never_falls v (Read ∷ cs) = never_falls v cs

pub returns : goal.returns
returns c = never_falls
