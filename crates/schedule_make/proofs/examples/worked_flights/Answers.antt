-- What is known of each node, and no other.
use Rattle.std.proofs.Common.{◌≡◌, ℕ, zero, suc, ◌<◌, ◌==◌, Bool, true, false, arith, lit<, refl}
use Rattle.std.specs.Prelude.{[], ◌∷◌, None, Some, cond, get_or, is_none}
use Rattle.schedule_make.specs.Examples.{flights, half_stopped}
use Rattle.schedule_make.proofs.examples.worked_flights.Goals as goal

ups : (n : ℕ) → n < 9 → get_or (flights (None ∷ Some 1 ∷ Some 0 ∷ []) false).up n false ≡ half_stopped.is_up n
ups zero h = refl
ups (suc zero) h = refl
ups (suc (suc zero)) h = refl
ups (suc (suc (suc zero))) h = refl
ups (suc (suc (suc (suc zero)))) h = refl
ups (suc (suc (suc (suc (suc zero))))) h = refl
ups (suc (suc (suc (suc (suc (suc zero)))))) h = refl
ups (suc (suc (suc (suc (suc (suc (suc zero))))))) h = refl
ups (suc (suc (suc (suc (suc (suc (suc (suc zero)))))))) h = refl
ups (suc (suc (suc (suc (suc (suc (suc (suc (suc n))))))))) h = let no : ⊥ = omega (arith, h) in absurd no

-- a node is up or has kept something
either : (b : Bool) → cond b false true ≡ is_none {T = ℕ} (cond b (Some 20) None)
either true = refl
either false = refl

downs : (n : ℕ) → half_stopped.is_up n ≡ is_none (half_stopped.kept n)
downs n = either (n == 1)

pub returns-clause-known : goal.returns-clause-known
returns-clause-known c = record { packets = refl; within = refl; nodes = refl; up = ups; down = downs }

pub returns-clause-up_though_it_stopped : goal.returns-clause-up_though_it_stopped
returns-clause-up_though_it_stopped c = λ k. let e : ◌≡◌ {A = Bool} true false = k.up 1 (lit< tt) in cc
