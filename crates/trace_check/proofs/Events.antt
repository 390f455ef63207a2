-- How many events there are among steps: no more than steps.
use Rattle.std.specs.Prelude.{◌≡◌, ℕ, ◌+◌, ◌≤◌, Bool, List, [], ◌∷◌, ◌++◌, length}
use Rattle.std.proofs.Common.{arith}
use Rattle.net_semantics.specs.Once.{delivered_after, is_repeat, once_from}
use Rattle.vst_base.specs.declared.step.Step.{Step}
use Rattle.vst_base.specs.declared.step.Step.TheVariants as step
use Rattle.trace_check.specs.Spelled.{event_count, events_in}
use Rattle.trace_check.proofs.Eaches.{either}

module _ {I : Type 0} where
  one-at-most : (s : Step I) → event_count s ≤ 1
  one-at-most (step.In n i) = omega arith
  one-at-most (step.Deliver k) = omega arith
  one-at-most (step.Tick n) = omega arith
  one-at-most (step.Dup k) = omega arith
  one-at-most (step.Lose k) = omega arith
  one-at-most (step.Crash n) = omega arith
  one-at-most (step.Reboot n) = omega arith

  pub events-few : (ss : List (Step I)) → events_in ss ≤ length ss
  events-few [] = omega arith
  events-few (s ∷ ss) = let first = one-at-most s in let rest = events-few ss in omega (arith, first, rest)

  pub events-append : (ss ts : List (Step I)) → events_in (ss ++ ts) ≡ events_in ss + events_in ts
  events-append [] ts = omega arith
  events-append (s ∷ ss) ts = let rest = events-append ss ts in omega (arith, rest)

  -- a schedule without its repeats has no more of them
  pub once-events : (delivered : ℕ → Bool) (ss : List (Step I)) → events_in (once_from delivered ss) ≤ events_in ss
  once-events delivered [] = omega arith
  once-events delivered (s ∷ ss) =
      let rest = once-events (delivered_after delivered s) ss in
      let left = once_from (delivered_after delivered s) ss in
      either (λ ts. events_in ts ≤ event_count s + events_in ss) (is_repeat delivered s) left (s ∷ left) (omega (arith, rest)) (omega (arith, rest))
