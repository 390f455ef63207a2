-- These print numbers, whose digits have to be computed.
use Rattle.schedule_text.specs.Headers.{header_of}
use Rattle.std.proofs.Common.{arith, inl, inr, lit≤, refl, ◌≡◌, ◌⊎◌, ℕ}
use Rattle.std.specs.Fmt.{digits}
use Rattle.outside.specs.Counting.{Rose}
use Rattle.commands.proofs.status_examples.worked_counts.Goals as goal

-- no fault was counted
none : Rose 0 0 → ⊥
none e = omega (arith, e)

neither : (n a b : ℕ) → (n ≡ a → ⊥) → (n ≡ b → ⊥) → (n ≡ a) ⊎ (n ≡ b) → ⊥
neither n a b first second (inl e) = first e
neither n a b first second (inr e) = second e

pub returns-clause-complete : goal.returns-clause-complete
unfolding header_of
returns-clause-complete c = λ reads writes complains. inl refl

pub returns-clause-wanting : goal.returns-clause-wanting
returns-clause-wanting c = λ reads writes complains. inr refl

pub returns-clause-another_status : goal.returns-clause-another_status
unfolding header_of
returns-clause-another_status c = λ h. neither 5 0 8 (λ e. omega (arith, e)) (λ e. omega (arith, e)) (h none none none)

pub returns-clause-refused_as_done : goal.returns-clause-refused_as_done
unfolding digits header_of
returns-clause-refused_as_done c = λ h. neither 0 3 8 (λ e. omega (arith, e)) (λ e. omega (arith, e)) (h none none none)

pub returns-clause-any_status_at_a_fault : goal.returns-clause-any_status_at_a_fault
returns-clause-any_status_at_a_fault c = λ reads writes complains. absurd (writes (lit≤ tt))
