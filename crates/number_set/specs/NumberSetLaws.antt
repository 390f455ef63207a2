-- What a set of numbers has after one more, in the words of tests on numbers, and the mark of a set that has none.
use Rattle.std.specs.Prelude.{◌≡◌, ℕ, false, ◌||◌, ◌==◌, []}
use Rattle.std.specs.Ordering.{nat_cmp}
use Rattle.std.specs.Cmp.{nat_cmp_total, unsigned_tied}
use Rattle.std.specs.FinSet as set
use Rattle.std.specs.FinSet.{FinSet, contains-empty, contains-insert}
use Rattle.std.proofs.Common.{ap, arith, ◌∙◌}
use Rattle.number_set.specs.Marked.{IsMarked}

pub contains-more : (s : FinSet nat_cmp) (k q : ℕ) → set.contains (set.insert s k) q ≡ ((q == k) || set.contains s q)
contains-more s k q = contains-insert nat_cmp_total s k q ∙ ap (λ b. b || set.contains s q) (unsigned_tied q k)

pub contains-nothing : (q : ℕ) → set.contains (set.empty {R = nat_cmp}) q ≡ false
contains-nothing q = contains-empty nat_cmp q

-- what computes a test on a written-out set
pub ruleset set_tests = (contains-more, contains-nothing)

-- of an empty set
pub nothing-marked : IsMarked set.empty 0 []
nothing-marked = record {
  fits = omega arith;
  below = λ n lt. absurd (omega arith);
  missing = λ _. contains-nothing 0;
  ascending = λ k lt. absurd (omega arith);
  listed = λ n. (λ in'. absurd (omega (arith, in'.1)), λ there. let none = contains-nothing n in let some = there.1 in absurd cc);
}
