-- What a map that leaves out repeats stands for.
use Rattle.std.specs.Prelude.{◌≡◌, ℕ, false, List}
use Rattle.std.specs.FinSet as set
use Rattle.std.specs.FinSet.{FinSet}
use Rattle.std.specs.Ordering.{nat_cmp}
use Rattle.vst_base.specs.declared.step.Step.{Step}
use Rattle.net_semantics.specs.Once.{delivered_from, once}

-- the packets that were delivered, and the map that goes on without the repeats
pub record Left (F : Type 0) : Type 0 where
  pub delivered : FinSet nat_cmp
  pub rest : F

-- these steps were taken: the map that goes on has followed what is left of them
pub record HasFollowed {F I : Type 0} (follows : F → List (Step I) → Type 0) (l : Left F) (ss : List (Step I)) : Type 0 where
  pub rest : follows l.rest (once ss)
  pub delivered : (k : ℕ) → set.contains l.delivered k ≡ delivered_from (λ _. false) ss k
