use Rattle.std.proofs.Common.{◌≡◌, ℕ, List, ◌++◌, ◌≤◌, length, take}
use Rattle.std.specs.Prelude.{Option}
use Rattle.retry_observer.specs.Places.{ComeAfter, Follows, numbers_in}
use Rattle.vst_base.specs.declared.step.Step.{Step}
use Rattle.xform_stack.specs.Systems.{world_of}
use Rattle.retry_observer.proofs.catching_up.catch_up.Given as goal

abbrev pub invariant-loop-k : goal.invariant-loop-k
invariant-loop-k g l = record {
  few : length l.places.carried ≤ l.k;
  start : length l.initial.places.carried ≤ l.k;
  follows : (ss : List (Step g.row.H-Input.Denot)) (bs more : List (ℕ × Option ℕ)) → g.W.Network.follows l.network ss → numbers_in (world_of (g.W.Network.system l.network) ss).packets ≡ bs ++ more
      → ComeAfter (length bs) l.known l.carried (bs ++ more) → Follows l.initial.places bs → Follows l.places (take l.k (bs ++ more));
}
