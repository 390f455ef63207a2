use Rattle.std.proofs.Common.{◌≡◌, ℕ, List, ◌++◌, ◌≤◌, length, take}
use Rattle.fifo_observer.specs.Channels.{Follows, ends_in}
use Rattle.vst_base.specs.declared.step.Step.{Step}
use Rattle.xform_stack.specs.Systems.{world_of}
use Rattle.fifo_observer.proofs.catching_up.catch_up.Given as goal

abbrev pub invariant-loop-k : goal.invariant-loop-k
invariant-loop-k g l = record {
  few : length l.channels.numbers ≤ l.k;
  follows : (ss : List (Step g.row.H-Input.Denot)) (es more : List (ℕ × ℕ)) → g.W.Network.follows l.network ss → ends_in (world_of (g.W.Network.system l.network) ss).packets ≡ es ++ more
      → Follows l.initial.channels es → Follows l.channels (take l.k (es ++ more));
}
