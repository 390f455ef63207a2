use Rattle.std.proofs.Common.{◌≡◌, ◌++◌, map}
use Rattle.vst_base.specs.declared.step.Item.TheVariants as item
use Rattle.net_semantics.proofs.events.give_outputs.Given as goal

abbrev pub invariant-loop-output : goal.invariant-loop-output
invariant-loop-output g l = l.trace ≡ l.initial.trace ++ map (λ o. item.Output l.node o) l.yielded
