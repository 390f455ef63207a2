use Rattle.std.proofs.Common.{ap, ◌∙◌}
use Rattle.std.specs.FinSet as set
use Rattle.trace_maps.proofs.Follows.{delivered-more}
use Rattle.trace_maps.proofs.repeats.is_repeat.Goals as goal

pub returns-in_ok-insert-in-Deliver-clause-delivered : goal.returns-in_ok-insert-in-Deliver-clause-delivered
returns-in_ok-insert-in-Deliver-clause-delivered g c = λ k.
    ap (λ s. set.contains s k) c.in_ok-insert-in-Deliver.ensures.ok ∙ rw (c.in-Deliver.is, c.from-k.ensures) (delivered-more c.args.delivered.now c.in-Deliver.k k)
