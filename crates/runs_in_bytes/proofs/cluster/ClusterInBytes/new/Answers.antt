use Rattle.std.proofs.Common.{ap, ◌∙◌}
use Rattle.runs_in_bytes.proofs.cluster.ClusterInBytes.new.Goals as goal

pub returns-clause-handlers : goal.returns-clause-handlers
returns-clause-handlers g c = ap (λ w. w.inner.inner) c.in_ok-start.ensures.handlers ∙ c.on_bytes.ensures.within

pub returns-clause-stack : goal.returns-clause-stack
returns-clause-stack g c = ap (λ w. w.stack) c.in_ok-start.ensures.handlers ∙ c.on_bytes.ensures.stack
