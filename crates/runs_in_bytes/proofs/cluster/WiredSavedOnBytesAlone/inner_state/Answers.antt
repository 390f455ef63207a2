use Rattle.std.proofs.Common.{ap, ◌∙◌}
use Rattle.runs_in_bytes.proofs.cluster.WiredSavedOnBytesAlone.inner_state.Goals as goal

pub returns-clause-state : goal.returns-clause-state
returns-clause-state g c = λ h w n same. c.inner.ensures ∙ ap (λ s. s.inner) same
