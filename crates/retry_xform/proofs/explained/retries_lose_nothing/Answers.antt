use Rattle.retry_xform.proofs.Simulation.{run-explained, nothing-lost}
use Rattle.retry_xform.proofs.explained.retries_lose_nothing.Goals as goal

pub returns-clause-allowed : goal.returns-clause-allowed
returns-clause-allowed g c = λ m ss allowed. (run-explained m ss allowed).allowed

pub returns-clause-same_trace : goal.returns-clause-same_trace
returns-clause-same_trace g c = λ m ss allowed. (run-explained m ss allowed).items

pub returns-clause-delivered_or_kept : goal.returns-clause-delivered_or_kept
returns-clause-delivered_or_kept g c = λ m ss allowed. nothing-lost m ss allowed
