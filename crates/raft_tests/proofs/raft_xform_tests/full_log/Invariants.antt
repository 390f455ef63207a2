use Rattle.std.proofs.Common.{◌≡◌, vec_len}
use Rattle.raft_tests.proofs.raft_xform_tests.full_log.Given as goal

abbrev pub invariant-loop-request : goal.invariant-loop-request
invariant-loop-request l = vec_len l.made ≡ l.request
