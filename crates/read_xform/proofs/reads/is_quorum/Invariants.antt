use Rattle.std.proofs.Common.{◌≡◌, ◌≤◌}
use Rattle.std.specs.Prelude.{slice_index_or}
use Rattle.vst_base.specs.Elections as elections
use Rattle.read_xform.proofs.reads.is_quorum.Given as goal

abbrev pub invariant-loop-n : goal.invariant-loop-n
invariant-loop-n l = record {
  counted : l.count ≡ elections.count (elections.holders l.me (λ node. slice_index_or l.acked node 0) l.round) l.n;
  few : l.count ≤ l.n;
}
