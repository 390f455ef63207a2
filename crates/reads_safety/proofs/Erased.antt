-- A run with reads is a run of Raft.
use Rattle.std.proofs.Common.{◌≡◌, List, ◌++◌, sym, ap, ◌∙◌}
use Rattle.vst_base.specs.declared.step.Step.{Step}
use Rattle.raft_types.specs.declared.client.RaftInput.{RaftInput}
use Rattle.raft_safety.proofs.Safe.{is_free}
use Rattle.raft_safety.specs.Runs as raft_runs
use Rattle.raft_reads.specs.Clusters.{ReadCluster, first, world_after}
use Rattle.raft_reads.specs.Erasing.{erased, erased_from, erased_world}
use Rattle.raft_reads.proofs.Erasing.{erased_append, from_erased, refused_erased}
use Rattle.reads_safety.specs.Runs.{IsRun}
use Rattle.reads_safety.specs.Safety.{RunsAreFree, RunsAreRaft}

module _ {S C O : Type 0} (c : ReadCluster S C O) where
  pub erased_run : (ss : List (Step (RaftInput C))) → IsRun c ss → raft_runs.IsRun c.machine c.nodes (erased c ss)
  erased_run ss r = record { size = r.size; allowed = sym (refused_erased c (first c) ss) ∙ r.allowed }

  pub erased_after : (ss : List (Step (RaftInput C))) → erased_world (world_after c ss) ≡ raft_runs.world_after c.machine c.nodes (erased c ss)
  erased_after ss = from_erased c (first c) ss

pub runs_are_raft : (S C O : Type 0) → RunsAreRaft S C O
runs_are_raft S C O c ss r = (erased_run c ss r, erased_after c ss)

pub runs_are_free : (S C O : Type 0) → RunsAreFree S C O
runs_are_free S C O c early late r = is_free S C O c.machine c.nodes (erased_world (world_after c early)) (erased_world (world_after c (early ++ late))) (record {
  early = erased c early;
  late = erased_from c (world_after c early) late;
  run = rw (erased_append c (first c) early late) at (erased_run c (early ++ late) r);
  first = erased_after c early;
  second = erased_after c (early ++ late) ∙ ap (raft_runs.world_after c.machine c.nodes) (erased_append c (first c) early late);
})
