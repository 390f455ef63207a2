use Rattle.raft_free.proofs.Applied.{state_machine_safety}
use Rattle.raft_free.proofs.Completeness.{leader_completeness, leader_completeness_before}
use Rattle.raft_free.proofs.Leaders.{election_safety, leader_append_only, log_matching}
use Rattle.raft_safety.proofs.Growing.{applied_grows, each_has_a_beginning, each_machine_follows, executed_entries_grow, executed_grows}
use Rattle.raft_safety.proofs.Ordering.{runs_are_linearizable}
use Rattle.raft_safety.proofs.Refusing.{run_no_committed_conflict, run_no_rival_appends}
use Rattle.raft_safety.proofs.Rising.{commits_rise_by_the_rule}
use Rattle.raft_safety.proofs.Safe.{applied_is_there, first_is_free, is_free, run_committed_kept, run_committed_kept_before, run_election_safety, run_leader_append_only, run_leader_completeness, run_leader_completeness_before, run_log_matching, run_state_machine_safety, step_is_free}
use Rattle.raft_safety.proofs.safety.laws.Goals as goal

pub returns : goal.returns
returns g c = record {
  free_election_safety = election_safety _;
  free_leader_append_only = leader_append_only _;
  free_log_matching = log_matching _;
  free_leader_completeness = leader_completeness _;
  free_leader_completeness_before = leader_completeness_before _;
  free_state_machine_safety = state_machine_safety _;
  first_is_free = first_is_free _ _ _;
  each_step_is_free = step_is_free _ _ _;
  moments_are_free = is_free _ _ _;
  election_safety = run_election_safety _ _ _;
  leader_append_only = run_leader_append_only _ _ _;
  log_matching = run_log_matching _ _ _;
  leader_completeness = run_leader_completeness _ _ _;
  leader_completeness_before = run_leader_completeness_before _ _ _;
  commits_rise_by_the_rule = commits_rise_by_the_rule _ _ _;
  committed_kept = run_committed_kept _ _ _;
  committed_kept_before = run_committed_kept_before _ _ _;
  state_machine_safety = run_state_machine_safety _ _ _;
  applied_is_there = applied_is_there _ _ _;
  no_rival_appends = run_no_rival_appends _ _ _;
  no_committed_conflict = run_no_committed_conflict _ _ _;
  applied_grows = applied_grows _ _ _;
  executed_grows = executed_grows _ _ _;
  executed_entries_grow = executed_entries_grow _ _ _;
  each_node_has_a_beginning = each_has_a_beginning _ _ _;
  each_machine_follows = each_machine_follows _ _ _;
  linearizable = runs_are_linearizable _ _ _;
}
