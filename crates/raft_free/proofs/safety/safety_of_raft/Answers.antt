use Rattle.raft_free.proofs.Applied.{state_machine_safety}
use Rattle.raft_free.proofs.Completeness.{committed_kept, committed_kept_before, leader_completeness, leader_completeness_before}
use Rattle.raft_free.proofs.Leaders.{election_safety, leader_append_only, log_matching}
use Rattle.raft_free.proofs.safety.safety_of_raft.Goals as goal

pub returns : goal.returns
returns g c = record {
  election_safety = election_safety _;
  leader_append_only = leader_append_only _;
  log_matching = log_matching _;
  leader_completeness = leader_completeness _;
  leader_completeness_before = leader_completeness_before _;
  committed_kept = committed_kept _;
  committed_kept_before = committed_kept_before _;
  state_machine_safety = state_machine_safety _;
}
