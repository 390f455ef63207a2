-- What a cluster has applied, and which of it was executed.
use Rattle.std.specs.Prelude.{ℕ, zero, suc, List, [], ◌∷◌, length, take, nat_lt, if◌then◌else◌}
use Rattle.net_semantics.specs.Steps.{next}
use Rattle.net_semantics.specs.Worlds.{first_world}
use Rattle.vst_base.specs.Machines.{MachineMeaning}
use Rattle.vst_base.specs.declared.entry.Entry.{Entry}
use Rattle.vst_base.specs.declared.step.Step.{Step}
use Rattle.raft_clients.specs.Executed.{executed, requests}
use Rattle.raft_types.specs.declared.client.RaftInput.{RaftInput}
use Rattle.raft_xform.specs.Nodes.{RaftView}
use Rattle.raft_xform.specs.Raft.{raft, raft_recovery}
use Rattle.raft_safety.specs.Runs.{RaftWorld}

module _ {A : Type 0} where
  abbrev pub longer : List A → List A → List A
  longer xs ys = if nat_lt (length xs) (length ys) then ys else xs

  -- the longest of a list and of the lists of so many nodes
  abbrev pub longest : ℕ → (ℕ → List A) → List A → List A
  longest zero list best = best
  longest (suc n) list best = longer (longest n list best) (list n)

module _ {S C O : Type 0} where
  -- what a node has applied, or had when it stopped
  abbrev pub applied_list : RaftView S C O → List (Entry C)
  applied_list s = take s.applied s.log

  -- the same of each node of a world
  abbrev pub applied_lists : RaftWorld S C O → ℕ → List (Entry C)
  applied_lists w node = applied_list (w.state node)

  -- the longest of a list and of those that nodes have after any of these steps, where each world gives a list for each of
  -- its nodes
  abbrev pub longest_from : {A : Type 0} → (RaftWorld S C O → ℕ → List A) → MachineMeaning S C O → ℕ →
      RaftWorld S C O → List A → List (Step (RaftInput C)) → List A
  longest_from lists m nodes w best [] = best
  longest_from lists m nodes w best (s ∷ ss) =
      let after = next (raft nodes m) (raft_recovery m) w s in
      longest_from lists m nodes after (longest nodes (lists after) best) ss

  -- the longest list of entries that a node of the cluster has applied at any moment of the schedule
  abbrev pub applied_by : MachineMeaning S C O → ℕ → List (Step (RaftInput C)) → List (Entry C)
  applied_by m nodes ss = longest_from applied_lists m nodes (first_world (raft nodes m)) [] ss

  -- the requests of it that were executed, in order
  abbrev pub executed_by : MachineMeaning S C O → ℕ → List (Step (RaftInput C)) → List (RaftInput C)
  executed_by m nodes ss = executed (requests (applied_by m nodes ss))
