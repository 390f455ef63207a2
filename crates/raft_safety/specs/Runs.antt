-- Runs of a cluster on a network that loses and copies packets, and whose nodes stop and start again.
use Rattle.std.specs.Prelude.{◌≡◌, ℕ, List, ◌++◌, Option, Some, None, IsTrue}
use Rattle.net_semantics.specs.Runs.{IsAllowed, run, trace}
use Rattle.net_semantics.specs.Worlds.{World}
use Rattle.vst_base.specs.Machines.{MachineMeaning}
use Rattle.vst_base.specs.declared.entry.Entry.{Entry}
use Rattle.vst_base.specs.declared.net.Net.TheVariants as net
use Rattle.vst_base.specs.declared.step.Item.{Item}
use Rattle.vst_base.specs.declared.step.Step.{Step}
use Rattle.raft_types.specs.Messages.{KeptView, IsClusterSize}
use Rattle.raft_types.specs.declared.client.RaftInput.{RaftInput}
use Rattle.raft_types.specs.declared.client.RaftOut.{RaftOut}
use Rattle.raft_types.specs.declared.msg.RaftMsg.{RaftMsg}
use Rattle.raft_xform.specs.Nodes.{RaftView, is_leader}
use Rattle.raft_xform.specs.Raft.{raft, raft_recovery}

abbrev pub RaftWorld : Type 0 → Type 0 → Type 0 → Type 0
RaftWorld S C O = World (RaftView S C O) (KeptView C) (RaftMsg C)

-- the log of a node, which is what it kept where it is down
abbrev pub log_of : {S C O : Type 0} → RaftView S C O → Option (KeptView C) → List (Entry C)
log_of s None = s.log
log_of s (Some k) = k.log

module _ {S C O : Type 0} where
  abbrev pub log_at : RaftWorld S C O → ℕ → List (Entry C)
  log_at w i = log_of (w.state i) (w.kept i)

  -- a node that is up leads in this term
  pub record Leads (w : RaftWorld S C O) (i t : ℕ) : Type 0 where
    pub up : IsTrue (w.is_up i)
    pub leader : IsTrue (is_leader (w.state i).role)
    pub term : (w.state i).ballot.term ≡ t

  -- the cluster of a machine has so many nodes, and the network allows the schedule
  pub record IsRun (m : MachineMeaning S C O) (nodes : ℕ) (ss : List (Step (RaftInput C))) : Type 0 where
    pub size : IsClusterSize nodes
    pub allowed : IsAllowed net.Fail (raft nodes m) (raft_recovery m) ss

  -- the world after the schedule, and what clients saw by then
  abbrev pub world_after : MachineMeaning S C O → ℕ → List (Step (RaftInput C)) → RaftWorld S C O
  world_after m nodes ss = run (raft nodes m) (raft_recovery m) ss

  abbrev pub seen : MachineMeaning S C O → ℕ → List (Step (RaftInput C)) → List (Item (RaftInput C) (RaftOut O))
  seen m nodes ss = trace (raft nodes m) (raft_recovery m) ss

  -- a run comes to this world
  pub record IsReached (m : MachineMeaning S C O) (nodes : ℕ) (w : RaftWorld S C O) : Type 0 where
    pub steps : List (Step (RaftInput C))
    pub run : IsRun m nodes steps
    pub is : w ≡ world_after m nodes steps

  -- a run comes to v, and goes on from there to w: any moment, and the same or any later one
  pub record AreMoments (m : MachineMeaning S C O) (nodes : ℕ) (v w : RaftWorld S C O) : Type 0 where
    pub early : List (Step (RaftInput C))
    pub late : List (Step (RaftInput C))
    pub run : IsRun m nodes (early ++ late)
    pub first : v ≡ world_after m nodes early
    pub second : w ≡ world_after m nodes (early ++ late)
