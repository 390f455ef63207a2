-- A kind of cluster: handlers whose nodes stop and start again, on a network that fails, and the one machine that clients see in them.
use Rattle.std.specs.Prelude.{◌≡◌, ℕ, List, Option, None}
use Rattle.handler_trait.specs.Handling.{Meaning, Recovery}
use Rattle.linearizability.specs.Linearizable.{IsLinearizable}
use Rattle.net_semantics.specs.Runs.{IsAllowed, first_refused, trace}
use Rattle.raft_safety.specs.Applied.{executed_by}
use Rattle.raft_types.specs.Messages.{IsClusterSize, KeptView}
use Rattle.raft_types.specs.declared.client.RaftInput.{RaftInput}
use Rattle.raft_types.specs.declared.client.RaftOut.{RaftOut}
use Rattle.raft_types.specs.declared.msg.RaftMsg.{RaftMsg}
use Rattle.raft_xform.specs.Nodes.{RaftView}
use Rattle.raft_xform.specs.Raft.{raft, raft_recovery}
use Rattle.vst_base.specs.Machines.{MachineMeaning}
use Rattle.vst_base.specs.declared.net.Net.TheVariants as net
use Rattle.vst_base.specs.declared.step.Item.{Item}
use Rattle.vst_base.specs.declared.step.Step.{Step}
use Rattle.vst_base.specs.declared.step.StepRefusal.{StepRefusal}
use Rattle.xform_stack.specs.Systems.{Played, System}

-- of so many nodes the handlers, and what a node that stops keeps; and of a schedule the first step that is refused, and the order in which
-- one machine takes the requests
pub record ClusterOf (C O : Type 0) : Type 1 where
  pub State : Type 0
  pub Kept : Type 0
  pub Msg : Type 0
  pub handlers : ℕ → Meaning State (RaftInput C) (RaftOut O) Msg
  pub recovery : ℕ → Recovery State Kept
  pub refused : ℕ → List (Step (RaftInput C)) → Option (ℕ × StepRefusal)
  pub order : ℕ → List (Step (RaftInput C)) → List (RaftInput C)

module _ {C O : Type 0} (c : ClusterOf C O) (n : ℕ) where
  -- as a system on its network
  abbrev pub cluster_system : System c.State c.Kept (RaftInput C) (RaftOut O) c.Msg
  cluster_system = record { net = net.Fail; meaning = c.handlers n; recovery = c.recovery n }

  abbrev pub cluster_allows : List (Step (RaftInput C)) → Type 0
  cluster_allows ss = IsAllowed net.Fail (c.handlers n) (c.recovery n) ss

  abbrev pub cluster_trace : List (Step (RaftInput C)) → List (Item (RaftInput C) (RaftOut O))
  cluster_trace ss = trace (c.handlers n) (c.recovery n) ss

  -- how its schedules play: the image is the order
  abbrev pub cluster_played : Played (RaftInput C) (RaftOut O) (RaftInput C)
  cluster_played = record { refused = c.refused n; trace = cluster_trace; image = c.order n }

-- its law: what it doesn't refuse its network allows, and clients see the one machine, which takes the requests in the order
pub record ActsAs {S C O : Type 0} (m : MachineMeaning S C O) (c : ClusterOf C O) : Type 0 where
  pub allowed : (n : ℕ) (ss : List (Step (RaftInput C))) → c.refused n ss ≡ None → cluster_allows c n ss
  pub linearizable : (n : ℕ) (ss : List (Step (RaftInput C))) → IsClusterSize n → c.refused n ss ≡ None
      → IsLinearizable m (c.order n ss) (cluster_trace c n ss)

-- Raft of a machine: it refuses what the network refuses, and the order has what was executed
abbrev pub raft_cluster : {S C O : Type 0} → MachineMeaning S C O → ClusterOf C O
raft_cluster {S = S} {C = C} {O = O} m = record {
  State = RaftView S C O;
  Kept = KeptView C;
  Msg = RaftMsg C;
  handlers = λ n. raft n m;
  recovery = λ n. raft_recovery m;
  refused = λ n. first_refused net.Fail (raft n m) (raft_recovery m);
  order = executed_by m;
}
