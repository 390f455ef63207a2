-- What an observer of a cluster with reads has of its run.
use Rattle.std.specs.Prelude.{◌≡◌, ℕ, ◌<◌, Bool, List, [], ◌∷◌, ◌++◌, Option, option_map, IfSome, refl}
use Rattle.std.specs.Coded.{Coded, code_by, coded×, coded_list, coded_ℕ}
use Rattle.handler_trait.specs.Handling.{Recovery}
use Rattle.net_semantics.specs.Runs.{run}
use Rattle.net_semantics.specs.Steps.{event_of}
use Rattle.vst_base.specs.Machines.{MachineMeaning}
use Rattle.vst_base.specs.declared.net.Net.TheVariants as net
use Rattle.vst_base.specs.declared.step.Step.{Step}
use Rattle.raft_types.specs.Messages.{KeptView}
use Rattle.raft_types.specs.Rounds.{ReadMsg}
use Rattle.raft_types.specs.declared.client.RaftInput.{RaftInput}
use Rattle.raft_types.specs.declared.client.RaftOut.{RaftOut}
use Rattle.applied_order.specs.Orders as applied
use Rattle.applied_order.specs.Orders.{OrderView, order_code}
use Rattle.raft_reads.specs.Clusters.{ReadCluster, handlers, recovery}
use Rattle.raft_reads.specs.Erasing.{erased}
use Rattle.raft_reads.specs.Reads.{ReadView}
use Rattle.raft_safety.specs.Applied.{applied_by}
use Rattle.reads_safety.specs.Orders.{answered}
use Rattle.reads_safety.specs.Runs.{IsRun}
use Rattle.xform_stack.specs.Systems.{System}

-- a machine of whose commands these read, on so many nodes
abbrev pub cluster_in : {S C O : Type 0} → MachineMeaning S C O → (C → Bool) → ℕ → ReadCluster S C O
cluster_in m is_read nodes = record { machine = m; is_read = is_read; nodes = nodes }

-- what is kept of the entries that the cluster has applied, and the reads that were answered, each with its place
pub record ServedView (C : Type 0) : Type 0 where
  pub executed : OrderView C
  pub answered : List (ℕ × RaftInput C)

abbrev input_code : {C : Type 0} → Coded C → Coded (RaftInput C)
input_code {C} cmd =
    code_by (ℕ × (ℕ × C)) (coded× coded_ℕ (coded× coded_ℕ cmd))
    (λ i. (i.client, (i.request, i.cmd))) (λ p. record { client = p.0; request = p.1.0; cmd = p.1.1 }) (λ _. refl)

abbrev pub served_code : {C : Type 0} → Coded C → Coded (ServedView C)
served_code {C} cmd =
    code_by (OrderView C × List (ℕ × RaftInput C)) (coded× (order_code cmd) (coded_list (coded× coded_ℕ (input_code cmd))))
    (λ o. (o.executed, o.answered)) (λ p. record { executed = p.0; answered = p.1 }) (λ _. refl)

module _ {S C O : Type 0} (c : ReadCluster S C O) where
  -- the cluster on a network whose nodes stop and start again
  abbrev pub cluster_of : System (ReadView S C O) (KeptView C) (RaftInput C) (RaftOut O) (ReadMsg C)
  cluster_of = record { net = net.Fail; meaning = handlers c; recovery = recovery c }

  -- it has followed these steps
  pub record HasServed (o : ServedView C) (ss : List (Step (RaftInput C))) : Type 0 where
    pub executed : applied.HasFollowed o.executed (applied_by c.machine c.nodes (erased c ss))
    pub answered : o.answered ≡ answered c ss

  -- a node of the cluster at which a step that comes after these is an event, where the network allows it
  pub record IsPlace (r : Recovery (ReadView S C O) (KeptView C)) (node : Option ℕ) (ss : List (Step (RaftInput C))) (s : Step (RaftInput C)) : Type 0 where
    pub is : IsRun c (ss ++ s ∷ []) → node ≡ option_map (λ e. e.node) (event_of (handlers c) (run (handlers c) r ss) s)
    pub below : IfSome node (λ n. n < c.nodes)
