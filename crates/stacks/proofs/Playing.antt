-- What runs a machine alone, or on a cluster, plays as the stack of it.
use Rattle.std.specs.Prelude.{ℕ, List, None}
use Rattle.std.proofs.Common.{◌≡◌, refl}
use Rattle.handler_trait.specs.Handling.{Meaning}
use Rattle.net_semantics.specs.Runs.{IsAllowed}
use Rattle.raft_types.specs.declared.client.RaftInput.{RaftInput}
use Rattle.raft_xform.specs.Raft.{raft, raft_recovery}
use Rattle.raft_safety.specs.Applied.{executed_by}
use Rattle.trace_maps.specs.SingleNode.{single_node}
use Rattle.vst_base.specs.Machines.{MachineMeaning}
use Rattle.vst_base.specs.declared.net.Net.{Net}
use Rattle.vst_base.specs.declared.net.Net.TheVariants as net
use Rattle.vst_base.specs.declared.step.Step.{Step}
use Rattle.xform_stack.specs.Systems.{cluster_of, played_on, system_of}
use Rattle.stacks.specs.Explained.{alone_play}
use Rattle.stacks.specs.Kinds.{Application, cluster_play, header_on, order_below, raft_of, raft_texts, schedule_below}
use Rattle.stacks.specs.Plays.{play_of}

pub alone-plays : (p : Application) (on : Net) (m : Meaning p.State p.Command p.Output (Unit {0})) → on ≡ net.One → m ≡ single_node p.machine
    → alone_play p ≡ play_of (played_on (system_of on m) (λ ss. ss)) p.texts (schedule_below (header_on p.own 1) p.texts)
alone-plays p on m is-one is-it = rw (is-one, is-it) refl

pub cluster-plays : (p : Application) (nodes : ℕ) (m : MachineMeaning p.State p.Command p.Output) (n : ℕ) → m ≡ p.machine → n ≡ nodes
    → cluster_play (raft_of p) nodes ≡ play_of (played_on (cluster_of m n) (executed_by m n)) (raft_texts p.texts) (order_below p.texts)
cluster-plays p nodes m n is-it are = rw (is-it, are) refl

pub cluster-allowed : (p : Application) (nodes : ℕ) (m : MachineMeaning p.State p.Command p.Output) (n : ℕ) → m ≡ p.machine → n ≡ nodes
    → (ss : List (Step (RaftInput p.Command))) → (cluster_play (raft_of p) nodes).refused ss ≡ None → IsAllowed net.Fail (raft n m) (raft_recovery m) ss
cluster-allowed p nodes m n is-it are ss allowed = rw (is-it, are) allowed
