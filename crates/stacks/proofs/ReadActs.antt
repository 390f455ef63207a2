-- A cluster whose reads take no entry of the log acts as its machine, where reads leave the machine's state as it is; and what runs it plays
-- as the stack of it.
use Rattle.std.specs.Prelude.{◌≡◌, ℕ, Bool, true, false, List, Option, Some, None, IsTrue, cond, nat_lt, refl}
use Rattle.read_observer.proofs.Unused.{unused}
use Rattle.net_semantics.specs.Runs.{IsAllowed}
use Rattle.raft_reads.specs.ReadRaft.{read_raft, read_recovery}
use Rattle.raft_types.specs.declared.client.RaftInput.{RaftInput}
use Rattle.read_observer.specs.Observed.{cluster_in}
use Rattle.read_observer.specs.Pairs.{checked, first_of_both, first_used}
use Rattle.reads_safety.proofs.Linear.{reads_are_linearizable}
use Rattle.reads_safety.specs.Orders.{order}
use Rattle.vst_base.specs.Machines.{MachineMeaning}
use Rattle.vst_base.specs.declared.net.Net.TheVariants as net
use Rattle.vst_base.specs.declared.step.Step.{Step}
use Rattle.vst_base.specs.declared.step.StepRefusal.{StepRefusal}
use Rattle.vst_base.specs.declared.step.StepRefusal.TheVariants as refusal
use Rattle.xform_stack.specs.Systems.{played_on}
use Rattle.stacks.specs.Clusters.{ActsAs}
use Rattle.stacks.specs.Kinds.{Application, cluster_play, order_below, raft_texts}
use Rattle.stacks.specs.Plays.{play_of}
use Rattle.stacks.specs.Reads.{read_cluster, reads_of, reads_on, reads_played}

-- where neither of two refusals is there, none is
pub neither : (r : Option (ℕ × StepRefusal)) (o : Option ℕ) → first_of_both r o ≡ None → (r ≡ None) × (o ≡ None)
neither r None e = (e, refl)
neither None (Some k) e = cc
neither (Some r) (Some k) e = absurd (go (nat_lt k r.0) e)
  where
    go : (b : Bool) → cond b (Some (k, refusal.PairUsed)) (Some r) ≡ None → ⊥
    go true e = cc
    go false e = cc

module _ {S C O : Type 0} (m : MachineMeaning S C O) (is_read : C → Bool) where
  pub read-acts : ((s : S) (c : C) → IsTrue (is_read c) → (m.apply s c).0 ≡ s) → ActsAs m (read_cluster m is_read)
  read-acts leaves = record {
    allowed = λ n ss allowed. (neither _ (first_used is_read ss) allowed).0;
    linearizable = λ n ss size allowed.
        let none = neither _ (first_used is_read ss) allowed in
        reads_are_linearizable S C O (reads_on m is_read n) ss leaves (record { size = size; allowed = none.0 }) (unused (reads_on m is_read n) ss none.1);
  }

-- what runs it plays as the stack of it, and allows what the stack doesn't refuse
module _ (p : Application) (is_read : p.Command → Bool) (nodes : ℕ) (m : MachineMeaning p.State p.Command p.Output) (tells : p.Command → Bool) (n : ℕ)
    (is-it : m ≡ p.machine) (are-read : tells ≡ is_read) (are : n ≡ nodes) where
  pub reads-plays : (asks : p.Command → Bool) → asks ≡ is_read
      → cluster_play (reads_of p is_read) nodes
      ≡ play_of (reads_played asks (cluster_in m tells n)) (raft_texts p.texts) (order_below p.texts)
  reads-plays asks asked = rw (is-it, are-read, are, asked) refl

  pub reads-allowed : (ss : List (Step (RaftInput p.Command))) → (cluster_play (reads_of p is_read) nodes).refused ss ≡ None
      → IsAllowed net.Fail (read_raft n m tells) (read_recovery n m) ss
  reads-allowed ss none = rw (is-it, are-read, are) (neither _ (first_used is_read ss) none).0
