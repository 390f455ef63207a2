-- Schedules are made for a cluster whose reads take no entry of the log: its events send what those of Raft send, and requests that are
-- numbered by their place in the schedule are never used again.
use Rattle.std.specs.Prelude.{◌≡◌, ℕ, zero, suc, ◌+◌, ◌<◌, ◌≤◌, ◌==◌, ◌&&◌, ◌||◌, Bool, true, false, List, [], ◌∷◌, ◌++◌, length, Option, Some, None, IfSome, cond, refl}
use Rattle.std.specs.List.{list_any}
use Rattle.std.specs.Option.{option_to_list}
use Rattle.std.proofs.Common.{arith}
use Rattle.std.proofs.lemmas.Bool.{ne_eqb}
use Rattle.std.proofs.lemmas.List.{length-map}
use Rattle.handler_trait.specs.Handling.{Meaning, Recovery}
use Rattle.net_semantics.specs.Steps.{next}
use Rattle.net_semantics.specs.Worlds.{World, first_world}
use Rattle.raft_reads.specs.Clusters.{input_of}
use Rattle.raft_reads.specs.ReadRaft.{acknowledged, read_raft, reads_after, waits, with_reads, with_round}
use Rattle.raft_reads.specs.Reads.{ReadView, Reads, with_read}
use Rattle.raft_types.specs.Terms.{term_of}
use Rattle.raft_types.specs.declared.client.RaftInput.{RaftInput}
use Rattle.raft_xform.specs.Electing.{tick}
use Rattle.raft_xform.specs.Nodes.{RaftEffect, RaftView}
use Rattle.raft_xform.specs.Raft as raft
use Rattle.raft_xform.specs.Replicating as replicating
use Rattle.rand_pcg.specs.Lcg.{Lcg}
use Rattle.read_observer.specs.Pairs.{clashes, first_of_both, first_used, first_used_after, uses_again}
use Rattle.schedule_make.specs.Inputs.{asked_by_client}
use Rattle.schedule_make.specs.Made.{after_words, generator, made, made_from, made_step, step_of, words_of}
use Rattle.stacks.specs.Kinds.{Application}
use Rattle.stacks.specs.Reads.{reads_of}
use Rattle.vst_base.specs.Machines.{MachineMeaning}
use Rattle.vst_base.specs.declared.net.Net.{Net}
use Rattle.vst_base.specs.declared.net.Net.TheVariants as net
use Rattle.vst_base.specs.declared.node.TheConstants.{MAX_NODES}
use Rattle.vst_base.specs.declared.step.StepKind.{StepKind}
use Rattle.vst_base.specs.declared.step.StepKind.TheVariants as kind
use Rattle.vst_base.specs.declared.step.StepRefusal.{StepRefusal}
use Rattle.made_schedules.specs.Makes.{ClusterMakes, MachineMakes}
use Rattle.made_schedules.specs.Sends.{SendsFew}
use Rattle.made_schedules.proofs.RaftSends.{raft-few}
use Rattle.lists.specs.Each.{Each, each_append, each_weaker}

module _ {S C O : Type 0} (nodes : ℕ) (m : MachineMeaning S C O) (is_read : C → Bool) (most : nodes ≤ MAX_NODES) where
  sends-few : (me : ℕ) (before : RaftView S C O) (e : RaftEffect S C O) (r : Reads C) (term round : ℕ) → length e.sends ≤ MAX_NODES
      → length (with_reads m nodes me before e r term round).sends ≤ MAX_NODES
  sends-few me before e r term round few = let as_many = length-map e.sends (with_round (reads_after nodes before e.state r).round term round) in omega (arith, as_many, few)

  -- a read that waits is a timeout of Raft
  input-few : (me : ℕ) (s : ReadView S C O) (i : RaftInput C) (b : Bool)
      → length (cond b (with_reads m nodes me s.raft (tick m nodes me s.raft) (with_read s.reads i s.raft.commit) 0 0)
      (with_reads m nodes me s.raft (replicating.on_input m nodes me s.raft i) s.reads 0 0)).sends ≤ MAX_NODES
  input-few me s i true = sends-few me s.raft (tick m nodes me s.raft) (with_read s.reads i s.raft.commit) 0 0 ((raft-few nodes m most).timeout me s.raft)
  input-few me s i false = sends-few me s.raft (replicating.on_input m nodes me s.raft i) s.reads 0 0 ((raft-few nodes m most).input me s.raft i)

  pub read-few : SendsFew (read_raft nodes m is_read)
  read-few = record {
    input = λ n s i. input-few n s i (waits is_read s i);
    message = λ n s from x.
        sends-few n s.raft (raft.on_message m nodes n s.raft from x.raft) (acknowledged s from x) (term_of x.raft) x.round ((raft-few nodes m most).message n s.raft from x.raft);
    timeout = λ n s. sends-few n s.raft (tick m nodes n s.raft) s.reads 0 0 ((raft-few nodes m most).timeout n s.raft);
  }

-- of requests with smaller numbers none is used again
module _ {C : Type 0} (is_read : C → Bool) (cmds : ℕ → ℕ → C) where
  abbrev IsBefore : ℕ → RaftInput C → Type 0
  IsBefore place i = i.request < place

  abbrev IsOfPlace : ℕ → RaftInput C → Type 0
  IsOfPlace place i = i.request ≡ place

  other-number : (place : ℕ) (i j : RaftInput C) → IsBefore place i → IsOfPlace place j → clashes is_read i j ≡ false
  other-number place i j before is = let differs : (i.request == j.request) ≡ false = ne_eqb i.request j.request (λ e. omega (arith, before, is, e)) in go (i.client == j.client) (i.request == j.request) differs
    where
      go : (a b : Bool) → b ≡ false → (a && b && (is_read i.cmd || is_read j.cmd)) ≡ false
      go true true e = cc
      go true false e = refl
      go false b e = refl

  not-again : (place : ℕ) (earlier : List (RaftInput C)) (o : Option (RaftInput C)) → Each (IsBefore place) earlier → IfSome o (IsOfPlace place) → uses_again is_read earlier o ≡ false
  not-again place earlier None before is = refl
  not-again place earlier (Some j) before is = go earlier before
    where
      go : (es : List (RaftInput C)) → Each (IsBefore place) es → list_any (λ i. clashes is_read i j) es ≡ false
      go [] all = refl
      go (i ∷ es) all = rw (other-number place i j all.0 is) (go es all.1)

  before-next : (place : ℕ) (o : Option (RaftInput C)) → IfSome o (IsOfPlace place) → Each (IsBefore (place + 1)) (option_to_list o)
  before-next place None is = tt
  before-next place (Some j) is = (omega (arith, is), tt)

  -- a step that is made puts in a request of its place, if any
  of-place : (place word : ℕ) (k : StepKind) (n : ℕ) → IfSome (input_of (step_of (asked_by_client cmds word place) k n)) (IsOfPlace place)
  of-place place word kind.In n = refl
  of-place place word kind.Deliver n = tt
  of-place place word kind.Tick n = tt
  of-place place word kind.Dup n = tt
  of-place place word kind.Lose n = tt
  of-place place word kind.Crash n = tt
  of-place place word kind.Reboot n = tt

  module _ {S K O M : Type 0} (on : Net) (h : Meaning S (RaftInput C) O M) (r : Recovery S K) where
    never-again : (w : World S K M) (place : ℕ) (g : Lcg) (steps : ℕ) (earlier : List (RaftInput C)) → Each (IsBefore place) earlier
        → first_used_after is_read earlier (made_from on h r (asked_by_client cmds) w place g steps) ≡ None
    never-again w place g zero earlier before = refl
    never-again w place g (suc steps) earlier before =
        let s = made_step on h (asked_by_client cmds) w place (words_of g) in
        let is : IfSome (input_of s) (IsOfPlace place) = of-place place (words_of g).input _ _ in
        let here = option_to_list (input_of s) in
        let later = each_append (IsBefore (place + 1)) earlier here (each_weaker (IsBefore place) (IsBefore (place + 1)) (λ i b. omega (arith, b)) earlier before) (before-next place (input_of s) is) in
        rw (not-again place earlier (input_of s) before is, never-again (next h r w s) (place + 1) (after_words g) steps (earlier ++ here) later) refl

    pub never-used : (seed steps : ℕ) → first_used is_read (made on h r (asked_by_client cmds) seed steps) ≡ None
    never-used seed steps = never-again (first_world h) 0 (generator seed) steps [] tt

-- neither of two refusals is there
none-of-both : (r : Option (ℕ × StepRefusal)) (o : Option ℕ) → r ≡ None → o ≡ None → first_of_both r o ≡ None
none-of-both r None none first = none
none-of-both r (Some k) none first = cc

pub reads-make : (p : Application) (is_read : p.Command → Bool) → MachineMakes p → ClusterMakes (reads_of p is_read)
reads-make p is_read inputs = record {
  nodes = λ n. refl;
  sends = λ n few. read-few n p.machine is_read few;
  inputs = inputs;
  allowed = λ n seed steps allowed.
      none-of-both _ _ allowed (never-used is_read p.makes net.Fail ((reads_of p is_read).cluster.handlers n) ((reads_of p is_read).cluster.recovery n) seed steps);
}
