-- An event of Raft with reads sends what Raft's does, begins one round at most, and tells clients what Raft's does and what the machine
-- answers to reads that waited: of these there are no more than rounds began.
use Rattle.std.specs.Prelude.{◌≡◌, ℕ, suc, ◌+◌, ◌<◌, ◌≤◌, Bool, true, false, not, ◌&&◌, ◌==◌, List, [], ◌∷◌, length, map, cond, refl}
use Rattle.std.proofs.Common.{arith, length-append}
use Rattle.std.proofs.lemmas.Bool.{and_parts}
use Rattle.std.proofs.lemmas.List.{length-map}
use Rattle.std.proofs.lemmas.List.Filters.{length-filter_both}
use Rattle.std.specs.List.{filter}
use Rattle.handler_trait.specs.Handling.{AreSentBelow, IsModest}
use Rattle.handler_trait.specs.declared.handlers.TheConstants.{MAX_OUTPUTS}
use Rattle.vst_base.specs.Machines.{MachineMeaning}
use Rattle.raft_types.specs.Terms.{term_of}
use Rattle.raft_types.specs.declared.client.RaftInput.{RaftInput}
use Rattle.raft_types.specs.declared.msg.RaftMsg.{RaftMsg}
use Rattle.raft_xform.specs.Electing.{tick}
use Rattle.raft_xform.specs.Nodes.{RaftEffect, RaftView, is_leader}
use Rattle.raft_xform.specs.Raft as raft
use Rattle.raft_xform.specs.RaftLaws as laws
use Rattle.raft_xform.specs.Replicating as replicating
use Rattle.raft_xform.specs.Sound.{IsSoundNode}
use Rattle.raft_reads.specs.ReadRaft.{ReadEffect, acknowledged, on_input, on_message, on_timeout, read_reply, reads_after, waits, with_reads, with_round}
use Rattle.raft_types.specs.Rounds.{ReadMsg}
use Rattle.raft_reads.specs.Reads.{ReadView, Reads, Waiting, has_committed_own, is_appended, is_ready, no_reads, still_leads, with_ack, with_read}
use Rattle.read_xform.specs.Sound.{IsSoundReader}

-- a filter leaves no more
pub few_filtered : {A : Type 0} (p : A → Bool) (xs : List A) → length (filter p xs) ≤ length xs
few_filtered p xs = let both = length-filter_both p (λ x. not (p x)) (λ _. refl) xs in omega arith

module _ {C : Type 0} where
  below_rounds : (nodes own term round : ℕ) (ps : List (ℕ × RaftMsg C)) → AreSentBelow nodes ps → AreSentBelow nodes (map (with_round own term round) ps)
  below_rounds nodes own term round [] below = tt
  below_rounds nodes own term round (p ∷ ps) below = (below.0, below_rounds nodes own term round ps below.1)

  -- what a node knows of reads, or nothing
  round_either : (b : Bool) (nodes : ℕ) (r : Reads C) → (cond b r (no_reads nodes)).round ≤ r.round
  round_either true nodes r = omega arith
  round_either false nodes r = omega arith

  waiting_either : (b : Bool) (nodes : ℕ) (r : Reads C) → length (cond b r (no_reads nodes)).waiting ≤ length r.waiting
  waiting_either true nodes r = omega arith
  waiting_either false nodes r = omega arith

-- that of a node with reads
module _ {S C O : Type 0} (is_read : C → Bool) (nodes : ℕ) (m : MachineMeaning S C O) (n : ℕ) where
  abbrev pub IsModestHere : ReadView S C O → ReadEffect S C O → Type 0
  IsModestHere s e = IsModest nodes 8 (IsSoundReader is_read nodes n) (λ t. t.reads.round) s e

  modest : (s : ReadView S C O) (e : RaftEffect S C O) (r : Reads C) (term round : ℕ) → IsModest nodes 8 (IsSoundNode nodes n) (λ _. 0) s.raft e
      → r.round ≤ s.reads.round + 8
      → (IsSoundNode nodes n e.state → length e.outputs + length r.waiting ≤ MAX_OUTPUTS + s.reads.round)
      → IsModestHere s (with_reads m nodes n s.raft e r term round)
  modest s e r term round k began told =
      let left = reads_after nodes s.raft e.state r in
      let ready : Waiting C → Bool = is_ready nodes n e.state left in
      let replies = map (read_reply m e.state.machine) (filter ready left.waiting) in
      record {
        few = let same = length-map e.sends (with_round {C = C} left.round term round) in omega (arith, same, k.few);
        to_nodes = below_rounds nodes left.round term round e.sends k.to_nodes;
        cheap = let least = round_either (still_leads s.raft e.state) nodes r in omega (arith, least, began);
        few_outputs = λ after.
            let most = told after.raft in
            let waited = waiting_either (still_leads s.raft e.state) nodes r in
            let answered = few_filtered ready left.waiting in
            let same = length-map (filter ready left.waiting) (read_reply m e.state.machine) in
            let all = length-append e.outputs replies in
            omega (arith, most, waited, answered, same, all);
      }

  -- an event that begins no round
  modest_plain : (s : ReadView S C O) (e : RaftEffect S C O) (r : Reads C) (term round : ℕ) → IsSoundReader is_read nodes n s
      → IsModest nodes 8 (IsSoundNode nodes n) (λ _. 0) s.raft e → r.round ≡ s.reads.round → length r.waiting ≡ length s.reads.waiting
      → IsModestHere s (with_reads m nodes n s.raft e r term round)
  modest_plain s e r term round h k same as_many =
      modest s e r term round k (omega arith) (λ after. let few = k.few_outputs after in let waited = h.reads.few in omega (arith, few, waited, as_many))

  -- and a leader's timer tells clients nothing
  tells_none : (s : RaftView S C O) → is_leader s.role ≡ true → length (tick m nodes n s).outputs ≡ 0
  tells_none s leads = rw leads refl

  modest_waiting : (s : ReadView S C O) (i : RaftInput C) → IsSoundReader is_read nodes n s → is_leader s.raft.role ≡ true
      → IsModestHere s (with_reads m nodes n s.raft (tick m nodes n s.raft) (with_read s.reads i s.raft.commit) 0 0)
  modest_waiting s i h leads =
      let r = with_read s.reads i s.raft.commit in
      let one_more = length-append s.reads.waiting (record { input = i; round = suc s.reads.round; read_index = s.raft.commit } ∷ []) in
      modest s (tick m nodes n s.raft) r 0 0 (laws.modest_timeout nodes m n s.raft h.raft) (omega arith)
      (λ after. let none = tells_none s.raft leads in let waited = h.reads.few in omega (arith, none, waited, one_more))

  modest_either : (s : ReadView S C O) (b : Bool) (e f : ReadEffect S C O) → (b ≡ true → IsModestHere s e) → (b ≡ false → IsModestHere s f) → IsModestHere s (cond b e f)
  modest_either s true e f k l = k refl
  modest_either s false e f k l = l refl

  pub modest_input : (s : ReadView S C O) (i : RaftInput C) → IsSoundReader is_read nodes n s → IsModestHere s (on_input m is_read nodes n s i)
  modest_input s i h = modest_either s (waits is_read s i) _ _
      (λ waiting. modest_waiting s i h (and_parts _ _ (and_parts (is_read i.cmd) (is_leader s.raft.role && has_committed_own s.raft) waiting).1).0)
      (λ _. modest_plain s (replicating.on_input m nodes n s.raft i) s.reads 0 0 h (laws.modest_input nodes m n s.raft i h.raft) refl refl)

  -- an acknowledgement begins no round, and no read comes or goes with it
  same_acknowledged : (s : ReadView S C O) (from : ℕ) (x : ReadMsg C) → ((acknowledged s from x).round ≡ s.reads.round) × ((acknowledged s from x).waiting ≡ s.reads.waiting)
  same_acknowledged s from x = go (is_appended x.raft && (is_leader s.raft.role && term_of x.raft == s.raft.ballot.term))
    where
      go : (b : Bool) → ((cond b (with_ack s.reads from x.round) s.reads).round ≡ s.reads.round) × ((cond b (with_ack s.reads from x.round) s.reads).waiting ≡ s.reads.waiting)
      go true = (refl, refl)
      go false = (refl, refl)

  pub modest_message : (s : ReadView S C O) (from : ℕ) (x : ReadMsg C) → from < nodes → IsSoundReader is_read nodes n s → IsModestHere s (on_message m nodes n s from x)
  modest_message s from x below h =
      let same = same_acknowledged s from x in
      modest_plain s (raft.on_message m nodes n s.raft from x.raft) (acknowledged s from x) (term_of x.raft) x.round h
      (laws.modest_message nodes m n s.raft from x.raft below h.raft) same.0 (rw (same.1) refl)

  pub modest_timeout : (s : ReadView S C O) → IsSoundReader is_read nodes n s → IsModestHere s (on_timeout m nodes n s)
  modest_timeout s h = modest_plain s (tick m nodes n s.raft) s.reads 0 0 h (laws.modest_timeout nodes m n s.raft h.raft) refl refl
