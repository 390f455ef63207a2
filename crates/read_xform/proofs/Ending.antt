-- What is done in parts is what an event makes.
use Rattle.std.proofs.Common.{◌≡◌, ℕ, ◌≤◌, Bool, true, false, List, [], ◌++◌, length, map, cond, Result, Ok, Err, OnOk, sym, ap, subst, ◌∙◌, append_assoc, arith}
use Rattle.std.proofs.lemmas.List.{length-replicate}
use Rattle.std.specs.List.{filter}
use Rattle.handler_trait.specs.Handling.{Does, Gathered}
use Rattle.vst_base.specs.Machines.{MachineMeaning}
use Rattle.raft_types.specs.declared.client.RaftInput.{RaftInput}
use Rattle.raft_types.specs.declared.client.RaftOut.{RaftOut}
use Rattle.raft_types.specs.declared.msg.RaftMsg.{RaftMsg}
use Rattle.raft_xform.specs.Nodes.{RaftEffect, RaftView, is_leader}
use Rattle.raft_xform.specs.Sound.{IsSoundNode}
use Rattle.raft_reads.specs.ReadRaft.{read_reply, with_reads, with_round}
use Rattle.raft_types.specs.Rounds.{ReadMsg}
use Rattle.raft_reads.specs.Reads.{ReadView, Reads, Waiting, no_reads, with_read}
use Rattle.read_xform.specs.Ending.{finished, leads_on, lent}
use Rattle.read_xform.specs.Rounds.{may_answer, without}
use Rattle.read_xform.specs.Sound.{AreSoundReads, IsSoundReader}
use Rattle.read_xform.proofs.Keeping.{sound_either, sound_grown, sound_without}

-- what follows of an answer that is Ok
pub on_ok : {A E P Q : Type 0} (r : Result A E) → (P → Q) → OnOk r P → OnOk r Q
on_ok (Ok x) so h = so h
on_ok (Err x) so h = tt

-- few packets fit
pub few_fit : {M : Type 0} (start packets within : List (ℕ × M)) (before places : ℕ) → within ≡ start ++ packets → start ≡ [] → length packets ≤ 8 → 8 ≤ before →
    places ≡ before → length within ≤ places
few_fit start packets within before places is none few room same =
    let all : within ≡ packets = is ∙ ap (λ ps. ps ++ packets) none in
    let long = ap length all in
    omega (arith, long, few, room, same)

same_view : {S C O : Type 0} (s : ReadView S C O) (raft : RaftView S C O) (reads : Reads C) (answered : List (Waiting C)) → s.raft ≡ raft → s.reads ≡ reads → s.answered ≡ answered →
    s ≡ record { raft = raft; reads = reads; answered = answered }
same_view {S} {C} {O} s raft reads answered a b c =
    ap (λ (x : RaftView S C O). record { raft = x; reads = s.reads; answered = s.answered }) a
    ∙ (ap (λ (x : Reads C). record { raft = raft; reads = x; answered = s.answered }) b
    ∙ ap (λ (x : List (Waiting C)). record { raft = raft; reads = reads; answered = x }) c)

acked_either : {C : Type 0} (b : Bool) (nodes : ℕ) (r : Reads C) → length r.acked ≡ nodes → length (cond b r (no_reads nodes)).acked ≡ nodes
acked_either true nodes r e = e
acked_either false nodes r e = length-replicate nodes 0

module _ {S C O : Type 0} (m : MachineMeaning S C O) (nodes me : ℕ) where
  ends : (s : RaftView S C O) (packets : List (ℕ × RaftMsg C)) (r : Reads C) (term round : ℕ) (new : ReadView S C O) (before after : Gathered (RaftOut O) (ReadMsg C)) →
      length r.acked ≡ nodes → new.raft ≡ s → new.reads ≡ without (may_answer me s.applied r) r → new.answered ≡ filter (may_answer me s.applied r) r.waiting →
      after.outputs ≡ before.outputs ++ map (read_reply m s.machine) (filter (may_answer me s.applied r) r.waiting) →
      after.sends ≡ before.sends ++ map (with_round r.round term round) packets →
      Does (finished m nodes me s packets r term round) new before after
  ends s packets r term round new before after each is reads answered outputs sends =
      subst (λ (n : ℕ). Does (finished m n me s packets r term round) new before after) each
      (record { state = same_view new s (without (may_answer me s.applied r) r) (filter (may_answer me s.applied r) r.waiting) is reads answered; outputs = outputs; sends = sends })

  -- what a node that leads on or not knows of reads
  settled : (led : Bool) (term : ℕ) (s : ReadView S C O) (raft : RaftView S C O) (reads kept : Reads C) → raft ≡ s.raft → reads ≡ s.reads → length s.reads.acked ≡ nodes →
      kept ≡ cond (leads_on led term raft) reads (no_reads (length reads.acked)) → kept ≡ cond (leads_on led term s.raft) s.reads (no_reads nodes)
  settled led term s raft reads kept a b n k =
      k ∙ (ap (λ (x : RaftView S C O). cond (leads_on led term x) reads (no_reads (length reads.acked))) a
      ∙ (ap (λ (x : Reads C). cond (leads_on led term s.raft) x (no_reads (length x.acked))) b
      ∙ ap (λ (x : ℕ). cond (leads_on led term s.raft) s.reads (no_reads x)) n))

  -- the parts of an event's end, in the order of the code
  pub end_done : (led : Bool) (was term round own : ℕ) (s : ReadView S C O) (raft : RaftView S C O) (reads kept : Reads C) (new : ReadView S C O) (cleared : List (Waiting C))
      (within mid : Gathered (RaftOut O) (RaftMsg C)) (outside after : Gathered (RaftOut O) (ReadMsg C)) →
      raft ≡ s.raft → reads ≡ s.reads → length s.reads.acked ≡ nodes → kept ≡ cond (leads_on led was raft) reads (no_reads (length reads.acked)) → cleared ≡ [] →
      new.raft ≡ raft → new.reads ≡ without (may_answer me raft.applied kept) kept → new.answered ≡ cleared ++ filter (may_answer me raft.applied kept) kept.waiting →
      mid.outputs ≡ within.outputs ++ map (read_reply m raft.machine) (filter (may_answer me raft.applied kept) kept.waiting) → mid.sends ≡ within.sends → own ≡ new.reads.round →
      after.outputs ≡ mid.outputs → after.sends ≡ outside.sends ++ map (with_round own term round) mid.sends →
      Does (finished m nodes me s.raft within.sends (cond (leads_on led was s.raft) s.reads (no_reads nodes)) term round) new (lent within outside) after
  end_done led was term round own s raft reads kept new cleared within mid outside after a b n k none same left answered outputs packets is_own told sent =
      let kept_is = settled led was s raft reads kept a b n k in
      let each : length kept.acked ≡ nodes = ap (λ (r : Reads C). length r.acked) kept_is ∙ acked_either (leads_on led was s.raft) nodes s.reads n in
      let own_is : own ≡ kept.round = is_own ∙ ap (λ (r : Reads C). r.round) left in
      subst (λ (r : Reads C). Does (finished m nodes me s.raft within.sends r term round) new (lent within outside) after) kept_is
      (ends s.raft within.sends kept term round new (lent within outside) after each (same ∙ a)
      (left ∙ ap (λ (x : RaftView S C O). without (may_answer me x.applied kept) kept) a)
      (answered ∙ (ap (λ (xs : List (Waiting C)). xs ++ filter (may_answer me raft.applied kept) kept.waiting) none
      ∙ ap (λ (x : RaftView S C O). filter (may_answer me x.applied kept) kept.waiting) a))
      (told ∙ (outputs ∙ ap (λ (x : RaftView S C O). within.outputs ++ map (read_reply m x.machine) (filter (may_answer me x.applied kept) kept.waiting)) a))
      (sent ∙ (ap (λ (ps : List (ℕ × RaftMsg C)). outside.sends ++ map (with_round own term round) ps) packets
      ∙ ap (λ (x : ℕ). outside.sends ++ map (with_round x term round) within.sends) own_is)))

  -- what is sound before it is sound after it
  pub kept_sound : (is_read : C → Bool) (led : Bool) (was : ℕ) (s : ReadView S C O) (raft : RaftView S C O) (reads kept : Reads C) → raft ≡ s.raft → reads ≡ s.reads →
      kept ≡ cond (leads_on led was raft) reads (no_reads (length reads.acked)) → IsSoundReader is_read nodes me s → AreSoundReads is_read nodes s.raft.commit kept
  kept_sound is_read led was s raft reads kept a b k h =
      subst (AreSoundReads is_read nodes s.raft.commit) (sym (settled led was s raft reads kept a b h.reads.acked k))
      (sound_either is_read nodes s.raft.commit s.reads (leads_on led was s.raft) h.reads)

  pub end_sound : (is_read : C → Bool) (s : ReadView S C O) (raft : RaftView S C O) (kept : Reads C) (ready : Waiting C → Bool) (new : ReadView S C O) → raft ≡ s.raft →
      AreSoundReads is_read nodes s.raft.commit kept → IsSoundReader is_read nodes me s → new.raft ≡ raft → new.reads ≡ without ready kept → IsSoundReader is_read nodes me new
  end_sound is_read s raft kept ready new a k h same left = record {
    raft = subst (IsSoundNode nodes me) (sym (same ∙ a)) h.raft;
    reads = subst (λ (x : RaftView S C O). AreSoundReads is_read nodes x.commit new.reads) (sym (same ∙ a))
        (subst (AreSoundReads is_read nodes s.raft.commit) (sym left) (sound_without is_read nodes s.raft.commit kept ready k));
  }

  -- an event of Raft, where the outputs were lent to it, and its end
  pub with_end : (s : RaftView S C O) (e : RaftEffect S C O) (r : Reads C) (term round : ℕ) (raft : RaftView S C O) (start within : Gathered (RaftOut O) (RaftMsg C))
      (new : ReadView S C O) (before lending after : Gathered (RaftOut O) (ReadMsg C)) →
      Does e raft start within → start.outputs ≡ before.outputs → start.sends ≡ [] → lending.sends ≡ before.sends →
      Does (finished m nodes me raft within.sends (cond (leads_on (is_leader s.role) s.ballot.term raft) r (no_reads nodes)) term round) new (lent within lending) after →
      Does (with_reads m nodes me s e r term round) new before after
  with_end s e r term round raft start within new before lending after does outputs none sends ended =
      let packets : within.sends ≡ e.sends = does.sends ∙ ap (λ (ps : List (ℕ × RaftMsg C)). ps ++ e.sends) none in
      let here = subst (λ (t : RaftView S C O). Does (finished m nodes me t within.sends (cond (leads_on (is_leader s.role) s.ballot.term t) r (no_reads nodes)) term round) new (lent within lending) after) does.state ended in
      let all = subst (λ (ps : List (ℕ × RaftMsg C)). Does (finished m nodes me e.state ps (cond (leads_on (is_leader s.role) s.ballot.term e.state) r (no_reads nodes)) term round) new (lent within lending) after) packets here in
      let whole = finished m nodes me e.state e.sends (cond (leads_on (is_leader s.role) s.ballot.term e.state) r (no_reads nodes)) term round in
      record {
        state = all.state;
        outputs = all.outputs ∙ (ap (λ (os : List (RaftOut O)). os ++ whole.outputs) (does.outputs ∙ ap (λ (os : List (RaftOut O)). os ++ e.outputs) outputs)
            ∙ append_assoc before.outputs e.outputs whole.outputs);
        sends = all.sends ∙ ap (λ (ps : List (ℕ × ReadMsg C)). ps ++ whole.sends) sends;
      }

  -- a node of Raft after an event, and what it knows of reads
  pub event_sound : (is_read : C → Bool) (commit : ℕ) (e : RaftEffect S C O) (start within : Gathered (RaftOut O) (RaftMsg C)) (new : ReadView S C O) →
      Does e new.raft start within → IsSoundNode nodes me new.raft → AreSoundReads is_read nodes commit new.reads → commit ≤ e.state.commit → IsSoundReader is_read nodes me new
  event_sound is_read commit e start within new does k r more = record {
    raft = k;
    reads = let same = ap (λ (x : RaftView S C O). x.commit) does.state in sound_grown is_read nodes commit new.raft.commit new.reads (omega (arith, same, more)) r;
  }

  -- the same, by what the code holds
  pub event_done : {A E : Type 0} (result : Result A E) (led : Bool) (was : ℕ) (s : RaftView S C O) (e : RaftEffect S C O) (kept r : Reads C) (heard_term term heard_round round : ℕ)
      (raft : RaftView S C O) (start within : Gathered (RaftOut O) (RaftMsg C)) (new : ReadView S C O) (before lending after : Gathered (RaftOut O) (ReadMsg C)) →
      led ≡ is_leader s.role → was ≡ s.ballot.term → kept ≡ r → heard_term ≡ term → heard_round ≡ round →
      Does e raft start within → start.outputs ≡ before.outputs → start.sends ≡ [] → lending.sends ≡ before.sends →
      OnOk result (Does (finished m nodes me raft within.sends (cond (leads_on led was raft) kept (no_reads nodes)) heard_term heard_round) new (lent within lending) after) →
      OnOk result (Does (with_reads m nodes me s e r term round) new before after)
  event_done result led was s e kept r heard_term term heard_round round raft start within new before lending after a b k t q does outputs none sends ended =
      on_ok result (λ (d : Does (finished m nodes me raft within.sends (cond (leads_on (is_leader s.role) s.ballot.term raft) r (no_reads nodes)) term round) new (lent within lending) after).
      with_end s e r term round raft start within new before lending after does outputs none sends d) (rw (a, b, k, t, q) at ended)

-- a read that begins a round, by what the code holds
pub begun : {C : Type 0} (r q : Reads C) (i j : RaftInput C) (a b : ℕ) → r ≡ q → i ≡ j → a ≡ b → with_read r i a ≡ with_read q j b
begun {C} r q i j a b e f k =
    ap (λ (x : Reads C). with_read x i a) e ∙ (ap (λ (x : RaftInput C). with_read q x a) f ∙ ap (λ (x : ℕ). with_read q j x) k)
