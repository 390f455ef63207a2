-- Without reads nothing waits, and clients see what they see of Raft.
use Rattle.std.proofs.Common.{◌≡◌, ℕ, Bool, true, false, not, ◌&&◌, List, [], ◌∷◌, ◌++◌, map, Option, Some, None, cond, eqb, slice_get, refl, sym, ap, ◌∙◌, append-nil}
use Rattle.std.specs.Prelude.{option_map}
use Rattle.std.specs.List.{filter}
use Rattle.lists.specs.Each.{Each}
use Rattle.net_semantics.specs.Runs.{trace_from}
use Rattle.net_semantics.specs.Steps.{after_event, delivery, items_of, items_of_event, next, rebooted, with_packets}
use Rattle.net_semantics.specs.Worlds.{Packet, change_at, one_less, put}
use Rattle.vst_base.specs.declared.step.Item.TheVariants as item
use Rattle.vst_base.specs.declared.step.Step.{Step}
use Rattle.vst_base.specs.declared.step.Step.TheVariants as step
use Rattle.raft_types.specs.Messages.{KeptView}
use Rattle.raft_types.specs.Terms.{term_of}
use Rattle.raft_types.specs.declared.client.RaftInput.{RaftInput}
use Rattle.raft_xform.specs.Electing.{tick}
use Rattle.raft_xform.specs.Nodes.{RaftEffect, RaftView, is_leader}
use Rattle.raft_xform.specs.Raft as raft_rules
use Rattle.raft_xform.specs.Raft.{raft, raft_recovery}
use Rattle.raft_xform.specs.Replicating.{on_input}
use Rattle.raft_reads.specs.Clusters.{ReadCluster, ReadWorld, first, handlers, next_world, recovery}
use Rattle.raft_reads.specs.Erasing.{NoRead, WithoutReads, erased_from, erased_packet, erased_step, erased_world}
use Rattle.raft_reads.specs.ReadRaft.{acknowledged, read_reply, reads_after, waits, with_reads}
use Rattle.raft_types.specs.Rounds.{ReadMsg}
use Rattle.raft_reads.specs.Reads.{ReadView, Reads, has_committed_own, is_appended, is_ready, no_reads, still_leads, with_ack}
use Rattle.raft_reads.proofs.Erasing.{get_map, next_erased}

-- one value put, and each other as it was
puts : {A : Type 0} (P : A → Type 0) (f : ℕ → A) (n : ℕ) (x : A) → P x → ((k : ℕ) → P (f k)) → (k : ℕ) → P (put f n x k)
puts P f n x here there k = go (eqb k n)
  where
    go : (b : Bool) → P (cond b x (f k))
    go true = here
    go false = there k

module _ {S C O : Type 0} (c : ReadCluster S C O) where
  abbrev Waits : ReadView S C O → Type 0
  Waits s = s.reads.waiting ≡ []

  -- no read waits anywhere
  abbrev NoneWaits : ReadWorld S C O → Type 0
  NoneWaits w = (k : ℕ) → (w.state k).reads.waiting ≡ []

  none_after : (before after : RaftView S C O) (r : Reads C) → r.waiting ≡ [] → (reads_after c.nodes before after r).waiting ≡ []
  none_after before after r none = go (still_leads before after)
    where
      go : (b : Bool) → (cond b r (no_reads c.nodes)).waiting ≡ []
      go true = none
      go false = refl

  -- an event where none waits
  none_waits : (me : ℕ) (before : RaftView S C O) (e : RaftEffect S C O) (r : Reads C) (term round : ℕ) → r.waiting ≡ [] → (with_reads c.machine c.nodes me before e r term round).state.reads.waiting ≡ []
  none_waits me before e r term round none =
      ap (filter (λ x. not (is_ready c.nodes me e.state (reads_after c.nodes before e.state r) x))) (none_after before e.state r none)

  outputs_are : (me : ℕ) (before : RaftView S C O) (e : RaftEffect S C O) (r : Reads C) (term round : ℕ) → r.waiting ≡ [] → (with_reads c.machine c.nodes me before e r term round).outputs ≡ e.outputs
  outputs_are me before e r term round none =
      ap (λ xs. e.outputs ++ map (read_reply c.machine e.state.machine) (filter (is_ready c.nodes me e.state (reads_after c.nodes before e.state r)) xs)) (none_after before e.state r none)
      ∙ append-nil e.outputs

  acknowledged_waits : (s : ReadView S C O) (from : ℕ) (x : ReadMsg C) → s.reads.waiting ≡ [] → (acknowledged s from x).waiting ≡ []
  acknowledged_waits s from x none = go (is_appended x.raft && (is_leader s.raft.role && eqb (term_of x.raft) s.raft.ballot.term))
    where
      go : (b : Bool) → (cond b (with_ack s.reads from x.round) s.reads).waiting ≡ []
      go true = none
      go false = none

  -- what a step without a read comes to, where none waits
  record Quiet (w : ReadWorld S C O) (s : Step (RaftInput C)) : Type 0 where
    itself : erased_step c w s ≡ s
    items : items_of (handlers c) w s ≡ items_of (raft c.nodes c.machine) (erased_world w) s
    none : NoneWaits (next_world c w s)

  quiet_input : (w : ReadWorld S C O) (n : ℕ) (q : RaftInput C) (b : Bool) → waits c.is_read (w.state n) q ≡ b → b ≡ false → NoneWaits w → Quiet w (step.In n q)
  quiet_input w n q true e is none = absurd (cc is)
  quiet_input w n q false e is none = record {
    itself = rw e refl;
    items = rw e (ap (λ os. item.Input n q ∷ map (λ o. item.Output n o) os) (outputs_are n s.raft (on_input c.machine c.nodes n s.raft q) s.reads 0 0 (none n)));
    none = rw e (puts Waits w.state n _ (none_waits n s.raft (on_input c.machine c.nodes n s.raft q) s.reads 0 0 (none n)) none);
  }
    where
      s : ReadView S C O
      s = w.state n

  no_wait : (s : ReadView S C O) (q : RaftInput C) → c.is_read q.cmd ≡ false → waits c.is_read s q ≡ false
  no_wait s q e = ap (λ b. b && (is_leader s.raft.role && has_committed_own s.raft)) e

  quiet_tick : (w : ReadWorld S C O) (n : ℕ) → NoneWaits w → Quiet w (step.Tick n)
  quiet_tick w n none = record {
    itself = refl;
    items = ap (λ os. map (λ o. item.Output n o) os) (outputs_are n s.raft (tick c.machine c.nodes n s.raft) s.reads 0 0 (none n));
    none = puts Waits w.state n _ (none_waits n s.raft (tick c.machine c.nodes n s.raft) s.reads 0 0 (none n)) none;
  }
    where
      s : ReadView S C O
      s = w.state n

  quiet_deliver : (w : ReadWorld S C O) (k : ℕ) → NoneWaits w → Quiet w (step.Deliver k)
  quiet_deliver w k none = record {
    itself = refl;
    items = delivered (slice_get w.packets k) ∙ ap (λ o. items_of_event (delivery (raft c.nodes c.machine) (erased_world w) o)) (sym (get_map erased_packet w.packets k));
    none = waiting (slice_get w.packets k);
  }
    where
      delivered : (o : Option (Packet (ReadMsg C))) → items_of_event (delivery (handlers c) w o) ≡ items_of_event (delivery (raft c.nodes c.machine) (erased_world w) (option_map erased_packet o))
      delivered None = refl
      delivered (Some p) =
          let s = w.state p.destination in
          ap (λ os. map (λ o. item.Output p.destination o) os)
          (outputs_are p.destination s.raft (raft_rules.on_message c.machine c.nodes p.destination s.raft p.source p.content.raft) (acknowledged s p.source p.content) (term_of p.content.raft) p.content.round
          (acknowledged_waits s p.source p.content (none p.destination)))

      waiting : (o : Option (Packet (ReadMsg C))) → NoneWaits (after_event (with_packets w (change_at one_less k w.packets)) (delivery (handlers c) w o))
      waiting None = none
      waiting (Some p) =
          let s = w.state p.destination in
          puts Waits w.state p.destination _
          (none_waits p.destination s.raft (raft_rules.on_message c.machine c.nodes p.destination s.raft p.source p.content.raft) (acknowledged s p.source p.content) (term_of p.content.raft) p.content.round
          (acknowledged_waits s p.source p.content (none p.destination))) none

  quiet_reboot : (w : ReadWorld S C O) (n : ℕ) → NoneWaits w → Quiet w (step.Reboot n)
  quiet_reboot w n none = record { itself = refl; items = refl; none = started (w.kept n) }
    where
      started : (o : Option (KeptView C)) → NoneWaits (rebooted (recovery c) w n o)
      started None = none
      started (Some k) = puts Waits w.state n ((recovery c).reboot n k) refl none

  quiet : (w : ReadWorld S C O) (s : Step (RaftInput C)) → NoRead c s → NoneWaits w → Quiet w s
  quiet w (step.In n q) without none = quiet_input w n q (waits c.is_read (w.state n) q) refl (no_wait (w.state n) q without) none
  quiet w (step.Tick n) without none = quiet_tick w n none
  quiet w (step.Deliver k) without none = quiet_deliver w k none
  quiet w (step.Dup k) without none = record { itself = refl; items = refl; none = none }
  quiet w (step.Lose k) without none = record { itself = refl; items = refl; none = none }
  quiet w (step.Crash n) without none = record { itself = refl; items = refl; none = none }
  quiet w (step.Reboot n) without none = quiet_reboot w n none

  next_is : (w : ReadWorld S C O) (s : Step (RaftInput C)) → erased_step c w s ≡ s → erased_world (next_world c w s) ≡ next (raft c.nodes c.machine) (raft_recovery c.machine) (erased_world w) s
  next_is w s e = next_erased c w s ∙ ap (next (raft c.nodes c.machine) (raft_recovery c.machine) (erased_world w)) e

  quiet_run : (w : ReadWorld S C O) (ss : List (Step (RaftInput C))) → Each (NoRead c) ss → NoneWaits w →
      (erased_from c w ss ≡ ss) × (trace_from (handlers c) (recovery c) w ss ≡ trace_from (raft c.nodes c.machine) (raft_recovery c.machine) (erased_world w) ss)
  quiet_run w [] without none = (refl, refl)
  quiet_run w (s ∷ ss) without none =
      let q = quiet w s without.0 none in
      let later = quiet_run (next_world c w s) ss without.1 q.none in
      let rest : trace_from (handlers c) (recovery c) (next_world c w s) ss ≡ trace_from (raft c.nodes c.machine) (raft_recovery c.machine) (next (raft c.nodes c.machine) (raft_recovery c.machine) (erased_world w) s) ss
      = later.1 ∙ ap (λ v. trace_from (raft c.nodes c.machine) (raft_recovery c.machine) v ss) (next_is w s q.itself) in
      ((λ i. q.itself i ∷ later.0 i), (λ i. q.items i ++ rest i))

pub without_reads : (S C O : Type 0) → WithoutReads S C O
without_reads S C O c ss without = quiet_run c (first c) ss without (λ k. refl)
