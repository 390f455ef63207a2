-- A run with reads is a run of Raft, step by step.
use Rattle.std.proofs.Common.{◌≡◌, ℕ, zero, suc, Bool, true, false, List, [], ◌∷◌, ◌++◌, map, Option, Some, None, cond, eqb, slice_get, refl, sym, ap, ◌∙◌}
use Rattle.std.proofs.lemmas.List.{map-append}
use Rattle.handler_trait.specs.Handling.{Effect}
use Rattle.net_semantics.specs.Runs.{first_refused_from, run_from}
use Rattle.net_semantics.specs.Steps.{after_event, delivery, next, rebooted, refusal_of, with_packets}
use Rattle.net_semantics.specs.Worlds.{Packet, change_at, copies, copies_of, ends, ends_of, one_less, one_more, put, sent_by}
use Rattle.vst_base.specs.declared.net.Net.TheVariants as net
use Rattle.vst_base.specs.declared.step.Step.{Step}
use Rattle.vst_base.specs.declared.step.Step.TheVariants as step
use Rattle.raft_types.specs.Messages.{KeptView}
use Rattle.raft_types.specs.Terms.{term_of}
use Rattle.raft_types.specs.declared.client.RaftInput.{RaftInput}
use Rattle.raft_types.specs.declared.client.RaftOut.{RaftOut}
use Rattle.raft_types.specs.declared.msg.RaftMsg.{RaftMsg}
use Rattle.raft_xform.specs.Nodes.{RaftEffect, RaftView}
use Rattle.raft_xform.specs.Raft as raft_rules
use Rattle.raft_xform.specs.Raft.{raft, raft_recovery}
use Rattle.raft_xform.specs.Electing.{tick}
use Rattle.raft_xform.specs.Replicating.{on_input}
use Rattle.std.specs.Prelude.{option_map}
use Rattle.net_semantics.specs.Runs.{place_and_why}
use Rattle.raft_reads.specs.ReadRaft.{acknowledged, read_raft, read_recovery, reads_after, with_round, waits, with_reads}
use Rattle.raft_types.specs.Rounds.{ReadMsg}
use Rattle.raft_reads.specs.Reads.{ReadView, Reads, with_read}
use Rattle.raft_reads.specs.Clusters.{ReadCluster, ReadWorld, next_world, refused_from, world_from}
use Rattle.raft_reads.specs.Erasing.{RunsErase, StepsErase, erased_from, erased_packet, erased_step, erased_world}

pub get_map : {A B : Type 0} (f : A → B) (xs : List A) (k : ℕ) → slice_get (map f xs) k ≡ option_map f (slice_get xs k)
get_map f [] k = refl
get_map f (x ∷ xs) zero = refl
get_map f (x ∷ xs) (suc k) = get_map f xs k

-- what a node is, as a function of nodes, with one of them changed
pub put_raft : {S C O : Type 0} (f : ℕ → ReadView S C O) (n : ℕ) (x : ReadView S C O) → (λ k. (put f n x k).raft) ≡ put (λ k. (f k).raft) n x.raft
put_raft f n x = λ i k. each k (eqb k n) i
  where
    each : (k : ℕ) (b : Bool) → (cond b x (f k)).raft ≡ cond b x.raft (f k).raft
    each k true = refl
    each k false = refl

sent_erased : {C : Type 0} (n own term round : ℕ) (sends : List (ℕ × RaftMsg C)) → map erased_packet (sent_by n (map (with_round own term round) sends)) ≡ sent_by n sends
sent_erased n own term round [] = refl
sent_erased n own term round (p ∷ ps) = ap (λ qs. record { source = n; destination = p.0; content = p.1; copies = 1 } ∷ qs) (sent_erased n own term round ps)

change_erased : {C : Type 0} (f : Packet (ReadMsg C) → Packet (ReadMsg C)) (g : Packet (RaftMsg C) → Packet (RaftMsg C)) → ((p : Packet (ReadMsg C)) → erased_packet (f p) ≡ g (erased_packet p)) →
    (k : ℕ) (ps : List (Packet (ReadMsg C))) → map erased_packet (change_at f k ps) ≡ change_at g k (map erased_packet ps)
change_erased f g e k [] = refl
change_erased f g e zero (p ∷ ps) = ap (λ q. q ∷ map erased_packet ps) (e p)
change_erased f g e (suc k) (p ∷ ps) = ap (λ qs. erased_packet p ∷ qs) (change_erased f g e k ps)

module _ {S C O : Type 0} (c : ReadCluster S C O) where
  -- what comes of an event, and of that of Raft
  pub after_erased : (w : ReadWorld S C O) (ps : List (Packet (ReadMsg C))) (n : ℕ) (q p : Option (RaftInput C)) (before : RaftView S C O) (e : RaftEffect S C O) (r : Reads C) (term round : ℕ) →
      erased_world (after_event (with_packets w ps) (Some (record { node = n; input = q; effect = with_reads c.machine c.nodes n before e r term round })))
      ≡ after_event (with_packets (erased_world w) (map erased_packet ps)) (Some (record { node = n; input = p; effect = e }))
  after_erased w ps n q p before e r term round = λ i. record {
    state = put_raft w.state n (with_reads c.machine c.nodes n before e r term round).state i;
    is_up = w.is_up;
    kept = w.kept;
    packets = (map-append erased_packet ps (sent_by n (with_reads c.machine c.nodes n before e r term round).sends)
        ∙ ap (λ qs. map erased_packet ps ++ qs) (sent_erased n (reads_after c.nodes before e.state r).round term round e.sends)) i;
  }

  packets_erased : (w : ReadWorld S C O) (ps : List (Packet (ReadMsg C))) (qs : List (Packet (RaftMsg C))) → map erased_packet ps ≡ qs →
      erased_world (with_packets w ps) ≡ with_packets (erased_world w) qs
  packets_erased w ps qs e = ap (λ qs. with_packets (erased_world w) qs) e

  deliver_erased : (w : ReadWorld S C O) (ps : List (Packet (ReadMsg C))) (o : Option (Packet (ReadMsg C))) →
      erased_world (after_event (with_packets w ps) (delivery (read_raft c.nodes c.machine c.is_read) w o))
      ≡ after_event (with_packets (erased_world w) (map erased_packet ps)) (delivery (raft c.nodes c.machine) (erased_world w) (option_map erased_packet o))
  deliver_erased w ps None = refl
  deliver_erased w ps (Some p) =
      let s = w.state p.destination in
      after_erased w ps p.destination None None s.raft (raft_rules.on_message c.machine c.nodes p.destination s.raft p.source p.content.raft) (acknowledged s p.source p.content) (term_of p.content.raft) p.content.round

  reboot_erased : (w : ReadWorld S C O) (n : ℕ) (o : Option (KeptView C)) → erased_world (rebooted (read_recovery c.nodes c.machine) w n o) ≡ rebooted (raft_recovery c.machine) (erased_world w) n o
  reboot_erased w n None = refl
  reboot_erased w n (Some k) = λ i. record {
    state = put_raft w.state n ((read_recovery c.nodes c.machine).reboot n k) i;
    is_up = put w.is_up n true;
    kept = put w.kept n None;
    packets = map erased_packet w.packets;
  }

  abbrev input_effect : ReadWorld S C O → ℕ → RaftInput C → Bool → Effect (ReadView S C O) (RaftOut O) (ReadMsg C)
  input_effect w n q b = cond b (with_reads c.machine c.nodes n (w.state n).raft (tick c.machine c.nodes n (w.state n).raft) (with_read (w.state n).reads q (w.state n).raft.commit) 0 0)
      (with_reads c.machine c.nodes n (w.state n).raft (on_input c.machine c.nodes n (w.state n).raft q) (w.state n).reads 0 0)

  input_erased : (w : ReadWorld S C O) (n : ℕ) (q : RaftInput C) (b : Bool) →
      erased_world (after_event w (Some (record { node = n; input = Some q; effect = input_effect w n q b })))
      ≡ next (raft c.nodes c.machine) (raft_recovery c.machine) (erased_world w) (cond b (step.Tick n) (step.In n q))
  input_erased w n q true =
      let s = w.state n in
      after_erased w w.packets n (Some q) None s.raft (tick c.machine c.nodes n s.raft) (with_read s.reads q s.raft.commit) 0 0
  input_erased w n q false =
      let s = w.state n in
      after_erased w w.packets n (Some q) (Some q) s.raft (on_input c.machine c.nodes n s.raft q) s.reads 0 0

  -- each step
  pub next_erased : (w : ReadWorld S C O) (s : Step (RaftInput C)) → erased_world (next_world c w s) ≡ next (raft c.nodes c.machine) (raft_recovery c.machine) (erased_world w) (erased_step c w s)
  next_erased w (step.In n q) = input_erased w n q (waits c.is_read (w.state n) q)
  next_erased w (step.Tick n) =
      let s = w.state n in
      after_erased w w.packets n None None s.raft (tick c.machine c.nodes n s.raft) s.reads 0 0
  next_erased w (step.Deliver k) =
      deliver_erased w (change_at one_less k w.packets) (slice_get w.packets k)
      ∙ (ap (λ ps. after_event (with_packets (erased_world w) ps) (delivery (raft c.nodes c.machine) (erased_world w) (option_map erased_packet (slice_get w.packets k)))) (change_erased one_less one_less (λ p. refl) k w.packets)
      ∙ ap (λ o. after_event (with_packets (erased_world w) (change_at one_less k (map erased_packet w.packets))) (delivery (raft c.nodes c.machine) (erased_world w) o)) (sym (get_map erased_packet w.packets k)))
  next_erased w (step.Dup k) = packets_erased w _ _ (change_erased one_more one_more (λ p. refl) k w.packets)
  next_erased w (step.Lose k) = packets_erased w _ _ (change_erased one_less one_less (λ p. refl) k w.packets)
  next_erased w (step.Crash n) = refl
  next_erased w (step.Reboot n) = reboot_erased w n (w.kept n)

  ends_erased : (o : Option (Packet (ReadMsg C))) → ends_of (option_map erased_packet o) ≡ ends_of o
  ends_erased None = refl
  ends_erased (Some p) = refl

  copies_erased : (o : Option (Packet (ReadMsg C))) → copies_of (option_map erased_packet o) ≡ copies_of o
  copies_erased None = refl
  copies_erased (Some p) = refl

  -- the packet of a step has the same ends and copies
  has_ends : (w : ReadWorld S C O) (k : ℕ) → ends (erased_world w) k ≡ ends w k
  has_ends w k = ap ends_of (get_map erased_packet w.packets k) ∙ ends_erased (slice_get w.packets k)

  has_copies : (w : ReadWorld S C O) (k : ℕ) → copies (erased_world w) k ≡ copies w k
  has_copies w k = ap copies_of (get_map erased_packet w.packets k) ∙ copies_erased (slice_get w.packets k)

  input_refusal : (w : ReadWorld S C O) (n : ℕ) (q : RaftInput C) (b : Bool) →
      refusal_of net.Fail (raft c.nodes c.machine) (erased_world w) (cond b (step.Tick n) (step.In n q)) ≡ refusal_of net.Fail (read_raft c.nodes c.machine c.is_read) w (step.In n q)
  input_refusal w n q true = refl
  input_refusal w n q false = refl

  pub refusal_erased : (w : ReadWorld S C O) (s : Step (RaftInput C)) →
      refusal_of net.Fail (raft c.nodes c.machine) (erased_world w) (erased_step c w s) ≡ refusal_of net.Fail (read_raft c.nodes c.machine c.is_read) w s
  refusal_erased w (step.In n q) = input_refusal w n q (waits c.is_read (w.state n) q)
  refusal_erased w (step.Tick n) = refl
  refusal_erased w (step.Deliver k) = rw (has_ends w k, has_copies w k) refl
  refusal_erased w (step.Dup k) = rw (has_copies w k) refl
  refusal_erased w (step.Lose k) = rw (has_copies w k) refl
  refusal_erased w (step.Crash n) = refl
  refusal_erased w (step.Reboot n) = refl

  -- a run from a world on
  pub from_erased : (w : ReadWorld S C O) (ss : List (Step (RaftInput C))) →
      erased_world (world_from c w ss) ≡ run_from (raft c.nodes c.machine) (raft_recovery c.machine) (erased_world w) (erased_from c w ss)
  from_erased w [] = refl
  from_erased w (s ∷ ss) = from_erased (next_world c w s) ss ∙ ap (λ v. run_from (raft c.nodes c.machine) (raft_recovery c.machine) v (erased_from c (next_world c w s) ss)) (next_erased w s)

  -- and the first step of it that is refused
  pub refused_erased : (w : ReadWorld S C O) (ss : List (Step (RaftInput C))) →
      refused_from c w ss ≡ first_refused_from net.Fail (raft c.nodes c.machine) (raft_recovery c.machine) (erased_world w) (erased_from c w ss)
  refused_erased w [] = refl
  refused_erased w (s ∷ ss) =
      let later : refused_from c (next_world c w s) ss
      ≡ first_refused_from net.Fail (raft c.nodes c.machine) (raft_recovery c.machine) (next (raft c.nodes c.machine) (raft_recovery c.machine) (erased_world w) (erased_step c w s)) (erased_from c (next_world c w s) ss)
      = refused_erased (next_world c w s) ss ∙ ap (λ v. first_refused_from net.Fail (raft c.nodes c.machine) (raft_recovery c.machine) v (erased_from c (next_world c w s) ss)) (next_erased w s) in
      λ i. place_and_why (sym (refusal_erased w s) i) (later i)

  -- a schedule goes on
  pub erased_append : (w : ReadWorld S C O) (early late : List (Step (RaftInput C))) → erased_from c w (early ++ late) ≡ erased_from c w early ++ erased_from c (world_from c w early) late
  erased_append w [] late = refl
  erased_append w (s ∷ early) late = ap (λ ss. erased_step c w s ∷ ss) (erased_append (next_world c w s) early late)

pub steps_erase : (S C O : Type 0) → StepsErase S C O
steps_erase S C O c w s = (refusal_erased c w s, next_erased c w s)

pub runs_erase : (S C O : Type 0) → RunsErase S C O
runs_erase S C O c w ss = (from_erased c w ss, refused_erased c w ss)
