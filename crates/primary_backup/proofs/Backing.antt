-- On a bag the backup is level with the primary or one command ahead: the invariant, a lemma for each kind of step, and the
-- induction over schedules.
use Rattle.std.proofs.Common.{◌≡◌, ◌⊎◌, ℕ, zero, suc, ◌<◌, List, [], ◌∷◌, ◌++◌, Option, Some, None, drop, refl, ap, sym, subst, ◌∙◌, arith, append-nil, inl, inr}
use Rattle.std.specs.Prelude.{slice_get}
use Rattle.vst_base.specs.Machines.{MachineMeaning}
use Rattle.vst_base.specs.declared.pb_msg.PbMsg.{PbMsg}
use Rattle.vst_base.specs.declared.pb_msg.PbMsg.TheVariants as msg
use Rattle.vst_base.specs.declared.pb_out.PbOut.{PbOut}
use Rattle.vst_base.specs.declared.net.Net.TheVariants as net
use Rattle.vst_base.specs.declared.step.Step.{Step}
use Rattle.vst_base.specs.declared.step.Step.TheVariants as step
use Rattle.vst_base.specs.declared.step.Item.{Item}
use Rattle.handler_trait.specs.Handling.{Recovery}
use Rattle.net_semantics.specs.Worlds.{World, Packet, first_world, change_at, one_less, sent_by, copies, copies_of}
use Rattle.net_semantics.specs.Steps.{Event, next, refusal_of, items_of, items_of_event, delivery, after_event, with_packets}
use Rattle.net_semantics.specs.Runs.{IsAllowed, run, run_from, trace, trace_from, first_refused_from}
use Rattle.net_semantics.specs.RunLaws.{place_and_why-none}
use Rattle.net_semantics.specs.BelowPb.{IsExplainedBy}
use Rattle.primary_backup.specs.Backup.{Backed, BackupEffect, stays, apply_of, asked, acked, applied, redirected, backup_message, primary_backup}
use Rattle.primary_backup.specs.Followed.{AreFollowing}
use Rattle.primary_backup.proofs.Flying.{in_flight, in_flight-send, IsTaken, taken, none_taken, one_taken}
use Rattle.primary_backup.proofs.Seen.{MaySee, see_input, see_reply, see_redirect, see_nothing, explained, following}

module _ {S K C O : Type 0} (m : MachineMeaning S C O) (r : Recovery (Backed S C) K) where
  abbrev Nodes : Type 0
  Nodes = World (Backed S C) K (PbMsg C)

  abbrev BackupEvent : Type 0
  BackupEvent = Event (Backed S C) C (PbOut O) (PbMsg C)

  -- where the primary's machine is in state s, and the backup's in state b: nothing is pending and nothing is in flight; or the
  -- first of the pending requests is on its way to the backup, or was applied there and its acknowledgement is on the way back
  abbrev IsPhase : S → S → List C → List (ℕ × PbMsg C) → Type 0
  IsPhase s b [] flying = (b ≡ s) × (flying ≡ [])
  IsPhase s b (c ∷ cs) flying = ((b ≡ s) × (flying ≡ (1, msg.Apply c) ∷ [])) ⊎ ((b ≡ (m.apply s c).0) × (flying ≡ (0, msg.Ack) ∷ []))

  -- the primary with its machine in this state, and with these requests pending
  abbrev primary_with : S → List C → Backed S C
  primary_with s pending = record { machine = s; out = slice_get pending 0; waiting = drop 1 pending }

  pub record Backs (s : S) (pending : List C) (state : ℕ → Backed S C) (packets : List (Packet (PbMsg C))) : Type 0 where
    pub primary : state 0 ≡ primary_with s pending
    pub phase : IsPhase s (state 1).machine pending (in_flight packets)

  -- from there to the world v, with these items on the way: what may be seen from v on may follow them
  pub record LeadsTo (s : S) (pending : List C) (v : Nodes) (items : List (Item C (PbOut O))) : Type 0 where
    pub then_state : S
    pub then_pending : List C
    pub backs : Backs then_state then_pending v.state v.packets
    pub sees : (later : List (Item C (PbOut O))) (p b : S) → MaySee m then_state then_pending later p b → MaySee m s pending (items ++ later) p b

  -- the same of an event, with these packets in flight before it
  abbrev IsSafe : S → List C → Nodes → List (Packet (PbMsg C)) → BackupEvent → Type 0
  IsSafe s pending w packets event = LeadsTo s pending (after_event (with_packets w packets) (Some event)) (items_of_event (Some event))

  abbrev event_at : ℕ → Option C → BackupEffect S C O → BackupEvent
  event_at n i e = record { node = n; input = i; effect = e }

  -- nothing more is in flight
  nothing_sent : (packets : List (Packet (PbMsg C))) (n : ℕ) → in_flight (packets ++ sent_by n []) ≡ in_flight packets
  nothing_sent packets n = in_flight-send packets n [] (in_flight packets) refl ∙ append-nil (in_flight packets)

  same_phase : (s b : S) (pending : List C) (packets : List (Packet (PbMsg C))) (n : ℕ) → IsPhase s b pending (in_flight packets) → IsPhase s b pending (in_flight (packets ++ sent_by n []))
  same_phase s b pending packets n h = subst (λ (fs : List (ℕ × PbMsg C)). IsPhase s b pending fs) (sym (nothing_sent packets n)) h

  -- the primary is asked
  asked_with : (w : Nodes) (s : S) (pending : List C) (c : C) → Backs s pending w.state w.packets
      → IsSafe s pending w w.packets (event_at 0 (Some c) (asked (primary_with s pending) c (primary_with s pending).out))
  asked_with w s [] c h = record {
    then_state = s;
    then_pending = c ∷ [];
    backs = record { primary = refl; phase = inl (h.phase.0, in_flight-send w.packets 0 (apply_of (Some c)) [] h.phase.1) };
    sees = λ later p b q. see_input m s [] c later p b q;
  }
  asked_with w s (d ∷ ds) c h = record {
    then_state = s;
    then_pending = d ∷ ds ++ c ∷ [];
    backs = record { primary = refl; phase = same_phase s (w.state 1).machine (d ∷ ds) w.packets 0 h.phase };
    sees = λ later p b q. see_input m s (d ∷ ds) c later p b q;
  }

  asked_safe : (w : Nodes) (s : S) (pending : List C) (c : C) → Backs s pending w.state w.packets
      → IsSafe s pending w w.packets (event_at 0 (Some c) (asked (w.state 0) c (w.state 0).out))
  asked_safe w s pending c h = subst (λ (x : Backed S C). IsSafe s pending w w.packets (event_at 0 (Some c) (asked x c x.out))) (sym h.primary) (asked_with w s pending c h)

  -- the backup is asked
  redirected_safe : (w : Nodes) (s : S) (pending : List C) (c : C) → Backs s pending w.state w.packets
      → IsSafe s pending w w.packets (event_at 1 (Some c) (redirected (w.state 1)))
  redirected_safe w s pending c h = record {
    then_state = s;
    then_pending = pending;
    backs = record { primary = h.primary; phase = same_phase s (w.state 1).machine pending w.packets 1 h.phase };
    sees = λ later p b q. see_redirect m s pending c later p b q;
  }

  -- a node's timer fires
  tick_safe : (w : Nodes) (s : S) (pending : List C) (n : ℕ) → n < 2 → Backs s pending w.state w.packets
      → IsSafe s pending w w.packets (event_at n None (stays (w.state n)))
  tick_safe w s pending zero below h = record {
    then_state = s;
    then_pending = pending;
    backs = record { primary = h.primary; phase = same_phase s (w.state 1).machine pending w.packets 0 h.phase };
    sees = λ later p b q. q;
  }
  tick_safe w s pending (suc zero) below h = record {
    then_state = s;
    then_pending = pending;
    backs = record { primary = h.primary; phase = same_phase s (w.state 1).machine pending w.packets 1 h.phase };
    sees = λ later p b q. q;
  }
  tick_safe w s pending (suc (suc n)) below h = absurd (omega arith)

  -- the backup applies the first of the pending requests
  applied_safe : (w : Nodes) (packets : List (Packet (PbMsg C))) (s : S) (c : C) (cs : List C) → Backs s (c ∷ cs) w.state w.packets → (w.state 1).machine ≡ s → in_flight packets ≡ []
      → IsSafe s (c ∷ cs) w packets (event_at 1 None (applied m (w.state 1) c))
  applied_safe w packets s c cs h level none = record {
    then_state = s;
    then_pending = c ∷ cs;
    backs = record { primary = h.primary; phase = inr (ap (λ b. (m.apply b c).0) level, in_flight-send packets 1 ((0, msg.Ack) ∷ []) [] none) };
    sees = λ later p b q. q;
  }

  -- the primary has it acknowledged
  phase_acked : (s : S) (cs : List C) (packets : List (Packet (PbMsg C))) → in_flight packets ≡ [] → IsPhase s s cs (in_flight (packets ++ sent_by 0 (apply_of (slice_get cs 0))))
  phase_acked s [] packets none = (refl, in_flight-send packets 0 [] [] none)
  phase_acked s (d ∷ ds) packets none = inl (refl, in_flight-send packets 0 ((1, msg.Apply d) ∷ []) [] none)

  acked_with : (w : Nodes) (packets : List (Packet (PbMsg C))) (s : S) (c : C) (cs : List C) → (w.state 1).machine ≡ (m.apply s c).0 → in_flight packets ≡ []
      → IsSafe s (c ∷ cs) w packets (event_at 0 None (acked m (primary_with s (c ∷ cs)) (Some c)))
  acked_with w packets s c cs level none = record {
    then_state = (m.apply s c).0;
    then_pending = cs;
    backs = record {
      primary = refl;
      phase = subst (λ (b : S). IsPhase (m.apply s c).0 b cs (in_flight (packets ++ sent_by 0 (apply_of (slice_get cs 0))))) (sym level) (phase_acked (m.apply s c).0 cs packets none);
    };
    sees = λ later p b q. see_reply m s c cs later p b q;
  }

  acked_safe : (w : Nodes) (packets : List (Packet (PbMsg C))) (s : S) (c : C) (cs : List C) → Backs s (c ∷ cs) w.state w.packets → (w.state 1).machine ≡ (m.apply s c).0 → in_flight packets ≡ []
      → IsSafe s (c ∷ cs) w packets (event_at 0 None (acked m (w.state 0) (w.state 0).out))
  acked_safe w packets s c cs h level none =
      subst (λ (x : Backed S C). IsSafe s (c ∷ cs) w packets (event_at 0 None (acked m x x.out))) (sym h.primary) (acked_with w packets s c cs level none)

  -- a delivery, which takes one copy away
  abbrev TakesMessage : S → List C → Nodes → List (Packet (PbMsg C)) → ℕ × PbMsg C → Type 0
  TakesMessage s pending w packets x = IsSafe s pending w packets (event_at x.0 None (backup_message m x.0 (w.state x.0) x.1))

  message_safe : (w : Nodes) (packets : List (Packet (PbMsg C))) (s : S) (pending : List C) (x : ℕ × PbMsg C) → Backs s pending w.state w.packets → IsTaken (in_flight w.packets) (in_flight packets) x
      → TakesMessage s pending w packets x
  message_safe w packets s [] x h t = absurd (none_taken t.before t.behind x (sym t.among ∙ h.phase.1))
  message_safe w packets s (c ∷ cs) x h t = elim h.phase [
    | inl q ↦
        let one = one_taken t.before t.behind x (1, msg.Apply c) (sym t.among ∙ q.1) in
        subst (λ (y : ℕ × PbMsg C). TakesMessage s (c ∷ cs) w packets y) (sym one.0) (applied_safe w packets s c cs h q.0 (t.left ∙ one.1))
    | inr q ↦
        let one = one_taken t.before t.behind x (0, msg.Ack) (sym t.among ∙ q.1) in
        subst (λ (y : ℕ × PbMsg C). TakesMessage s (c ∷ cs) w packets y) (sym one.0) (acked_safe w packets s c cs h q.0 (t.left ∙ one.1))
  ]

  -- the same at the packet of a world
  delivery_safe : (w : Nodes) (s : S) (pending : List C) (k : ℕ) (o : Option (Packet (PbMsg C))) → Backs s pending w.state w.packets → slice_get w.packets k ≡ o → 0 < copies_of o
      → LeadsTo s pending (after_event (with_packets w (change_at one_less k w.packets)) (delivery (primary_backup m) w o)) (items_of_event (delivery (primary_backup m) w o))
  delivery_safe w s pending k None h e copy = absurd (omega arith)
  delivery_safe w s pending k (Some p) h e copy = message_safe w (change_at one_less k w.packets) s pending (p.destination, p.content) h (taken k w.packets p e copy)

  -- a bag delivers only what is in flight, and gives events to the two nodes alone
  copy_there : (w : Nodes) (k : ℕ) → refusal_of net.Bag (primary_backup m) w (step.Deliver k) ≡ None → 0 < copies w k
  copy_there w k e = grind arith

  input_below : (w : Nodes) (n : ℕ) (c : C) → refusal_of net.Bag (primary_backup m) w (step.In n c) ≡ None → n < 2
  input_below w n c e = grind arith

  tick_below : (w : Nodes) (n : ℕ) → refusal_of net.Bag (primary_backup m) w (step.Tick n) ≡ None → n < 2
  tick_below w n e = grind arith

  input_safe : (w : Nodes) (s : S) (pending : List C) (n : ℕ) (c : C) → n < 2 → Backs s pending w.state w.packets → IsSafe s pending w w.packets (event_at n (Some c) ((primary_backup m).input n (w.state n) c))
  input_safe w s pending zero c below h = asked_safe w s pending c h
  input_safe w s pending (suc zero) c below h = redirected_safe w s pending c h
  input_safe w s pending (suc (suc n)) c below h = absurd (omega arith)

  -- a step that a bag does not refuse
  step_safe : (w : Nodes) (s : S) (pending : List C) (t : Step C) → Backs s pending w.state w.packets → refusal_of net.Bag (primary_backup m) w t ≡ None
      → LeadsTo s pending (next (primary_backup m) r w t) (items_of (primary_backup m) w t)
  step_safe w s pending (step.In n c) h e = input_safe w s pending n c (input_below w n c e) h
  step_safe w s pending (step.Tick n) h e = tick_safe w s pending n (tick_below w n e) h
  step_safe w s pending (step.Deliver k) h e = delivery_safe w s pending k (slice_get w.packets k) h refl (copy_there w k e)
  step_safe w s pending (step.Dup k) h e = cc
  step_safe w s pending (step.Lose k) h e = cc
  step_safe w s pending (step.Crash n) h e = cc
  step_safe w s pending (step.Reboot n) h e = cc

  -- the machines of the two nodes
  abbrev primary_of : Nodes → S
  primary_of w = (w.state 0).machine

  abbrev backup_of : Nodes → S
  backup_of w = (w.state 1).machine

  -- where no step is left
  level_or_ahead : (s b : S) (pending : List C) (flying : List (ℕ × PbMsg C)) → IsPhase s b pending flying → (p : S) → p ≡ s → MaySee m s pending [] p b
  level_or_ahead s b [] flying h p e = subst (λ (x : S). MaySee m s [] [] x b) (sym e) (see_nothing m s [] b (inl h.0))
  level_or_ahead s b (c ∷ cs) flying h p e = subst (λ (x : S). MaySee m s (c ∷ cs) [] x b) (sym e) (elim h [
    | inl q ↦ see_nothing m s (c ∷ cs) b (inl q.0)
    | inr q ↦ see_nothing m s (c ∷ cs) b (inr q.0)
  ])

  -- what a schedule shows may be seen
  run_safe : (w : Nodes) (s : S) (pending : List C) (ts : List (Step C)) → Backs s pending w.state w.packets → first_refused_from net.Bag (primary_backup m) r w ts ≡ None
      → MaySee m s pending (trace_from (primary_backup m) r w ts) (primary_of (run_from (primary_backup m) r w ts)) (backup_of (run_from (primary_backup m) r w ts))
  run_safe w s pending [] h e = level_or_ahead s (backup_of w) pending (in_flight w.packets) h.phase (primary_of w) (ap (λ (x : Backed S C). x.machine) h.primary)
  run_safe w s pending (t ∷ ts) h e =
      let v = next (primary_backup m) r w t in
      let both = place_and_why-none (refusal_of net.Bag (primary_backup m) w t) (first_refused_from net.Bag (primary_backup m) r v ts) e in
      let safe = step_safe w s pending t h both.0 in
      safe.sees (trace_from (primary_backup m) r v ts) (primary_of (run_from (primary_backup m) r v ts)) (backup_of (run_from (primary_backup m) r v ts))
      (run_safe v safe.then_state safe.then_pending ts safe.backs both.1)

  -- a whole schedule
  all_seen : (ts : List (Step C)) → IsAllowed net.Bag (primary_backup m) r ts
      → MaySee m m.init [] (trace (primary_backup m) r ts) (primary_of (run (primary_backup m) r ts)) (backup_of (run (primary_backup m) r ts))
  all_seen ts e = run_safe (first_world (primary_backup m)) m.init [] ts (record { primary = refl; phase = (refl, refl) }) e

  pub bag_explained : (ts : List (Step C)) → IsAllowed net.Bag (primary_backup m) r ts → IsExplainedBy m (trace (primary_backup m) r ts)
  bag_explained ts e = explained m (trace (primary_backup m) r ts) (primary_of (run (primary_backup m) r ts)) (backup_of (run (primary_backup m) r ts)) (all_seen ts e)

  pub bag_following : (ts : List (Step C)) → IsAllowed net.Bag (primary_backup m) r ts → AreFollowing m (trace (primary_backup m) r ts) (run (primary_backup m) r ts).state
  bag_following ts e = following m (trace (primary_backup m) r ts) (run (primary_backup m) r ts).state (all_seen ts e)
