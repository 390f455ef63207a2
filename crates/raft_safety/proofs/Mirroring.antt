-- Each step of a cluster is a list of events with free choices.
use Rattle.std.proofs.Common.{◌≡◌, ◌≢◌, ℕ, zero, suc, ◌<◌, true, false, List, [], ◌∷◌, ◌++◌, map, Option, Some, None, cond, inl, inr, refl, sym, ap, ◌∙◌, append_assoc, append-nil, arith}
use Rattle.std.proofs.lemmas.Bool.Decides.{eqb_tells}
use Rattle.net_semantics.specs.Runs.{first_refused_from, run_from, trace_from}
use Rattle.net_semantics.specs.RunLaws.{place_and_why-none}
use Rattle.net_semantics.specs.StepLaws.{copied_content, copied_destination, copied_source}
use Rattle.net_semantics.specs.Steps.{Event, after_event, copied, crashed, event_in, input_item, items_in, items_of, items_of_event, next, next_in, rebooted, refusal_of, with_packets}
use Rattle.net_semantics.specs.Worlds.{Packet, change_at, first_world, put, sent_by}
use Rattle.vst_base.specs.Elections.{nobody}
use Rattle.vst_base.specs.Machines.{MachineMeaning}
use Rattle.vst_base.specs.declared.entry.Entry.{Entry}
use Rattle.vst_base.specs.declared.net.Net.TheVariants as net
use Rattle.vst_base.specs.declared.step.Item.{Item}
use Rattle.vst_base.specs.declared.step.Item.TheVariants as item
use Rattle.vst_base.specs.declared.step.Step.{Step}
use Rattle.vst_base.specs.Nets.{AtNode, Fate, OfPacket, Starts, StepView, Stops, view_of}
use Rattle.raft_election.proofs.Sets.{votes_are_sets}
use Rattle.raft_free.specs.Events as events
use Rattle.raft_free.specs.Events.{In, becomes, effect}
use Rattle.raft_free.specs.Nodes as free
use Rattle.raft_free.specs.Runs.{Run}
use Rattle.raft_free.proofs.Stepping.{in_append}
use Rattle.raft_clients.specs.Executed.{request_of}
use Rattle.raft_types.specs.Messages.{IsClusterSize}
use Rattle.raft_types.specs.declared.client.RaftInput.{RaftInput}
use Rattle.raft_types.specs.declared.client.RaftOut.{RaftOut}
use Rattle.raft_types.specs.declared.msg.RaftMsg.{RaftMsg}
use Rattle.raft_xform.specs.Nodes.{RaftView, started_with}
use Rattle.raft_xform.specs.Raft.{raft, raft_recovery}
use Rattle.raft_xform.specs.Sound.{IsSoundNode}
use Rattle.raft_xform.proofs.Sounding.{sound_started}
use Rattle.raft_safety.specs.Runs.{RaftWorld}
use Rattle.linearizability.specs.Linearizable.{HasInput, Seen}
use Rattle.raft_safety.specs.Mirrors.{Mirrors, free_packet}
use Rattle.raft_safety.proofs.Acting.{Does, Proposes, Reaches, steps_reach}
use Rattle.raft_safety.proofs.Freed.{free_node, mirrored, node_is}
use Rattle.raft_safety.proofs.Peers.{matched_new}
use Rattle.raft_safety.proofs.Refining.{up}
use Rattle.raft_safety.proofs.Sending.{IsGood}
use Rattle.raft_safety.proofs.Turning.{IsTaken, IsTakenIn, Stands, Turn, WasAsked, WasPutIn, taken_crash, taken_reboot, turn}

pub puts : {A : Type 0} (P : ℕ → A → Type 0) (f : ℕ → A) (i : ℕ) (x : A) → P i x → ((j : ℕ) → j ≢ i → P j (f j)) → (j : ℕ) → P j (put f i x j)
puts P f i x p q j = elim (eqb_tells j i) [ inl t ↦ rw (t.0, t.1) p | inr t ↦ rw (t.0) (q j t.1) ]

pub put_in : {I O : Type 0} (xs ys : List (Item I O)) (q : I) → HasInput xs q → HasInput (xs ++ ys) q
put_in [] ys q h = absurd h
put_in (item.Input node j ∷ xs) ys q (inl e) = inl e
put_in (item.Input node j ∷ xs) ys q (inr h) = inr (put_in xs ys q h)
put_in (item.Output node o ∷ xs) ys q h = put_in xs ys q h

-- what was asked for stays
pub asked_more : {C O : Type 0} (seen more : Seen C O) (o : Option (RaftInput C)) → WasAsked seen o → WasAsked (seen ++ more) o
asked_more seen more None h = tt
asked_more seen more (Some r) h = put_in seen more r h

pub proposes_weaker : {C : Type 0} (P Q : Entry C → Type 0) → ((x : Entry C) → P x → Q x) → (e : events.Event C) → Proposes P e → Proposes Q e
proposes_weaker P Q f (events.Timeout i) p = tt
proposes_weaker P Q f (events.Ask i j) p = tt
proposes_weaker P Q f (events.Learn i x) p = tt
proposes_weaker P Q f (events.Grant i c last last_t) p = tt
proposes_weaker P Q f (events.Refuse i j x) p = tt
proposes_weaker P Q f (events.Count i v) p = tt
proposes_weaker P Q f (events.Lead i) p = tt
proposes_weaker P Q f (events.Propose i e) p = f e p
proposes_weaker P Q f (events.Replicate i j prev many commit) p = tt
proposes_weaker P Q f (events.StepDown i l prev prev_t es commit) p = tt
proposes_weaker P Q f (events.Accept i l prev prev_t es commit) p = tt
proposes_weaker P Q f (events.Match i j index) p = tt
proposes_weaker P Q f (events.Commit i index) p = tt
proposes_weaker P Q f (events.Apply i index) p = tt
proposes_weaker P Q f (events.Crash i) p = tt
proposes_weaker P Q f (events.Reboot i commit applied) p = tt

-- a packet that was there, with other copies
pub record IsLike {M : Type 0} (ps : List (Packet M)) (p : Packet M) : Type 0 where
  pub was : Packet M
  pub there : In was ps
  pub source : p.source ≡ was.source
  pub destination : p.destination ≡ was.destination
  pub content : p.content ≡ was.content

like_more : {M : Type 0} (x : Packet M) (ps : List (Packet M)) (p : Packet M) → IsLike ps p → IsLike (x ∷ ps) p
like_more x ps p l = record { was = l.was; there = inr l.there; source = l.source; destination = l.destination; content = l.content }

like_same : {M : Type 0} (ps : List (Packet M)) (p : Packet M) → In p ps → IsLike ps p
like_same ps p h = record { was = p; there = h; source = refl; destination = refl; content = refl }

-- a change of the copies alone
pub record Copies {M : Type 0} (f : Packet M → Packet M) : Type 0 where
  pub source : (p : Packet M) → (f p).source ≡ p.source
  pub destination : (p : Packet M) → (f p).destination ≡ p.destination
  pub content : (p : Packet M) → (f p).content ≡ p.content

like_changed : {M : Type 0} (f : Packet M → Packet M) → Copies f → (k : ℕ) (ps : List (Packet M)) (p : Packet M) → In p (change_at f k ps) → IsLike ps p
like_changed f c k [] p h = absurd h
like_changed f c zero (x ∷ ps) p (inl e) = rw e (record { was = x; there = inl refl; source = c.source x; destination = c.destination x; content = c.content x })
like_changed f c zero (x ∷ ps) p (inr h) = like_same (x ∷ ps) p (inr h)
like_changed f c (suc k) (x ∷ ps) p (inl e) = like_same (x ∷ ps) p (inl e)
like_changed f c (suc k) (x ∷ ps) p (inr h) = like_more x ps p (like_changed f c k ps p h)

-- a packet that a node sends
pub record IsSent {M : Type 0} (i : ℕ) (sends : List (ℕ × M)) (p : Packet M) : Type 0 where
  pub send : ℕ × M
  pub one : In send sends
  pub is : p ≡ record { source = i; destination = send.0; content = send.1; copies = 1 }

sent_is : {M : Type 0} (i : ℕ) (sends : List (ℕ × M)) (p : Packet M) → In p (sent_by i sends) → IsSent i sends p
sent_is i [] p h = absurd h
sent_is i (x ∷ sends) p (inl e) = record { send = x; one = inl refl; is = e }
sent_is i (x ∷ sends) p (inr h) = let s = sent_is i sends p h in record { send = s.send; one = inr s.one; is = s.is }

-- free choices lead on to a world that mirrors the cluster, and propose only what clients had put in
pub record Goes {S C O : Type 0} (m : MachineMeaning S C O) (n : ℕ) (v : free.FreeWorld C) (w : RaftWorld S C O) (seen : Seen C O) : Type 0 where
  pub late : List (events.Event C)
  pub world : free.FreeWorld C
  pub run : Run n v late world
  pub mirrors : Mirrors w world
  pub stands : Stands m n w
  pub proposed : (e : events.Event C) → In e late → Proposes (WasPutIn seen) e

module _ {S C O : Type 0} (m : MachineMeaning S C O) (n : ℕ) where
  event_goes : (w : RaftWorld S C O) (v : free.FreeWorld C) (seen : Seen C O) → Mirrors w v → Stands m n w → (e : Event (RaftView S C O) (RaftInput C) (RaftOut O) (RaftMsg C)) → Turn m n w v seen e →
      (ps : List (Packet (RaftMsg C))) → ((p : Packet (RaftMsg C)) → In p ps → IsLike w.packets p) →
      Goes m n v (after_event (with_packets w ps) (Some e)) (seen ++ items_of_event (Some e))
  event_goes w v seen mirrors stands e t ps like = record {
    late = d.events;
    world = reach.world;
    run = reach.run;
    mirrors = mirrored
        (puts (λ k s. reach.world.node k ≡ free_node (w.is_up k) s) w.state i e.effect.state (rw (t.is_up) reach.node) (λ k ne. reach.others k ne ∙ node_is mirrors k))
        (λ p h. elim (in_append p ps (sent_by i e.effect.sends) h) [ inl q ↦ old_packet p (like p q) | inr q ↦ new_packet p (sent_is i e.effect.sends p q) ]);
    stands = record {
      sound = puts (λ k s. k < n → IsSoundNode n k s) w.state i e.effect.state (λ _. t.sound) (λ k ne. stands.sound k);
      kept = puts (λ k s. w.kept k ≡ cond (w.is_up k) None (Some ((raft_recovery m).keep s))) w.state i e.effect.state nothing_kept (λ k ne. stands.kept k);
      sources = λ p h. elim (in_append p ps (sent_by i e.effect.sends) h)
          [ inl q ↦ old_source p (like p q) | inr q ↦ (let s = sent_is i e.effect.sends p q in rw (s.is) t.below) ];
      good = λ p h. elim (in_append p ps (sent_by i e.effect.sends) h) [
        | inl q ↦ old_good p (like p q)
        | inr q ↦ (let s = sent_is i e.effect.sends p q in rw (s.is) (t.good s.send s.one))
      ];
    };
    proposed = λ x h. proposes_weaker (WasPutIn (seen ++ input_item i e.input)) (WasPutIn (seen ++ items_of_event (Some e)))
        (λ y p. rw (append_assoc seen (input_item i e.input) outputs) at (asked_more (seen ++ input_item i e.input) outputs (request_of y) p)) x (d.proposed x h);
  }
    where
      i : ℕ
      i = e.node

      outputs : Seen C O
      outputs = map (λ o. item.Output e.node o) e.effect.outputs

      d : Does n i (WasPutIn (seen ++ input_item i e.input)) v.sent (up (w.state i)) (up e.effect.state) e.effect.sends
      d = t.refined.does

      reach : Reaches n i v d.events d.new (up e.effect.state)
      reach = steps_reach n i d.events v d.new (up e.effect.state) (rw (node_is mirrors i, t.is_up) d.steps)

      nothing_kept : w.kept i ≡ cond (w.is_up i) None (Some ((raft_recovery m).keep e.effect.state))
      nothing_kept = rw (t.is_up) at (stands.kept i) ∙ rw (t.is_up) refl

      old_packet : (p : Packet (RaftMsg C)) → IsLike w.packets p → In (free_packet p.source p.destination p.content) reach.world.sent
      old_packet p l = rw (reach.sent, l.source, l.destination, l.content) (d.old _ (mirrors.sent l.was l.there))

      new_packet : (p : Packet (RaftMsg C)) → IsSent i e.effect.sends p → In (free_packet p.source p.destination p.content) reach.world.sent
      new_packet p s = rw (reach.sent, s.is) (d.said s.send s.one)

      old_source : (p : Packet (RaftMsg C)) → IsLike w.packets p → p.source < n
      old_source p l = rw (l.source) (stands.sources l.was l.there)

      old_good : (p : Packet (RaftMsg C)) → IsLike w.packets p → IsGood n p.source p.destination p.content
      old_good p l = rw (l.source, l.destination, l.content) (stands.good l.was l.there)

  -- only copies change
  copies_go : (w : RaftWorld S C O) (v : free.FreeWorld C) (seen : Seen C O) → Mirrors w v → Stands m n w → (ps : List (Packet (RaftMsg C))) → ((p : Packet (RaftMsg C)) → In p ps → IsLike w.packets p) →
      Goes m n v (with_packets w ps) seen
  copies_go w v seen mirrors stands ps like = record {
    late = [];
    world = v;
    run = refl;
    mirrors = record { node = mirrors.node; sent = λ p h. old_packet p (like p h) };
    stands = record { sound = stands.sound; kept = stands.kept; sources = λ p h. old_source p (like p h); good = λ p h. old_good p (like p h) };
    proposed = λ x h. absurd h;
  }
    where
      old_packet : (p : Packet (RaftMsg C)) → IsLike w.packets p → In (free_packet p.source p.destination p.content) v.sent
      old_packet p l = rw (l.source, l.destination, l.content) (mirrors.sent l.was l.there)

      old_source : (p : Packet (RaftMsg C)) → IsLike w.packets p → p.source < n
      old_source p l = rw (l.source) (stands.sources l.was l.there)

      old_good : (p : Packet (RaftMsg C)) → IsLike w.packets p → IsGood n p.source p.destination p.content
      old_good p l = rw (l.source, l.destination, l.content) (stands.good l.was l.there)

  as_before : (fate : Fate) (k : ℕ) (ps : List (Packet (RaftMsg C))) (p : Packet (RaftMsg C)) → In p (change_at (copied fate) k ps) → IsLike ps p
  as_before fate =
      like_changed (copied fate) (record { source = λ p. copied_source p fate; destination = λ p. copied_destination p fate; content = λ p. copied_content p fate })

  crash_goes : (w : RaftWorld S C O) (v : free.FreeWorld C) (seen : Seen C O) → Mirrors w v → Stands m n w → (i : ℕ) → w.is_up i ≡ true → Goes m n v (crashed (raft_recovery m) w i) seen
  crash_goes w v seen mirrors stands i is_up = record {
    late = events.Crash i ∷ [];
    world = effect v (events.Crash i);
    run = (rw (node_is mirrors i) is_up, refl);
    mirrors = mirrored (λ k. elim (eqb_tells k i) [ inl t ↦ rw (t.0, t.1, node_is mirrors i) refl | inr t ↦ rw (t.0) (node_is mirrors k) ]) mirrors.sent;
    stands = record {
      sound = stands.sound;
      kept = λ k. elim (eqb_tells k i) [ inl t ↦ rw (t.0, t.1) refl | inr t ↦ rw (t.0) (stands.kept k) ];
      sources = stands.sources;
      good = stands.good;
    };
    proposed = λ x h. elim h [ inl e ↦ rw e tt | inr h ↦ absurd h ];
  }

  reboot_goes : (w : RaftWorld S C O) (v : free.FreeWorld C) (seen : Seen C O) → Mirrors w v → Stands m n w → (i : ℕ) → i < n → w.is_up i ≡ false →
      Goes m n v (rebooted (raft_recovery m) w i (w.kept i)) seen
  reboot_goes w v seen mirrors stands i below down = rw (kept) (record {
    late = events.Reboot i 0 0 ∷ [];
    world = effect v (events.Reboot i 0 0);
    run = (rw (node_is mirrors i) (down, omega arith, omega arith), refl);
    mirrors = mirrored (λ k. elim (eqb_tells k i) [ inl t ↦ rw (t.0, node_is mirrors i) (sym starts) | inr t ↦ rw (t.0) (node_is mirrors k) ]) mirrors.sent;
    stands = record {
      sound = λ k. elim (eqb_tells k i) [ inl t ↦ rw (t.0, t.1) (λ _. sound) | inr t ↦ rw (t.0) (stands.sound k) ];
      kept = λ k. elim (eqb_tells k i) [ inl t ↦ rw (t.0) refl | inr t ↦ rw (t.0) (stands.kept k) ];
      sources = stands.sources;
      good = stands.good;
    };
    proposed = λ x h. elim h [ inl e ↦ rw e tt | inr h ↦ absurd h ];
  })
    where
      s : RaftView S C O
      s = w.state i

      kept : w.kept i ≡ Some ((raft_recovery m).keep s)
      kept = stands.kept i ∙ rw down refl

      k : IsSoundNode n i s
      k = stands.sound i below

      first : RaftView S C O
      first = started_with m s.ballot.term s.ballot.voted s.log

      sound : IsSoundNode n i first
      sound = sound_started m s.ballot.term s.ballot.voted s.log k.cluster below k.term k.vote k.short

      starts : up first ≡ becomes (free_node (w.is_up i) s) (events.Reboot i 0 0)
      starts = ap (λ f. record (up first) { votes = f }) votes_are_sets.none ∙ ap (λ f. record (up first) { votes = nobody; matched = f }) (matched_new 0 0)

  -- each step that the network takes
  pub step_goes : (w : RaftWorld S C O) (v : free.FreeWorld C) (seen : Seen C O) → Mirrors w v → Stands m n w → (s : StepView (RaftInput C)) → IsTakenIn m n w s →
      Goes m n v (next_in (raft n m) (raft_recovery m) w s) (seen ++ items_in (raft n m) w s)
  step_goes w v seen mirrors stands (AtNode i q) taken =
      event_goes w v seen mirrors stands _ (turn m n w v seen mirrors stands (AtNode i q) taken _ refl) w.packets (like_same w.packets)
  step_goes w v seen mirrors stands (OfPacket k fate) taken = by_event (event_in (raft n m) w (OfPacket k fate)) refl
    where
      ps : List (Packet (RaftMsg C))
      ps = change_at (copied fate) k w.packets

      by_event : (o : Option (Event (RaftView S C O) (RaftInput C) (RaftOut O) (RaftMsg C))) → event_in (raft n m) w (OfPacket k fate) ≡ o →
          Goes m n v (after_event (with_packets w ps) o) (seen ++ items_of_event o)
      by_event None at = rw (append-nil seen) (copies_go w v seen mirrors stands ps (as_before fate k w.packets))
      by_event (Some e) at = event_goes w v seen mirrors stands e (turn m n w v seen mirrors stands (OfPacket k fate) taken e at) ps (as_before fate k w.packets)
  step_goes w v seen mirrors stands (Stops i) taken = rw (append-nil seen) (crash_goes w v seen mirrors stands i (taken_crash m n w i taken).1)
  step_goes w v seen mirrors stands (Starts i) taken = let t = taken_reboot m n w i taken in rw (append-nil seen) (reboot_goes w v seen mirrors stands i t.0 t.1)

pub run_then : {C : Type 0} (n : ℕ) (es fs : List (events.Event C)) (u v w : free.FreeWorld C) → Run n u es v → Run n v fs w → Run n u (es ++ fs) w
run_then n [] fs u v w r s = rw (← r) s
run_then n (e ∷ es) fs u v w r s = (r.0, run_then n es fs (effect u e) v w r.1 s)

-- no step of these is refused
abbrev pub AreTaken : {S C O : Type 0} → MachineMeaning S C O → ℕ → RaftWorld S C O → List (Step (RaftInput C)) → Type 0
AreTaken m n w ss = first_refused_from net.Fail (raft n m) (raft_recovery m) w ss ≡ None

pub first_taken : {S C O : Type 0} (m : MachineMeaning S C O) (n : ℕ) (w : RaftWorld S C O) (s : Step (RaftInput C)) (ss : List (Step (RaftInput C))) → AreTaken m n w (s ∷ ss) →
    IsTaken m n w s × AreTaken m n (next (raft n m) (raft_recovery m) w s) ss
first_taken m n w s ss e = place_and_why-none (refusal_of net.Fail (raft n m) w s) (first_refused_from net.Fail (raft n m) (raft_recovery m) (next (raft n m) (raft_recovery m) w s) ss) e

module _ {S C O : Type 0} (m : MachineMeaning S C O) (n : ℕ) where
  -- what was noted of proposals stays
  later : (seen more : Seen C O) (e : events.Event C) → Proposes (WasPutIn seen) e → Proposes (WasPutIn (seen ++ more)) e
  later seen more e p = proposes_weaker (WasPutIn seen) (WasPutIn (seen ++ more)) (λ x h. asked_more seen more (request_of x) h) e p

  pub goes_then : {u : free.FreeWorld C} {v w : RaftWorld S C O} (seen more : Seen C O) → (a : Goes m n u v seen) → Goes m n a.world w (seen ++ more) → Goes m n u w (seen ++ more)
  goes_then {u = u} seen more a b = record {
    late = a.late ++ b.late;
    world = b.world;
    run = run_then n a.late b.late u a.world b.world a.run b.run;
    mirrors = b.mirrors;
    stands = b.stands;
    proposed = λ x h. elim (in_append x a.late b.late h) [ inl q ↦ later seen more x (a.proposed x q) | inr q ↦ b.proposed x q ];
  }

  pub run_goes : (w : RaftWorld S C O) (v : free.FreeWorld C) (seen : Seen C O) → Mirrors w v → Stands m n w → (ss : List (Step (RaftInput C))) → AreTaken m n w ss →
      Goes m n v (run_from (raft n m) (raft_recovery m) w ss) (seen ++ trace_from (raft n m) (raft_recovery m) w ss)
  run_goes w v seen mirrors stands [] taken = rw (append-nil seen) (record { late = []; world = v; run = refl; mirrors = mirrors; stands = stands; proposed = λ x h. absurd h })
  run_goes w v seen mirrors stands (s ∷ ss) taken =
      let t = first_taken m n w s ss taken in
      let a = step_goes m n w v seen mirrors stands (view_of s) t.0 in
      rw (append_assoc seen (items_of (raft n m) w s) (trace_from (raft n m) (raft_recovery m) (next (raft n m) (raft_recovery m) w s) ss)) at (goes_then (seen ++ items_of (raft n m) w s) (trace_from (raft n m) (raft_recovery m) (next (raft n m) (raft_recovery m) w s) ss) a
      (run_goes (next (raft n m) (raft_recovery m) w s) a.world (seen ++ items_of (raft n m) w s) a.mirrors a.stands ss t.1))

  pub first_mirror : Mirrors (first_world (raft n m)) (free.first_world C)
  first_mirror = mirrored (λ i. sym starts) (λ p h. absurd h)
    where
      starts : up (started_with m 0 None []) ≡ free.first_node C
      starts = ap (λ f. record (up (started_with m 0 None [])) { votes = f }) votes_are_sets.none ∙ ap (λ f. record (up (started_with m 0 None [])) { votes = nobody; matched = f }) (matched_new 0 0)

  pub first_stands : IsClusterSize n → Stands m n (first_world (raft n m))
  first_stands size = record {
    sound = λ i below. sound_started m 0 None [] size below (omega arith) tt (omega arith);
    kept = λ i. refl;
    sources = λ p h. absurd h;
    good = λ p h. absurd h;
  }
