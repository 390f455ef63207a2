-- Each step of a cluster with snapshots is a list of events with free choices, and keeps what always holds.
use Rattle.std.proofs.Common.{◌≡◌, ℕ, ◌<◌, ◌≤◌, true, false, List, [], ◌∷◌, ◌++◌, length, Option, Some, None, slice_get, inl, inr, refl, sym, ◌∙◌, append_assoc, append-nil, arith}
use Rattle.std.proofs.lemmas.Bool.{false≢true}
use Rattle.std.proofs.lemmas.Bool.Decides.{eqb_tells}
use Rattle.net_semantics.specs.Runs.{first_refused_from, run_from, trace_from}
use Rattle.net_semantics.specs.RunLaws.{place_and_why-none}
use Rattle.net_semantics.specs.StepLaws.{delivered_there}
use Rattle.net_semantics.specs.Steps.{Event, after_event, copied, crashed, delivered, delivery, event_in, input_item, items_in, items_of, items_of_event, next, next_in, rebooted, refusal_of, with_packets}
use Rattle.net_semantics.specs.Worlds.{Packet, change_at, first_world}
use Rattle.vst_base.specs.Machines.{MachineMeaning}
use Rattle.vst_base.specs.Nets.{AtNode, OfPacket, Starts, StepView, Stops, view_of}
use Rattle.vst_base.specs.declared.entry.Entry.{Entry}
use Rattle.vst_base.specs.declared.net.Net.TheVariants as net
use Rattle.vst_base.specs.declared.step.Step.{Step}
use Rattle.raft_free.specs.Events as events
use Rattle.raft_free.specs.Events.{In, effect}
use Rattle.raft_free.specs.Nodes as free
use Rattle.raft_free.specs.Runs.{Run}
use Rattle.raft_free.proofs.Stepping.{in_append}
use Rattle.lists.specs.Prefixes.{prefix_nil, prefix_self, prefix_trans, IsPrefix}
use Rattle.raft_histories.proofs.Logs.{same_refl}
use Rattle.raft_types.specs.declared.client.RaftInput.{RaftInput}
use Rattle.raft_types.specs.declared.client.RaftOut.{RaftOut}
use Rattle.linearizability.specs.Linearizable.{Seen}
use Rattle.raft_snapshots.specs.Snapshots.{SnapMsg, SnapNode, Way, snap_keep, snap_raft, snap_reboot, snap_recovery}
use Rattle.raft_safety.proofs.Listing.{got_in}
use Rattle.raft_safety.proofs.Acting.{Proposes}
use Rattle.raft_snapshots.proofs.Fronts.{whole_length}
use Rattle.raft_safety.proofs.Longest.{did, was_later}
use Rattle.raft_safety.proofs.Mirroring.{IsLike, run_then}
use Rattle.raft_safety.proofs.Turning.{WasPutIn}
use Rattle.snap_safety.specs.Applied.{applied_from, grown_by, had_applied}
use Rattle.snap_safety.specs.Mirrors.{MirrorsMessage, MirrorsNode, SnapHolds, free_node}
use Rattle.snap_safety.specs.Runs.{SnapWorld}
use Rattle.snap_safety.proofs.Longest.{did_front}
use Rattle.snap_safety.proofs.KindLaws.{Knows, up}
use Rattle.snap_safety.proofs.Snapping.{IsKnown, noted_last, snap_law}
use Rattle.snap_safety.proofs.Refining.{Turned}
use Rattle.snap_safety.proofs.Remembering.{Further, Sofar, event_on, within}
use Rattle.snap_safety.proofs.Telling.{IsOther}
use Rattle.snap_safety.proofs.Turning.{first_holds, first_is, input_goes, message_goes, reboot_allowed, reboot_holds, reboot_is, timeout_goes}
use Rattle.snap_safety.proofs.Worlds.{IsTakenIn, as_before, last_input, like_same, taken_at_node, taken_crash, taken_packet, taken_reboot}

module _ {S C O : Type 0} (m : MachineMeaning S C O) (way : Way S C O) (n : ℕ) where
  -- only copies change
  copies_on : {w : SnapWorld S C O} {seen : Seen C O} {best : List (Entry C)} (sf : Sofar m way n w seen best) → (ps : List (Packet (SnapMsg C))) →
      ((p : Packet (SnapMsg C)) → In p ps → IsLike w.packets p) → Further m way n sf.world (with_packets w ps) seen best best
  copies_on {w = w} {best = best} sf ps like = record {
    sofar = record {
      world = sf.world;
      past = sf.past;
      run = sf.run;
      node = sf.node;
      knows = sf.knows;
      sent = λ p h. old_packet p (like p h);
      kept = sf.kept;
      ends = λ p h. old_ends p (like p h);
      fits = λ p h. old_fits p (like p h);
      proposed = sf.proposed;
      was = sf.was;
      each = sf.each;
      put_in = sf.put_in;
      told = sf.told;
    };
    late = [];
    goes = refl;
    front = prefix_self best;
  }
    where
      old_packet : (p : Packet (SnapMsg C)) → IsLike w.packets p → MirrorsMessage m way sf.world.sent p.source p.destination p.content
      old_packet p l = rw (l.source, l.destination, l.content) (sf.sent l.was l.there)

      old_ends : (p : Packet (SnapMsg C)) → IsLike w.packets p → (p.source < n) × IsOther n p.source p.destination
      old_ends p l = rw (l.source, l.destination) (sf.ends l.was l.there)

      old_fits : (p : Packet (SnapMsg C)) → IsLike w.packets p → IsKnown (length best) p.content
      old_fits p l = rw (l.content) (sf.fits l.was l.there)

  -- a node stops
  crash_on : {w : SnapWorld S C O} {seen : Seen C O} {best : List (Entry C)} (sf : Sofar m way n w seen best) → (i : ℕ) → w.is_up i ≡ true →
      Further m way n sf.world (crashed snap_recovery w i) seen best best
  crash_on {w = w} {seen = seen} {best = best} sf i is_up = record {
    sofar = record {
      world = effect sf.world (events.Crash i);
      past = sf.past ++ events.Crash i ∷ [];
      run = run_then n sf.past (events.Crash i ∷ []) (free.first_world C) sf.world (effect sf.world (events.Crash i)) sf.run goes;
      node = λ k. elim (eqb_tells k i) [ inl t ↦ rw (t.0, t.1) mine | inr t ↦ rw (t.0) (sf.node k) ];
      knows = sf.knows;
      sent = sf.sent;
      kept = λ k. elim (eqb_tells k i) [ inl t ↦ rw (t.0, t.1) refl | inr t ↦ rw (t.0) (sf.kept k) ];
      ends = sf.ends;
      fits = sf.fits;
      proposed = λ x h. elim (in_append x sf.past (events.Crash i ∷ []) h) [ inl q ↦ sf.proposed x q | inr q ↦ nothing_proposed x q ];
      was = was_later (events.Crash i ∷ []) goes sf.was;
      each = λ k. elim (eqb_tells k i) [ inl t ↦ rw (t.0) (sf.each i) | inr t ↦ rw (t.0) (sf.each k) ];
      put_in = sf.put_in;
      told = sf.told;
    };
    late = events.Crash i ∷ [];
    goes = goes;
    front = prefix_self best;
  }
    where
      goes : Run n sf.world (events.Crash i ∷ []) (effect sf.world (events.Crash i))
      goes = (rw ((sf.node i).is) is_up, refl)

      mine : MirrorsNode m way sf.world.sent i false (w.state i) (record (sf.world.node i) { is_up = false; role = free.Follower })
      mine = let k = sf.node i in record { front = k.front; is = rw (k.is) refl; holds = k.holds }

      nothing_proposed : (x : events.Event C) → In x (events.Crash i ∷ []) → Proposes (WasPutIn seen) x
      nothing_proposed x (inl e) = rw e tt
      nothing_proposed x (inr h) = absurd h

  -- a node that is down starts again
  reboot_on : {w : SnapWorld S C O} {seen : Seen C O} {best : List (Entry C)} (sf : Sofar m way n w seen best) → (i : ℕ) → w.is_up i ≡ false →
      Further m way n sf.world (rebooted snap_recovery w i (w.kept i)) seen best best
  reboot_on {w = w} {seen = seen} {best = best} sf i down = rw (kept) (record {
    sofar = record {
      world = effect sf.world event;
      past = sf.past ++ event ∷ [];
      run = run_then n sf.past (event ∷ []) (free.first_world C) sf.world (effect sf.world event) sf.run goes;
      node = λ k. elim (eqb_tells k i) [ inl t ↦ rw (t.0, t.1) mine | inr t ↦ rw (t.0) (sf.node k) ];
      knows = λ k. elim (eqb_tells k i) [ inl t ↦ rw (t.0) follows | inr t ↦ rw (t.0) (sf.knows k) ];
      sent = sf.sent;
      kept = λ k. elim (eqb_tells k i) [ inl t ↦ rw (t.0) refl | inr t ↦ rw (t.0) (sf.kept k) ];
      ends = sf.ends;
      fits = sf.fits;
      proposed = λ x h. elim (in_append x sf.past (event ∷ []) h) [ inl q ↦ sf.proposed x q | inr q ↦ nothing_proposed x q ];
      was = was_later (event ∷ []) goes sf.was;
      each = λ k. elim (eqb_tells k i) [ inl t ↦ rw (t.0) less | inr t ↦ rw (t.0) (sf.each k) ];
      put_in = sf.put_in;
      told = sf.told;
    };
    late = event ∷ [];
    goes = goes;
    front = prefix_self best;
  })
    where
      s : SnapNode S C O
      s = w.state i

      front : List (Entry C)
      front = (sf.node i).front

      h : SnapHolds m way sf.world.sent i front s
      h = (sf.node i).holds

      event : events.Event C
      event = events.Reboot i s.log.base s.log.base

      kept : w.kept i ≡ Some (snap_keep s)
      kept = sf.kept i ∙ rw down refl

      is : sf.world.node i ≡ free_node front false s
      is = rw down at ((sf.node i).is)

      goes : Run n sf.world (event ∷ []) (effect sf.world event)
      goes = (rw is (reboot_allowed m way n sf.world.sent i front s h), refl)

      mine : MirrorsNode m way sf.world.sent i true (snap_reboot (snap_keep s)) (events.becomes (sf.world.node i) event)
      mine = record { front = front; is = rw is (sym (reboot_is m way front s i)); holds = reboot_holds m way sf.world.sent i front s h }

      follows : Knows n (snap_reboot (snap_keep s))
      follows l = absurd (false≢true l)

      nothing_proposed : (x : events.Event C) → In x (event ∷ []) → Proposes (WasPutIn seen) x
      nothing_proposed x (inl e) = rw e tt
      nothing_proposed x (inr h) = absurd h

      less : IsPrefix (did (events.becomes (sf.world.node i) event)) best
      less = rw is (prefix_trans best (did_front s.log.base s.applied whole whole h.base fits (same_refl s.log.base whole)) (rw is at (sf.each i)))
        where
          whole : List (Entry C)
          whole = front ++ s.log.entries

          fits : s.log.base ≤ length whole
          fits = omega (arith, whole_length front s.log (record { gone = h.gone; gone_term = h.gone_term }))

  -- a packet comes to a node
  message_on : {w : SnapWorld S C O} {seen : Seen C O} {best : List (Entry C)} (sf : Sofar m way n w seen best) → (p : Packet (SnapMsg C)) → In p w.packets → w.is_up p.destination ≡ true →
      Turned (snap_law m way n p.destination (WasPutIn (seen ++ input_item p.destination None)) sf.world.sent) sf.world.sent (length best) (λ _. tt) (up (sf.node p.destination).front (w.state p.destination))
      ((snap_raft way n m).message p.destination (w.state p.destination) p.source p.content)
  message_on {w = w} {seen = seen} {best = best} sf p here is_up =
      let i = p.destination in
      let k = sf.node i in
      let ends = sf.ends p here in
      message_goes m way n i (WasPutIn (seen ++ input_item i None)) sf.world.sent (length best) (λ _. tt) k.front (w.state i) p.source p.content k.holds (sf.knows i)
      (within m way n sf i) (record { world = sf.world; reached = record { events = sf.past; run = sf.run }; had = refl; node = rw is_up at k.is })
      ends.0 (λ f. ends.1.1 (sym f)) (sf.fits p here) (sf.sent p here)

  -- a step that the network takes
  pub step_on : {w : SnapWorld S C O} {seen : Seen C O} {best : List (Entry C)} (sf : Sofar m way n w seen best) (s : StepView (RaftInput C)) → IsTakenIn way m n w s →
      Further m way n sf.world (next_in (snap_raft way n m) snap_recovery w s) (seen ++ items_in (snap_raft way n m) w s) best (grown_by best (event_in (snap_raft way n m) w s))
  step_on {w = w} {seen = seen} {best = best} sf (AtNode i (Some q)) taken =
      let t = taken_at_node way m n w i (Some q) taken in
      let k = sf.node i in
      event_on m way n sf (record { node = i; input = Some q; effect = (snap_raft way n m).input i (w.state i) q }) t.0 t.1
      (input_goes m way n i (WasPutIn (seen ++ input_item i (Some q))) sf.world.sent (length best) (λ _. tt) k.front (w.state i) q k.holds (sf.knows i) (within m way n sf i)
      (last_input way m n w seen i q)) w.packets (like_same w.packets)
  step_on {w = w} {seen = seen} {best = best} sf (AtNode i None) taken =
      let t = taken_at_node way m n w i None taken in
      let k = sf.node i in
      event_on m way n sf (record { node = i; input = None; effect = (snap_raft way n m).timeout i (w.state i) }) t.0 t.1
      (timeout_goes m way n i (WasPutIn (seen ++ input_item i None)) sf.world.sent (length best) (λ _. tt) k.front (w.state i) k.holds (sf.knows i) (within m way n sf i))
      w.packets (like_same w.packets)
  step_on {w = w} {seen = seen} {best = best} sf (OfPacket k fate) taken = by_packet (delivered fate (slice_get w.packets k)) refl
    where
      ps : List (Packet (SnapMsg C))
      ps = change_at (copied fate) k w.packets

      by_packet : (o : Option (Packet (SnapMsg C))) → delivered fate (slice_get w.packets k) ≡ o →
          Further m way n sf.world (after_event (with_packets w ps) (delivery (snap_raft way n m) w o)) (seen ++ items_of_event (delivery (snap_raft way n m) w o)) best
          (grown_by best (delivery (snap_raft way n m) w o))
      by_packet None at = rw (append-nil seen) (copies_on sf ps (as_before fate k w.packets))
      by_packet (Some p) at =
          let here = got_in w.packets k p (delivered_there fate (slice_get w.packets k) p at) in
          let is_up = taken_packet way m n w k fate taken p at in
          event_on m way n sf (record { node = p.destination; input = None; effect = (snap_raft way n m).message p.destination (w.state p.destination) p.source p.content })
          (sf.ends p here).1.0 is_up (message_on sf p here is_up) ps (as_before fate k w.packets)
  step_on {w = w} {seen = seen} sf (Stops i) taken = rw (append-nil seen) (crash_on sf i (taken_crash way m n w i taken).1)
  step_on {w = w} {seen = seen} sf (Starts i) taken = rw (append-nil seen) (reboot_on sf i (taken_reboot way m n w i taken).1)

  -- what a node has just applied stands after no more than the list had
  pub none_missing : {w : SnapWorld S C O} {seen : Seen C O} {best : List (Entry C)} (sf : Sofar m way n w seen best) (s : StepView (RaftInput C)) → IsTakenIn way m n w s →
      (e : Event (SnapNode S C O) (RaftInput C) (RaftOut O) (SnapMsg C)) → event_in (snap_raft way n m) w s ≡ Some e → had_applied e.effect.state ≤ length best
  none_missing {w = w} {seen = seen} {best = best} sf (AtNode i (Some q)) taken e is = rw (← same) (noted_last m way n i (WasPutIn (seen ++ input_item i (Some q))) sf.world.sent (length best) _ _
      (input_goes m way n i (WasPutIn (seen ++ input_item i (Some q))) sf.world.sent (length best) (λ _. tt) (sf.node i).front (w.state i) q (sf.node i).holds (sf.knows i)
      (within m way n sf i) (last_input way m n w seen i q)).noted).from
    where
      same : record { node = i; input = Some q; effect = (snap_raft way n m).input i (w.state i) q } ≡ e
      same = cc (is)
  none_missing {w = w} {seen = seen} {best = best} sf (AtNode i None) taken e is = rw (← same) (noted_last m way n i (WasPutIn (seen ++ input_item i None)) sf.world.sent (length best) _ _
      (timeout_goes m way n i (WasPutIn (seen ++ input_item i None)) sf.world.sent (length best) (λ _. tt) (sf.node i).front (w.state i) (sf.node i).holds (sf.knows i)
      (within m way n sf i)).noted).from
    where
      same : record { node = i; input = None; effect = (snap_raft way n m).timeout i (w.state i) } ≡ e
      same = cc (is)
  none_missing {w = w} {seen = seen} {best = best} sf (OfPacket k fate) taken e is = by_packet (delivered fate (slice_get w.packets k)) refl is
    where
      by_packet : (o : Option (Packet (SnapMsg C))) → delivered fate (slice_get w.packets k) ≡ o → delivery (snap_raft way n m) w o ≡ Some e → had_applied e.effect.state ≤ length best
      by_packet None at it = absurd (cc (it))
      by_packet (Some p) at it =
          rw (← same) (noted_last m way n p.destination (WasPutIn (seen ++ input_item p.destination None)) sf.world.sent (length best) _ _
          (message_on sf p (got_in w.packets k p (delivered_there fate (slice_get w.packets k) p at)) (taken_packet way m n w k fate taken p at)).noted).from
        where
          same : record { node = p.destination; input = None; effect = (snap_raft way n m).message p.destination (w.state p.destination) p.source p.content } ≡ e
          same = cc (it)
  none_missing sf (Stops i) taken e is = absurd (cc (is))
  none_missing sf (Starts i) taken e is = absurd (cc (is))

  -- no step of these is refused
  abbrev pub AreTaken : SnapWorld S C O → List (Step (RaftInput C)) → Type 0
  AreTaken w ss = first_refused_from net.Fail (snap_raft way n m) snap_recovery w ss ≡ None

  pub first_taken : (w : SnapWorld S C O) (s : Step (RaftInput C)) (ss : List (Step (RaftInput C))) → AreTaken w (s ∷ ss) →
      IsTakenIn way m n w (view_of s) × AreTaken (next (snap_raft way n m) snap_recovery w s) ss
  first_taken w s ss e =
      place_and_why-none (refusal_of net.Fail (snap_raft way n m) w s)
      (first_refused_from net.Fail (snap_raft way n m) snap_recovery (next (snap_raft way n m) snap_recovery w s) ss) e

  pub parts : (w : SnapWorld S C O) (early late : List (Step (RaftInput C))) → AreTaken w (early ++ late) →
      AreTaken w early × AreTaken (run_from (snap_raft way n m) snap_recovery w early) late
  parts w [] late e = (refl, e)
  parts w (s ∷ early) late e =
      let t = first_taken w s (early ++ late) e in
      let p = parts (next (snap_raft way n m) snap_recovery w s) early late t.1 in
      (rw (t.0, p.0) refl, p.1)

  pub run_on : (ss : List (Step (RaftInput C))) {w : SnapWorld S C O} {seen : Seen C O} {best : List (Entry C)} (sf : Sofar m way n w seen best) → AreTaken w ss →
      Further m way n sf.world (run_from (snap_raft way n m) snap_recovery w ss) (seen ++ trace_from (snap_raft way n m) snap_recovery w ss) best (applied_from way m n w best ss)
  run_on [] {seen = seen} {best = best} sf taken = rw (append-nil seen) (record { sofar = sf; late = []; goes = refl; front = prefix_self best })
  run_on (s ∷ ss) {w = w} {seen = seen} {best = best} sf taken =
      let t = first_taken w s ss taken in
      let after = next (snap_raft way n m) snap_recovery w s in
      let a = step_on sf (view_of s) t.0 in
      let b = rw (append_assoc seen (items_of (snap_raft way n m) w s) (trace_from (snap_raft way n m) snap_recovery after ss)) at (run_on ss a.sofar t.1) in
      record { sofar = b.sofar; late = a.late ++ b.late; goes = run_then n a.late b.late sf.world a.sofar.world b.sofar.world a.goes b.goes; front = prefix_trans _ a.front b.front }

  pub first_sofar : Sofar m way n (first_world (snap_raft way n m)) [] []
  first_sofar = record {
    world = free.first_world C;
    past = [];
    run = refl;
    node = λ i. record { front = []; is = sym (first_is m way); holds = first_holds m way [] i };
    knows = λ i l. absurd (false≢true l);
    sent = λ p h. absurd h;
    kept = λ i. refl;
    ends = λ p h. absurd h;
    fits = λ p h. absurd h;
    proposed = λ e h. absurd h;
    was = record { at = free.first_world C; who = 0; moments = record { early = []; late = []; before = refl; after = refl }; is = refl };
    each = λ i. prefix_nil [];
    put_in = λ x h. absurd h;
    told = λ t h. absurd h;
  }
