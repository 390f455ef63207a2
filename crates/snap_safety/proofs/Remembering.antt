-- What always holds of a cluster with snapshots, of what clients have seen and of what was applied.
use Rattle.std.proofs.Common.{◌≡◌, ◌≢◌, ℕ, ◌<◌, ◌≤◌, true, List, [], ◌∷◌, ◌++◌, length, map, take, cond, Option, Some, None, inl, inr, refl, sym, ap, subst, ◌∙◌, append_assoc, arith}
use Rattle.std.proofs.lemmas.Bool.{cases_lt}
use Rattle.std.proofs.lemmas.Bool.Decides.{eqb_tells}
use Rattle.std.proofs.lemmas.List.{length-take-le, take-append-drop}
use Rattle.net_semantics.specs.Steps.{Event, after_event, input_item, items_of_event, with_packets}
use Rattle.net_semantics.specs.Worlds.{Packet, sent_by}
use Rattle.vst_base.specs.Machines.{MachineMeaning}
use Rattle.vst_base.specs.declared.entry.Entry.{Entry}
use Rattle.vst_base.specs.declared.step.Item.{Item}
use Rattle.vst_base.specs.declared.step.Item.TheVariants as item
use Rattle.raft_clients.proofs.Once.{applied-answers}
use Rattle.raft_clients.specs.Executed.{executed, request_of, requests}
use Rattle.raft_clients.specs.Executions.{IsAnswered, IsExecution, executions}
use Rattle.raft_free.specs.Events as events
use Rattle.raft_free.specs.Events.{In}
use Rattle.raft_free.specs.Nodes as free
use Rattle.raft_free.specs.Runs.{Run}
use Rattle.raft_free.proofs.Origins.{nothing_invented}
use Rattle.raft_free.proofs.Stepping.{in_append}
use Rattle.lists.specs.Prefixes.{prefix_length, prefix_trans, IsPrefix}
use Rattle.raft_histories.proofs.Logs.{same_less, same_prefix}
use Rattle.raft_types.specs.declared.client.RaftInput.{RaftInput}
use Rattle.raft_types.specs.declared.client.RaftOut.{RaftOut}
use Rattle.raft_types.specs.declared.client.RaftOut.TheVariants as told
use Rattle.linearizability.specs.Linearizable.{HasInput, Seen, Told, told_since}
use Rattle.raft_safety.specs.Applied.{longer}
use Rattle.raft_snapshots.specs.Snapshots.{Install, Installed, PartView, Plain, SnapMsg, SnapNode, Way, snap_keep}
use Rattle.raft_safety.proofs.Acting.{Proposes, Reaches, steps_reach}
use Rattle.raft_safety.proofs.Explaining.{IsAsked, IsExplained, explained_more, in_executed, in_requests, requests_front}
use Rattle.raft_snapshots.proofs.Fronts.{whole_length}
use Rattle.raft_safety.proofs.Listing.{all_in, got_in, in_take}
use Rattle.raft_safety.proofs.Longest.{Compared, Longer, WasApplied, compared, did, was_later}
use Rattle.raft_safety.proofs.Advancing.{Tells}
use Rattle.raft_safety.proofs.Told.{IsTold, told_since-append, told_outputs}
use Rattle.raft_safety.proofs.Mirroring.{IsLike, IsSent, asked_more, proposes_weaker, puts, run_then}
use Rattle.raft_safety.proofs.Turning.{WasAsked, WasPutIn}
use Rattle.snap_safety.specs.Applied.{grown, had_applied}
use Rattle.snap_safety.specs.Mirrors.{IsKeptPart, MirrorsMessage, MirrorsNode, SnapHolds, all_of}
use Rattle.snap_safety.specs.Runs.{SnapWorld}
use Rattle.snap_safety.proofs.Acting.{Does, Kept}
use Rattle.snap_safety.proofs.Longest.{longer_was}
use Rattle.snap_safety.proofs.KindLaws.{Knows, up}
use Rattle.snap_safety.proofs.Snapping.{Is, IsKnown, NotedLast, mirrors_more, noted_last, part_more, snap_law}
use Rattle.snap_safety.proofs.Refining.{Turned}
use Rattle.snap_safety.proofs.Telling.{IsOther, did_all}
use Rattle.snap_safety.proofs.Worlds.{sent_is}

-- of a cluster after what clients have seen, where this is the longest list that was applied
pub record Sofar {S C O : Type 0} (m : MachineMeaning S C O) (way : Way S C O) (n : ℕ) (w : SnapWorld S C O) (seen : Seen C O) (best : List (Entry C)) : Type 0 where
  pub world : free.FreeWorld C
  pub past : List (events.Event C)
  pub run : Run n (free.first_world C) past world
  pub node : (i : ℕ) → MirrorsNode m way world.sent i (w.is_up i) (w.state i) (world.node i)
  pub knows : (i : ℕ) → Knows n (w.state i)
  pub sent : (p : Packet (SnapMsg C)) → In p w.packets → MirrorsMessage m way world.sent p.source p.destination p.content
  pub kept : (i : ℕ) → w.kept i ≡ cond (w.is_up i) None (Some (snap_keep (w.state i)))
  pub ends : (p : Packet (SnapMsg C)) → In p w.packets → (p.source < n) × IsOther n p.source p.destination
  pub fits : (p : Packet (SnapMsg C)) → In p w.packets → IsKnown (length best) p.content
  pub proposed : (e : events.Event C) → In e past → Proposes (WasPutIn seen) e
  pub was : WasApplied n world best
  pub each : (i : ℕ) → IsPrefix (did (world.node i)) best
  pub put_in : (x : Entry C) → In x best → WasPutIn seen x
  pub told : (t : Told C O) → In t (told_since [] seen) → IsExplained m (requests best) t

-- the same later, where free choices led on from a world, and what was applied has only grown
pub record Further {S C O : Type 0} (m : MachineMeaning S C O) (way : Way S C O) (n : ℕ) (start : free.FreeWorld C) (w : SnapWorld S C O) (seen : Seen C O) (old new : List (Entry C)) : Type 0 where
  pub sofar : Sofar m way n w seen new
  pub late : List (events.Event C)
  pub goes : Run n start late sofar.world
  pub front : IsPrefix old new

-- no output is an input
no_input : {I O : Type 0} (node : ℕ) (outputs : List O) (q : I) → HasInput {I = I} {O = O} (map (λ o. item.Output node o) outputs) q → ⊥
no_input node [] q h = h
no_input node (o ∷ outputs) q h = no_input node outputs q h

without_outputs : {I O : Type 0} (xs : List (Item I O)) (node : ℕ) (outputs : List O) (q : I) → HasInput (xs ++ map (λ o. item.Output node o) outputs) q → HasInput xs q
without_outputs [] node outputs q h = no_input node outputs q h
without_outputs (item.Input i r ∷ xs) node outputs q (inl e) = inl e
without_outputs (item.Input i r ∷ xs) node outputs q (inr h) = inr (without_outputs xs node outputs q h)
without_outputs (item.Output i o ∷ xs) node outputs q h = without_outputs xs node outputs q h

execution_of : {C O : Type 0} {xs : List (RaftInput C × O)} {client who request number : ℕ} {output told : O} → client ≡ who → request ≡ number → output ≡ told →
    IsExecution xs client request output → IsExecution xs who number told
execution_of c r o e = record { place = e.place; executed = e.executed; there = e.there ∙ ap (λ o. Some (e.executed, o)) o; client = e.client ∙ c; request = e.request ∙ r }

asked_without : {C O : Type 0} (xs : Seen C O) (node : ℕ) (outputs : List (RaftOut O)) (o : Option (RaftInput C)) → WasAsked (xs ++ map (λ o. item.Output node o) outputs) o → WasAsked xs o
asked_without xs node outputs None h = tt
asked_without xs node outputs (Some r) h = without_outputs xs node outputs r h

pub known_more : {C : Type 0} (a b : ℕ) (message : SnapMsg C) → a ≤ b → IsKnown a message → IsKnown b message
known_more a b (Plain r) le k = tt
known_more a b (Install q) le k = omega arith
known_more a b (Installed q) le k = tt

module _ {S C O : Type 0} (m : MachineMeaning S C O) (way : Way S C O) where
  kept_more : (sent new : List (free.Packet C)) (i : ℕ) (part : Option PartView) → Kept sent new → IsKeptPart m way sent i part → IsKeptPart m way new i part
  kept_more sent new i None k p = tt
  kept_more sent new i (Some part) k p = part_more m way sent new i part k p

  pub holds_more : (sent new : List (free.Packet C)) (i : ℕ) (front : List (Entry C)) (s : SnapNode S C O) → Kept sent new → SnapHolds m way sent i front s → SnapHolds m way new i front s
  holds_more sent new i front s k h = record {
    gone = h.gone;
    gone_term = h.gone_term;
    now = h.now;
    base = h.base;
    behind = h.behind;
    committed = h.committed;
    own = record { snapshot = h.own.snapshot; part = kept_more sent new i s.more.part k h.own.part; places = h.own.places };
  }

  -- how much a node has applied of the whole log
  pub did_long : (sent : List (free.Packet C)) (i : ℕ) (front : List (Entry C)) (s : SnapNode S C O) → SnapHolds m way sent i front s → length (did_all front s) ≡ s.applied
  did_long sent i front s h =
      length-take-le s.applied (front ++ s.log.entries)
      (omega (arith, h.behind, h.committed, whole_length front s.log (record { gone = h.gone; gone_term = h.gone_term })))

module _ {S C O : Type 0} (m : MachineMeaning S C O) (way : Way S C O) (n : ℕ) where
  told_input : (before : Seen C O) (node : ℕ) (i : Option (RaftInput C)) (t : Told C O) → In t (told_since before (input_item node i)) → ⊥
  told_input before node None t h = h
  told_input before node (Some i) t h = h

  -- no node has applied more than the list
  pub within : {w : SnapWorld S C O} {seen : Seen C O} {best : List (Entry C)} (sf : Sofar m way n w seen best) (i : ℕ) → (w.state i).applied ≤ length best
  within {w = w} {best = best} sf i =
      let k = sf.node i in
      let f = rw (k.is) at (prefix_length best (sf.each i)) in
      omega (arith, f, did_long m way sf.world.sent i k.front (w.state i) k.holds)

  pub event_on : {w : SnapWorld S C O} {seen : Seen C O} {best : List (Entry C)} (sf : Sofar m way n w seen best) (e : Event (SnapNode S C O) (RaftInput C) (RaftOut O) (SnapMsg C)) →
      e.node < n → w.is_up e.node ≡ true →
      Turned (snap_law m way n e.node (WasPutIn (seen ++ input_item e.node e.input)) sf.world.sent) sf.world.sent (length best) (λ _. tt) (up (sf.node e.node).front (w.state e.node)) e.effect →
      (ps : List (Packet (SnapMsg C))) → ((p : Packet (SnapMsg C)) → In p ps → IsLike w.packets p) →
      Further m way n sf.world (after_event (with_packets w ps) (Some e)) (seen ++ items_of_event (Some e)) best (grown best e.effect.state)
  event_on {w = w} {seen = seen} {best = best} sf e below is_up turned ps like = record {
    sofar = record {
      world = reach.world;
      past = sf.past ++ d.events;
      run = whole_run;
      node = puts (λ k s. MirrorsNode m way reach.world.sent k (w.is_up k) s (reach.world.node k)) w.state i t mine_mirrors others_mirror;
      knows = puts (λ k s. Knows n s) w.state i t turned.knows (λ k ne. sf.knows k);
      sent = λ p h. elim (in_append p ps (sent_by i e.effect.sends) h) [ inl q ↦ old_packet p (like p q) | inr q ↦ new_packet p (sent_is i e.effect.sends p q) ];
      kept = puts (λ k s. w.kept k ≡ cond (w.is_up k) None (Some (snap_keep s))) w.state i t nothing_kept (λ k ne. sf.kept k);
      ends = λ p h. elim (in_append p ps (sent_by i e.effect.sends) h) [
        | inl q ↦ old_ends p (like p q)
        | inr q ↦ new_ends p (sent_is i e.effect.sends p q)
      ];
      fits = λ p h. elim (in_append p ps (sent_by i e.effect.sends) h) [
        | inl q ↦ old_fits p (like p q)
        | inr q ↦ new_fits p (sent_is i e.effect.sends p q)
      ];
      proposed = all_proposed;
      was = longest.was;
      each = λ k. elim (eqb_tells k i) [
        | inl q ↦ (let f = longest.second in rw (q.1, reach.node) f)
        | inr q ↦ (let f = front_on k in rw (reach.others k q.1) f)
      ];
      put_in = λ x h. elim (longest.one x h) [ inl q ↦ asked_more seen (items_of_event (Some e)) (request_of x) (sf.put_in x q) | inr q ↦ from_did x q ];
      told = λ x h. elim (in_append x (told_since [] seen) (told_since seen (items_of_event (Some e))) (rw (told_since-append [] seen (items_of_event (Some e))) at h)) [
        | inl q ↦ explained_more m (requests best) (requests (grown best t)) x (requests_front (grown best t) longest.first) (sf.told x q)
        | inr q ↦ explained_more m rs (requests (grown best t)) x (requests_front (grown best t) longest.second) (explained x (told_now x q))
      ];
    };
    late = d.events;
    goes = reach.run;
    front = longest.first;
  }
    where
      i : ℕ
      i = e.node

      s : SnapNode S C O
      s = w.state i

      t : SnapNode S C O
      t = e.effect.state

      front : List (Entry C)
      front = (sf.node i).front

      after : List (Entry C)
      after = turned.after

      outputs : Seen C O
      outputs = map (λ o. item.Output i o) e.effect.outputs

      d : Does n i (WasPutIn (seen ++ input_item i e.input)) (Is m way n i (WasPutIn (seen ++ input_item i e.input)) sf.world.sent) sf.world.sent (up front s) (up after t) e.effect.sends
      d = turned.does sf.world.sent (λ p h. h)

      reach : Reaches n i sf.world d.events d.new (up after t)
      reach = steps_reach n i d.events sf.world d.new (up after t) (rw ((sf.node i).is, is_up) d.steps)

      more : Kept sf.world.sent reach.world.sent
      more p h = rw (reach.sent) (d.old p h)

      whole_run : Run n (free.first_world C) (sf.past ++ d.events) reach.world
      whole_run = run_then n sf.past d.events (free.first_world C) sf.world reach.world sf.run reach.run

      mine_mirrors : MirrorsNode m way reach.world.sent i (w.is_up i) t (reach.world.node i)
      mine_mirrors = record { front = after; is = rw is_up (reach.node); holds = holds_more m way sf.world.sent reach.world.sent i after t more turned.holds }

      others_mirror : (k : ℕ) → k ≢ i → MirrorsNode m way reach.world.sent k (w.is_up k) (w.state k) (reach.world.node k)
      others_mirror k ne =
          let x = sf.node k in
          record { front = x.front; is = reach.others k ne ∙ x.is; holds = holds_more m way sf.world.sent reach.world.sent k x.front (w.state k) more x.holds }

      old_packet : (p : Packet (SnapMsg C)) → IsLike w.packets p → MirrorsMessage m way reach.world.sent p.source p.destination p.content
      old_packet p l =
          rw (l.source, l.destination, l.content) (mirrors_more m way sf.world.sent reach.world.sent l.was.source l.was.destination l.was.content more (sf.sent l.was l.there))

      new_packet : (p : Packet (SnapMsg C)) → IsSent i e.effect.sends p → MirrorsMessage m way reach.world.sent p.source p.destination p.content
      new_packet p q = rw (q.is, reach.sent) (d.said q.send q.one)

      nothing_kept : w.kept i ≡ cond (w.is_up i) None (Some (snap_keep t))
      nothing_kept = rw is_up at (sf.kept i) ∙ rw is_up refl

      all_proposed : (x : events.Event C) → In x (sf.past ++ d.events) → Proposes (WasPutIn (seen ++ items_of_event (Some e))) x
      all_proposed x h = elim (in_append x sf.past d.events h) [
        | inl q ↦ proposes_weaker (WasPutIn seen) (WasPutIn (seen ++ items_of_event (Some e))) (λ y p. asked_more seen (items_of_event (Some e)) (request_of y) p) x (sf.proposed x q)
        | inr q ↦ proposes_weaker (WasPutIn (seen ++ input_item i e.input)) (WasPutIn (seen ++ items_of_event (Some e)))
            (λ y p. rw (append_assoc seen (input_item i e.input) outputs) at (asked_more (seen ++ input_item i e.input) outputs (request_of y) p)) x (d.proposed x q)
      ]

      -- what the node has applied now
      all : List (Entry C)
      all = did_all after t

      long : length all ≡ t.applied
      long = did_long m way sf.world.sent i after t turned.holds

      was : WasApplied n reach.world best
      was = was_later d.events reach.run sf.was

      cmp : Compared best all
      cmp = rw (← was.is, reach.node) at (compared was.who i was.moments)

      had : ℕ
      had = had_applied t

      last : NotedLast (length best) after t
      last = noted_last m way n i (WasPutIn (seen ++ input_item i e.input)) sf.world.sent (length best) after t turned.noted

      same_had : take had best ≡ take had all
      same_had = elim (cases_lt (length best) (length all)) [
        | inl less ↦ (same_less had last.from (same_prefix all (cmp.forth (omega arith)))).eq
        | inr le ↦ sym (same_less had (omega (arith, long, last.long)) (same_prefix best (cmp.back le))).eq
      ]

      mine : take had best ++ t.more.just ≡ all
      mine = ap (λ xs. xs ++ t.more.just) same_had ∙ (ap (λ ys. take had all ++ ys) (sym last.is) ∙ take-append-drop had all)

      longest : Longer n reach.world best all (grown best t)
      longest = subst (λ (ys : List (Entry C)). Longer n reach.world best all (longer best ys)) (sym mine) (rw (reach.node) at (longer_was n reach.world best i was))

      old_ends : (p : Packet (SnapMsg C)) → IsLike w.packets p → (p.source < n) × IsOther n p.source p.destination
      old_ends p l = rw (l.source, l.destination) (sf.ends l.was l.there)

      new_ends : (p : Packet (SnapMsg C)) → IsSent i e.effect.sends p → (p.source < n) × IsOther n p.source p.destination
      new_ends p q = rw (q.is) (below, (turned.known q.send q.one).0)

      old_fits : (p : Packet (SnapMsg C)) → IsLike w.packets p → IsKnown (length (grown best t)) p.content
      old_fits p l = rw (l.content) (known_more (length best) (length (grown best t)) l.was.content (prefix_length (grown best t) longest.first) (sf.fits l.was l.there))

      new_fits : (p : Packet (SnapMsg C)) → IsSent i e.effect.sends p → IsKnown (length (grown best t)) p.content
      new_fits p q =
          let f = prefix_length (grown best t) longest.second in
          rw (q.is) (known_more t.applied (length (grown best t)) q.send.1 (omega (arith, f, long)) (turned.known q.send q.one).1)

      front_on : (k : ℕ) → IsPrefix (did (sf.world.node k)) (grown best t)
      front_on k = prefix_trans (grown best t) (sf.each k) longest.first

      from_log : (x : Entry C) → In x (reach.world.node i).log → WasPutIn (seen ++ items_of_event (Some e)) x
      from_log x h =
          let o = nothing_invented C n reach.world (sf.past ++ d.events) i x whole_run h in
          all_proposed (events.Propose o.0 x) o.1

      from_did : (x : Entry C) → In x all → WasPutIn (seen ++ items_of_event (Some e)) x
      from_did x h = from_log x (rw (reach.node) (in_take x t.applied (after ++ t.log.entries) h))

      told_now : (x : Told C O) → In x (told_since seen (items_of_event (Some e))) → IsTold (seen ++ input_item i e.input) e.effect.outputs x
      told_now x h =
          elim (in_append x (told_since seen (input_item i e.input)) (told_since (seen ++ input_item i e.input) outputs) (rw (told_since-append seen (input_item i e.input) outputs) at h))
          [ inl q ↦ absurd (told_input seen i e.input x q) | inr q ↦ told_outputs (seen ++ input_item i e.input) i e.effect.outputs x q ]

      rs : List (RaftInput C)
      rs = requests all

      was_put_in : (x : Entry C) → In x all → WasPutIn (seen ++ input_item i e.input) x
      was_put_in x h =
          asked_without (seen ++ input_item i e.input) i e.effect.outputs (request_of x) (rw (append_assoc seen (input_item i e.input) outputs) (from_did x h))

      explained : (x : Told C O) → IsTold (seen ++ input_item i e.input) e.effect.outputs x → IsExplained m rs x
      explained x told_it = record { execution = execution; in_time = λ k y le at. told_it.later y (in_time y (in_requests y all (in_executed y rs (got_in (executed rs) k y at)))) }
        where
          tells : Tells (all_of m all).answers x.client x.request x.output
          tells = turned.told (told.Reply x.client x.request x.output) told_it.one

          a : IsAnswered (executions m rs) tells.answer
          a = all_in (IsAnswered (executions m rs)) (all_of m all).answers tells.answer (applied-answers m all) tells.one

          same : a.asked ≡ tells.asked
          same = let both : Some a.asked ≡ Some tells.asked = sym a.by ∙ tells.by in cc (both)

          execution : IsExecution (executions m rs) x.client x.request x.output
          execution = execution_of (ap (λ r. r.client) same ∙ tells.whom) (ap (λ r. r.request) same ∙ tells.number) tells.with_it a.execution

          in_time : (y : RaftInput C) → IsAsked y all → HasInput (seen ++ input_item i e.input) y
          in_time y q = rw (q.by) at (was_put_in q.entry q.one)
