-- What always holds of a cluster, of what clients have seen and of what was applied.
use Rattle.std.proofs.Common.{◌≡◌, ℕ, ◌<◌, ◌≤◌, List, [], ◌∷◌, ◌++◌, map, take, Option, Some, None, inl, inr, refl, sym, ap, ◌∙◌, append_assoc, append-nil, arith}
use Rattle.std.proofs.lemmas.Bool.{eq-eqb}
use Rattle.net_semantics.specs.Runs.{run_from, trace_from}
use Rattle.net_semantics.specs.Steps.{Event, after_event, copied, event_in, input_item, items_in, items_of, items_of_event, next, next_in, rebooted, with_packets}
use Rattle.net_semantics.specs.Worlds.{Packet, change_at, first_world, put}
use Rattle.vst_base.specs.Machines.{MachineMeaning}
use Rattle.vst_base.specs.declared.entry.Entry.{Entry}
use Rattle.vst_base.specs.declared.step.Item.{Item}
use Rattle.vst_base.specs.declared.step.Item.TheVariants as item
use Rattle.vst_base.specs.declared.step.Step.{Step}
use Rattle.vst_base.specs.Nets.{AtNode, OfPacket, Starts, StepView, Stops, view_of}
use Rattle.raft_clients.proofs.Once.{applied-answers}
use Rattle.raft_clients.specs.Executed.{executed, request_of, requests}
use Rattle.raft_clients.specs.Executions.{IsAnswered, IsExecution, executions}
use Rattle.raft_free.specs.Events as events
use Rattle.raft_free.specs.Events.{In}
use Rattle.raft_free.specs.Nodes as free
use Rattle.raft_free.specs.Runs.{Run}
use Rattle.raft_free.proofs.Applied.{state_machine_safety}
use Rattle.raft_free.proofs.Origins.{nothing_invented}
use Rattle.raft_free.proofs.Stepping.{in_append}
use Rattle.raft_types.specs.Messages.{KeptView, IsClusterSize}
use Rattle.raft_types.specs.declared.client.RaftInput.{RaftInput}
use Rattle.raft_types.specs.declared.client.RaftOut.{RaftOut}
use Rattle.raft_types.specs.declared.client.RaftOut.TheVariants as told
use Rattle.raft_types.specs.declared.msg.RaftMsg.{RaftMsg}
use Rattle.raft_xform.specs.Nodes.{RaftView}
use Rattle.raft_xform.specs.Raft.{raft, raft_recovery}
use Rattle.raft_safety.specs.Applied.{applied_list, applied_lists, longest, longest_from}
use Rattle.raft_safety.specs.Runs.{RaftWorld, seen}
use Rattle.linearizability.specs.Linearizable.{HasInput, Seen, Told, told_since}
use Rattle.raft_safety.specs.Mirrors.{Mirrors}
use Rattle.raft_safety.proofs.Acting.{Proposes}
use Rattle.raft_safety.proofs.Advancing.{Tells, news}
use Rattle.raft_safety.proofs.Computing.{Computes, GoesOn, all_of, goes_on}
use Rattle.raft_safety.proofs.Explaining.{IsAsked, IsExplained, explained_more, in_executed, in_requests, requests_front}
use Rattle.raft_safety.proofs.Freed.{node_is}
use Rattle.raft_safety.proofs.Listing.{all_in, got_in, in_take}
use Rattle.raft_safety.proofs.Longest.{Best, WasApplied, longest_is_best, was_later}
use Rattle.raft_safety.proofs.Mirroring.{AreTaken, Goes, asked_more, first_mirror, first_stands, first_taken, proposes_weaker, puts, run_then, step_goes}
use Rattle.raft_safety.proofs.Told.{IsTold, told_since-append, told_outputs}
use Rattle.raft_safety.proofs.Turning.{IsTakenIn, Stands, Turn, WasAsked, WasPutIn, turn}
use Rattle.lists.specs.Prefixes.{IsPrefix, prefix_nil, prefix_self, prefix_trans}

-- of a cluster after what clients have seen, where this is the longest list that was applied
pub record Sofar {S C O : Type 0} (m : MachineMeaning S C O) (n : ℕ) (w : RaftWorld S C O) (seen : Seen C O) (best : List (Entry C)) : Type 0 where
  pub world : free.FreeWorld C
  pub past : List (events.Event C)
  pub run : Run n (free.first_world C) past world
  pub mirrors : Mirrors w world
  pub stands : Stands m n w
  pub proposed : (e : events.Event C) → In e past → Proposes (WasPutIn seen) e
  pub was : WasApplied n world best
  pub each : (i : ℕ) → i < n → IsPrefix (applied_list (w.state i)) best
  pub computes : (i : ℕ) → Computes m (w.state i)
  pub put_in : (x : Entry C) → In x best → WasPutIn seen x
  pub told : (t : Told C O) → In t (told_since [] seen) → IsExplained m (requests best) t

-- the same later, where what was applied has only grown
pub record Further {S C O : Type 0} (m : MachineMeaning S C O) (n : ℕ) (w : RaftWorld S C O) (seen : Seen C O) (old new : List (Entry C)) : Type 0 where
  pub sofar : Sofar m n w seen new
  pub front : IsPrefix old new

-- an output that a client was told is explained by what a node has applied
pub record IsExplainedAt {S C O : Type 0} (m : MachineMeaning S C O) (n : ℕ) (w : RaftWorld S C O) (t : Told C O) : Type 0 where
  pub node : ℕ
  pub below : node < n
  pub explained : IsExplained m (requests (applied_list (w.state node))) t

-- no output is an input
no_input : {I O : Type 0} (node : ℕ) (outputs : List O) (q : I) → HasInput {I = I} {O = O} (map (λ o. item.Output node o) outputs) q → ⊥
no_input node [] q h = h
no_input node (o ∷ outputs) q h = no_input node outputs q h

without_outputs : {I O : Type 0} (xs : List (Item I O)) (node : ℕ) (outputs : List O) (q : I) → HasInput (xs ++ map (λ o. item.Output node o) outputs) q → HasInput xs q
without_outputs [] node outputs q h = no_input node outputs q h
without_outputs (item.Input i r ∷ xs) node outputs q (inl e) = inl e
without_outputs (item.Input i r ∷ xs) node outputs q (inr h) = inr (without_outputs xs node outputs q h)
without_outputs (item.Output i o ∷ xs) node outputs q h = without_outputs xs node outputs q h

execution_of : {C O : Type 0} {xs : List (RaftInput C × O)} {client who request number : ℕ} {output told : O} → client ≡ who → request ≡ number → output ≡ told →
    IsExecution xs client request output → IsExecution xs who number told
execution_of c r o e = record { place = e.place; executed = e.executed; there = e.there ∙ ap (λ o. Some (e.executed, o)) o; client = e.client ∙ c; request = e.request ∙ r }

asked_without : {C O : Type 0} (xs : Seen C O) (node : ℕ) (outputs : List (RaftOut O)) (o : Option (RaftInput C)) → WasAsked (xs ++ map (λ o. item.Output node o) outputs) o → WasAsked xs o
asked_without xs node outputs None h = tt
asked_without xs node outputs (Some r) h = without_outputs xs node outputs r h

module _ {S C O : Type 0} (m : MachineMeaning S C O) (n : ℕ) where
  all_proposed : {w v : RaftWorld S C O} {seen : Seen C O} {best : List (Entry C)} (more : Seen C O) (sf : Sofar m n w seen best) (g : Goes m n sf.world v (seen ++ more)) →
      (e : events.Event C) → In e (sf.past ++ g.late) → Proposes (WasPutIn (seen ++ more)) e
  all_proposed {seen = seen} more sf g e h =
      elim (in_append e sf.past g.late h)
      [ inl q ↦ proposes_weaker (WasPutIn seen) (WasPutIn (seen ++ more)) (λ x p. asked_more seen more (request_of x) p) e (sf.proposed e q) | inr q ↦ g.proposed e q ]

  whole_run : {w v : RaftWorld S C O} {seen : Seen C O} {best : List (Entry C)} (more : Seen C O) (sf : Sofar m n w seen best) (g : Goes m n sf.world v (seen ++ more)) →
      Run n (free.first_world C) (sf.past ++ g.late) g.world
  whole_run more sf g = run_then n sf.past g.late (free.first_world C) sf.world g.world sf.run g.run

  -- clients put in what each entry of a log asks for
  from_log : {w v : RaftWorld S C O} {seen : Seen C O} {best : List (Entry C)} (more : Seen C O) (sf : Sofar m n w seen best) (g : Goes m n sf.world v (seen ++ more)) →
      (i : ℕ) (x : Entry C) → In x (v.state i).log → WasPutIn (seen ++ more) x
  from_log {v = v} more sf g i x h =
      let o = nothing_invented C n g.world (sf.past ++ g.late) i x (whole_run more sf g) (rw (node_is g.mirrors i) h) in
      all_proposed more sf g (events.Propose o.0 x) o.1

  -- what a node has applied stays in its log, unless it starts again
  stays : {w v : RaftWorld S C O} {seen : Seen C O} {best : List (Entry C)} (more : Seen C O) (sf : Sofar m n w seen best) (g : Goes m n sf.world v (seen ++ more)) →
      (i : ℕ) → (w.state i).applied ≤ (v.state i).applied → take (w.state i).applied (w.state i).log ≡ take (w.state i).applied (v.state i).log
  stays {w = w} {v = v} more sf g i le =
      let s = rw (node_is sf.mirrors i, node_is g.mirrors i) at (state_machine_safety C n sf.world g.world i i (w.state i).applied (record { early = sf.past; late = g.late; before = sf.run; after = g.run })) in
      (s (omega arith) le).0.1

  sofar_on : {w v : RaftWorld S C O} {seen : Seen C O} {best : List (Entry C)} (more : Seen C O) (sf : Sofar m n w seen best) (g : Goes m n sf.world v (seen ++ more)) →
      ((i : ℕ) → Computes m (v.state i)) → ((t : Told C O) → In t (told_since seen more) → IsExplainedAt m n v t) → Further m n v (seen ++ more) best (longest n (applied_lists v) best)
  sofar_on {w = w} {v = v} {seen = seen} {best = best} more sf g computes explained = record {
    sofar = record {
      world = g.world;
      past = sf.past ++ g.late;
      run = whole_run more sf g;
      mirrors = g.mirrors;
      stands = g.stands;
      proposed = all_proposed more sf g;
      was = b.was;
      each = b.each;
      computes = computes;
      put_in = b.all (λ x h. asked_more seen more (request_of x) (sf.put_in x h)) (λ i x h. from_log more sf g i x (in_take x (v.state i).applied (v.state i).log h));
      told = λ t h. elim (in_append t (told_since [] seen) (told_since seen more) (rw (told_since-append [] seen more) at h)) [
        | inl q ↦ explained_more m (requests best) (requests (longest n (applied_lists v) best)) t (requests_front _ b.front) (sf.told t q)
        | inr q ↦ (let x = explained t q in explained_more m (requests (applied_list (v.state x.node))) (requests (longest n (applied_lists v) best)) t (requests_front _ (b.each x.node x.below)) x.explained)
      ];
    };
    front = b.front;
  }
    where
      b : Best (WasPutIn (seen ++ more)) n v g.world n best (longest n (applied_lists v) best)
      b = longest_is_best (WasPutIn (seen ++ more)) n v g.world g.mirrors best (was_later g.late g.run sf.was) n

  told_input : (before : Seen C O) (node : ℕ) (i : Option (RaftInput C)) (t : Told C O) → In t (told_since before (input_item node i)) → ⊥
  told_input before node None t h = h
  told_input before node (Some i) t h = h

  event_on : {w : RaftWorld S C O} {seen : Seen C O} {best : List (Entry C)} (sf : Sofar m n w seen best) (e : Event (RaftView S C O) (RaftInput C) (RaftOut O) (RaftMsg C)) → Turn m n w sf.world seen e →
      (ps : List (Packet (RaftMsg C))) → Goes m n sf.world (after_event (with_packets w ps) (Some e)) (seen ++ items_of_event (Some e)) →
      Further m n (after_event (with_packets w ps) (Some e)) (seen ++ items_of_event (Some e)) best (longest n (applied_lists (after_event (with_packets w ps) (Some e))) best)
  event_on {w = w} {seen = seen} {best = best} sf e t ps g =
      sofar_on (items_of_event (Some e)) sf g (puts (λ k s. Computes m s) w.state i e.effect.state on.computes (λ k ne. sf.computes k))
      (λ x h. record { node = i; below = t.below; explained = rw here (explained x (told_now x h)) })
    where
      i : ℕ
      i = e.node

      v : RaftWorld S C O
      v = after_event (with_packets w ps) (Some e)

      here : put w.state i e.effect.state i ≡ e.effect.state
      here = rw (eq-eqb i i refl) refl

      kept : take (w.state i).applied e.effect.state.log ≡ take (w.state i).applied (w.state i).log
      kept = sym ((rw here at (stays (items_of_event (Some e)) sf g i)) t.refined.advances.no_less)

      on : GoesOn m (w.state i) e.effect
      on = goes_on m (w.state i) e.effect (sf.computes i) t.refined.advances kept

      outputs : Seen C O
      outputs = map (λ o. item.Output i o) e.effect.outputs

      told_now : (x : Told C O) → In x (told_since seen (items_of_event (Some e))) → IsTold (seen ++ input_item i e.input) e.effect.outputs x
      told_now x h =
          elim (in_append x (told_since seen (input_item i e.input)) (told_since (seen ++ input_item i e.input) outputs) (rw (told_since-append seen (input_item i e.input) outputs) at h))
          [ inl q ↦ absurd (told_input seen i e.input x q) | inr q ↦ told_outputs (seen ++ input_item i e.input) i e.effect.outputs x q ]

      was_put_in : (x : Entry C) → In x e.effect.state.log → WasPutIn (seen ++ input_item i e.input) x
      was_put_in x h =
          asked_without (seen ++ input_item i e.input) i e.effect.outputs (request_of x)
          (rw (append_assoc seen (input_item i e.input) outputs) (from_log (items_of_event (Some e)) sf g i x (rw here h)))

      rs : List (RaftInput C)
      rs = requests (applied_list e.effect.state)

      explained : (x : Told C O) → IsTold (seen ++ input_item i e.input) e.effect.outputs x → IsExplained m rs x
      explained x told_it = record { execution = execution; in_time = λ k y le at. told_it.later y (in_time y (in_requests y (applied_list e.effect.state) (in_executed y rs (got_in (executed rs) k y at)))) }
        where
          tells : Tells (news m (w.state i) e.effect.state).answers x.client x.request x.output
          tells = t.refined.advances.told (told.Reply x.client x.request x.output) told_it.one

          a : IsAnswered (executions m rs) tells.answer
          a = all_in (IsAnswered (executions m rs)) (all_of m (applied_list e.effect.state)).answers tells.answer (applied-answers m (applied_list e.effect.state)) (on.answers tells.answer tells.one)

          same : a.asked ≡ tells.asked
          same = let both : Some a.asked ≡ Some tells.asked = sym a.by ∙ tells.by in cc (both)

          execution : IsExecution (executions m rs) x.client x.request x.output
          execution = execution_of (ap (λ r. r.client) same ∙ tells.whom) (ap (λ r. r.request) same ∙ tells.number) tells.with_it a.execution

          in_time : (y : RaftInput C) → IsAsked y (applied_list e.effect.state) → HasInput (seen ++ input_item i e.input) y
          in_time y q = rw (q.by) at (was_put_in q.entry (in_take q.entry e.effect.state.applied e.effect.state.log q.one))

  -- nothing happens at a node
  quiet_on : {w v : RaftWorld S C O} {seen : Seen C O} {best : List (Entry C)} (sf : Sofar m n w seen best) → ((i : ℕ) → Computes m (v.state i)) → Goes m n sf.world v (seen ++ []) →
      Further m n v (seen ++ []) best (longest n (applied_lists v) best)
  quiet_on sf computes g = sofar_on [] sf g computes (λ t h. absurd h)

  -- a step that the network takes
  step_on : {w : RaftWorld S C O} {seen : Seen C O} {best : List (Entry C)} (sf : Sofar m n w seen best) (s : StepView (RaftInput C)) → IsTakenIn m n w s →
      Further m n (next_in (raft n m) (raft_recovery m) w s) (seen ++ items_in (raft n m) w s) best (longest n (applied_lists (next_in (raft n m) (raft_recovery m) w s)) best)
  step_on {w = w} {seen = seen} sf (AtNode i q) taken =
      event_on sf _ (turn m n w sf.world seen sf.mirrors sf.stands (AtNode i q) taken _ refl) w.packets (step_goes m n w sf.world seen sf.mirrors sf.stands (AtNode i q) taken)
  step_on {w = w} {seen = seen} {best = best} sf (OfPacket k fate) taken = by_event (event_in (raft n m) w (OfPacket k fate)) refl (step_goes m n w sf.world seen sf.mirrors sf.stands (OfPacket k fate) taken)
    where
      ps : List (Packet (RaftMsg C))
      ps = change_at (copied fate) k w.packets

      by_event : (o : Option (Event (RaftView S C O) (RaftInput C) (RaftOut O) (RaftMsg C))) → event_in (raft n m) w (OfPacket k fate) ≡ o →
          Goes m n sf.world (after_event (with_packets w ps) o) (seen ++ items_of_event o) →
          Further m n (after_event (with_packets w ps) o) (seen ++ items_of_event o) best (longest n (applied_lists (after_event (with_packets w ps) o)) best)
      by_event None at g = quiet_on sf sf.computes g
      by_event (Some e) at g = event_on sf e (turn m n w sf.world seen sf.mirrors sf.stands (OfPacket k fate) taken e at) ps g
  step_on {w = w} {seen = seen} sf (Stops i) taken = quiet_on sf sf.computes (step_goes m n w sf.world seen sf.mirrors sf.stands (Stops i) taken)
  step_on {w = w} {seen = seen} sf (Starts i) taken = quiet_on sf (rebooted_computes (w.kept i)) (step_goes m n w sf.world seen sf.mirrors sf.stands (Starts i) taken)
    where
      rebooted_computes : (o : Option (KeptView C)) (k : ℕ) → Computes m ((rebooted (raft_recovery m) w i o).state k)
      rebooted_computes None k = sf.computes k
      rebooted_computes (Some kept) k = puts (λ j s. Computes m s) w.state i ((raft_recovery m).reboot i kept) (record { machine = refl; sessions = refl }) (λ j ne. sf.computes j) k

  pub run_on : (ss : List (Step (RaftInput C))) {w : RaftWorld S C O} {seen : Seen C O} {best : List (Entry C)} (sf : Sofar m n w seen best) → AreTaken m n w ss →
      Further m n (run_from (raft n m) (raft_recovery m) w ss) (seen ++ trace_from (raft n m) (raft_recovery m) w ss) best (longest_from applied_lists m n w best ss)
  run_on [] {seen = seen} {best = best} sf taken = rw (append-nil seen) (record { sofar = sf; front = prefix_self best })
  run_on (s ∷ ss) {w = w} {seen = seen} {best = best} sf taken =
      let t = first_taken m n w s ss taken in
      let after = next (raft n m) (raft_recovery m) w s in
      let a = step_on sf (view_of s) t.0 in
      let b = rw (append_assoc seen (items_of (raft n m) w s) (trace_from (raft n m) (raft_recovery m) after ss)) at (run_on ss a.sofar t.1) in
      record { sofar = b.sofar; front = prefix_trans _ a.front b.front }

  pub first_sofar : IsClusterSize n → Sofar m n (first_world (raft n m)) [] []
  first_sofar size = record {
    world = free.first_world C;
    past = [];
    run = refl;
    mirrors = first_mirror m n;
    stands = first_stands m n size;
    proposed = λ e h. absurd h;
    was = record { at = free.first_world C; who = 0; moments = record { early = []; late = []; before = refl; after = refl }; is = refl };
    each = λ i below. prefix_nil [];
    computes = λ i. record { machine = refl; sessions = refl };
    put_in = λ x h. absurd h;
    told = λ t h. absurd h;
  }
