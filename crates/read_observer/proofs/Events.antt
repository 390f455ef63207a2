-- Where a step is an event, and which reads it answers.
use Rattle.std.proofs.Common.{◌≡◌, ℕ, ◌<◌, Bool, true, false, cond, not, eqb, ltb, List, [], ◌∷◌, ◌++◌, map, Option, Some, None, slice_get, refl, sym, ap, subst, ◌∙◌}
use Rattle.std.proofs.lemmas.Bool.{eq-eqb, lt-ltb, ltb-true}
use Rattle.std.proofs.lemmas.List.{append-nil}
use Rattle.std.proofs.lemmas.Option.{none-some, same_Some}
use Rattle.std.specs.Option.{option_map}
use Rattle.std.specs.Prelude.{IfSome}
use Rattle.handler_trait.specs.Handling.{Recovery}
use Rattle.net_semantics.specs.Runs.{run}
use Rattle.net_semantics.specs.Steps.{Event, after_event, after_network, delivery, event_of, fails, node_of, refusals}
use Rattle.net_semantics.specs.Worlds.{Packet, ends, ends_of}
use Rattle.vst_base.specs.Firsts.{first_of}
use Rattle.vst_base.specs.declared.net.Net.TheVariants as net
use Rattle.vst_base.specs.declared.step.Step.{Step}
use Rattle.vst_base.specs.declared.step.Step.TheVariants as step
use Rattle.raft_types.specs.Messages.{KeptView}
use Rattle.raft_types.specs.Rounds.{ReadMsg}
use Rattle.raft_types.specs.declared.client.RaftInput.{RaftInput}
use Rattle.raft_types.specs.declared.client.RaftOut.{RaftOut}
use Rattle.raft_reads.specs.Clusters.{ReadCluster, ReadWorld, handlers, recovery, world_after}
use Rattle.raft_reads.specs.Erasing.{erased, erased_step}
use Rattle.raft_reads.specs.Reads.{ReadView}
use Rattle.raft_reads.proofs.Erasing.{erased_append}
use Rattle.raft_safety.specs.Runs as raft_runs
use Rattle.reads_safety.specs.Orders.{answered, answered_in}
use Rattle.reads_safety.specs.Runs.{IsRun}
use Rattle.reads_safety.proofs.Erased.{erased_after}
use Rattle.reads_safety.proofs.Reading.{answered_last}
use Rattle.reads_safety.proofs.Rounds.{after_step, taken_last}
use Rattle.raft_reads.specs.Clusters.{first}
use Rattle.read_observer.specs.Observed.{IsPlace}

-- whether the second of these applies
abbrev at_second : {R : Type 0} → List (R × Bool) → Bool
at_second [] = false
at_second (x ∷ []) = false
at_second (x ∷ y ∷ rest) = y.1

second : {R : Type 0} (xs : List (R × Bool)) → first_of xs ≡ None → at_second xs ≡ false
second [] none = refl
second (x ∷ []) none = refl
second (x ∷ y ∷ rest) none = go x.1 y.1 none
  where
    go : (a b : Bool) → cond a (Some x.0) (cond b (Some y.0) (first_of rest)) ≡ None → b ≡ false
    go true b is = absurd (cc (is))
    go false true is = absurd (cc (is))
    go false false is = refl

holds : (b : Bool) → not b ≡ false → b ≡ true
holds true h = refl
holds false h = absurd (cc (h))

module _ {S C O : Type 0} (c : ReadCluster S C O) where
  abbrev Happens : Type 0
  Happens = Option (Event (ReadView S C O) (RaftInput C) (RaftOut O) (ReadMsg C))

  -- the node of what happens
  abbrev pub place_in : Happens → Option ℕ
  place_in o = option_map (λ e. e.node) o

  -- the node that a step names exists, where the step is taken
  named_exists : (ss : List (Step (RaftInput C))) (s : Step (RaftInput C)) (n : ℕ) → node_of s ≡ Some n → IsRun c (ss ++ s ∷ []) → n < c.nodes
  named_exists ss s n named r =
      let test : fails (node_of s) (λ i. ltb i c.nodes) ≡ false = second (refusals net.Fail (handlers c) (world_after c ss) s) (taken_last c ss s r) in
      ltb-true n c.nodes (holds (ltb n c.nodes) (sym (ap (λ o. fails o (λ i. ltb i c.nodes)) named) ∙ test))

  module _ (k : Recovery (ReadView S C O) (KeptView C)) (ss : List (Step (RaftInput C))) where
    abbrev w : ReadWorld S C O
    w = run (handlers c) k ss

    chosen_below : (b : Bool) (n : ℕ) (at : Option ℕ) → ltb n c.nodes ≡ b → at ≡ cond b (Some n) None → IfSome at (λ x. x < c.nodes)
    chosen_below true n at t is = subst (λ o. IfSome o (λ x. x < c.nodes)) (sym is) (ltb-true n c.nodes t)
    chosen_below false n at t is = subst (λ o. IfSome o (λ x. x < c.nodes)) (sym is) tt

    -- a step that names the node of its event
    pub named_place : (s : Step (RaftInput C)) (n : ℕ) (node : Option ℕ) → node_of s ≡ Some n → place_in (event_of (handlers c) w s) ≡ Some n
        → node ≡ cond (ltb n c.nodes) (Some n) None → IsPlace c k node ss s
    named_place s n node named at is = record {
      is = λ r. is ∙ ap (λ b. cond b (Some n) None) (lt-ltb n c.nodes (named_exists ss s n named r)) ∙ sym at;
      below = chosen_below (ltb n c.nodes) n node refl is;
    }

    -- a step that is none
    pub no_place : (s : Step (RaftInput C)) → place_in (event_of (handlers c) w s) ≡ None → IsPlace c k None ss s
    no_place s at = record { is = λ r. sym at; below = tt }

    delivered_at : (o : Option (Packet (ReadMsg C))) (e : Option (ℕ × ℕ)) → e ≡ ends_of o → place_in (delivery (handlers c) w o) ≡ option_map (λ x. x.1) e
    delivered_at None e is = ap (option_map (λ x. x.1)) (sym is)
    delivered_at (Some p) e is = ap (option_map (λ x. x.1)) (sym is)

    -- what is delivered
    pub delivery_place : (p : ℕ) (e : Option (ℕ × ℕ)) → e ≡ ends w p → IfSome e (λ x. x.1 < c.nodes)
        → IsPlace c k (option_map (λ x. x.1) e) ss (step.Deliver p)
    delivery_place p e is below = record {
      is = λ r. sym (delivered_at (slice_get w.packets p) e is);
      below = go e below;
    }
      where
        go : (e : Option (ℕ × ℕ)) → IfSome e (λ x. x.1 < c.nodes) → IfSome (option_map (λ x. x.1) e) (λ n. n < c.nodes)
        go None h = tt
        go (Some x) h = h

  -- what a node has answered after an event
  answered_by_event : (v : ReadWorld S C O) (o : Happens) (n : ℕ) → place_in o ≡ Some n
      → map (λ x. (((after_event v o).state n).raft.applied, x.input)) ((after_event v o).state n).answered ≡ answered_in o
  answered_by_event v None n at = absurd (none-some n at)
  answered_by_event v (Some e) n at =
      let node : e.node ≡ n = same_Some e.node n at in
      let self : eqb n e.node ≡ true = eq-eqb n e.node (sym node) in
      ap (λ b. map (λ x. ((cond b e.effect.state (v.state n)).raft.applied, x.input)) (cond b e.effect.state (v.state n)).answered) self

  nothing_answered : (o : Happens) → place_in o ≡ None → answered_in o ≡ []
  nothing_answered None at = refl
  nothing_answered (Some e) at = absurd (cc (at))

  module _ (ss : List (Step (RaftInput C))) (s : Step (RaftInput C)) (r : IsRun c (ss ++ s ∷ [])) where
    -- where a step is an event at a node, the reads that it answers are those that the node has answered then
    pub answered-at : (n : ℕ) → IsPlace c (recovery c) (Some n) ss s →
        answered c ss ++ map (λ x. (((world_after c (ss ++ s ∷ [])).state n).raft.applied, x.input)) ((world_after c (ss ++ s ∷ [])).state n).answered
        ≡ answered c (ss ++ s ∷ [])
    answered-at n place =
        let o = event_of (handlers c) (world_after c ss) s in
        let v = after_network (recovery c) (world_after c ss) s in
        ap (λ x. answered c ss ++ map (λ y. ((x.state n).raft.applied, y.input)) (x.state n).answered) (after_step c ss s)
        ∙ ap (λ ys. answered c ss ++ ys) (answered_by_event v o n (sym (place.is r))) ∙ sym (answered_last c ss s)

    pub answered-nowhere : IsPlace c (recovery c) None ss s → answered c ss ≡ answered c (ss ++ s ∷ [])
    answered-nowhere place =
        sym (answered_last c ss s ∙ ap (λ ys. answered c ss ++ ys) (nothing_answered (event_of (handlers c) (world_after c ss) s) (sym (place.is r)))
        ∙ append-nil (answered c ss))

  -- the schedules of Raft of those that a network may have followed
  abbrev pub Stands : (List (Step (RaftInput C)) → Type 0) → List (Step (RaftInput C)) → Type 0
  Stands follows ts = (ss : List (Step (RaftInput C))) × (ts ≡ erased c ss) × follows ss

  pub erased_state : (ss : List (Step (RaftInput C))) (n : ℕ) (x : ReadView S C O) → x ≡ (world_after c ss).state n →
      x.raft ≡ (raft_runs.world_after c.machine c.nodes (erased c ss)).state n
  erased_state ss n x is = ap (λ s. s.raft) is ∙ ap (λ v. v.state n) (erased_after c ss)

  pub erased-more : (ss : List (Step (RaftInput C))) (s : Step (RaftInput C)) → erased c (ss ++ s ∷ []) ≡ erased c ss ++ erased_step c (world_after c ss) s ∷ []
  erased-more ss s = erased_append c (first c) ss (s ∷ [])
