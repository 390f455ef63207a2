-- No client is told an output of a read that was dropped.
use Rattle.std.proofs.Common.{◌≡◌, ℕ, inl, inr, true, false, Some, List, [], ◌∷◌, ◌++◌, map, refl, sym, ap, ◌∙◌, append_assoc}
use Rattle.std.proofs.lemmas.Bool.{false≢true}
use Rattle.net_semantics.specs.Steps.{event_of}
use Rattle.vst_base.specs.declared.step.Item.TheVariants as item
use Rattle.vst_base.specs.declared.step.Step.{Step}
use Rattle.vst_base.specs.declared.step.Step.TheVariants as step
use Rattle.raft_free.specs.Events.{In}
use Rattle.raft_free.proofs.Stepping.{in_append}
use Rattle.raft_types.specs.declared.client.RaftInput.{RaftInput}
use Rattle.raft_types.specs.declared.client.RaftOut.TheVariants as told
use Rattle.linearizability.specs.Linearizable.{Seen, beside, is_named, told_by, told_since, with_outputs}
use Rattle.raft_safety.specs.Applied.{executed_by}
use Rattle.raft_safety.proofs.Listing.{each_in}
use Rattle.raft_reads.specs.Clusters.{ReadCluster, first, seen, world_after}
use Rattle.raft_reads.specs.Erasing.{erased}
use Rattle.raft_reads.specs.ReadRaft.{read_raft, read_reply}
use Rattle.reads_safety.specs.Orders.{answered, answered_from}
use Rattle.reads_safety.specs.Runs.{ArePairsUnused, IsRun}
use Rattle.reads_safety.specs.Safety.{DroppedIsUntold, HasWaited, IsGone}
use Rattle.reads_safety.proofs.Acts.{act}
use Rattle.reads_safety.proofs.Gone.{dropped_is_gone}
use Rattle.reads_safety.proofs.Linear.{Keys, answered_by, apart_of, done, in_at, in_back, is_read_of, keys_are, keys_grow, outputs_in, raft_told, tolds}
use Rattle.reads_safety.proofs.Placing.{asked, beside_in, named_itself}
use Rattle.reads_safety.proofs.Reading.{answered_append, in_map}
use Rattle.reads_safety.proofs.Rounds.{run_front, taken_last}
use Rattle.reads_safety.proofs.Tracing.{in_front}

-- what stands in what clients see is told
told_there : {C O : Type 0} (before xs : Seen C O) (node client request : ℕ) (o : O) → In (item.Output node (told.Reply client request o)) xs →
    (b : Seen C O) × In (record { client = client; request = request; output = o; before = b }) (told_since before xs)
told_there before [] node client request o h = absurd h
told_there before (x ∷ xs) node client request o (inl e) = (before, rw (← e) (inl refl))
told_there before (x ∷ xs) node client request o (inr h) =
    let k = told_there (before ++ x ∷ []) xs node client request o h in
    (k.0, in_back _ (told_by before x) (told_since (before ++ x ∷ []) xs) k.1)

module _ {S C O : Type 0} (c : ReadCluster S C O) (ss : List (Step (RaftInput C))) (r : IsRun c ss) (u : ArePairsUnused c ss) (i : RaftInput C) where
  module _ (w : HasWaited S C O c ss i) (g : IsGone S C O c ss i) (early : List (Step (RaftInput C))) (s : Step (RaftInput C)) (late : List (Step (RaftInput C))) (is : (early ++ s ∷ []) ++ late ≡ ss) where
    now : IsRun c (early ++ s ∷ [])
    now = run_front c (early ++ s ∷ []) late (rw is r)

    -- Raft executes no request of its name
    not_by_raft : (o : O) → beside i.client i.request (with_outputs c.machine (executed_by c.machine c.nodes (erased c (early ++ s ∷ [])))) ≡ Some o → ⊥
    not_by_raft o e =
        let its = beside_in c.machine c.machine.init i.client i.request (asked (Keys c (early ++ s ∷ []))) o (rw (keys_are c (early ++ s ∷ [])) e) in
        let key = in_map (λ (p : ℕ × RaftInput C). p.1) (Keys c (early ++ s ∷ [])) its.0 its.1 in
        let named : is_named i.client i.request key.0.1 ≡ true = ap (is_named i.client i.request) (sym key.2) ∙ its.2 in
        let longer = keys_grow c (early ++ s ∷ []) late (rw is r) in
        let grown : (rest : List (ℕ × RaftInput C)) × (Keys c ((early ++ s ∷ []) ++ late) ≡ Keys c (early ++ s ∷ []) ++ rest) = (longer.0, longer.1) in
        let more : (rest : List (ℕ × RaftInput C)) × (Keys c ss ≡ Keys c (early ++ s ∷ []) ++ rest) = rw is at grown in
        let there : In key.0 (Keys c ss) = rw (more.1) (in_front key.0 (Keys c (early ++ s ∷ [])) more.0 key.1) in
        false≢true (sym (apart_of c ss r u i w key.0 there) ∙ named)

    -- no round answers it
    not_by_a_round : (y : ℕ × RaftInput C) → In y (answered c (early ++ s ∷ [])) → i.client ≡ y.1.client → i.request ≡ y.1.request → ⊥
    not_by_a_round y h p q =
        let grown : (rest : List (ℕ × RaftInput C)) × (answered c ((early ++ s ∷ []) ++ late) ≡ answered c (early ++ s ∷ []) ++ rest)
        = (answered_from c (world_after c (early ++ s ∷ [])) late, answered_append c (first c) (early ++ s ∷ []) late) in
        let k : (rest : List (ℕ × RaftInput C)) × (answered c ss ≡ answered c (early ++ s ∷ []) ++ rest) = rw is at grown in
        let none : is_named i.client i.request y.1 ≡ false = each_in (λ y. is_named i.client i.request y.1 ≡ false) (answered c ss) y g.unanswered (rw (k.1) (in_front y (answered c (early ++ s ∷ [])) k.0 h)) in
        false≢true (sym none ∙ rw (p, q) (named_itself y.1))

    untold_by : (o : O) → In (told.Reply i.client i.request o) (outputs_in (event_of (read_raft c.nodes c.machine c.is_read) (world_after c early) s)) → ⊥
    untold_by o h = elim (act c (world_after c early) s (taken_last c early s now)) [
      | inr q ↦ absurd (rw (q.none) at h)
      | inl a ↦ elim (in_append _ a.effect.outputs (map (read_reply c.machine a.effect.state.machine) (done c early s now a)) (rw (a.event) at h)) [
        | inl q ↦ not_by_raft o (raft_told c early s now a i.client i.request o q)
        | inr q ↦ (let x = in_map (read_reply c.machine a.effect.state.machine) (done c early s now a) _ q in
            not_by_a_round (a.effect.state.applied, x.0.input) (answered_by c early s now a x.0 x.1) (cc (x.2)) (cc (x.2)))
      ]
    ]

  untold : HasWaited S C O c ss i → IsGone S C O c ss i → (node : ℕ) (o : O) → In (item.Output node (told.Reply i.client i.request o)) (seen c ss) → ⊥
  untold w g node o h =
      let t = told_there [] (seen c ss) node i.client i.request o h in
      let k = tolds c ss _ t.1 in
      untold_by w g k.early k.s k.late k.is o k.one

pub dropped_is_untold : (S C O : Type 0) → DroppedIsUntold S C O
dropped_is_untold S C O c early late i r u w g =
    untold c (early ++ late) r u i
    (record { before = w.before; after = w.after ++ late; node = w.node; is = sym (append_assoc w.before (step.In w.node i ∷ w.after) late) ∙ ap (λ xs. xs ++ late) w.is; came = w.came })
    (dropped_is_gone S C O c early late w.node i r u (is_read_of c ((world_after c w.before).state w.node) i w.came) (in_at w.before (step.In w.node i) w.after early w.is) g)
