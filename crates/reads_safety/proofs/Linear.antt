-- Clients see one machine, which takes the executed requests and the answered reads in their order.
use Rattle.std.proofs.Common.{◌≡◌, ℕ, ◌+◌, ◌<◌, ◌≤◌, ◌⊎◌, inl, inr, Bool, true, false, ◌||◌, List, [], ◌∷◌, ◌++◌, drop, length, map, take, Option, Some, None, refl, sym, ap, ◌∙◌, append_assoc, append-nil, length-append, arith}
use Rattle.std.proofs.lemmas.Bool.{and_parts, cases_Bool, eq-eqb, false≢true}
use Rattle.std.proofs.lemmas.List.{map-append}
use Rattle.std.specs.List.{filter}
use Rattle.net_semantics.specs.RunLaws.{trace_from-append}
use Rattle.net_semantics.specs.Steps.{Event, event_of, input_item, items_of, items_of_event}
use Rattle.net_semantics.specs.Worlds.{first_world}
use Rattle.vst_base.specs.Machines.{state_after}
use Rattle.vst_base.specs.Nets.{view_of}
use Rattle.vst_base.specs.declared.entry.Entry.{Entry}
use Rattle.vst_base.specs.declared.step.Item.TheVariants as item
use Rattle.vst_base.specs.declared.step.Step.{Step}
use Rattle.vst_base.specs.declared.step.Step.TheVariants as step
use Rattle.raft_clients.specs.Executed.{executed, commands, requests}
use Rattle.raft_free.specs.Events.{In}
use Rattle.raft_free.proofs.Stepping.{in_append}
use Rattle.raft_types.specs.declared.client.RaftInput.{RaftInput}
use Rattle.raft_types.specs.declared.client.RaftOut.{RaftOut}
use Rattle.raft_types.specs.declared.client.RaftOut.TheVariants as told
use Rattle.raft_xform.specs.Raft.{raft, raft_recovery}
use Rattle.lists.specs.Each.{Each, each_back, each_weaker}
use Rattle.lists.specs.Prefixes.{IsPrefix, prefix_append, prefix_joined}
use Rattle.linearizability.specs.Linearizable.{AreDistinct, AreOther, HasInput, IsLinearizable, Seen, Told, beside, is_named, told_by, told_since, up_to, with_outputs}
use Rattle.raft_safety.specs.Applied.{applied_by, applied_list, executed_by}
use Rattle.raft_safety.specs.Runs as raft_runs
use Rattle.raft_safety.proofs.Growing.{applied_grows, each_has_a_beginning, each_machine_follows, whole}
use Rattle.raft_safety.proofs.Listing.{each_from, each_in}
use Rattle.raft_safety.proofs.Mirroring.{put_in}
use Rattle.raft_safety.proofs.Ordering.{runs_are_linearizable}
use Rattle.raft_safety.proofs.Safe.{applied_is_there}
use Rattle.raft_safety.proofs.Told.{IsTold, told_outputs, told_since-append}
use Rattle.raft_safety.proofs.Turning.{turn}
use Rattle.raft_reads.specs.ReadRaft.{read_raft, read_recovery, read_reply, reads_after, waits}
use Rattle.raft_types.specs.Rounds.{ReadMsg}
use Rattle.raft_reads.specs.Reads.{ReadView, Waiting, is_ready}
use Rattle.raft_reads.specs.Clusters.{ReadCluster, ReadWorld, first, seen, world_after}
use Rattle.raft_reads.specs.Erasing.{erased, erased_from, erased_step, erased_world}
use Rattle.reads_safety.specs.Orders.{answered, answered_from, insert, insert_all}
use Rattle.reads_safety.specs.Runs.{ArePairsUnused, IsRun, ReadsLeave}
use Rattle.reads_safety.proofs.Keyed.{executed_from, keyed, keyed_order, same_order}
use Rattle.reads_safety.specs.Safety.{AppliedGrows, HadReadIndex, HasWaited, RunsAreLinearizable}
use Rattle.reads_safety.proofs.Acts.{Act, act}
use Rattle.raft_reads.proofs.Erasing.{erased_append, refusal_erased}
use Rattle.reads_safety.proofs.Erased.{erased_after, erased_run}
use Rattle.reads_safety.proofs.Inserting.{Fits, beside_all, each_asked, fits_all, in_all, in_asked, insert_append, split_in, state_all, time_all, up_to_sorted}
use Rattle.reads_safety.proofs.Keys.{executed_append, executed_asked, places, sorted, up_to_index}
use Rattle.reads_safety.proofs.Once.{at_most_once, distinct_of}
use Rattle.reads_safety.proofs.Placing.{Stays, asked, below, beside_front, beside_in, beside_self, itself_in, named_itself, outs, sorted_insert, up_to_self}
use Rattle.reads_safety.proofs.Reading.{answered_append, answered_last, holds, in_map}
use Rattle.reads_safety.proofs.Rounds.{after_step, run_front, taken_last}
use Rattle.reads_safety.proofs.Tracing.{IsPutIn, has_append, in_front, in_split, input_seen, named_trans, no_output, other_back, other_name, erased_input, split_cases, two_places, unused_at}

pub in_at : {A : Type 0} (xs : List A) (x : A) (ys zs : List A) → xs ++ x ∷ ys ≡ zs → In x zs
in_at xs x ys zs e = rw (← e) (in_split xs x ys)

pub in_back : {A : Type 0} (x : A) (xs ys : List A) → In x ys → In x (xs ++ ys)
in_back x [] ys h = h
in_back x (z ∷ xs) ys h = inr (in_back x xs ys h)

in_mapped : {A B : Type 0} (f : A → B) (xs : List A) (x : A) → In x xs → In (f x) (map f xs)
in_mapped f [] x h = absurd h
in_mapped f (y ∷ ys) x (inl e) = inl (ap f e)
in_mapped f (y ∷ ys) x (inr h) = inr (in_mapped f ys x h)

-- what is executed up to a place
up_to_place : {C : Type 0} (a : ℕ) (es : List (Entry C)) → below a (executed_from 0 [] es) ≡ executed_from 0 [] (take a es)
up_to_place a es = let same : 0 + a ≡ a = omega arith in rw same at (up_to_index 0 a [] es)

-- of two requests of different names one has another name than this
not_both : {C : Type 0} (client request : ℕ) (y z : RaftInput C) → is_named y.client y.request z ≡ false → is_named client request z ≡ true → is_named client request y ≡ false
not_both client request y z e n = elim (cases_Bool (is_named client request y)) [ inr h ↦ h | inl h ↦ absurd (false≢true (sym e ∙ named_trans client request y z h n)) ]

-- what a step tells
abbrev pub outputs_in : {S O C M : Type 0} → Option (Event S (RaftInput C) (RaftOut O) M) → List (RaftOut O)
outputs_in None = []
outputs_in (Some e) = e.effect.outputs

-- each output of Raft is told
told_each : {C O : Type 0} (P : ℕ → ℕ → O → Type 0) (before : Seen C O) (node : ℕ) (outputs : List (RaftOut O)) (client request : ℕ) (o : O) →
    Each (λ (t : Told C O). P t.client t.request t.output) (told_since before (map (λ o. item.Output node o) outputs)) → In (told.Reply client request o) outputs → P client request o
told_each P before node [] client request o e h = absurd h
told_each {C = C} {O = O} P before node (x ∷ outputs) client request o e (inl q) = (rw (← q) at e).0
told_each {C = C} {O = O} P before node (x ∷ outputs) client request o e (inr h) =
    told_each P (before ++ item.Output node x ∷ []) node outputs client request o (each_back (λ (t : Told C O). P t.client t.request t.output) (told_by before (item.Output node x)) _ e) h

module _ {S C O : Type 0} (c : ReadCluster S C O) where
  -- where clients are told something
  pub record Origin (ss : List (Step (RaftInput C))) (t : Told C O) : Type 0 where
    pub early : List (Step (RaftInput C))
    pub s : Step (RaftInput C)
    pub late : List (Step (RaftInput C))
    pub is : (early ++ s ∷ []) ++ late ≡ ss
    pub one : In (told.Reply t.client t.request t.output) (outputs_in (event_of (read_raft c.nodes c.machine c.is_read) (world_after c early) s))
    pub later : (q : RaftInput C) → HasInput (seen c (early ++ s ∷ [])) q → HasInput t.before q

  seen_last : (ss : List (Step (RaftInput C))) (s : Step (RaftInput C)) → seen c (ss ++ s ∷ []) ≡ seen c ss ++ items_of (read_raft c.nodes c.machine c.is_read) (world_after c ss) s
  seen_last ss s =
      trace_from-append (read_raft c.nodes c.machine c.is_read) (read_recovery c.nodes c.machine) (first c) ss (s ∷ [])
      ∙ ap (λ xs. seen c ss ++ xs) (append-nil (items_of (read_raft c.nodes c.machine c.is_read) (world_after c ss) s))

  told_in : (before : Seen C O) (o : Option (Event (ReadView S C O) (RaftInput C) (RaftOut O) (ReadMsg C))) (t : Told C O) → In t (told_since before (items_of_event o)) →
      In (told.Reply t.client t.request t.output) (outputs_in o) × ((q : RaftInput C) → HasInput (before ++ items_of_event o) q → HasInput t.before q)
  told_in before None t h = absurd h
  told_in before (Some e) t h = (
    k.one,
    λ q i. elim (has_append before _ q i) [
      | inl b ↦ k.later q (put_in before (input_item e.node e.input) q b)
      | inr b ↦ elim (has_append (input_item e.node e.input) _ q b) [ inl d ↦ k.later q (after before (input_item e.node e.input) q d) | inr d ↦ absurd (no_output {O = RaftOut O} e.node e.effect.outputs q d) ]
    ],
  )
    where
      after : (xs ys : Seen C O) (q : RaftInput C) → HasInput ys q → HasInput (xs ++ ys) q
      after [] ys q h = h
      after (item.Input n j ∷ xs) ys q h = inr (after xs ys q h)
      after (item.Output n o ∷ xs) ys q h = after xs ys q h

      none : (o : Option (RaftInput C)) → told_since before (input_item e.node o) ≡ []
      none None = refl
      none (Some q) = refl

      k : IsTold (before ++ input_item e.node e.input) e.effect.outputs t
      k = told_outputs (before ++ input_item e.node e.input) e.node e.effect.outputs t
          (rw (told_since-append before (input_item e.node e.input) (map (λ o. item.Output e.node o) e.effect.outputs), none e.input) at h)

  tolds_on : (ss : List (Step (RaftInput C))) (s : Step (RaftInput C)) → ((t : Told C O) → In t (told_since [] (seen c ss)) → Origin ss t) → (t : Told C O) → In t (told_since [] (seen c (ss ++ s ∷ []))) → Origin (ss ++ s ∷ []) t
  tolds_on ss s old t h = elim (in_append t (told_since [] (seen c ss)) (told_since (seen c ss) (items_of (read_raft c.nodes c.machine c.is_read) (world_after c ss) s))
      (rw (seen_last ss s, told_since-append [] (seen c ss) (items_of (read_raft c.nodes c.machine c.is_read) (world_after c ss) s)) at h)) [
        | inl q ↦ (let o = old t q in record { early = o.early; s = o.s; late = o.late ++ s ∷ []; is = sym (append_assoc (o.early ++ o.s ∷ []) o.late (s ∷ [])) ∙ ap (λ xs. xs ++ s ∷ []) o.is; one = o.one; later = o.later })
        | inr q ↦
            (let k = told_in (seen c ss) (event_of (read_raft c.nodes c.machine c.is_read) (world_after c ss) s) t q in
            record { early = ss; s = s; late = []; is = append-nil (ss ++ s ∷ []); one = k.0; later = λ q h. k.1 q (rw (seen_last ss s) at h) })
      ]

  tolds_run : (ss xs : List (Step (RaftInput C))) → ((t : Told C O) → In t (told_since [] (seen c ss)) → Origin ss t) → (t : Told C O) → In t (told_since [] (seen c (ss ++ xs))) → Origin (ss ++ xs) t
  tolds_run ss [] old = rw (append-nil ss) old
  tolds_run ss (x ∷ xs) old = rw (append_assoc ss (x ∷ []) xs) at (tolds_run (ss ++ x ∷ []) xs (tolds_on ss x old))

  pub tolds : (ss : List (Step (RaftInput C))) (t : Told C O) → In t (told_since [] (seen c ss)) → Origin ss t
  tolds ss = tolds_run [] ss (λ t h. absurd h)

  -- what the run of Raft tells of it
  abbrev Applied : List (Step (RaftInput C)) → List (Entry C)
  Applied ss = applied_by c.machine c.nodes (erased c ss)

  abbrev pub Keys : List (Step (RaftInput C)) → List (ℕ × RaftInput C)
  Keys ss = executed_from 0 [] (applied_by c.machine c.nodes (erased c ss))

  pub keys_are : (ss : List (Step (RaftInput C))) → asked (Keys ss) ≡ executed_by c.machine c.nodes (erased c ss)
  keys_are ss = executed_asked 0 [] (Applied ss)

  erased_lin : (ss : List (Step (RaftInput C))) → IsRun c ss → IsLinearizable c.machine (executed_by c.machine c.nodes (erased c ss)) (raft_runs.seen c.machine c.nodes (erased c ss))
  erased_lin ss r = runs_are_linearizable S C O c.machine c.nodes (erased c ss) (erased_run c ss r)

  -- an executed request was put in, and did not wait
  key_in : (ss : List (Step (RaftInput C))) → IsRun c ss → (z : ℕ × RaftInput C) → In z (Keys ss) → IsPutIn c (first c) ss z.1
  key_in ss r z h = erased_input c (first c) ss z.1 (in_asked (HasInput (raft_runs.seen c.machine c.nodes (erased c ss))) (Keys ss) z (rw (keys_are ss) (erased_lin ss r).requested.put_in) h)

  abbrev WasSeen : List (Step (RaftInput C)) → RaftInput C → Type 0
  WasSeen ss q = HasInput (seen c ss) q

  key_seen : (ss : List (Step (RaftInput C))) → IsRun c ss → (z : ℕ × RaftInput C) → In z (Keys ss) → HasInput (seen c ss) z.1
  key_seen ss r z h = let k = key_in ss r z h in input_seen c (first c) ss k.node z.1 (in_at k.early (step.In k.node z.1) k.late ss k.is)

  read_seen : (ss : List (Step (RaftInput C))) (y : ℕ × RaftInput C) → HadReadIndex S C O c ss y → HasInput (seen c ss) y.1
  read_seen ss y k = input_seen c (first c) ss k.node y.1 (in_at k.early (step.In k.node y.1) k.late ss k.is)

  grows : (early late : List (Step (RaftInput C))) → IsRun c (early ++ late) → IsPrefix (Applied early) (Applied (early ++ late))
  grows early late r = rw (← erased_append c (first c) early late) at (applied_grows S C O c.machine c.nodes (erased c early) (erased_from c (world_after c early) late) (rw (erased_append c (first c) early late) at (erased_run c (early ++ late) r)))

  grown : (early late : List (Step (RaftInput C))) → IsRun c (early ++ late) → (rest : List (Entry C)) × (Applied early ++ rest ≡ Applied (early ++ late))
  grown early late r = (drop (length (Applied early)) (Applied (early ++ late)), prefix_joined (grows early late r))

  longer : (early late : List (Step (RaftInput C))) → IsRun c (early ++ late) → length (Applied early) ≤ length (Applied (early ++ late))
  longer early late r = let g = grown early late r in let l = length-append (Applied early) g.0 in let e = ap length g.1 in omega (arith, l, e)

  pub keys_grow : (early late : List (Step (RaftInput C))) → IsRun c (early ++ late) → (rest : List (ℕ × RaftInput C)) × (Keys (early ++ late) ≡ Keys early ++ rest) × Each (λ y. length (Applied early) < y.0) rest
  keys_grow early late r = let g = grown early late r in let k = executed_append 0 [] (Applied early) g.0 in
      (k.0, ap (executed_from 0 []) (sym g.1) ∙ k.1, each_less k.0 k.2)
    where
      each_less : (xs : List (ℕ × RaftInput C)) → Each (λ y. 0 + length (Applied early) < y.0) xs → Each (λ y. length (Applied early) < y.0) xs
      each_less [] e = tt
      each_less (x ∷ xs) e = (omega (arith, e.0), each_less xs e.1)

  pub is_read_of : (s : ReadView S C O) (q : RaftInput C) → waits c.is_read s q ≡ true → c.is_read q.cmd ≡ true
  is_read_of s q e = (and_parts (c.is_read q.cmd) _ e).0

  either_true : (a b : Bool) → b ≡ true → (a || b) ≡ true
  either_true true b h = refl
  either_true false b h = h

  or_left : (a b : Bool) → a ≡ true → (a || b) ≡ true
  or_left true b h = refl
  or_left false b h = absurd (false≢true h)

  -- reads and executed requests have different names
  clash : (early late : List (Step (RaftInput C))) (n j : ℕ) (y z : RaftInput C) → early ≡ late → step.In n y ≡ step.In j z → waits c.is_read ((world_after c early).state n) y ≡ true →
      waits c.is_read ((world_after c late).state j) z ≡ false → ⊥
  clash early late n j y z e same a b =
      let m : n ≡ j = cc same in
      let q : y ≡ z = cc same in
      false≢true (sym b ∙ (rw (e, m, q) at a))

  pub apart_of : (ss : List (Step (RaftInput C))) → IsRun c ss → ArePairsUnused c ss → (y : RaftInput C) → HasWaited S C O c ss y → (z : ℕ × RaftInput C) → In z (Keys ss) → AreOther z.1 y
  apart_of ss r u y k z i = go (two_places k.before k.after p.early p.late (step.In k.node y) (step.In p.node z.1) (k.is ∙ sym p.is))
    where
      p : IsPutIn c (first c) ss z.1
      p = key_in ss r z i

      is_read : c.is_read y.cmd ≡ true
      is_read = is_read_of ((world_after c k.before).state k.node) y k.came

      go : In (step.In k.node y) p.early ⊎ (In (step.In p.node z.1) k.before ⊎ ((k.before ≡ p.early) × (step.In k.node y ≡ step.In p.node z.1))) → AreOther z.1 y
      go (inl q) = other_back y z.1 (other_name c p.node y z.1 (unused_at c p.early (step.In p.node z.1) p.late k.node y (rw (p.is) u) q) (or_left (c.is_read y.cmd) (c.is_read z.1.cmd) is_read))
      go (inr (inl q)) = other_name c k.node z.1 y (unused_at c k.before (step.In k.node y) k.after p.node z.1 (rw (k.is) u) q) (either_true (c.is_read z.1.cmd) (c.is_read y.cmd) is_read)
      go (inr (inr q)) = absurd (clash k.before p.early k.node p.node y z.1 q.0 q.1 k.came p.came)

  -- what an event tells of Raft, and of the reads that it answers
  module _ (early : List (Step (RaftInput C))) (s : Step (RaftInput C)) (now : IsRun c (early ++ s ∷ [])) where
    abbrev Before : ReadWorld S C O
    Before = world_after c early

    erased_seen : raft_runs.seen c.machine c.nodes (erased c (early ++ s ∷ [])) ≡ raft_runs.seen c.machine c.nodes (erased c early) ++ items_of (raft c.nodes c.machine) (erased_world Before) (erased_step c Before s)
    erased_seen = ap (raft_runs.seen c.machine c.nodes) (erased_append c (first c) early (s ∷ []))
        ∙ (trace_from-append (raft c.nodes c.machine) (raft_recovery c.machine) (first_world (raft c.nodes c.machine)) (erased c early) (erased_step c Before s ∷ [])
        ∙ (ap (λ w. raft_runs.seen c.machine c.nodes (erased c early) ++ (items_of (raft c.nodes c.machine) w (erased_step c Before s) ++ [])) (sym (erased_after c early))
        ∙ ap (λ xs. raft_runs.seen c.machine c.nodes (erased c early) ++ xs) (append-nil (items_of (raft c.nodes c.machine) (erased_world Before) (erased_step c Before s)))))

    pub raft_told : (a : Act c Before s) (client request : ℕ) (o : O) → In (told.Reply client request o) a.effect.outputs →
        beside client request (with_outputs c.machine (executed_by c.machine c.nodes (erased c (early ++ s ∷ [])))) ≡ Some o
    raft_told a client request o h = told_each (λ client request o. beside client request (with_outputs c.machine (executed_by c.machine c.nodes (erased c (early ++ s ∷ [])))) ≡ Some o) (raft_runs.seen c.machine c.nodes (erased c early) ++ input_item a.node a.erased_input) a.node a.effect.outputs client request o all h
      where
        all : Each (λ (t : Told C O). beside t.client t.request (with_outputs c.machine (executed_by c.machine c.nodes (erased c (early ++ s ∷ [])))) ≡ Some t.output)
            (told_since (raft_runs.seen c.machine c.nodes (erased c early) ++ input_item a.node a.erased_input) (map (λ o. item.Output a.node o) a.effect.outputs))
        all = each_back _ (told_since (raft_runs.seen c.machine c.nodes (erased c early)) (input_item a.node a.erased_input)) _
            (rw (told_since-append (raft_runs.seen c.machine c.nodes (erased c early)) (input_item a.node a.erased_input) (map (λ o. item.Output a.node o) a.effect.outputs)) at
            (each_back _ (told_since [] (raft_runs.seen c.machine c.nodes (erased c early))) _
            (rw (erased_seen, told_since-append [] (raft_runs.seen c.machine c.nodes (erased c early)) (items_of (raft c.nodes c.machine) (erased_world Before) (erased_step c Before s)), a.erased_event) at (erased_lin (early ++ s ∷ []) now).outputs)))

    -- the reads that it answers
    abbrev pub done : Act c Before s → List (Waiting C)
    done a = filter (is_ready c.nodes a.node a.effect.state (reads_after c.nodes (Before.state a.node).raft a.effect.state a.reads)) (reads_after c.nodes (Before.state a.node).raft a.effect.state a.reads).waiting

    pub answered_by : (a : Act c Before s) (x : Waiting C) → In x (done a) → In (a.effect.state.applied, x.input) (answered c (early ++ s ∷ []))
    answered_by a x h = rw (answered_last c early s) (in_back _ (answered c early) _ (rw (a.event) (in_mapped (λ (x : Waiting C). (a.effect.state.applied, x.input)) (done a) x h)))

  module _ (reads : ReadsLeave c) (ss : List (Step (RaftInput C))) (r : IsRun c ss) (u : ArePairsUnused c ss) where
    stays : (y : ℕ × RaftInput C) → In y (answered c ss) → Stays c.machine y
    stays y h s = let k = (holds c ss r).reads y h in reads s y.1.cmd (is_read_of ((world_after c k.early).state k.node) y.1 k.came)

    apart : (y z : ℕ × RaftInput C) → In y (answered c ss) → In z (Keys ss) → AreOther z.1 y.1
    apart y z h i = let k = (holds c ss r).reads y h in apart_of ss r u y.1 (record { before = k.early; after = k.late; node = k.node; is = k.is; came = k.came }) z i

    distinct : AreDistinct (asked (answered c ss))
    distinct = distinct_of (answered c ss) (λ client request. at_most_once c client request ss u r)

    fits : Fits c.machine (Keys ss) (answered c ss)
    fits = record {
      sorted = sorted 0 [] (Applied ss);
      distinct = rw (keys_are ss) (erased_lin ss r).requested.once;
      apart = apart;
      others = distinct;
      stays = stays;
    }

    all_seen : (y : ℕ × RaftInput C) → In y (keyed c ss) → HasInput (seen c ss) y.1
    all_seen y h = elim (in_all c.machine (Keys ss) (answered c ss) y h) [ inl q ↦ read_seen ss y ((holds c ss r).reads y q) | inr q ↦ key_seen ss r y q ]

    -- a moment of the run
    module _ (early : List (Step (RaftInput C))) (s : Step (RaftInput C)) (late : List (Step (RaftInput C))) (is : (early ++ s ∷ []) ++ late ≡ ss) where
      now : IsRun c (early ++ s ∷ [])
      now = run_front c (early ++ s ∷ []) late (rw is r)

      -- a read was put in by now, or comes when so much is applied
      read_or : (y : ℕ × RaftInput C) → In y (answered c ss) → HasInput (seen c (early ++ s ∷ [])) y.1 ⊎ (length (Applied (early ++ s ∷ [])) ≤ y.0)
      read_or y h = go (split_cases (early ++ s ∷ []) late k.early k.late (step.In k.node y.1) (is ∙ sym k.is))
        where
          k : HadReadIndex S C O c ss y
          k = (holds c ss r).reads y h

          go : In (step.In k.node y.1) (early ++ s ∷ []) ⊎ ((mid : List (Step (RaftInput C))) × ((early ++ s ∷ []) ++ mid ≡ k.early)) → HasInput (seen c (early ++ s ∷ [])) y.1 ⊎ (length (Applied (early ++ s ∷ [])) ≤ y.0)
          go (inl q) = inl (input_seen c (first c) (early ++ s ∷ []) k.node y.1 q)
          go (inr q) =
              let before : IsRun c k.early = run_front c k.early (step.In k.node y.1 ∷ k.late) (rw (k.is) r) in
              let l = longer (early ++ s ∷ []) q.0 (rw (q.1) before) in
              let e : length (Applied ((early ++ s ∷ []) ++ q.0)) ≡ length (Applied k.early) = ap (λ xs. length (Applied xs)) q.1 in
              inr (omega (arith, l, e, k.committed, k.applied))

      keys_now : (rest : List (ℕ × RaftInput C)) × (Keys ss ≡ Keys (early ++ s ∷ []) ++ rest) × Each (λ y. length (Applied (early ++ s ∷ [])) < y.0) rest
      keys_now = rw is at (keys_grow (early ++ s ∷ []) late (rw is r))

      -- an executed request with an index that is applied by now was put in
      key_now : (z : ℕ × RaftInput C) → In z (Keys ss) → z.0 ≤ length (Applied (early ++ s ∷ [])) → HasInput (seen c (early ++ s ∷ [])) z.1
      key_now z h le = let k = keys_now in
          elim (in_append z (Keys (early ++ s ∷ [])) k.0 (rw (k.1) at h)) [
            | inl q ↦ key_seen (early ++ s ∷ []) now z q
            | inr q ↦ absurd (let more = each_in (λ y. length (Applied (early ++ s ∷ [])) < y.0) k.0 z k.2 q in omega arith)
          ]

      answered_now : (rest : List (ℕ × RaftInput C)) × (answered c ss ≡ answered c (early ++ s ∷ []) ++ rest)
      answered_now =
          let k : (rest : List (ℕ × RaftInput C)) × (answered c ((early ++ s ∷ []) ++ late) ≡ answered c (early ++ s ∷ []) ++ rest) = (answered_from c (world_after c (early ++ s ∷ [])) late, answered_append c (first c) (early ++ s ∷ []) late) in
          rw is at k

      -- what Raft tells is the output of the machine, and nothing stands before it that was not put in
      told_by_raft : (client request : ℕ) (o : O) → beside client request (with_outputs c.machine (executed_by c.machine c.nodes (erased c (early ++ s ∷ [])))) ≡ Some o →
          (beside client request (with_outputs c.machine (keyed_order c ss)) ≡ Some o) × Each (HasInput (seen c (early ++ s ∷ []))) (up_to client request (keyed_order c ss))
      told_by_raft client request o e = (beside_all c.machine c.machine.init client request (Keys ss) (answered c ss) stays other ∙ in_keys, time)
        where
          k : (rest : List (ℕ × RaftInput C)) × (Keys ss ≡ Keys (early ++ s ∷ []) ++ rest) × Each (λ y. length (Applied (early ++ s ∷ [])) < y.0) rest
          k = keys_now

          here : beside client request (outs c.machine c.machine.init (asked (Keys (early ++ s ∷ [])))) ≡ Some o
          here = rw (keys_are (early ++ s ∷ [])) e

          in_keys : beside client request (outs c.machine c.machine.init (asked (Keys ss))) ≡ Some o
          in_keys = rw (k.1, map-append (λ (p : ℕ × RaftInput C). p.1) (Keys (early ++ s ∷ [])) k.0) (beside_front c.machine c.machine.init client request (asked (Keys (early ++ s ∷ []))) (asked k.0) o here)

          its : (z : RaftInput C) × In z (asked (Keys (early ++ s ∷ []))) × (is_named client request z ≡ true)
          its = beside_in c.machine c.machine.init client request (asked (Keys (early ++ s ∷ []))) o here

          key : (z : ℕ × RaftInput C) × In z (Keys (early ++ s ∷ [])) × (its.0 ≡ z.1)
          key = in_map (λ (p : ℕ × RaftInput C). p.1) (Keys (early ++ s ∷ [])) its.0 its.1

          named : is_named client request key.0.1 ≡ true
          named = ap (is_named client request) (sym key.2) ∙ its.2

          in_all_keys : In key.0 (Keys ss)
          in_all_keys = rw (k.1) (in_front key.0 (Keys (early ++ s ∷ [])) k.0 key.1)

          small : key.0.0 ≤ length (Applied (early ++ s ∷ []))
          small = let p = each_in (λ y. (0 < y.0) × (y.0 ≤ 0 + length (Applied (early ++ s ∷ [])))) (Keys (early ++ s ∷ [])) key.0 (places 0 [] (Applied (early ++ s ∷ []))) key.1 in omega (arith, p.1)

          other : (y : ℕ × RaftInput C) → In y (answered c ss) → is_named client request y.1 ≡ false
          other y h = not_both client request y.1 key.0.1 (apart y key.0 h in_all_keys) named

          time : Each (HasInput (seen c (early ++ s ∷ []))) (up_to client request (keyed_order c ss))
          time = time_all c.machine (HasInput (seen c (early ++ s ∷ []))) client request (Keys ss) (answered c ss) key.0 fits.sorted in_all_keys named other
              (λ y h less. elim (read_or y h) [ inl q ↦ q | inr le ↦ absurd (omega (arith, small)) ])
              (up_to_sorted (HasInput (seen c (early ++ s ∷ []))) client request (Keys ss) key.0 fits.sorted in_all_keys named (λ y h le. key_now y h (omega (arith, small))))

      -- and so is the answer to a read
      told_to_reader : (x : ℕ × RaftInput C) → In x (answered c (early ++ s ∷ [])) → x.0 ≤ length (Applied (early ++ s ∷ [])) → (o : O) →
          (c.machine.apply (state_after c.machine c.machine.init (commands (executed (requests (take x.0 (Applied ss)))))) x.1.cmd).1 ≡ o →
          (beside x.1.client x.1.request (with_outputs c.machine (keyed_order c ss)) ≡ Some o) × Each (HasInput (seen c (early ++ s ∷ []))) (up_to x.1.client x.1.request (keyed_order c ss))
      told_to_reader x h le o e = (output, time)
        where
          at : (b : List (ℕ × RaftInput C)) × (af : List (ℕ × RaftInput C)) × (b ++ x ∷ af ≡ answered c (early ++ s ∷ []))
          at = split_in (answered c (early ++ s ∷ [])) x h

          more : List (ℕ × RaftInput C)
          more = at.1 ++ answered_now.0

          split : answered c ss ≡ at.0 ++ x ∷ (at.1 ++ answered_now.0)
          split = answered_now.1 ∙ (ap (λ xs. xs ++ answered_now.0) (sym at.2) ∙ append_assoc at.0 (x ∷ at.1) answered_now.0)

          front : List (ℕ × RaftInput C)
          front = insert_all (Keys ss) at.0

          fits_here : Fits c.machine (insert_all (Keys ss) at.0) (x ∷ (at.1 ++ answered_now.0))
          fits_here = fits_all c.machine (Keys ss) at.0 (x ∷ (at.1 ++ answered_now.0)) (rw split at fits)

          placed_is : keyed c ss ≡ insert_all (insert (insert_all (Keys ss) at.0) x) (at.1 ++ answered_now.0)
          placed_is = ap (insert_all (Keys ss)) split ∙ insert_append c.machine (Keys ss) at.0 (x ∷ (at.1 ++ answered_now.0))

          later_other : (y : ℕ × RaftInput C) → In y (at.1 ++ answered_now.0) → is_named x.1.client x.1.request y.1 ≡ false
          later_other y i = other_back x.1 y.1 (in_asked (AreOther x.1) (at.1 ++ answered_now.0) y fits_here.others.0 i)

          earlier_other : (y : ℕ × RaftInput C) → In y (insert_all (Keys ss) at.0) → is_named x.1.client x.1.request y.1 ≡ false
          earlier_other y i = fits_here.apart x y (inl refl) i

          in_ss : (y : ℕ × RaftInput C) → In y (at.0 ++ x ∷ (at.1 ++ answered_now.0)) → In y (answered c ss)
          in_ss y i = rw split i

          state : state_after c.machine c.machine.init (commands (asked (below x.0 (insert_all (Keys ss) at.0)))) ≡ state_after c.machine c.machine.init (commands (executed (requests (take x.0 (Applied ss)))))
          state = state_all c.machine c.machine.init x.0 (Keys ss) at.0 (λ y i. stays y (in_ss y (in_front y at.0 (x ∷ (at.1 ++ answered_now.0)) i)))
              ∙ ap (λ xs. state_after c.machine c.machine.init (commands xs)) (ap asked (up_to_place x.0 (Applied ss)) ∙ executed_asked 0 [] (take x.0 (Applied ss)))

          output : beside x.1.client x.1.request (with_outputs c.machine (keyed_order c ss)) ≡ Some o
          output = ap (λ xs. beside x.1.client x.1.request (outs c.machine c.machine.init (asked xs))) placed_is
              ∙ (beside_all c.machine c.machine.init x.1.client x.1.request (insert (insert_all (Keys ss) at.0) x) (at.1 ++ answered_now.0) (λ y i. fits_here.stays y (inr i)) later_other
              ∙ (beside_self c.machine c.machine.init (insert_all (Keys ss) at.0) x fits_here.sorted earlier_other
              ∙ (ap (λ t. Some (c.machine.apply t x.1.cmd).1) state ∙ ap (λ o. Some o) e)))

          seen_now : (y : ℕ × RaftInput C) → In y (answered c (early ++ s ∷ [])) → HasInput (seen c (early ++ s ∷ [])) y.1
          seen_now y i = read_seen (early ++ s ∷ []) y ((holds c (early ++ s ∷ []) now).reads y i)

          before_it : (y : ℕ × RaftInput C) → In y (insert_all (Keys ss) at.0) → y.0 ≤ x.0 → HasInput (seen c (early ++ s ∷ [])) y.1
          before_it y i small = elim (in_all c.machine (Keys ss) at.0 y i) [
            | inl q ↦ seen_now y (rw (← at.2) (in_front y at.0 (x ∷ at.1) q))
            | inr q ↦ key_now y q (omega arith)
          ]

          time : Each (HasInput (seen c (early ++ s ∷ []))) (up_to x.1.client x.1.request (keyed_order c ss))
          time = rw placed_is (time_all c.machine (HasInput (seen c (early ++ s ∷ []))) x.1.client x.1.request (insert (insert_all (Keys ss) at.0) x) (at.1 ++ answered_now.0) x
              (sorted_insert (insert_all (Keys ss) at.0) x fits_here.sorted) (itself_in (insert_all (Keys ss) at.0) x) (named_itself x.1) later_other
              (λ y i less. elim (read_or y (in_ss y (in_back y at.0 (x ∷ (at.1 ++ answered_now.0)) (inr i)))) [ inl q ↦ q | inr far ↦ absurd (omega (arith, le, far, less)) ])
              (up_to_self (HasInput (seen c (early ++ s ∷ []))) (insert_all (Keys ss) at.0) x earlier_other before_it (seen_now x h)))

      -- what an event tells
      abbrev W : ReadWorld S C O
      W = world_after c early

      abbrev Explained : Told C O → Type 0
      Explained t = (beside t.client t.request (with_outputs c.machine (keyed_order c ss)) ≡ Some t.output) × Each (HasInput (seen c (early ++ s ∷ []))) (up_to t.client t.request (keyed_order c ss))

      -- the node of an event, and what it has applied
      below_of : (a : Act c W s) → a.node < c.nodes
      below_of a =
          let so = rw (← erased_after c early) at (whole c.machine c.nodes (erased c early) (erased_run c early (run_front c early (s ∷ []) now))).sofar in
          (turn c.machine c.nodes (erased_world W) so.world [] so.mirrors so.stands (view_of (erased_step c W s)) (refusal_erased c W s ∙ taken_last c early s now) _ a.erased_event).below

      state_of : (a : Act c W s) → (raft_runs.world_after c.machine c.nodes (erased c (early ++ s ∷ []))).state a.node ≡ a.effect.state
      state_of a = ap (λ (w : raft_runs.RaftWorld S C O). w.state a.node) (sym (erased_after c (early ++ s ∷ [])))
          ∙ (ap (λ (w : ReadWorld S C O). (w.state a.node).raft) (after_step c early s ∙ a.is) ∙ rw (eq-eqb a.node a.node refl) refl)

      has_applied : (a : Act c W s) → length (applied_list a.effect.state) ≡ a.effect.state.applied
      has_applied a = rw (state_of a) at (applied_is_there S C O c.machine c.nodes (raft_runs.world_after c.machine c.nodes (erased c (early ++ s ∷ []))) a.node
          (record { steps = erased c (early ++ s ∷ []); run = erased_run c (early ++ s ∷ []) now; is = refl }))

      begins : (a : Act c W s) → (rest : List (Entry C)) × (applied_list a.effect.state ++ rest ≡ Applied (early ++ s ∷ []))
      begins a =
          let front : IsPrefix (applied_list a.effect.state) (Applied (early ++ s ∷ []))
          = rw (state_of a) at (each_has_a_beginning S C O c.machine c.nodes (erased c (early ++ s ∷ [])) a.node (erased_run c (early ++ s ∷ []) now) (below_of a)) in
          (drop (length (applied_list a.effect.state)) (Applied (early ++ s ∷ [])), prefix_joined front)

      follows : (a : Act c W s) → a.effect.state.machine ≡ state_after c.machine c.machine.init (commands (executed (requests (applied_list a.effect.state))))
      follows a = rw (state_of a) at (each_machine_follows S C O c.machine c.nodes (erased c (early ++ s ∷ [])) a.node (erased_run c (early ++ s ∷ []) now))

      applied_now : (a : Act c W s) → a.effect.state.applied ≤ length (Applied (early ++ s ∷ []))
      applied_now a = let b = begins a in let l = length-append (applied_list a.effect.state) b.0 in let e = ap length b.1 in let h = has_applied a in omega (arith, l, e, h)

      is_front : (a : Act c W s) → take a.effect.state.applied (Applied ss) ≡ applied_list a.effect.state
      is_front a =
          let b = begins a in
          let g : (rest : List (Entry C)) × (Applied (early ++ s ∷ []) ++ rest ≡ Applied ss) = rw is at (grown (early ++ s ∷ []) late (rw is r)) in
          let e : (applied_list a.effect.state ++ b.0) ++ g.0 ≡ Applied ss = ap (λ xs. xs ++ g.0) b.1 ∙ g.1 in
          ap (take a.effect.state.applied) (sym e ∙ append_assoc (applied_list a.effect.state) b.0 g.0) ∙ (ap (λ k. take k (applied_list a.effect.state ++ (b.0 ++ g.0))) (sym (has_applied a)) ∙ prefix_append (applied_list a.effect.state) (b.0 ++ g.0))

      reader_told : (a : Act c W s) (x : Waiting C) → In x (done early s now a) → (client request : ℕ) (o : O) → told.Reply client request o ≡ read_reply c.machine a.effect.state.machine x →
          (beside client request (with_outputs c.machine (keyed_order c ss)) ≡ Some o) × Each (HasInput (seen c (early ++ s ∷ []))) (up_to client request (keyed_order c ss))
      reader_told a x h client request o e =
          let p : client ≡ x.input.client = cc e in
          let q : request ≡ x.input.request = cc e in
          let out : o ≡ (c.machine.apply a.effect.state.machine x.input.cmd).1 = cc e in
          rw (p, q) (told_to_reader (a.effect.state.applied, x.input) (answered_by early s now a x h) (applied_now a) o
          (ap (λ xs. (c.machine.apply (state_after c.machine c.machine.init (commands (executed (requests xs)))) x.input.cmd).1) (is_front a) ∙ (ap (λ t. (c.machine.apply t x.input.cmd).1) (sym (follows a)) ∙ sym out)))

      explained : (client request : ℕ) (o : O) → In (told.Reply client request o) (outputs_in (event_of (read_raft c.nodes c.machine c.is_read) W s)) →
          (beside client request (with_outputs c.machine (keyed_order c ss)) ≡ Some o) × Each (HasInput (seen c (early ++ s ∷ []))) (up_to client request (keyed_order c ss))
      explained client request o h = elim (act c W s (taken_last c early s now)) [
        | inr q ↦ absurd (rw (q.none) at h)
        | inl a ↦ elim (in_append _ a.effect.outputs (map (read_reply c.machine a.effect.state.machine) (done early s now a)) (rw (a.event) at h)) [
          | inl q ↦ told_by_raft client request o (raft_told early s now a client request o q)
          | inr q ↦ (let x = in_map (read_reply c.machine a.effect.state.machine) (done early s now a) _ q in reader_told a x.0 x.1 client request o x.2)
        ]
      ]

    explains : (t : Told C O) → In t (told_since [] (seen c ss)) → (beside t.client t.request (with_outputs c.machine (keyed_order c ss)) ≡ Some t.output) × Each (HasInput t.before) (up_to t.client t.request (keyed_order c ss))
    explains t h =
        let o = tolds ss t h in
        let e = explained o.early o.s o.late o.is t.client t.request t.output o.one in
        (e.0, each_weaker (HasInput (seen c (o.early ++ o.s ∷ []))) (HasInput t.before) o.later (up_to t.client t.request (keyed_order c ss)) e.1)

    linearizable : IsLinearizable c.machine (keyed_order c ss) (seen c ss)
    linearizable = record {
      requested = record {
        once = (fits_all c.machine (Keys ss) (answered c ss) [] (rw (append-nil (answered c ss)) fits)).distinct;
        put_in = each_asked (HasInput (seen c ss)) (keyed c ss) all_seen;
      };
      outputs = each_from _ (told_since [] (seen c ss)) (λ t h. (explains t h).0);
      in_time = each_from _ (told_since [] (seen c ss)) (λ t h. (explains t h).1);
    }

pub reads_are_linearizable : (S C O : Type 0) → RunsAreLinearizable S C O
reads_are_linearizable S C O c ss reads r u = rw (same_order c ss) (linearizable c reads ss r u)

pub reads_applied_grows : (S C O : Type 0) → AppliedGrows S C O
reads_applied_grows S C O c early late r = grows c early late r
