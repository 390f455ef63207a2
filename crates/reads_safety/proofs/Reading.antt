-- The read-index lemma: when a read comes to a leader that answers it later, no node has ever applied more than the leader has committed.
use Rattle.std.proofs.Common.{◌≡◌, ◌≢◌, ℕ, ◌<◌, ◌≤◌, ◌⊎◌, inl, inr, Bool, true, false, not, ◌&&◌, leb, List, [], ◌∷◌, ◌++◌, length, map, cond, refl, sym, ap, ◌∙◌, append_assoc, append-nil, arith}
use Rattle.std.proofs.lemmas.Bool.{and_parts, eqb-true, leb-true}
use Rattle.std.proofs.lemmas.Bool.Decides.{eqb_tells}
use Rattle.std.specs.List.{filter}
use Rattle.net_semantics.specs.Worlds.{Packet}
use Rattle.vst_base.specs.Elections.{is_majority}
use Rattle.vst_base.specs.declared.step.Step.{Step}
use Rattle.vst_base.specs.declared.step.Step.TheVariants as step
use Rattle.raft_free.specs.Events.{In}
use Rattle.raft_free.proofs.Stepping.{in_append}
use Rattle.raft_types.specs.Terms.{term_of}
use Rattle.raft_types.specs.declared.client.RaftInput.{RaftInput}
use Rattle.raft_xform.specs.Nodes.{RaftView, is_leader}
use Rattle.raft_safety.specs.Applied.{applied_by}
use Rattle.raft_safety.proofs.Mirroring.{puts}
use Rattle.raft_reads.specs.ReadRaft.{reads_after, waits}
use Rattle.raft_types.specs.Rounds.{ReadMsg}
use Rattle.raft_reads.specs.Reads.{ReadView, Reads, Waiting, acked_by, has_committed_own, in_round, is_appended, is_ready, no_reads, still_leads}
use Rattle.raft_reads.specs.Clusters.{ReadCluster, ReadWorld, first, next_world, world_after, world_from}
use Rattle.raft_reads.specs.Erasing.{erased}
use Rattle.reads_safety.specs.Orders.{answered, answered_at, answered_from}
use Rattle.reads_safety.specs.Runs.{IsRun}
use Rattle.reads_safety.specs.Safety.{HadReadIndex, ReadIndex}
use Rattle.reads_safety.proofs.Acts.{Act, IsNew, Quiet, act}
use Rattle.reads_safety.proofs.Moments.{LeadsIn, index, terms_grow}
use Rattle.reads_safety.proofs.Rounds.{Times, V, after_step, first_times, in_filter, leads_same, node_state, run_front, sent, still_true, taken_last, times_on, v_is}

pub in_map : {A B : Type 0} (f : A → B) (xs : List A) (y : B) → In y (map f xs) → (x : A) × In x xs × (y ≡ f x)
in_map f [] y h = absurd h
in_map f (x ∷ xs) y (inl e) = (x, inl refl, e)
in_map f (x ∷ xs) y (inr h) = let r = in_map f xs y h in (r.0, inr r.1, r.2)

module _ {S C O : Type 0} (c : ReadCluster S C O) where
  abbrev pub TermAt : List (Step (RaftInput C)) → ℕ → ℕ
  TermAt early k = ((world_after c early).state k).raft.ballot.term

  -- a read that waits: what the leader had committed when it came, and that all that gave its round back were in no later term then
  pub record Waits (ss : List (Step (RaftInput C))) (w : ReadWorld S C O) (i : ℕ) (given : ℕ → ℕ) (x : Waiting C) : Type 0 where
    pub early : List (Step (RaftInput C))
    pub late : List (Step (RaftInput C))
    pub is : early ++ step.In i x.input ∷ late ≡ ss
    pub up : (world_after c early).is_up i ≡ true
    pub came : waits c.is_read ((world_after c early).state i) x.input ≡ true
    pub read_index : x.read_index ≡ ((world_after c early).state i).raft.commit
    pub leads : LeadsIn c w i (TermAt early i)
    pub acks : (p : Packet (ReadMsg C)) → In p w.packets → is_appended p.content.raft ≡ true → term_of p.content.raft ≡ TermAt early i → x.round ≤ p.content.round → TermAt early p.source ≤ TermAt early i
    pub gives : (j : ℕ) → x.round ≤ given j → TermAt early j ≤ TermAt early i

  abbrev pub AllWait : List (Step (RaftInput C)) → ReadWorld S C O → Type 0
  AllWait ss w = (i : ℕ) → w.is_up i ≡ true → (x : Waiting C) → In x (w.state i).reads.waiting → Waits ss w i (acked_by (w.state i).reads) x

  abbrev pub IsRead : List (Step (RaftInput C)) → ℕ × RaftInput C → Type 0
  IsRead ss y = HadReadIndex S C O c ss y

  more : (early late ss : List (Step (RaftInput C))) (x s : Step (RaftInput C)) → early ++ x ∷ late ≡ ss → early ++ x ∷ (late ++ s ∷ []) ≡ ss ++ s ∷ []
  more early late ss x s e = sym (append_assoc early (x ∷ late) (s ∷ [])) ∙ ap (λ xs. xs ++ s ∷ []) e

  terms_then : (early rest ss : List (Step (RaftInput C))) → early ++ rest ≡ ss → IsRun c ss → (k : ℕ) → TermAt early k ≤ TermAt ss k
  terms_then early rest ss e r k = (rw e at (terms_grow c early rest)) r k

  cases_round : (a b : ℕ) → (a ≤ b) ⊎ (b < a)
  cases_round a b = grind arith

  module _ (ss : List (Step (RaftInput C))) (s : Step (RaftInput C)) (r : IsRun c (ss ++ s ∷ [])) (times : Times c ss (world_after c ss)) (a : Act c (world_after c ss) s) (all : AllWait ss (world_after c ss)) where
    abbrev W : ReadWorld S C O
    W = V c ss s r times a

    abbrev Now : ReadWorld S C O
    Now = world_after c ss

    abbrev before : RaftView S C O
    before = ((world_after c ss).state a.node).raft

    abbrev rest : Reads C
    rest = reads_after c.nodes ((world_after c ss).state a.node).raft a.effect.state a.reads

    -- an answer that is sent now comes from a node in this term
    acks_now : (early rest : List (Step (RaftInput C))) → early ++ rest ≡ ss → (t round : ℕ) →
        ((p : Packet (ReadMsg C)) → In p Now.packets → is_appended p.content.raft ≡ true → term_of p.content.raft ≡ t → round ≤ p.content.round → TermAt early p.source ≤ t) →
        (p : Packet (ReadMsg C)) → In p W.packets → is_appended p.content.raft ≡ true → term_of p.content.raft ≡ t → round ≤ p.content.round → TermAt early p.source ≤ t
    acks_now early late e t round old p h answer its le = elim (in_append p a.packets _ h) [
      | inl q ↦ (let k = a.like p q in rw (k.source) (old k.was k.there (rw (k.content) at answer) (rw (k.content) at its) (rw (k.content) at le)))
      | inr q ↦
          (let k = sent c ss s r times a p q in
          let shape = a.shaped.each k.send k.one in
          let grown : TermAt early a.node ≤ TermAt (ss ++ s ∷ []) a.node = terms_then early (late ++ s ∷ []) (ss ++ s ∷ []) (sym (append_assoc early late (s ∷ [])) ∙ ap (λ xs. xs ++ s ∷ []) e) r a.node in
          let now : TermAt (ss ++ s ∷ []) a.node ≡ t = ap (λ (w : ReadWorld S C O). (w.state a.node).raft.ballot.term) (v_is c ss s r times a) ∙ (ap (λ (x : ReadView S C O). x.raft.ballot.term) (node_state c ss s r times a) ∙ (sym shape.term ∙ (sym (ap term_of k.raft) ∙ its))) in
          rw (k.source) (omega arith))
    ]

    leads_now : (t : ℕ) → still_leads before a.effect.state ≡ true → before.ballot.term ≡ t → LeadsIn c W a.node t
    leads_now t e is = let q = still_true c before a.effect.state e in
        record { up = a.up; leader = rw (node_state c ss s r times a) q.1; term = rw (node_state c ss s r times a) (q.2 ∙ is) }

    was_leader : still_leads before a.effect.state ≡ true → LeadsIn c Now a.node before.ballot.term
    was_leader e = let q = still_true c before a.effect.state e in record { up = a.up; leader = q.0; term = refl }

    old_one : (x : Waiting C) → still_leads before a.effect.state ≡ true → In x (Now.state a.node).reads.waiting → Waits (ss ++ s ∷ []) W a.node (acked_by a.reads) x
    old_one x still h =
        let k = all a.node a.up x h in
        record {
          early = k.early;
          late = k.late ++ s ∷ [];
          is = more k.early k.late ss (step.In a.node x.input) s k.is;
          up = k.up;
          came = k.came;
          read_index = k.read_index;
          leads = leads_now (TermAt k.early a.node) still k.leads.term;
          acks = acks_now k.early (step.In a.node x.input ∷ k.late) k.is (TermAt k.early a.node) x.round k.acks;
          gives = λ j le. elim (a.given j) [
            | inl q ↦ k.gives j (omega arith)
            | inr b ↦ rw (← b.source) (k.acks b.packet b.there b.answer (b.term ∙ k.leads.term) (omega (arith, b.le)))
          ];
        }

    new_one : (x : Waiting C) → still_leads before a.effect.state ≡ true → IsNew c (Now.state a.node) a.node s x → Waits (ss ++ s ∷ []) W a.node (acked_by a.reads) x
    new_one x still k =
        record {
          early = ss;
          late = [];
          is = ap (λ y. ss ++ y ∷ []) (sym k.step);
          up = a.up;
          came = k.waits;
          read_index = k.read_index;
          leads = leads_now before.ballot.term still refl;
          acks = acks_now ss [] (append-nil ss) before.ballot.term x.round
              (λ p h answer its le. let b = times.packets a.node before.ballot.term (was_leader still) p h its in absurd (omega (arith, k.round)));
          gives = λ j le. elim (a.given j) [
            | inl q ↦ (let b = times.given a.node before.ballot.term (was_leader still) j in absurd (omega (arith, k.round)))
            | inr b ↦ (let d = times.packets a.node before.ballot.term (was_leader still) b.packet b.there b.term in absurd (omega (arith, k.round, b.le)))
          ];
        }

    -- each read that the node has at the end of the event
    each_one : (b : Bool) → still_leads before a.effect.state ≡ b → (x : Waiting C) → In x (cond b a.reads (no_reads c.nodes)).waiting → Waits (ss ++ s ∷ []) W a.node (acked_by (cond b a.reads (no_reads c.nodes))) x
    each_one false e x h = absurd h
    each_one true e x h = elim (a.waiting x h) [ inl q ↦ old_one x e q | inr k ↦ new_one x e k ]

    each : (x : Waiting C) → In x rest.waiting → Waits (ss ++ s ∷ []) W a.node (acked_by rest) x
    each x h = each_one (still_leads before a.effect.state) refl x h

    others : (j : ℕ) → j ≢ a.node → W.state j ≡ Now.state j
    others j ne = elim (eqb_tells j a.node) [ inl t ↦ absurd (ne t.1) | inr t ↦ rw (t.0) refl ]

    event_waits : AllWait (ss ++ s ∷ []) W
    event_waits i = puts (λ k y. Now.is_up k ≡ true → (x : Waiting C) → In x y.reads.waiting → Waits (ss ++ s ∷ []) W k (acked_by y.reads) x) Now.state a.node _ here other i
      where
        here : Now.is_up a.node ≡ true → (x : Waiting C) → In x (filter (λ x. not (is_ready c.nodes a.node a.effect.state rest x)) rest.waiting) → Waits (ss ++ s ∷ []) W a.node (acked_by rest) x
        here up x h = each x (in_filter _ rest.waiting x h).0

        other : (j : ℕ) → j ≢ a.node → Now.is_up j ≡ true → (x : Waiting C) → In x (Now.state j).reads.waiting → Waits (ss ++ s ∷ []) W j (acked_by (Now.state j).reads) x
        other j ne up x h =
            let k = all j up x h in
            record {
              early = k.early;
              late = k.late ++ s ∷ [];
              is = more k.early k.late ss (step.In j x.input) s k.is;
              up = k.up;
              came = k.came;
              read_index = k.read_index;
              leads = leads_same c Now W j (TermAt k.early j) k.leads (others j ne) up;
              acks = acks_now k.early (step.In j x.input ∷ k.late) k.is (TermAt k.early j) x.round k.acks;
              gives = k.gives;
            }

    -- and each that it answers
    reads_now : (x : Waiting C) → In x (filter (is_ready c.nodes a.node a.effect.state rest) rest.waiting) → IsRead (ss ++ s ∷ []) (a.effect.state.applied, x.input)
    reads_now x h = record { early = k.early; late = k.late; node = a.node; is = k.is; came = k.came; committed = bound; applied = omega (arith, applied, k.read_index) }
      where
        in_it : In x rest.waiting × (is_ready c.nodes a.node a.effect.state rest x ≡ true)
        in_it = in_filter (is_ready c.nodes a.node a.effect.state rest) rest.waiting x h

        k : Waits (ss ++ s ∷ []) W a.node (acked_by rest) x
        k = each x in_it.0

        ready : (is_majority c.nodes (in_round a.node rest x.round) ≡ true) × (leb x.read_index a.effect.state.applied ≡ true)
        ready = and_parts (is_majority c.nodes (in_round a.node rest x.round)) (leb x.read_index a.effect.state.applied) in_it.1

        applied : x.read_index ≤ a.effect.state.applied
        applied = leb-true _ _ ready.1

        then : RaftView S C O
        then = ((world_after c k.early).state a.node).raft

        leading : (is_leader then.role ≡ true) × (has_committed_own then ≡ true)
        leading = and_parts (is_leader then.role) (has_committed_own then) (and_parts (c.is_read x.input.cmd) (is_leader then.role && has_committed_own then) k.came).1

        low : (j : ℕ) → in_round a.node rest x.round j ≡ true → TermAt k.early j ≤ TermAt k.early a.node
        low j e = elim (eqb_tells j a.node) [ inl t ↦ rw (t.1) (omega arith) | inr t ↦ k.gives j (leb-true _ _ (rw (t.0) at e)) ]

        early_run : IsRun c k.early
        early_run = run_front c k.early (step.In a.node x.input ∷ k.late) (rw (k.is) r)

        bound : length (applied_by c.machine c.nodes (erased c k.early)) ≤ then.commit
        bound = index c k.early early_run a.node (record { up = k.up; leader = leading.0; term = refl }) (eqb-true _ _ leading.1) (in_round a.node rest x.round) ready.0 low

  pub answered_append : (w : ReadWorld S C O) (xs ys : List (Step (RaftInput C))) → answered_from c w (xs ++ ys) ≡ answered_from c w xs ++ answered_from c (world_from c w xs) ys
  answered_append w [] ys = refl
  answered_append w (x ∷ xs) ys = ap (λ zs. answered_at c w x ++ zs) (answered_append (next_world c w x) xs ys) ∙ sym (append_assoc (answered_at c w x) (answered_from c (next_world c w x) xs) (answered_from c (world_from c (next_world c w x) xs) ys))

  pub answered_last : (ss : List (Step (RaftInput C))) (s : Step (RaftInput C)) → answered c (ss ++ s ∷ []) ≡ answered c ss ++ answered_at c (world_after c ss) s
  answered_last ss s = answered_append (first c) ss (s ∷ []) ∙ ap (λ zs. answered c ss ++ zs) (append-nil (answered_at c (world_after c ss) s))

  -- what holds of every run
  pub record Holds (ss : List (Step (RaftInput C))) : Type 0 where
    pub times : Times c ss (world_after c ss)
    pub all : AllWait ss (world_after c ss)
    pub reads : (y : ℕ × RaftInput C) → In y (answered c ss) → IsRead ss y

  read_on : (ss : List (Step (RaftInput C))) (s : Step (RaftInput C)) (y : ℕ × RaftInput C) → IsRead ss y → IsRead (ss ++ s ∷ []) y
  read_on ss s y k = record { early = k.early; late = k.late ++ s ∷ []; node = k.node; is = more k.early k.late ss (step.In k.node y.1) s k.is; came = k.came; committed = k.committed; applied = k.applied }

  quiet_waits : (ss : List (Step (RaftInput C))) (s : Step (RaftInput C)) → AllWait ss (world_after c ss) → Quiet c (world_after c ss) s → AllWait (ss ++ s ∷ []) (next_world c (world_after c ss) s)
  quiet_waits ss s all q i up x h = elim (q.node i up) [
    | inr n ↦ absurd (rw (n.1) at h)
    | inl e ↦
        (let k = all i e.1 x (rw (e.0) at h) in
        record {
          early = k.early;
          late = k.late ++ s ∷ [];
          is = more k.early k.late ss (step.In i x.input) s k.is;
          up = k.up;
          came = k.came;
          read_index = k.read_index;
          leads = leads_same c (world_after c ss) (next_world c (world_after c ss) s) i (TermAt k.early i) k.leads e.0 up;
          acks = λ p there answer its le. let m = q.like p there in rw (m.source) (k.acks m.was m.there (rw (m.content) at answer) (rw (m.content) at its) (rw (m.content) at le));
          gives = λ j le. k.gives j (rw (e.0) at le);
        })
  ]

  holds_on : (ss : List (Step (RaftInput C))) (s : Step (RaftInput C)) → IsRun c (ss ++ s ∷ []) → Holds ss → Holds (ss ++ s ∷ [])
  holds_on ss s r h = record {
    times = times_on c ss s r h.times;
    all = elim (act c (world_after c ss) s (taken_last c ss s r)) [
      | inl a ↦ rw (v_is c ss s r h.times a) (event_waits ss s r h.times a h.all)
      | inr q ↦ rw (after_step c ss s) (quiet_waits ss s h.all q)
    ];
    reads = λ y i. elim (in_append y (answered c ss) (answered_at c (world_after c ss) s) (rw (answered_last ss s) at i)) [
      | inl q ↦ read_on ss s y (h.reads y q)
      | inr q ↦ now y q
    ];
  }
    where
      now : (y : ℕ × RaftInput C) → In y (answered_at c (world_after c ss) s) → IsRead (ss ++ s ∷ []) y
      now y i = elim (act c (world_after c ss) s (taken_last c ss s r)) [
        | inr q ↦ absurd (rw (q.none) at i)
        | inl a ↦
            (let x = in_map _ (filter (is_ready c.nodes a.node a.effect.state (rest ss s r h.times a h.all)) (rest ss s r h.times a h.all).waiting) y (rw (a.event) at i) in
            rw (x.2) (reads_now ss s r h.times a h.all x.0 x.1))
      ]

  first_holds : Holds []
  first_holds = record { times = first_times c; all = λ i up x h. absurd h; reads = λ y h. absurd h }

  holds_run : (ss xs : List (Step (RaftInput C))) → IsRun c (ss ++ xs) → Holds ss → Holds (ss ++ xs)
  holds_run ss [] r h = rw (append-nil ss) h
  holds_run ss (x ∷ xs) r h =
      let r' : IsRun c ((ss ++ x ∷ []) ++ xs) = rw (append_assoc ss (x ∷ []) xs) r in
      rw (append_assoc ss (x ∷ []) xs) at (holds_run (ss ++ x ∷ []) xs r' (holds_on ss x (run_front c (ss ++ x ∷ []) xs r') h))

  pub holds : (ss : List (Step (RaftInput C))) → IsRun c ss → Holds ss
  holds ss r = holds_run [] ss r first_holds

pub read_index : (S C O : Type 0) → ReadIndex S C O
read_index S C O c ss r y h = (holds c ss r).reads y h
