-- Rounds are times: what gives a round back was sent after the round had begun.
use Rattle.std.proofs.Common.{◌≡◌, ◌≢◌, ℕ, zero, suc, ◌<◌, ◌≤◌, ◌⊎◌, inl, inr, Bool, true, false, ◌&&◌, eqb, List, [], ◌∷◌, ◌++◌, map, get_or, replicate, Some, None, cond, refl, sym, ap, ◌∙◌, append_assoc, append-nil, arith}
use Rattle.std.proofs.lemmas.Bool.{and_parts, eqb-true, eq-eqb, false≢true}
use Rattle.std.proofs.lemmas.Bool.Decides.{eqb_tells}
use Rattle.std.specs.List.{filter}
use Rattle.net_semantics.specs.RunLaws.{place_and_why-none, run_from-append}
use Rattle.net_semantics.specs.Runs.{first_refused_from}
use Rattle.net_semantics.specs.Steps.{after_event, refusal_of, with_packets}
use Rattle.net_semantics.specs.Worlds.{Packet, sent_by}
use Rattle.vst_base.specs.declared.net.Net.TheVariants as net
use Rattle.vst_base.specs.declared.step.Step.{Step}
use Rattle.raft_free.specs.Events.{In}
use Rattle.raft_free.proofs.Stepping.{in_append}
use Rattle.raft_types.specs.Terms.{term_of}
use Rattle.raft_types.specs.declared.client.RaftInput.{RaftInput}
use Rattle.raft_types.specs.declared.msg.RaftMsg.{RaftMsg}
use Rattle.raft_types.specs.declared.msg.RaftMsg.TheVariants as msg
use Rattle.raft_xform.specs.Nodes.{RaftView, is_leader}
use Rattle.raft_safety.proofs.Mirroring.{puts}
use Rattle.raft_reads.specs.ReadRaft.{read_raft, read_recovery, reads_after, with_round, with_reads}
use Rattle.raft_types.specs.Rounds.{ReadMsg}
use Rattle.raft_reads.specs.Reads.{ReadView, acked_by, no_reads, round_of, still_leads}
use Rattle.raft_reads.specs.Clusters.{ReadCluster, ReadWorld, first, next_world, world_after, world_from}
use Rattle.reads_safety.specs.Runs.{IsRun}
use Rattle.reads_safety.proofs.Acts.{Act, Quiet, Taken, act}
use Rattle.reads_safety.proofs.Moments.{LeadsIn, leads_between, one_leader}
use Rattle.reads_safety.proofs.Shapes.{IsShaped, is_append}

-- what a filter lets through
pub in_filter : {A : Type 0} (f : A → Bool) (xs : List A) (x : A) → In x (filter f xs) → In x xs × (f x ≡ true)
in_filter f [] x h = absurd h
in_filter f (y ∷ xs) x h = go (f y) refl (λ q. in_filter f xs x q) h
  where
    go : (b : Bool) → f y ≡ b → (In x (filter f xs) → In x xs × (f x ≡ true)) → In x (cond b (y ∷ filter f xs) (filter f xs)) → In x (y ∷ xs) × (f x ≡ true)
    go true e rest (inl q) = (inl q, rw q e)
    go true e rest (inr q) = let r = rest q in (inr r.0, r.1)
    go false e rest q = let r = rest q in (inr r.0, r.1)

none_given : (n j : ℕ) → get_or {A = ℕ} (replicate n 0) j 0 ≡ 0
none_given zero j = refl
none_given (suc n) zero = refl
none_given (suc n) (suc j) = none_given n j

-- a packet that a node sends
pub record Sent {C : Type 0} (e own term round : ℕ) (sends : List (ℕ × RaftMsg C)) (p : Packet (ReadMsg C)) : Type 0 where
  pub send : ℕ × RaftMsg C
  pub one : In send sends
  pub source : p.source ≡ e
  pub raft : p.content.raft ≡ send.1
  pub tag : p.content.round ≡ round_of own term round send.1

sent_is : {C : Type 0} (e own term round : ℕ) (sends : List (ℕ × RaftMsg C)) (p : Packet (ReadMsg C)) → In p (sent_by e (map (with_round own term round) sends)) → Sent e own term round sends p
sent_is e own term round [] p h = absurd h
sent_is e own term round (q ∷ sends) p (inl i) = rw i (record { send = q; one = inl refl; source = refl; raft = refl; tag = refl })
sent_is e own term round (q ∷ sends) p (inr h) = let s = sent_is e own term round sends p h in record { send = s.send; one = inr s.one; source = s.source; raft = s.raft; tag = s.tag }

-- the round of a message is 0, or its node's own and that of a leader, or one that is given back in the term of the message that is answered
data Tagged {C : Type 0} (own term round : ℕ) (x : RaftMsg C) (r : ℕ) : Type 0 where
  Nothing : r ≡ 0 → Tagged own term round x r
  Own : is_append x ≡ true → r ≡ own → Tagged own term round x r
  Back : term_of x ≡ term → r ≡ round → Tagged own term round x r

tagged_is : {C : Type 0} (own term round : ℕ) (x : RaftMsg C) → Tagged own term round x (round_of own term round x)
tagged_is own term round (msg.RequestVote r) = Nothing refl
tagged_is own term round (msg.Vote v) = Nothing refl
tagged_is own term round (msg.Append a) = Own refl refl
tagged_is own term round (msg.Appended a) = elim (eqb_tells a.term term) [ inl t ↦ rw (t.0) (Back t.1 refl) | inr t ↦ rw (t.0) (Nothing refl) ]

module _ {S C O : Type 0} (c : ReadCluster S C O) where
  pub after_step : (ss : List (Step (RaftInput C))) (s : Step (RaftInput C)) → world_after c (ss ++ s ∷ []) ≡ next_world c (world_after c ss) s
  after_step ss s = run_from-append (read_raft c.nodes c.machine c.is_read) (read_recovery c.nodes c.machine) (first c) ss (s ∷ [])

  -- parts of a run
  pub run_front : (early late : List (Step (RaftInput C))) → IsRun c (early ++ late) → IsRun c early
  run_front early late r = record { size = r.size; allowed = go (first c) early r.allowed }
    where
      go : (w : ReadWorld S C O) (early : List (Step (RaftInput C))) → first_refused_from net.Fail (read_raft c.nodes c.machine c.is_read) (read_recovery c.nodes c.machine) w (early ++ late) ≡ None →
          first_refused_from net.Fail (read_raft c.nodes c.machine c.is_read) (read_recovery c.nodes c.machine) w early ≡ None
      go w [] e = refl
      go w (s ∷ early) e = let p = place_and_why-none _ _ e in rw (p.0, go (next_world c w s) early p.1) refl

  pub taken_last : (ss : List (Step (RaftInput C))) (s : Step (RaftInput C)) → IsRun c (ss ++ s ∷ []) → Taken c (world_after c ss) s
  taken_last ss s r = go (first c) ss r.allowed
    where
      go : (w : ReadWorld S C O) (ss : List (Step (RaftInput C))) → first_refused_from net.Fail (read_raft c.nodes c.machine c.is_read) (read_recovery c.nodes c.machine) w (ss ++ s ∷ []) ≡ None →
          Taken c (world_from c w ss) s
      go w [] e = (place_and_why-none (refusal_of net.Fail (read_raft c.nodes c.machine c.is_read) w s) _ e).0
      go w (x ∷ ss) e = go (next_world c w x) ss (place_and_why-none (refusal_of net.Fail (read_raft c.nodes c.machine c.is_read) w x) _ e).1

  same_leader : (ss : List (Step (RaftInput C))) → IsRun c ss → (i j t : ℕ) → LeadsIn c (world_after c ss) i t → LeadsIn c (world_after c ss) j t → i ≡ j
  same_leader ss r i j t li lj = one_leader c ss [] (rw (append-nil ss) r) i j t li (rw (append-nil ss) lj)

  -- some node led in the term
  pub record WasLed (ss : List (Step (RaftInput C))) (t : ℕ) : Type 0 where
    pub early : List (Step (RaftInput C))
    pub late : List (Step (RaftInput C))
    pub who : ℕ
    pub is : early ++ late ≡ ss
    pub leads : LeadsIn c (world_after c early) who t

  led_on : (ss : List (Step (RaftInput C))) (s : Step (RaftInput C)) (t : ℕ) → WasLed ss t → WasLed (ss ++ s ∷ []) t
  led_on ss s t l = record { early = l.early; late = l.late ++ s ∷ []; who = l.who; is = sym (append_assoc l.early l.late (s ∷ [])) ∙ ap (λ xs. xs ++ s ∷ []) l.is; leads = l.leads }

  -- no packet of a leader's term, and nothing that it was given back, has a round over its own
  pub record Times (ss : List (Step (RaftInput C))) (w : ReadWorld S C O) : Type 0 where
    pub packets : (i t : ℕ) → LeadsIn c w i t → (p : Packet (ReadMsg C)) → In p w.packets → term_of p.content.raft ≡ t → p.content.round ≤ (w.state i).reads.round
    pub given : (i t : ℕ) → LeadsIn c w i t → (j : ℕ) → acked_by (w.state i).reads j ≤ (w.state i).reads.round
    pub past : (p : Packet (ReadMsg C)) → In p w.packets → 0 < p.content.round → WasLed ss (term_of p.content.raft)

  -- the world after an event
  abbrev pub Then : (w : ReadWorld S C O) (s : Step (RaftInput C)) → Act c w s → ReadWorld S C O
  Then w s a = after_event (with_packets w a.packets) (Some (record { node = a.node; input = a.input; effect = with_reads c.machine c.nodes a.node (w.state a.node).raft a.effect a.reads a.term a.round }))

  pub still_true : (before after : RaftView S C O) → still_leads before after ≡ true → (is_leader before.role ≡ true) × (is_leader after.role ≡ true) × (after.ballot.term ≡ before.ballot.term)
  still_true before after e =
      let p = and_parts (is_leader before.role) (is_leader after.role && eqb after.ballot.term before.ballot.term) e in
      let q = and_parts (is_leader after.role) (eqb after.ballot.term before.ballot.term) p.1 in
      (p.0, q.0, eqb-true _ _ q.1)

  still_is : (before after : RaftView S C O) → is_leader before.role ≡ true → is_leader after.role ≡ true → after.ballot.term ≡ before.ballot.term → still_leads before after ≡ true
  still_is before after p q e = rw (p, q, e, eq-eqb before.ballot.term before.ballot.term refl) refl

  between_last : (early late : List (Step (RaftInput C))) (s : Step (RaftInput C)) → IsRun c ((early ++ late) ++ s ∷ []) → (who i t : ℕ) →
      LeadsIn c (world_after c early) who t → LeadsIn c (world_after c ((early ++ late) ++ s ∷ [])) i t → LeadsIn c (world_after c (early ++ late)) i t
  between_last early late s r who i t first last =
      let same : who ≡ i = one_leader c early (late ++ s ∷ []) (rw (← append_assoc early late (s ∷ [])) r) who i t first (rw (← append_assoc early late (s ∷ [])) last) in
      leads_between c early late (s ∷ []) (run_front (early ++ late) (s ∷ []) r) r i t (rw same at first) last

  was_led : (ss : List (Step (RaftInput C))) (s : Step (RaftInput C)) → IsRun c (ss ++ s ∷ []) → (i t : ℕ) → WasLed ss t → LeadsIn c (world_after c (ss ++ s ∷ [])) i t → LeadsIn c (world_after c ss) i t
  was_led ss s r i t l last = (rw (l.is) at (between_last l.early l.late s)) r l.who i t l.leads last

  -- a node in this state leads in the term
  record LeadsAs (is_up : Bool) (x : ReadView S C O) (t : ℕ) : Type 0 where
    up : is_up ≡ true
    leader : is_leader x.raft.role ≡ true
    term : x.raft.ballot.term ≡ t

  -- it led before too, and its round has only grown; or it begins to
  record Led (w : ReadWorld S C O) (i t : ℕ) (x : ReadView S C O) : Type 0 where
    leads : LeadsIn c w i t
    grows : (w.state i).reads.round ≤ x.reads.round

  record Begins (w : ReadWorld S C O) (node i t : ℕ) : Type 0 where
    is : i ≡ node
    anew : LeadsIn c w i t → ⊥

  cases_pos : (k : ℕ) → (0 < k) ⊎ (k ≡ 0)
  cases_pos k = grind arith

  module _ (ss : List (Step (RaftInput C))) (s : Step (RaftInput C)) (r : IsRun c (ss ++ s ∷ [])) (times : Times ss (world_after c ss)) (a : Act c (world_after c ss) s) where
    abbrev Now : ReadWorld S C O
    Now = world_after c ss

    abbrev pub V : ReadWorld S C O
    V = Then (world_after c ss) s a

    abbrev before : RaftView S C O
    before = ((world_after c ss).state a.node).raft

    abbrev new : ReadView S C O
    new = (with_reads c.machine c.nodes a.node ((world_after c ss).state a.node).raft a.effect a.reads a.term a.round).state

    pub v_is : world_after c (ss ++ s ∷ []) ≡ V
    v_is = after_step ss s ∙ a.is

    pub node_state : V.state a.node ≡ new
    node_state = rw (eq-eqb a.node a.node refl) refl

    who_leads : (i : ℕ) (t : ℕ) → LeadsAs (Now.is_up i) (V.state i) t → Led Now i t (V.state i) ⊎ Begins Now a.node i t
    who_leads i = puts (λ k x. (t : ℕ) → LeadsAs (Now.is_up k) x t → Led Now k t x ⊎ Begins Now a.node k t) Now.state a.node new here other i
      where
        other : (j : ℕ) → j ≢ a.node → (t : ℕ) → LeadsAs (Now.is_up j) (Now.state j) t → Led Now j t (Now.state j) ⊎ Begins Now a.node j t
        other j ne t l = inl (record { leads = record { up = l.up; leader = l.leader; term = l.term }; grows = omega arith })

        here : (t : ℕ) → LeadsAs (Now.is_up a.node) new t → Led Now a.node t new ⊎ Begins Now a.node a.node t
        here t l = go (still_leads before a.effect.state) refl
          where
            go : (b : Bool) → still_leads before a.effect.state ≡ b → Led Now a.node t new ⊎ Begins Now a.node a.node t
            go true e = let q = still_true before a.effect.state e in
                inl (record { leads = record { up = l.up; leader = q.0; term = sym q.2 ∙ l.term }; grows = rw e a.grows })
            go false e = inr (record { is = refl; anew = λ m. false≢true (sym e ∙ still_is before a.effect.state m.leader l.leader (l.term ∙ sym m.term)) })

    as_leads : (i t : ℕ) → LeadsIn c V i t → LeadsAs (Now.is_up i) (V.state i) t
    as_leads i t l = record { up = l.up; leader = l.leader; term = l.term }

    old_round : (i t : ℕ) → LeadsIn c V i t → (p : Packet (ReadMsg C)) → In p Now.packets → term_of p.content.raft ≡ t → p.content.round ≤ (V.state i).reads.round
    old_round i t l p there e = go (who_leads i t (as_leads i t l)) (cases_pos p.content.round)
      where
        go : Led Now i t (V.state i) ⊎ Begins Now a.node i t → (0 < p.content.round) ⊎ (p.content.round ≡ 0) → p.content.round ≤ (V.state i).reads.round
        go (inl b) h = let q = times.packets i t b.leads p there e in omega (arith, b.grows)
        go (inr b) (inr z) = omega arith
        go (inr b) (inl pos) = absurd (b.anew (was_led ss s r i t (rw e at (times.past p there pos)) (rw v_is l)))

    new_round : (i t : ℕ) → LeadsIn c V i t → (own : ℕ) → new.reads.round ≡ own → (x : RaftMsg C) (k : ℕ) → Tagged own a.term a.round x k → IsShaped a.effect.state x → term_of x ≡ t → k ≤ (V.state i).reads.round
    new_round i t l own is x k (Nothing z) shape e = omega arith
    new_round i t l own is x k (Own app same) shape e =
        let mine : LeadsIn c V a.node t = record { up = a.up; leader = rw node_state (shape.leads app); term = rw node_state (sym shape.term ∙ e) } in
        let one : i ≡ a.node = same_leader (ss ++ s ∷ []) r i a.node t (rw v_is l) (rw v_is mine) in
        rw (one, node_state) (omega (arith, is))
    new_round i t l own is x k (Back q same) shape e = elim (a.answers) [
      | inl z ↦ omega (arith, same, z)
      | inr p ↦ (let b = old_round i t l p.packet p.there (p.term ∙ (sym q ∙ e)) in omega (arith, same, p.round))
    ]

    pub sent : (p : Packet (ReadMsg C)) → In p (sent_by a.node (map (with_round (reads_after c.nodes before a.effect.state a.reads).round a.term a.round) a.effect.sends)) →
        Sent a.node (reads_after c.nodes before a.effect.state a.reads).round a.term a.round a.effect.sends p
    sent p h = sent_is a.node (reads_after c.nodes before a.effect.state a.reads).round a.term a.round a.effect.sends p h

    event_packets : (i t : ℕ) → LeadsIn c V i t → (p : Packet (ReadMsg C)) → In p V.packets → term_of p.content.raft ≡ t → p.content.round ≤ (V.state i).reads.round
    event_packets i t l p h e = elim (in_append p a.packets _ h) [
      | inl q ↦ (let k = a.like p q in rw (k.content) (old_round i t l k.was k.there (rw (k.content) at e)))
      | inr q ↦ (let k = sent p q in rw (k.tag) (new_round i t l _ refl k.send.1 _ (tagged_is _ a.term a.round k.send.1) (a.shaped.each k.send k.one) (rw (k.raft) at e)))
    ]

    event_given : (i t : ℕ) → LeadsIn c V i t → (j : ℕ) → acked_by (V.state i).reads j ≤ (V.state i).reads.round
    event_given i t l j = puts (λ k x. LeadsAs (Now.is_up k) x t → acked_by x.reads j ≤ x.reads.round) Now.state a.node new here other i (as_leads i t l)
      where
        other : (k : ℕ) → k ≢ a.node → LeadsAs (Now.is_up k) (Now.state k) t → acked_by (Now.state k).reads j ≤ (Now.state k).reads.round
        other k ne l = times.given k t (record { up = l.up; leader = l.leader; term = l.term }) j

        here : LeadsAs (Now.is_up a.node) new t → acked_by new.reads j ≤ new.reads.round
        here l = go (still_leads before a.effect.state) refl
          where
            go : (b : Bool) → still_leads before a.effect.state ≡ b → acked_by (cond b a.reads (no_reads c.nodes)) j ≤ (cond b a.reads (no_reads c.nodes)).round
            go false e = omega (arith, none_given c.nodes j)
            go true e =
                let q = still_true before a.effect.state e in
                let m : LeadsIn c Now a.node before.ballot.term = record { up = a.up; leader = q.0; term = refl } in
                elim (a.given j) [
                  | inl le ↦ (let g = times.given a.node before.ballot.term m j in omega (arith, a.grows))
                  | inr b ↦ (let g = times.packets a.node before.ballot.term m b.packet b.there b.term in omega (arith, b.le, a.grows))
                ]

    event_past : (p : Packet (ReadMsg C)) → In p V.packets → 0 < p.content.round → WasLed (ss ++ s ∷ []) (term_of p.content.raft)
    event_past p h pos = elim (in_append p a.packets _ h) [
      | inl q ↦ (let k = a.like p q in rw (k.content) (led_on ss s _ (times.past k.was k.there (rw (k.content) at pos))))
      | inr q ↦ (let k = sent p q in rw (k.raft) (go k.send.1 _ (tagged_is _ a.term a.round k.send.1) (a.shaped.each k.send k.one) (rw (k.tag) at pos)))
    ]
      where
        go : (x : RaftMsg C) (k : ℕ) → Tagged (reads_after c.nodes before a.effect.state a.reads).round a.term a.round x k → IsShaped a.effect.state x → 0 < k → WasLed (ss ++ s ∷ []) (term_of x)
        go x k (Nothing z) shape pos = absurd (omega arith)
        go x k (Own app same) shape pos =
            let mine : LeadsIn c V a.node (term_of x) = record { up = a.up; leader = rw node_state (shape.leads app); term = rw node_state (sym shape.term) } in
            record { early = ss ++ s ∷ []; late = []; who = a.node; is = append-nil (ss ++ s ∷ []); leads = rw v_is mine }
        go x k (Back q same) shape pos = elim (a.answers) [
          | inl z ↦ absurd (omega arith)
          | inr p ↦ rw (q, ← p.term) (led_on ss s _ (times.past p.packet p.there (omega (arith, p.round))))
        ]

    pub event_times : Times (ss ++ s ∷ []) V
    event_times = record { packets = event_packets; given = event_given; past = event_past }

  pub leads_same : (v w : ReadWorld S C O) (i t : ℕ) → LeadsIn c v i t → w.state i ≡ v.state i → w.is_up i ≡ true → LeadsIn c w i t
  leads_same v w i t l e up = record { up = up; leader = ap (λ (x : ReadView S C O). is_leader x.raft.role) e ∙ l.leader; term = ap (λ (x : ReadView S C O). x.raft.ballot.term) e ∙ l.term }

  -- a step that is no event
  module _ (ss : List (Step (RaftInput C))) (s : Step (RaftInput C)) (times : Times ss (world_after c ss)) (q : Quiet c (world_after c ss) s) where
    pub quiet_leads : (i t : ℕ) → LeadsIn c (next_world c (world_after c ss) s) i t →
        LeadsIn c (world_after c ss) i t × ((next_world c (world_after c ss) s).state i ≡ (world_after c ss).state i)
    quiet_leads i t l = elim (q.node i l.up) [
      | inl h ↦ (leads_same (next_world c (world_after c ss) s) (world_after c ss) i t l (sym h.0) h.1, h.0)
      | inr h ↦ absurd (false≢true (sym h.0 ∙ l.leader))
    ]

    quiet_times : Times (ss ++ s ∷ []) (next_world c (world_after c ss) s)
    quiet_times = record {
      packets = λ i t l p h e. let m = quiet_leads i t l in let k = q.like p h in rw (m.1, k.content) (times.packets i t m.0 k.was k.there (rw (k.content) at e));
      given = λ i t l j. let m = quiet_leads i t l in rw (m.1) (times.given i t m.0 j);
      past = λ p h pos. let k = q.like p h in rw (k.content) (led_on ss s _ (times.past k.was k.there (rw (k.content) at pos)));
    }

  pub times_on : (ss : List (Step (RaftInput C))) (s : Step (RaftInput C)) → IsRun c (ss ++ s ∷ []) → Times ss (world_after c ss) → Times (ss ++ s ∷ []) (world_after c (ss ++ s ∷ []))
  times_on ss s r times = elim (act c (world_after c ss) s (taken_last ss s r)) [
    | inl a ↦ rw (v_is ss s r times a) (event_times ss s r times a)
    | inr q ↦ rw (after_step ss s) (quiet_times ss s times q)
  ]

  pub first_times : Times [] (first c)
  first_times = record { packets = λ i t l p h e. absurd h; given = λ i t l j. absurd (false≢true l.leader); past = λ p h pos. absurd h }

  pub times_run : (ss : List (Step (RaftInput C))) (s : List (Step (RaftInput C))) → IsRun c (ss ++ s) → Times ss (world_after c ss) → Times (ss ++ s) (world_after c (ss ++ s))
  times_run ss [] r t = rw (append-nil ss) t
  times_run ss (x ∷ xs) r t = rw (append_assoc ss (x ∷ []) xs) at (times_run (ss ++ x ∷ []) xs (rw (append_assoc ss (x ∷ []) xs) r) (times_on ss x (run_front (ss ++ x ∷ []) xs (rw (append_assoc ss (x ∷ []) xs) r)) t))
