-- A node acknowledges what it has of a leader's log: a leader its own, when it commits, and a follower what it took.
use Rattle.std.proofs.Common.{◌≡◌, ◌≢◌, ℕ, suc, ◌+◌, ◌<◌, ◌≤◌, min, max, true, Option, Some, List, length, take, ◌⊎◌, inl, inr, refl, sym, ◌∙◌, arith, leb, eqb, ltb, ◌&&◌}
use Rattle.std.proofs.lemmas.Bool.{and_parts, eqb-true, leb-true, ltb-true}
use Rattle.std.proofs.lemmas.Bool.Decides.{eqb_tells}
use Rattle.std.proofs.lemmas.List.{length-take}
use Rattle.vst_base.specs.declared.entry.Entry.{Entry}
use Rattle.vst_base.specs.Logs.{accepted, term_at}
use Rattle.vst_base.specs.Elections.{is_majority, holders, learned_commit, may_commit}
use Rattle.raft_histories.specs.Histories.{Acked, CommittedBy, Descends, Election, HasOrLost, History, IsCommitted, IsSoundHistory}
use Rattle.raft_histories.specs.Prefixes.{Agree, Same, Took}
use Rattle.raft_histories.proofs.Accepting.{took}
use Rattle.raft_histories.proofs.Bookkeeping.{Aside, Grows, IsSoundKept, Leads, Noted, Replicated}
use Rattle.raft_histories.proofs.Completing.{agree, committed_leader}
use Rattle.raft_histories.proofs.Growing.{candidacy_grow, cast_grow, committed_less, descends_grow, election_grow, has_or_lost_grow}
use Rattle.raft_histories.proofs.Logs.{front_term, same_length, same_less, same_refl, same_take, same_term, same_trans, term_in}
use Rattle.raft_histories.proofs.Putting.{put2, put2_at, put2_cases, with_node_cases}
use Rattle.lists.specs.Prefixes.{prefix_self}

-- the history when the node i has had q entries of the leader of the term t, or more
abbrev pub acked : {C : Type 0} → History C → ℕ → ℕ → ℕ → History C
acked g t i q = record g { acked = put2 g.acked t i (max (g.acked t i) q) }

pub acked_at : {C : Type 0} (g : History C) (t i q : ℕ) → (acked g t i q).acked t i ≡ max (g.acked t i) q
acked_at g t i q = put2_at g.acked t i (max (g.acked t i) q)

acked_grows : {C : Type 0} (g : History C) (i t q : ℕ) (voted : Option ℕ) (log : List (Entry C)) → IsSoundKept g i t voted log → Grows g (acked g t i q)
acked_grows g i t q voted log k =
    record {
      leader_log = λ u. prefix_self (g.leader_log u);
      candidacy = λ u c l e. e;
      leader = λ u c e. e;
      vote = λ u v c e. e;
      acked = λ u v. elim (put2_cases g.acked t i (max (g.acked t i) q) u v) [ inl h ↦ rw (h.2, h.0, h.1) (omega arith) | inr h ↦ rw (h.1) (omega arith) ];
      frozen = λ u v c s e lt. elim (put2_cases g.acked t i (max (g.acked t i) q) s v)
          [ inl h ↦ absurd (let le = (k.votes u c (rw (h.1) at e)).le in omega (arith, h.0)) | inr h ↦ rw (h.1) (omega arith) ];
    }

-- what was acknowledged is acknowledged now, or was before
acked_cases : {C : Type 0} (g : History C) (i t q u n : ℕ) → Acked (acked g t i q) u i n → ((u ≡ t) × (n ≤ max (g.acked t i) q)) ⊎ ((u ≢ t) × Acked g u i n)
acked_cases g i t q u n a =
    elim (put2_cases g.acked t i (max (g.acked t i) q) u i) [
      | inl h ↦ inl (h.0, rw (h.2) at (a.reach))
      | inr h ↦ inr ((λ e. h.0 e refl), record { pos = a.pos; reach = rw (h.1) at (a.reach); has = a.has })
    ]

-- the log that it keeps has what it acknowledged
acked_noted : {C : Type 0} {m : ℕ} (g : History C) (i t q : ℕ) (voted : Option ℕ) (log new : List (Entry C)) → IsSoundHistory m g → IsSoundKept g i t voted log →
    q ≤ length (g.leader_log t) → Descends (acked g t i q) new → ((n : ℕ) → term_at new n ≤ t) →
    ((u n : ℕ) → Acked (acked g t i q) u i n → HasOrLost (acked g t i q) new u n (suc t)) → Noted m i g (acked g t i q) t voted new
acked_noted {C = C} {m = m} g i t q voted log new ok k fits descend terms acks = record { past = past; grows = gr; aside = aside; kept = kept }
  where
    gr : Grows g (acked g t i q)
    gr = acked_grows g i t q voted log k

    past : IsSoundHistory m (acked g t i q)
    past = record {
      descend = λ u. descends_grow gr (ok.descend u);
      terms = ok.terms;
      none = ok.none;
      reach = λ u v. elim (put2_cases g.acked t i (max (g.acked t i) q) u v)
          [ inl h ↦ rw (h.2, h.0) (let a = ok.reach t i in omega arith) | inr h ↦ rw (h.1) (ok.reach u v) ];
      candidacies = λ u c l e. candidacy_grow gr (ok.candidacies u c l e);
      elections = λ u c e. election_grow ok gr (ok.elections u c e);
    }

    aside : (j : ℕ) → j ≢ i → Aside j g (acked g t i q)
    aside j ne = record {
      apart = record {
        acked = λ u. elim (put2_cases g.acked t i (max (g.acked t i) q) u j) [ inl h ↦ absurd (ne h.1) | inr h ↦ rw (h.1) (omega arith) ];
        vote = λ u c e. e;
        candidacy = λ u l e. e;
      };
      leader = λ u e. e;
      leader_log = λ u e. refl;
    }

    kept : IsSoundKept (acked g t i q) i t voted new
    kept = record {
      descend = descend;
      terms = terms;
      past = λ u n a. elim (acked_cases g i t q u n a) [ inl c ↦ omega (arith, c.0) | inr c ↦ k.past u n c.1 ];
      acks = acks;
      votes = λ u c e. let v = k.votes u c e in record { le = v.le; now = v.now; cast = cast_grow ok gr (λ s lt. gr.frozen u i c s e lt) v.cast };
      candidacies = k.candidacies;
    }

-- a leader acknowledges its own log
pub own_noted : {C : Type 0} {m : ℕ} (g : History C) (i t : ℕ) (voted : Option ℕ) (log : List (Entry C)) (matched : ℕ → ℕ) →
    IsSoundHistory m g → IsSoundKept g i t voted log → Leads g i t log matched → Noted m i g (acked g t i (length log)) t voted log
own_noted g i t voted log matched ok k l =
    let gr = acked_grows g i t (length log) voted log k in
    acked_noted g i t (length log) voted log log ok k (rw (← l.own) (omega arith)) (descends_grow gr k.descend) k.terms
    (λ u n a. elim (acked_cases g i t (length log) u n a)
    [ inl q ↦ inl (rw (l.own, ← q.0) (a.has)) | inr q ↦ has_or_lost_grow log gr (suc t) (omega arith) (k.acks u n q.1) ])

pub own_leads : {C : Type 0} (g : History C) (i t q : ℕ) (log : List (Entry C)) (matched : ℕ → ℕ) → Grows g (acked g t i q) →
    Leads g i t log matched → Leads (acked g t i q) i t log matched
own_leads g i t q log matched gr l = record { leader = l.leader; own = l.own; heard = λ j. let a = l.heard j in let b = gr.acked t j in omega arith }

-- what it may commit then is committed
pub own_committed : {C : Type 0} {m : ℕ} (g : History C) (i t : ℕ) (log : List (Entry C)) (matched : ℕ → ℕ) (commit n : ℕ) →
    IsSoundHistory m g → Grows g (acked g t i (length log)) → Leads g i t log matched → n ≤ length log → may_commit m i matched log t commit n ≡ true →
    (commit < n) × CommittedBy m (acked g t i (length log)) log n t
own_committed {C = C} {m = m} g i t log matched commit n ok gr l fits may = (
  ltb-true _ _ p.0,
  record {
    by = t;
    index = n;
    le = omega arith;
    upto = omega arith;
    on_majority = record { pos = pos; has = rw (← l.own) (eqb-true _ _ q.0); quorum = holders i matched n; most = q.1; held = held };
    same = rw (← l.own) (same_refl n log);
  },
)
  where
    h : History C
    h = acked g t i (length log)

    p : (ltb commit n ≡ true) × ((eqb (term_at log n) t && is_majority m (holders i matched n)) ≡ true)
    p = and_parts (ltb commit n) (eqb (term_at log n) t && is_majority m (holders i matched n)) may

    q : (eqb (term_at log n) t ≡ true) × (is_majority m (holders i matched n) ≡ true)
    q = and_parts (eqb (term_at log n) t) (is_majority m (holders i matched n)) p.1

    pos : 0 < t
    pos = let el = ok.elections t i l.leader in (ok.candidacies t i el.log el.candidacy).pos

    held : (v : ℕ) → holders i matched n v ≡ true → n ≤ h.acked t v
    held v e = elim (with_node_cases i (λ j. leb n (matched j)) v e) [
      | inl s ↦ rw (s, acked_at g t i (length log)) (omega arith)
      | inr s ↦ (let a = leb-true _ _ s in let b = l.heard v in let c = gr.acked t v in omega arith)
    ]

descends_take : {C : Type 0} {g : History C} (log : List (Entry C)) (q : ℕ) → Descends g log → Descends g (take q log)
descends_take log q d = record {
  at = λ n le.
      let fits : n ≤ q = omega (arith, length-take q log) in
      let s : Same n (take q log) log = same_less n fits (same_take q log) in
      same_trans s (rw (same_term n (omega arith) s) (d.at n (same_length s le)));
}

terms_take : {C : Type 0} (log : List (Entry C)) (q t : ℕ) → ((n : ℕ) → term_at log n ≤ t) → (n : ℕ) → term_at (take q log) n ≤ t
terms_take log q t h n = go (grind arith)
  where
    go : (0 < term_at (take q log) n) ⊎ (term_at (take q log) n ≡ 0) → term_at (take q log) n ≤ t
    go (inr e) = omega arith
    go (inl p) =
        let le : n ≤ length (take q log) = term_in (take q log) n p in
        let s : Same n (take q log) log = same_less n (omega (arith, length-take q log)) (same_take q log) in
        let e = same_term n (omega arith) s in
        let b = h n in
        omega arith

-- a follower's log agrees with the leader's, so it takes what comes
pub follower_took : {C : Type 0} {m : ℕ} (g : History C) (i l t : ℕ) (voted : Option ℕ) (log : List (Entry C)) (prev prev_t : ℕ) (es : List (Entry C)) (commit : ℕ) →
    IsSoundHistory m g → IsSoundKept g i t voted log → Replicated m g l i t prev prev_t es commit → prev ≤ length log → term_at log prev ≡ prev_t →
    Took log (g.leader_log t) (prev + length es) (accepted log prev es)
follower_took g i l t voted log prev prev_t es commit ok k r le e = took log (g.leader_log t) prev prev_t es r.follows (agree k.descend (ok.descend t)) le e

-- it acknowledges what it took of them, up to q
pub taken_noted : {C : Type 0} {m : ℕ} (g : History C) (i l t q : ℕ) (voted : Option ℕ) (log new : List (Entry C)) → IsSoundHistory m g → IsSoundKept g i t voted log →
    g.leader t ≡ Some l → Took log (g.leader_log t) q new → Noted m i g (acked g t i q) t voted new
taken_noted {C = C} {m = m} g i l t q voted log new ok k lead tk = acked_noted g i t q voted log new ok k tk.fits descend terms acks
  where
    h : History C
    h = acked g t i q

    gr : Grows g h
    gr = acked_grows g i t q voted log k

    theirs : List (Entry C)
    theirs = g.leader_log t

    descend : Descends h new
    descend = descends_grow gr (elim tk.whole [ inl e ↦ rw e k.descend | inr e ↦ rw e (descends_take theirs q (ok.descend t)) ])

    terms : (n : ℕ) → term_at new n ≤ t
    terms = elim tk.whole [ inl e ↦ rw e k.terms | inr e ↦ rw e (terms_take theirs q t (ok.terms t)) ]

    -- an entry of both logs stays
    stays : (u n : ℕ) → 0 < u → term_at log n ≡ u → term_at theirs n ≡ u → term_at new n ≡ u
    stays u n pos mine its =
        let ag : Agree log theirs = agree k.descend (ok.descend t) in
        let s : Same n log theirs = ag.at n (term_in log n (omega arith)) (term_in theirs n (omega arith)) (mine ∙ sym its) in
        same_term n (omega arith) (tk.keeps n s) ∙ mine

    -- what was acknowledged in this term
    ours : (n : ℕ) → 0 < t → term_at theirs n ≡ t → (n ≤ q) ⊎ (n ≤ g.acked t i) → term_at new n ≡ t
    ours n pos its (inl le) = same_term n le tk.same ∙ its
    ours n pos its (inr le) =
        elim (k.acks t n (record { pos = pos; reach = le; has = its }))
        [ inl e ↦ stays t n pos e its | inr s ↦ absurd (let a = s.above in let b = s.below in omega arith) ]

    -- what was acknowledged before is kept where the leader began with it, and else lost to it
    el : Election m g t l
    el = ok.elections t l lead

    earlier : (u n : ℕ) → u < t → 0 < u → HasOrLost g log u n (suc t) → HasOrLost g new u n (suc t)
    earlier u n lt pos (inr s) = inr s
    earlier u n lt pos (inl e) =
        elim (eqb_tells (term_at el.log n) u) [
          | inl c ↦ inl (stays u n pos e (sym (front_term _ n (term_in el.log n (omega (arith, c.1))) el.front) ∙ c.1))
          | inr c ↦ inr (record { by = t; who = l; log = el.log; above = lt; below = omega arith; leader = lead; candidacy = el.candidacy; lacks = c.1 })
        ]

    acks : (u n : ℕ) → Acked h u i n → HasOrLost h new u n (suc t)
    acks u n a = elim (acked_cases g i t q u n a) [
      | inl c ↦ inl (ours n (omega (arith, c.0, a.pos)) (rw (c.0) at (a.has)) (grind (arith, c.1)) ∙ sym c.0)
      | inr c ↦ has_or_lost_grow new gr (suc t) (omega arith) (earlier u n (let b = k.past u n c.1 in less u b c.0) a.pos (k.acks u n c.1))
    ]
      where
        less : (u : ℕ) → u ≤ t → u ≢ t → u < t
        less u le ne = omega arith

max_cases : (a b : ℕ) → (max a b ≡ a) ⊎ (max a b ≡ b)
max_cases a b = grind arith

-- what it learns to be committed is: what it knew stands in the leader's log too, so it was not cut
pub taken_committed : {C : Type 0} {m : ℕ} (g : History C) (l t q commit theirs : ℕ) (log new : List (Entry C)) → IsSoundHistory m g →
    g.leader t ≡ Some l → Took log (g.leader_log t) q new →
    IsCommitted m g log commit t → IsCommitted m g (g.leader_log t) theirs t → IsCommitted m g new (learned_commit commit theirs q) t
taken_committed {C = C} {m = m} g l t q commit theirs log new ok lead tk mine its =
    elim (max_cases commit (min theirs q))
    [ inl e ↦ rw e (stays mine) | inr e ↦ rw e (comes (committed_less (g.leader_log t) (min theirs q) (omega arith) its)) ]
  where
    stays : IsCommitted m g log commit t → IsCommitted m g new commit t
    stays (inl e) = inl e
    stays (inr s) = inr (record {
      by = s.by;
      index = s.index;
      le = s.le;
      upto = s.upto;
      on_majority = s.on_majority;
      same = same_trans (tk.keeps commit (committed_leader ok s l lead)) s.same;
    })

    comes : IsCommitted m g (g.leader_log t) (min theirs q) t → IsCommitted m g new (min theirs q) t
    comes (inl e) = inl e
    comes (inr s) = inr (record {
      by = s.by;
      index = s.index;
      le = s.le;
      upto = s.upto;
      on_majority = s.on_majority;
      same = same_trans (same_less (min theirs q) (omega arith) tk.same) s.same;
    })
