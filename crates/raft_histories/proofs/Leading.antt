-- A candidate becomes the leader of its term, and a leader adds an entry to its log.
use Rattle.std.proofs.Common.{◌≡◌, ◌≢◌, ℕ, suc, ◌<◌, ◌≤◌, Bool, true, Option, Some, None, List, [], ◌∷◌, ◌++◌, length, ◌⊎◌, inl, inr, refl, sym, ap, ◌∙◌, arith, length-append}
use Rattle.vst_base.specs.Elections.{Shared, is_majority}
use Rattle.vst_base.specs.Logs.{term_at}
use Rattle.vst_base.specs.declared.entry.Entry.{Entry}
use Rattle.vst_base.proofs.Majorities.{majorities_meet}
use Rattle.raft_histories.specs.Histories.{Acked, Descends, Election, HasOrLost, History, IsSoundHistory, Lost}
use Rattle.raft_histories.specs.Prefixes.{Same}
use Rattle.raft_histories.proofs.Bookkeeping.{Apart, Aside, Cast, Grows, IsSoundKept, Leads, Noted, Stands}
use Rattle.raft_histories.proofs.Growing.{acked_back, candidacy_grow, cast_grow, descends_grow, election_grow, has_or_lost_grow, kept_grow}
use Rattle.raft_histories.proofs.Logs.{same_append, same_refl, same_sym, same_trans, term_append_end, term_append_in, term_append_one, term_in}
use Rattle.raft_histories.proofs.Putting.{put1, put1_at, put1_cases}
use Rattle.lists.specs.Prefixes.{prefix_append, prefix_length, prefix_self}

-- the history when the node i becomes the leader of the term t with this log
abbrev pub led : {C : Type 0} → History C → ℕ → ℕ → List (Entry C) → History C
led g t i log = record g { leader = put1 g.leader t (Some i); leader_log = put1 g.leader_log t log }

led_grows : {C : Type 0} {m : ℕ} (g : History C) (i t : ℕ) (log : List (Entry C)) → IsSoundHistory m g → g.leader t ≡ None → Grows g (led g t i log)
led_grows g i t log ok none =
    record {
      leader_log = λ u. elim (put1_cases g.leader_log t log u) [ inl h ↦ rw (h.0, ok.none t none) refl | inr h ↦ rw (h.1) (prefix_self (g.leader_log u)) ];
      candidacy = λ u c l e. e;
      leader = λ u c e. elim (put1_cases g.leader t (Some i) u) [ inl h ↦ absurd (cc (none, rw (h.0) at e)) | inr h ↦ h.1 ∙ e ];
      vote = λ u v c e. e;
      acked = λ u v. omega arith;
      frozen = λ u v c t e lt. omega arith;
    }

-- a candidate with a majority is the first leader of its term: another would share a voter with it
unled : {C : Type 0} {m : ℕ} {g : History C} {i t : ℕ} {log : List (Entry C)} {votes : ℕ → Bool} → IsSoundHistory m g →
    Stands g i t log votes → is_majority m votes ≡ true → g.leader t ≡ None
unled {C = C} {m = m} {g = g} {i = i} {t = t} {votes = votes} ok s most = go (g.leader t) refl
  where
    go : (c : Option ℕ) → g.leader t ≡ c → g.leader t ≡ None
    go None e = e
    go (Some c) e =
        let el : Election m g t c = ok.elections t c e in
        let sh : Shared m el.quorum votes = majorities_meet m el.quorum votes el.most most in
        let same : c ≡ i = cc (el.voted sh.who sh.in_left, s.cast sh.who sh.in_right) in
        absurd (s.fresh (e ∙ ap (λ (k : ℕ). Some k) same))

pub led_noted : {C : Type 0} {m : ℕ} (g : History C) (i t : ℕ) (voted : Option ℕ) (log : List (Entry C)) (votes : ℕ → Bool) →
    IsSoundHistory m g → IsSoundKept g i t voted log → Stands g i t log votes → is_majority m votes ≡ true → ((v : ℕ) → votes v ≡ true → Cast g t v i) →
    Noted m i g (led g t i log) t voted log
led_noted {C = C} {m = m} g i t voted log votes ok k s most casts = record { past = past; grows = gr; aside = aside; kept = kept_grow ok gr apart k }
  where
    none : g.leader t ≡ None
    none = unled ok s most

    h : History C
    h = led g t i log

    gr : Grows g h
    gr = led_grows g i t log ok none

    before : (u n : ℕ) → Lost g u n (suc t) → Lost g u n t
    before u n l = record { by = l.by; who = l.who; log = l.log; above = l.above; below = less (grind (arith, l.below)); leader = l.leader; candidacy = l.candidacy; lacks = l.lacks }
      where
        less : (l.by < t) ⊎ (l.by ≡ t) → l.by < t
        less (inl lt) = lt
        less (inr e) = absurd (cc (none, rw e at (l.leader)))

    voter : (v u n : ℕ) → votes v ≡ true → u < t → Acked h u v n → HasOrLost h log u n t
    voter v u n e lt a =
        let cast : Cast g t v i = casts v e in
        let same : cast.log ≡ log = cc (cast.candidacy, s.candidacy) in
        elim (rw same at (cast.kept u n lt (acked_back ok gr (omega arith) a)))
        [ inl q ↦ inl q | inr l ↦ has_or_lost_grow log gr t (omega arith) (inr (before u n l)) ]

    election : Election m h t i
    election = record {
      log = log;
      candidacy = s.candidacy;
      front = rw (put1_at g.leader_log t log) (prefix_self log);
      quorum = votes;
      most = most;
      voted = s.cast;
      kept = λ v e u n lt a. voter v u n e lt a;
    }

    past : IsSoundHistory m h
    past = record {
      descend = λ u. elim (put1_cases g.leader_log t log u) [ inl q ↦ rw (q.1) (descends_grow gr k.descend) | inr q ↦ rw (q.1) (descends_grow gr (ok.descend u)) ];
      terms = λ u n. elim (put1_cases g.leader_log t log u) [ inl q ↦ rw (q.1) (let a = k.terms n in omega (arith, q.0)) | inr q ↦ rw (q.1) (ok.terms u n) ];
      none = λ u e. elim (put1_cases g.leader t (Some i) u) [
        | inl q ↦ absurd (cc (q.1, e))
        | inr q ↦ elim (put1_cases g.leader_log t log u) [ inl r ↦ absurd (q.0 r.0) | inr r ↦ r.1 ∙ ok.none u (sym q.1 ∙ e) ]
      ];
      reach = λ u v. let a = ok.reach u v in let b = prefix_length _ (gr.leader_log u) in omega arith;
      candidacies = λ u c l e. candidacy_grow gr (ok.candidacies u c l e);
      elections = λ u c e. elim (put1_cases g.leader t (Some i) u)
          [ inl q ↦ (let same : i ≡ c = cc (q.1, e) in rw (q.0, ← same) election) | inr q ↦ election_grow ok gr (ok.elections u c (sym q.1 ∙ e)) ];
    }

    apart : {j : ℕ} → Apart j g h
    apart = record { acked = λ t. omega arith; vote = λ u c e. e; candidacy = λ u l e. e }

    aside : (j : ℕ) → j ≢ i → Aside j g h
    aside j ne = record {
      apart = apart;
      leader = λ u e. elim (put1_cases g.leader t (Some i) u) [ inl q ↦ absurd (ne (cc (q.1, e))) | inr q ↦ sym q.1 ∙ e ];
      leader_log = λ u e. elim (put1_cases g.leader_log t log u) [ inl q ↦ absurd (cc (none, rw (q.0) at e)) | inr q ↦ q.1 ];
    }

-- it knows nothing of the others yet
pub led_leads : {C : Type 0} (g : History C) (i t : ℕ) (log : List (Entry C)) → Leads (led g t i log) i t log (λ j. 0)
led_leads g i t log = record { leader = put1_at g.leader t (Some i); own = sym (put1_at g.leader_log t log); heard = λ j. omega arith }

-- the history when the log of the leader of the term t is this
abbrev pub proposed : {C : Type 0} → History C → ℕ → List (Entry C) → History C
proposed g t log = record g { leader_log = put1 g.leader_log t log }

descends_append : {C : Type 0} {h : History C} (log : List (Entry C)) (e : Entry C) (t : ℕ) → e.term ≡ t → Descends h log →
    h.leader_log t ≡ log ++ e ∷ [] → Descends h (log ++ e ∷ [])
descends_append {C = C} {h = h} log e t et d eq = record { at = λ n le. go n (grind (arith, length-append log (e ∷ []))) }
  where
    go : (n : ℕ) → (n ≤ length log) ⊎ (n ≡ suc (length log)) → Same n (log ++ e ∷ []) (h.leader_log (term_at (log ++ e ∷ []) n))
    go n (inl le) = rw (term_append_in log (e ∷ []) n le) (same_trans (same_sym (same_append n log (e ∷ []) le)) (d.at n le))
    go n (inr p) = let last : term_at (log ++ e ∷ []) (suc (length log)) ≡ t = term_append_end log e ∙ et in rw (p, last, eq) (same_refl _ _)

terms_append : {C : Type 0} (log : List (Entry C)) (e : Entry C) (t : ℕ) → e.term ≡ t → ((n : ℕ) → term_at log n ≤ t) → (n : ℕ) → term_at (log ++ e ∷ []) n ≤ t
terms_append log e t et terms n = elim (term_append_one log e n) [ inl q ↦ (let a = terms n in omega (arith, q)) | inr q ↦ omega (arith, q, et) ]

proposed_grows : {C : Type 0} (g : History C) (t : ℕ) (log : List (Entry C)) (e : Entry C) → log ≡ g.leader_log t → Grows g (proposed g t (log ++ e ∷ []))
proposed_grows g t log e own =
    record {
      leader_log = λ u. elim (put1_cases g.leader_log t (log ++ e ∷ []) u) [ inl q ↦ rw (q.1, q.0, ← own) (prefix_append log (e ∷ [])) | inr q ↦ rw (q.1) (prefix_self (g.leader_log u)) ];
      candidacy = λ u c l e. e;
      leader = λ u c e. e;
      vote = λ u v c e. e;
      acked = λ u v. omega arith;
      frozen = λ u v c t e lt. omega arith;
    }

pub proposed_noted : {C : Type 0} {m : ℕ} (g : History C) (i t : ℕ) (voted : Option ℕ) (log : List (Entry C)) (matched : ℕ → ℕ) (e : Entry C) → IsSoundHistory m g → IsSoundKept g i t voted log →
    Leads g i t log matched → e.term ≡ t → Noted m i g (proposed g t (log ++ e ∷ [])) t voted (log ++ e ∷ [])
proposed_noted {C = C} {m = m} g i t voted log matched e ok k l et = record { past = past; grows = gr; aside = aside; kept = kept }
  where
    new : List (Entry C)
    new = log ++ e ∷ []

    h : History C
    h = proposed g t new

    gr : Grows g h
    gr = proposed_grows g t log e l.own

    descend : Descends h new
    descend = descends_append log e t et (descends_grow gr k.descend) (put1_at g.leader_log t new)

    past : IsSoundHistory m h
    past = record {
      descend = λ u. elim (put1_cases g.leader_log t new u) [ inl q ↦ rw (q.1) descend | inr q ↦ rw (q.1) (descends_grow gr (ok.descend u)) ];
      terms = λ u n. elim (put1_cases g.leader_log t new u) [ inl q ↦ rw (q.1, q.0) (terms_append log e t et k.terms n) | inr q ↦ rw (q.1) (ok.terms u n) ];
      none = λ u e. elim (put1_cases g.leader_log t new u) [ inl q ↦ absurd (cc (l.leader, rw (q.0) at e)) | inr q ↦ q.1 ∙ ok.none u e ];
      reach = λ u v. let a = ok.reach u v in let b = prefix_length _ (gr.leader_log u) in omega arith;
      candidacies = λ u c l e. candidacy_grow gr (ok.candidacies u c l e);
      elections = λ u c e. election_grow ok gr (ok.elections u c e);
    }

    aside : (j : ℕ) → j ≢ i → Aside j g h
    aside j ne = record {
      apart = record { acked = λ t. omega arith; vote = λ u c e. e; candidacy = λ u l e. e };
      leader = λ u e. e;
      leader_log = λ u e. elim (put1_cases g.leader_log t new u) [ inl q ↦ absurd (ne (cc (l.leader, rw (q.0) at e))) | inr q ↦ q.1 ];
    }

    back : (s n : ℕ) → Acked h s i n → Acked g s i n
    back s n a = acked_back ok gr (omega arith) a

    acks : (s n : ℕ) → Acked g s i n → HasOrLost g new s n (suc t)
    acks s n a = elim (k.acks s n a) [ inl q ↦ inl (term_append_in log (e ∷ []) n (term_in log n (omega (arith, a.pos, q))) ∙ q) | inr q ↦ inr q ]

    kept : IsSoundKept h i t voted new
    kept = record {
      descend = descend;
      terms = terms_append log e t et k.terms;
      past = λ s n a. k.past s n (back s n a);
      acks = λ s n a. has_or_lost_grow new gr (suc t) (omega arith) (acks s n (back s n a));
      votes = λ u c e. let v = k.votes u c e in record { le = v.le; now = v.now; cast = cast_grow ok gr (λ t lt. omega arith) v.cast };
      candidacies = k.candidacies;
    }

pub proposed_leads : {C : Type 0} (g : History C) (i t : ℕ) (log : List (Entry C)) (matched : ℕ → ℕ) (e : Entry C) → Leads g i t log matched →
    Leads (proposed g t (log ++ e ∷ [])) i t (log ++ e ∷ []) matched
proposed_leads g i t log matched e l = record { leader = l.leader; own = sym (put1_at g.leader_log t (log ++ e ∷ [])); heard = l.heard }
