-- A node becomes a candidate, or votes for one.
use Rattle.std.proofs.Common.{◌≡◌, ◌≢◌, ℕ, suc, true, Option, Some, None, List, length, ◌⊎◌, inl, inr, refl, sym, ap, ◌∙◌, arith}
use Rattle.std.proofs.lemmas.Bool.{eqb-true}
use Rattle.vst_base.specs.Elections.{is_free_for, is_up_to_date, nobody, with_node}
use Rattle.vst_base.specs.Logs.{last_term}
use Rattle.vst_base.specs.declared.entry.Entry.{Entry}
use Rattle.raft_histories.specs.Histories.{Acked, HasOrLost, History, IsCandidacy, IsSoundHistory}
use Rattle.raft_histories.proofs.Bookkeeping.{Aside, Asked, Cast, Grows, IsSoundKept, Noted, Stands, Voted}
use Rattle.raft_histories.proofs.Completing.{up_to_date}
use Rattle.raft_histories.proofs.Growing.{acked_back, candidacy_grow, cast_grow, descends_grow, election_grow, has_or_lost_grow}
use Rattle.raft_histories.proofs.Putting.{put2, put2_at, put2_cases, with_node_cases}
use Rattle.lists.specs.Prefixes.{prefix_self}

-- the history when the node i, of the term t and with this log, becomes a candidate
abbrev pub stood : {C : Type 0} → History C → ℕ → ℕ → List (Entry C) → History C
stood g t i log = record g { candidacy = put2 g.candidacy (suc t) i (Some log); vote = put2 g.vote (suc t) i (Some i) }

stood_grows : {C : Type 0} (g : History C) (i t : ℕ) (voted : Option ℕ) (log : List (Entry C)) → IsSoundKept g i t voted log → Grows g (stood g t i log)
stood_grows g i t voted log k =
    record {
      leader_log = λ u. prefix_self (g.leader_log u);
      candidacy = λ u c l e. elim (put2_cases g.candidacy (suc t) i (Some log) u c)
          [ inl h ↦ absurd (let le = k.candidacies u l (rw (h.1) at e) in omega (arith, h.0)) | inr h ↦ h.1 ∙ e ];
      leader = λ u c e. e;
      vote = λ u v c e. elim (put2_cases g.vote (suc t) i (Some i) u v)
          [ inl h ↦ absurd (let le = (k.votes u c (rw (h.1) at e)).le in omega (arith, h.0)) | inr h ↦ h.1 ∙ e ];
      acked = λ u v. omega arith;
      frozen = λ u v c t e lt. omega arith;
    }

first_candidacy : {C : Type 0} {g h : History C} {i t : ℕ} {voted : Option ℕ} {log : List (Entry C)} → Grows g h → IsSoundKept g i t voted log → IsCandidacy h (suc t) log
first_candidacy gr k = record { pos = omega arith; descend = descends_grow gr k.descend; terms = λ n. let h = k.terms n in omega arith }

pub stood_noted : {C : Type 0} {m : ℕ} (g : History C) (i t : ℕ) (voted : Option ℕ) (log : List (Entry C)) → IsSoundHistory m g → IsSoundKept g i t voted log →
    Noted m i g (stood g t i log) (suc t) (Some i) log
stood_noted {C = C} {m = m} g i t voted log ok k = record { past = past; grows = gr; aside = aside; kept = kept }
  where
    h : History C
    h = stood g t i log

    gr : Grows g h
    gr = stood_grows g i t voted log k

    past : IsSoundHistory m h
    past = record {
      descend = λ u. descends_grow gr (ok.descend u);
      terms = ok.terms;
      none = ok.none;
      reach = ok.reach;
      candidacies = λ u c l e. elim (put2_cases g.candidacy (suc t) i (Some log) u c)
          [ inl q ↦ (let s : log ≡ l = cc (q.2, e) in rw (q.0, ← s) (first_candidacy gr k)) | inr q ↦ candidacy_grow gr (ok.candidacies u c l (sym q.1 ∙ e)) ];
      elections = λ u c e. election_grow ok gr (ok.elections u c e);
    }

    aside : (j : ℕ) → j ≢ i → Aside j g h
    aside j ne = record {
      apart = record {
        acked = λ t. omega arith;
        vote = λ u c e. elim (put2_cases g.vote (suc t) i (Some i) u j) [ inl q ↦ absurd (ne q.1) | inr q ↦ sym q.1 ∙ e ];
        candidacy = λ u l e. elim (put2_cases g.candidacy (suc t) i (Some log) u j) [ inl q ↦ absurd (ne q.1) | inr q ↦ sym q.1 ∙ e ];
      };
      leader = λ u e. e;
      leader_log = λ u e. refl;
    }

    acks : (s n : ℕ) → Acked h s i n → HasOrLost h log s n (suc (suc t))
    acks s n a = has_or_lost_grow log gr (suc (suc t)) (omega arith) (k.acks s n (acked_back ok gr (omega arith) a))

    cast : Cast h (suc t) i i
    cast = record { log = log; candidacy = put2_at g.candidacy (suc t) i (Some log); kept = λ s n lt a. acks s n a }

    votes : (u c : ℕ) → h.vote u i ≡ Some c → Voted h i (suc t) (Some i) u c
    votes u c e = elim (put2_cases g.vote (suc t) i (Some i) u i) [
      | inl q ↦ (let s : i ≡ c = cc (q.2, e) in rw (q.0, ← s) (record { le = omega arith; now = λ p. refl; cast = cast }))
      | inr q ↦ (let v = k.votes u c (sym q.1 ∙ e) in
          record { le = omega (arith, v.le); now = λ p. absurd (omega (arith, v.le, p)); cast = cast_grow ok gr (λ t lt. omega arith) v.cast })
    ]

    kept : IsSoundKept h i (suc t) (Some i) log
    kept = record {
      descend = descends_grow gr k.descend;
      terms = λ n. let q = k.terms n in omega arith;
      past = λ s n a. let q = k.past s n (acked_back ok gr (omega arith) a) in omega arith;
      acks = acks;
      votes = votes;
      candidacies = λ u l e. elim (put2_cases g.candidacy (suc t) i (Some log) u i)
          [ inl q ↦ omega (arith, q.0) | inr q ↦ (let le = k.candidacies u l (sym q.1 ∙ e) in omega arith) ];
    }

-- it stands with its own vote
pub stood_stands : {C : Type 0} {m : ℕ} (g : History C) (i t : ℕ) (voted : Option ℕ) (log : List (Entry C)) → IsSoundHistory m g → IsSoundKept g i t voted log →
    Stands (stood g t i log) i (suc t) log (with_node i nobody)
stood_stands g i t voted log ok k =
    record {
      candidacy = put2_at g.candidacy (suc t) i (Some log);
      fresh = λ e. let el = ok.elections (suc t) i e in let le = k.candidacies (suc t) el.log el.candidacy in absurd (omega arith);
      cast = λ v e. elim (with_node_cases i nobody v e) [ inl q ↦ rw q (put2_at g.vote (suc t) i (Some i)) | inr q ↦ absurd (cc (q)) ];
    }

-- the history when the node i votes for c in the term t
abbrev pub voted_for : {C : Type 0} → History C → ℕ → ℕ → ℕ → History C
voted_for g t i c = record g { vote = put2 g.vote t i (Some c) }

-- what the test tells
free_for_tells : (voted : Option ℕ) (c : ℕ) → is_free_for voted c ≡ true → (voted ≡ None) ⊎ (voted ≡ Some c)
free_for_tells None c e = inl refl
free_for_tells (Some v) c e = inr (ap (λ (k : ℕ). Some k) (eqb-true v c e))

voted_grows : {C : Type 0} (g : History C) (i t c : ℕ) (voted : Option ℕ) (log : List (Entry C)) → IsSoundKept g i t voted log →
    is_free_for voted c ≡ true → Grows g (voted_for g t i c)
voted_grows g i t c voted log k free =
    record {
      leader_log = λ u. prefix_self (g.leader_log u);
      candidacy = λ u c l e. e;
      leader = λ u c e. e;
      vote = λ u v d e. elim (put2_cases g.vote t i (Some c) u v) [
        | inl h ↦ (let now = (k.votes u d (rw (h.1) at e)).now h.0 in
            elim (free_for_tells voted c free) [ inl f ↦ absurd (cc (f, now)) | inr f ↦ h.2 ∙ cc (f, now) ])
        | inr h ↦ h.1 ∙ e
      ];
      acked = λ u v. omega arith;
      frozen = λ u v c t e lt. omega arith;
    }

pub voted_noted : {C : Type 0} {m : ℕ} (g : History C) (i t c : ℕ) (voted : Option ℕ) (log : List (Entry C)) (last last_t : ℕ) →
    IsSoundHistory m g → IsSoundKept g i t voted log → is_free_for voted c ≡ true → is_up_to_date log last last_t ≡ true → Asked g c t last last_t →
    Noted m i g (voted_for g t i c) t (Some c) log
voted_noted {C = C} {m = m} g i t c voted log last last_t ok k free up asked = record { past = past; grows = gr; aside = aside; kept = kept }
  where
    h : History C
    h = voted_for g t i c

    gr : Grows g h
    gr = voted_grows g i t c voted log k free

    past : IsSoundHistory m h
    past = record {
      descend = λ u. descends_grow gr (ok.descend u);
      terms = ok.terms;
      none = ok.none;
      reach = ok.reach;
      candidacies = λ u c l e. candidacy_grow gr (ok.candidacies u c l e);
      elections = λ u c e. election_grow ok gr (ok.elections u c e);
    }

    aside : (j : ℕ) → j ≢ i → Aside j g h
    aside j ne = record {
      apart = record {
        acked = λ t. omega arith;
        vote = λ u d e. elim (put2_cases g.vote t i (Some c) u j) [ inl q ↦ absurd (ne q.1) | inr q ↦ sym q.1 ∙ e ];
        candidacy = λ u l e. e;
      };
      leader = λ u e. e;
      leader_log = λ u e. refl;
    }

    back : (s n : ℕ) → Acked h s i n → Acked g s i n
    back s n a = acked_back ok gr (omega arith) a

    up_to : is_up_to_date log (length asked.log) (last_term asked.log) ≡ true
    up_to = rw (← asked.term, ← asked.at) up

    cast : Cast h t i c
    cast = record {
      log = asked.log;
      candidacy = asked.candidacy;
      kept = λ s n lt a. has_or_lost_grow asked.log gr (suc t) (omega arith)
          (up_to_date ok k (ok.candidacies t c asked.log asked.candidacy) up_to s n lt (back s n a));
    }

    votes : (u d : ℕ) → h.vote u i ≡ Some d → Voted h i t (Some c) u d
    votes u d e = elim (put2_cases g.vote t i (Some c) u i) [
      | inl q ↦ (let s : c ≡ d = cc (q.2, e) in rw (q.0, ← s) (record { le = omega arith; now = λ p. refl; cast = cast }))
      | inr q ↦ (let v = k.votes u d (sym q.1 ∙ e) in
          record { le = v.le; now = λ p. absurd (q.0 p refl); cast = cast_grow ok gr (λ t lt. omega arith) v.cast })
    ]

    kept : IsSoundKept h i t (Some c) log
    kept = record {
      descend = descends_grow gr k.descend;
      terms = k.terms;
      past = λ s n a. k.past s n (back s n a);
      acks = λ s n a. has_or_lost_grow log gr (suc t) (omega arith) (k.acks s n (back s n a));
      votes = votes;
      candidacies = k.candidacies;
    }
