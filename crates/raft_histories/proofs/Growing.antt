-- What holds of a history holds of it when more was noted.
use Rattle.std.proofs.Common.{ℕ, suc, ◌<◌, ◌≤◌, Option, List, ◌++◌, length, drop, inl, inr, sym, ap, ◌∙◌, arith, append_assoc}
use Rattle.vst_base.specs.declared.entry.Entry.{Entry}
use Rattle.vst_base.specs.Logs.{term_at}
use Rattle.raft_histories.specs.Histories.{Acked, CommittedBy, Descends, Election, HasOrLost, History, IsCandidacy, IsCommitted, IsSoundHistory, Lost, OnMajority}
use Rattle.raft_histories.specs.Prefixes.{Follows}
use Rattle.raft_histories.proofs.Accepting.{follows_fits}
use Rattle.raft_histories.proofs.Bookkeeping.{Apart, Cast, Grows, IsSoundKept}
use Rattle.raft_histories.proofs.Logs.{front_same, front_term, same_length, same_less, same_sym, same_trans, term_in}
use Rattle.lists.specs.Prefixes.{IsPrefix, prefix_joined, prefix_trans}

pub descends_grow : {C : Type 0} {g h : History C} {log : List (Entry C)} → Grows g h → Descends g log → Descends h log
descends_grow {log = log} gr d =
    record { at = λ n le. let s = d.at n le in same_trans s (front_same _ n (same_length s le) (gr.leader_log (term_at log n))) }

pub acked_back : {C : Type 0} {m : ℕ} {g h : History C} {t j n : ℕ} → IsSoundHistory m g → Grows g h → h.acked t j ≤ g.acked t j → Acked h t j n → Acked g t j n
acked_back {g = g} {t = t} {j = j} {n = n} ok gr le a =
    let in_reach : n ≤ length (g.leader_log t) = omega (arith, a.reach, ok.reach t j) in
    record { pos = a.pos; reach = omega (arith, a.reach); has = front_term _ n in_reach (gr.leader_log t) ∙ a.has }

pub lost_grow : {C : Type 0} {g h : History C} {t n u : ℕ} → Grows g h → (v : ℕ) → u ≤ v → Lost g t n u → Lost h t n v
lost_grow gr v le l =
    record { by = l.by; who = l.who; log = l.log; above = l.above; below = omega (arith, l.below); leader = gr.leader l.by l.who l.leader; candidacy = gr.candidacy l.by l.who l.log l.candidacy; lacks = l.lacks }

pub has_or_lost_grow : {C : Type 0} {g h : History C} (log : List (Entry C)) {t n u : ℕ} → Grows g h → (v : ℕ) → u ≤ v → HasOrLost g log t n u → HasOrLost h log t n v
has_or_lost_grow log gr v le (inl e) = inl e
has_or_lost_grow log gr v le (inr l) = inr (lost_grow gr v le l)

pub majority_in : {C : Type 0} {m : ℕ} {g : History C} {t n : ℕ} → OnMajority m g t n → n ≤ length (g.leader_log t)
majority_in {g = g} {t = t} {n = n} s = term_in (g.leader_log t) n (omega (arith, s.pos, s.has))

pub majority_grow : {C : Type 0} {m : ℕ} {g h : History C} {t n : ℕ} → Grows g h → OnMajority m g t n → OnMajority m h t n
majority_grow {g = g} {h = h} {t = t} {n = n} gr s =
    record {
      pos = s.pos;
      has = sym (front_term _ n (majority_in s) (gr.leader_log t)) ∙ s.has;
      quorum = s.quorum;
      most = s.most;
      held = λ v e. let a = s.held v e in let b = gr.acked t v in omega arith;
    }

pub committed_by_grow : {C : Type 0} {m : ℕ} {g h : History C} {log : List (Entry C)} {k u : ℕ} → Grows g h → (v : ℕ) → u ≤ v →
    CommittedBy m g log k u → CommittedBy m h log k v
committed_by_grow gr v le s =
    record {
      by = s.by;
      index = s.index;
      le = omega (arith, s.le);
      upto = s.upto;
      on_majority = majority_grow gr s.on_majority;
      same = same_trans s.same (front_same _ _ (let a = majority_in s.on_majority in let b = s.upto in omega arith) (gr.leader_log s.by));
    }

pub committed_grow : {C : Type 0} {m : ℕ} {g h : History C} (log : List (Entry C)) {k u : ℕ} → Grows g h → (v : ℕ) → u ≤ v →
    IsCommitted m g log k u → IsCommitted m h log k v
committed_grow log gr v le (inl e) = inl e
committed_grow log gr v le (inr s) = inr (committed_by_grow gr v le s)

pub committed_front : {C : Type 0} {m : ℕ} {g : History C} (log new : List (Entry C)) {k u : ℕ} → IsPrefix log new → IsCommitted m g log k u → IsCommitted m g new k u
committed_front log new fr (inl e) = inl e
committed_front log new {k = k} fr (inr s) =
    let fits : k ≤ length log = same_length (same_sym s.same) (let a = majority_in s.on_majority in let b = s.upto in omega arith) in
    inr (record { by = s.by; index = s.index; le = s.le; upto = s.upto; on_majority = s.on_majority; same = same_trans (same_sym (front_same _ k fits fr)) s.same })

pub committed_fits : {C : Type 0} {m : ℕ} {g : History C} (log : List (Entry C)) {k u : ℕ} → IsCommitted m g log k u → k ≤ length log
committed_fits log (inl e) = omega arith
committed_fits log (inr s) = same_length (same_sym s.same) (let a = majority_in s.on_majority in let b = s.upto in omega arith)

pub cast_grow : {C : Type 0} {m : ℕ} {g h : History C} {u v c : ℕ} → IsSoundHistory m g → Grows g h →
    ((t : ℕ) → t < u → h.acked t v ≤ g.acked t v) → Cast g u v c → Cast h u v c
cast_grow {u = u} {c = c} ok gr fr x =
    record {
      log = x.log;
      candidacy = gr.candidacy u c x.log x.candidacy;
      kept = λ t n lt a. has_or_lost_grow x.log gr (suc u) (omega arith) (x.kept t n lt (acked_back ok gr (fr t lt) a));
    }

pub candidacy_grow : {C : Type 0} {g h : History C} {u : ℕ} {log : List (Entry C)} → Grows g h → IsCandidacy g u log → IsCandidacy h u log
candidacy_grow gr b = record { pos = b.pos; descend = descends_grow gr b.descend; terms = b.terms }

pub election_grow : {C : Type 0} {m : ℕ} {g h : History C} {u c : ℕ} → IsSoundHistory m g → Grows g h → Election m g u c → Election m h u c
election_grow {u = u} {c = c} ok gr x =
    record {
      log = x.log;
      candidacy = gr.candidacy u c x.log x.candidacy;
      front = prefix_trans _ x.front (gr.leader_log u);
      quorum = x.quorum;
      most = x.most;
      voted = λ v e. gr.vote u v c (x.voted v e);
      kept = λ v e t n lt a. has_or_lost_grow x.log gr u (omega arith) (x.kept v e t n lt (acked_back ok gr (gr.frozen u v c t (x.voted v e) lt) a));
    }

pub follows_grow : {C : Type 0} {y z : List (Entry C)} {prev prev_t : ℕ} {es : List (Entry C)} → IsPrefix y z → Follows y prev prev_t es → Follows z prev prev_t es
follows_grow {y = y} {z = z} {prev = prev} {prev_t = prev_t} {es = es} fr f =
    record {
      front = f.front;
      rest = f.rest ++ drop (length y) z;
      whole = ap (λ r. f.front ++ r) (sym (append_assoc es f.rest (drop (length y) z)))
          ∙ (sym (append_assoc f.front (es ++ f.rest) (drop (length y) z)) ∙ (ap (λ r. r ++ drop (length y) z) f.whole ∙ prefix_joined fr));
      at = f.at;
      term = sym (front_term _ prev (let a = follows_fits y prev prev_t es f in omega arith) fr) ∙ f.term;
    }

pub kept_grow : {C : Type 0} {m : ℕ} {g h : History C} {j term : ℕ} {voted : Option ℕ} {log : List (Entry C)} → IsSoundHistory m g → Grows g h → Apart j g h →
    IsSoundKept g j term voted log → IsSoundKept h j term voted log
kept_grow {term = term} {log = log} ok gr aside nk =
    record {
      descend = descends_grow gr nk.descend;
      terms = nk.terms;
      past = λ t n a. nk.past t n (acked_back ok gr (aside.acked t) a);
      acks = λ t n a. has_or_lost_grow log gr (suc term) (omega arith) (nk.acks t n (acked_back ok gr (aside.acked t) a));
      votes = λ u c e. let v = nk.votes u c (aside.vote u c e) in
          record { le = v.le; now = v.now; cast = cast_grow ok gr (λ t lt. aside.acked t) v.cast };
      candidacies = λ u bid e. nk.candidacies u bid (aside.candidacy u bid e);
    }

pub committed_less : {C : Type 0} {m : ℕ} {g : History C} (log : List (Entry C)) {k u : ℕ} (j : ℕ) → j ≤ k → IsCommitted m g log k u → IsCommitted m g log j u
committed_less log j le (inl e) = inl (omega arith)
committed_less log j le (inr s) =
    inr (record { by = s.by; index = s.index; le = s.le; upto = omega (arith, s.upto); on_majority = s.on_majority; same = same_less j le s.same })
