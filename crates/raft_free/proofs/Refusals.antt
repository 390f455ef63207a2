-- No leader is sent entries of its own term, and those that are sent agree with what is committed.
use Rattle.std.proofs.Common.{◌≡◌, ℕ, suc, ◌+◌, ◌<◌, ◌≤◌, true, false, not, ◌&&◌, List, [], ◌∷◌, length, inl, inr, ◌⊎◌, refl, ◌∙◌, arith, eqb, leb}
use Rattle.std.proofs.lemmas.Bool.{and_from, and_left, and_right, cases_Bool, eq-eqb, le-leb, leb-true, not_from_true, or_from}
use Rattle.vst_base.specs.declared.entry.Entry.{Entry}
use Rattle.vst_base.specs.Logs.{has_conflict, term_at}
use Rattle.raft_histories.specs.Histories.{IsCommitted}
use Rattle.raft_histories.specs.Prefixes.{Follows, Same}
use Rattle.raft_histories.proofs.Accepting.{follows_term}
use Rattle.raft_histories.proofs.Bookkeeping.{Replicated}
use Rattle.raft_histories.proofs.Completing.{committed_leader}
use Rattle.raft_histories.proofs.Growing.{committed_fits}
use Rattle.raft_histories.proofs.Logs.{same_term}
use Rattle.raft_free.specs.Events.{Comes}
use Rattle.raft_free.specs.Nodes.{Append, FreeWorld}
use Rattle.raft_free.specs.Runs.{Reached}
use Rattle.raft_free.specs.Safety.{MatchesBelowCommit, NoCommittedConflict, NoRivalAppends}
use Rattle.raft_free.proofs.Running.{Remembered, reached}

pub no_rival_appends : (C : Type 0) → NoRivalAppends C
no_rival_appends C n w i l prev prev_t commit es r sent lead =
    let b = reached r in
    let s : Replicated n b.history l i (w.node i).term prev prev_t es commit = b.sound.sent _ sent in
    let q = (b.sound.node i).leads lead in
    s.other (cc (s.leader, q.leader))

-- entries that have the log's terms as far as it is committed do not conflict with it
none_conflicts : {C : Type 0} (log : List (Entry C)) (commit prev : ℕ) (es : List (Entry C)) →
    ((k : ℕ) → k < length es → prev + suc k ≤ commit → term_at log (prev + suc k) ≡ term_at es (suc k)) → has_conflict log commit prev es ≡ false
none_conflicts log commit prev [] h = refl
none_conflicts {C = C} log commit prev (e ∷ es) h =
    or_from (leb (suc prev) commit && not (eqb (term_at log (suc prev)) e.term)) (has_conflict log commit (suc prev) es) (here (cases_Bool (leb (suc prev) commit)))
    (none_conflicts log commit (suc prev) es later)
  where
    at : (a b : ℕ) → a ≡ b → term_at log a ≡ term_at log b
    at a b p = rw p refl

    here : (leb (suc prev) commit ≡ true) ⊎ (leb (suc prev) commit ≡ false) → (leb (suc prev) commit && not (eqb (term_at log (suc prev)) e.term)) ≡ false
    here (inr p) = and_left (leb (suc prev) commit) (not (eqb (term_at log (suc prev)) e.term)) p
    here (inl p) =
        let le : suc prev ≤ commit = leb-true (suc prev) commit p in
        and_right (leb (suc prev) commit) (not (eqb (term_at log (suc prev)) e.term))
        (not_from_true _ (eq-eqb _ _ (at (suc prev) (prev + 1) (omega arith) ∙ h 0 (omega arith) (omega arith))))

    later : (k : ℕ) → k < length es → suc prev + suc k ≤ commit → term_at log (suc prev + suc k) ≡ term_at es (suc k)
    later k lt le = at (suc prev + suc k) (prev + suc (suc k)) (omega arith) ∙ h (suc k) (omega arith) (omega arith)

-- what entries that were sent to a node tell, by the log of their leader
record Heard (C : Type 0) (w : FreeWorld C) (i prev prev_t : ℕ) (es : List (Entry C)) : Type 0 where
  leader_log : List (Entry C)
  follows : Follows leader_log prev prev_t es
  same : Same (w.node i).commit (w.node i).log leader_log
  fits : (w.node i).commit ≤ length (w.node i).log

heard : (C : Type 0) (n : ℕ) (w : FreeWorld C) (i l prev prev_t commit : ℕ) (es : List (Entry C)) → Reached C n w →
    Comes w.sent (w.node i) l i (Append prev prev_t es commit) → Heard C w i prev prev_t es
heard C n w i l prev prev_t commit es r sent = record {
  leader_log = b.history.leader_log (w.node i).term;
  follows = s.follows;
  same = same (b.sound.node i).committed;
  fits = committed_fits (w.node i).log (b.sound.node i).committed;
}
  where
    b : Remembered n w
    b = reached r

    s : Replicated n b.history l i (w.node i).term prev prev_t es commit
    s = b.sound.sent _ sent

    same : IsCommitted n b.history (w.node i).log (w.node i).commit (w.node i).term →
        Same (w.node i).commit (w.node i).log (b.history.leader_log (w.node i).term)
    same (inl e) = rw e (record { eq = refl })
    same (inr c) = committed_leader b.sound.past c l s.leader

pub no_committed_conflict : (C : Type 0) → NoCommittedConflict C
no_committed_conflict C n w i l prev prev_t commit es r sent =
    let t = heard C n w i l prev prev_t commit es r sent in
    none_conflicts (w.node i).log (w.node i).commit prev es
    (λ k lt le. same_term (prev + suc k) le t.same ∙ follows_term t.leader_log prev prev_t es t.follows k lt)

pub matches_below_commit : (C : Type 0) → MatchesBelowCommit C
matches_below_commit C n w i l prev prev_t commit es r sent le =
    let t = heard C n w i l prev prev_t commit es r sent in
    let fits : prev ≤ length (w.node i).log = omega (arith, t.fits) in
    and_from _ _ (le-leb _ _ fits) (eq-eqb _ _ (same_term prev le t.same ∙ t.follows.term))
