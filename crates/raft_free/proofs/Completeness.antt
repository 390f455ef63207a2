-- What is committed is in the log of each leader of a greater term.
use Rattle.std.proofs.Common.{◌≡◌, ℕ, ◌<◌, ◌≤◌, Some, List, [], ◌∷◌, ◌++◌, inl, inr, refl, arith}
use Rattle.std.proofs.lemmas.Bool.{eq-eqb}
use Rattle.vst_base.specs.declared.entry.Entry.{Entry}
use Rattle.raft_histories.specs.Histories.{Election, History, IsCommitted, IsSoundHistory}
use Rattle.raft_histories.proofs.Completing.{committed_in_candidacy}
use Rattle.raft_histories.proofs.Growing.{committed_grow}
use Rattle.raft_histories.proofs.Logs.{front_same, same_less, same_sym, same_trans}
use Rattle.raft_free.specs.Events.{Commit, Event, effect}
use Rattle.raft_free.specs.Nodes.{FreeWorld}
use Rattle.raft_free.specs.Runs.{Run}
use Rattle.raft_free.specs.Safety.{CommittedKept, CommittedKeptBefore, Has, LeaderCompleteness, LeaderCompletenessBefore}
use Rattle.raft_free.proofs.Running.{both}
use Rattle.lists.specs.Prefixes.{IsPrefix, prefix_length}

-- the first log of a leader of a greater term has it, and so the log that it has become
leader_has : {C : Type 0} {m : ℕ} {g : History C} (x : List (Entry C)) (k : ℕ) {c t : ℕ} → IsSoundHistory m g → k ≤ c →
    IsCommitted m g x c t → (u j : ℕ) → g.leader u ≡ Some j → t < u → (its log : List (Entry C)) → g.candidacy u j ≡ Some its → IsPrefix its log → Has log k x
leader_has x k ok le (inl e) u j ch lt its log b f = let z : k ≡ 0 = omega arith in rw z (omega arith, refl)
leader_has x k ok le (inr s) u j ch lt its log b f =
    let r = committed_in_candidacy ok s u j ch lt its b in
    let h = prefix_length _ f in
    (omega (arith, r.0), (same_less k le (same_trans (same_sym (front_same _ _ r.0 f)) r.1)).eq)

pub committed_kept : (C : Type 0) → CommittedKept C
committed_kept C n v w i j k t le lw lt =
    let b = both t in
    let x = b.first.node i in
    let l = (b.second.node j).leads lw in
    let el : Election n b.late (w.node j).term j = b.second.past.elections (w.node j).term j l.leader in
    leader_has (v.node i).log k b.second.past le (committed_grow (v.node i).log b.grows (v.node i).term (omega arith) x.committed) (w.node j).term j l.leader lt el.log (w.node j).log el.candidacy
    (rw (l.own) el.front)

pub committed_kept_before : (C : Type 0) → CommittedKeptBefore C
committed_kept_before C n v w i j k t le lv lt =
    let b = both t in
    let x = b.second.node i in
    let l = (b.first.node j).leads lv in
    let el : Election n b.early (v.node j).term j = b.first.past.elections (v.node j).term j l.leader in
    leader_has (w.node i).log k b.second.past le x.committed (v.node j).term j (b.grows.leader _ _ l.leader) lt el.log (v.node j).log (b.grows.candidacy _ _ _ el.candidacy) (rw (l.own) el.front)

run_append : {C : Type 0} (n : ℕ) (xs ys : List (Event C)) (u v w : FreeWorld C) → Run n u xs v → Run n v ys w → Run n u (xs ++ ys) w
run_append n [] ys u v w r s = rw r at s
run_append n (x ∷ xs) ys u v w r s = (r.0, run_append n xs ys (effect u x) v w r.1 s)

-- a leader that has committed knows it, and is the same else
pub leader_completeness : (C : Type 0) → LeaderCompleteness C
leader_completeness C n v w i j k late r ok later lw lt =
    rw (eq-eqb i i refl) at (committed_kept C n (effect v (Commit i k)) w i j k
    (record { early = r.events ++ Commit i k ∷ []; late = late; before = run_append n r.events (Commit i k ∷ []) _ v _ r.run (ok, refl); after = later })
    (rw (eq-eqb i i refl) (omega arith)) lw (rw (eq-eqb i i refl) lt))

pub leader_completeness_before : (C : Type 0) → LeaderCompletenessBefore C
leader_completeness_before C n v w i j k t lv ok lt =
    rw (eq-eqb i i refl) at (committed_kept_before C n v (effect w (Commit i k)) i j k
    (record { early = t.early; late = t.late ++ Commit i k ∷ []; before = t.before; after = run_append n t.late (Commit i k ∷ []) v w _ t.after (ok, refl) })
    (rw (eq-eqb i i refl) (omega arith)) lv (rw (eq-eqb i i refl) lt))
