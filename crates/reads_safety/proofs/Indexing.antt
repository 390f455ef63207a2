-- The read-index lemma, with free choices: where a majority of nodes is in no later term than a leader that has committed an entry of its
-- own, no node has ever applied more than it has committed.
use Rattle.std.proofs.Common.{◌≡◌, ℕ, ◌<◌, ◌≤◌, ◌⊎◌, inl, inr, true, Bool, Some, List, [], ◌∷◌, ◌++◌, refl, sym, ◌∙◌, ap, arith}
use Rattle.std.proofs.lemmas.Bool.{eq-eqb}
use Rattle.vst_base.proofs.Majorities.{majorities_meet}
use Rattle.vst_base.specs.Elections.{Shared, is_majority}
use Rattle.vst_base.specs.Logs.{term_at}
use Rattle.raft_histories.specs.Histories.{CommittedBy, Election, History, IsCommitted, OnMajority}
use Rattle.raft_histories.specs.Prefixes.{Same}
use Rattle.raft_histories.proofs.Bookkeeping.{Leads}
use Rattle.raft_histories.proofs.Completing.{committed_leader}
use Rattle.raft_histories.proofs.Growing.{committed_grow}
use Rattle.raft_histories.proofs.Logs.{same_refl, same_term}
use Rattle.raft_free.specs.Events.{Accept, Allowed, Apply, Ask, Commit, Count, Crash, Event, Grant, Lead, Learn, Match, Propose, Reboot, Refuse, Replicate, StepDown, Timeout, actor, effect}
use Rattle.raft_free.specs.Nodes.{FreeWorld, Leader, first_world}
use Rattle.raft_free.specs.Runs.{Moments, Run}
use Rattle.raft_free.proofs.Running.{Later, first_sound, run, step}
use Rattle.raft_free.proofs.Sound.{IsSoundWorld}
use Rattle.raft_safety.proofs.Mirroring.{run_then}
use Rattle.reads_safety.proofs.Staying.{CommitsLow, IsLow, Still, low_one, still_run}

-- a leader that has committed an entry of its term, and a majority that is in no later term
pub record Holds (C : Type 0) (n : ℕ) (v : FreeWorld C) (i : ℕ) : Type 0 where
  pub leads : (v.node i).role ≡ Leader
  pub own : term_at (v.node i).log (v.node i).commit ≡ (v.node i).term
  pub quorum : ℕ → Bool
  pub most : is_majority n quorum ≡ true
  pub low : (k : ℕ) → quorum k ≡ true → (v.node k).term ≤ (v.node i).term

cases_two : (a b : ℕ) → a ≤ b → (a < b) ⊎ (a ≡ b)
cases_two a b h = grind arith

some_same : {A : Type 0} (x y : A) → Some x ≡ Some y → x ≡ y
some_same x y e = cc (e)

module _ {C : Type 0} (n : ℕ) (v : FreeWorld C) (i : ℕ) (holds : Holds C n v i) where
  -- nobody was elected in a later term
  no_later : (h : History C) → IsSoundWorld n v h → (t who : ℕ) → h.leader t ≡ Some who → t ≤ (v.node i).term
  no_later h sound t who e =
      let el : Election n h t who = sound.past.elections t who e in
      let s : Shared n el.quorum holds.quorum = majorities_meet n el.quorum holds.quorum el.most holds.most in
      let voted = (sound.node s.who).kept.votes t who (el.voted s.who s.in_left) in
      omega (arith, voted.le, holds.low s.who s.in_right)

  -- what was committed in an earlier term it has committed
  below : (h : History C) → IsSoundWorld n v h → (t k : ℕ) → OnMajority n h t k → t < (v.node i).term → k ≤ (v.node i).commit
  below h sound t k most lt = go (grind arith)
    where
      l : Leads h i (v.node i).term (v.node i).log (v.node i).matched
      l = (sound.node i).leads holds.leads

      same : Same k (h.leader_log t) (h.leader_log (v.node i).term)
      same = committed_leader sound.past (record { by = t; index = k; le = omega arith; upto = omega arith; on_majority = most; same = same_refl k (h.leader_log t) }) i l.leader

      go : (k ≤ (v.node i).commit) ⊎ ((v.node i).commit < k) → k ≤ (v.node i).commit
      go (inl le) = le
      go (inr less) =
          let a : term_at (h.leader_log t) (v.node i).commit ≡ (v.node i).term = same_term (v.node i).commit (omega arith) same ∙ (ap (λ x. term_at x (v.node i).commit) (sym l.own) ∙ holds.own) in
          let b = sound.past.terms t (v.node i).commit in
          absurd (omega arith)

  -- a leader that commits has committed no more
  commit_low : (w : FreeWorld C) (g : History C) (rest : List (Event C)) → IsSoundWorld n w g → Run n w rest v → (j : ℕ) → (w.node j).role ≡ Leader → (w.node j).commit ≤ (v.node i).commit
  commit_low w g rest sound r j lead = go (committed_grow (w.node j).log h.grows (w.node j).term (omega arith) (sound.node j).committed)
    where
      h : Later n v g
      h = run rest sound r

      l : Leads g j (w.node j).term (w.node j).log (w.node j).matched
      l = (sound.node j).leads lead

      led : h.history.leader (w.node j).term ≡ Some j
      led = h.grows.leader (w.node j).term j l.leader

      late : (w.node j).term ≤ (v.node i).term
      late = no_later h.history h.sound (w.node j).term j led

      same_node : (w.node j).term ≡ (v.node i).term → j ≡ i
      same_node e = let m = (h.sound.node i).leads holds.leads in some_same j i (sym led ∙ (ap h.history.leader e ∙ m.leader))

      stays : (w.node j).term ≡ (v.node i).term → Still (v.node i).term (w.node i).commit (v.node i)
      stays e = still_run n (v.node i).term (w.node i).commit i rest w v r
          (inl (record { term = rw (same_node e) at e; role = rw (same_node e) at lead; commit = omega arith }))

      kept : Still (v.node i).term (w.node i).commit (v.node i) → (w.node i).commit ≤ (v.node i).commit
      kept (inl s) = s.commit
      kept (inr (inl lt)) = absurd (omega arith)
      kept (inr (inr f)) = absurd (cc (f.1, holds.leads))

      by_term : (s : CommittedBy n h.history (w.node j).log (w.node j).commit (w.node j).term) → (s.by < (v.node i).term) ⊎ (s.by ≡ (v.node i).term) → (w.node j).commit ≤ (v.node i).commit
      by_term s (inl lt) = let b = below h.history h.sound s.by s.index s.on_majority lt in omega (arith, s.upto)
      by_term s (inr e) = let same : (w.node j).term ≡ (v.node i).term = omega (arith, s.le, e, late) in rw (same_node same) (kept (stays same))

      go : IsCommitted n h.history (w.node j).log (w.node j).commit (w.node j).term → (w.node j).commit ≤ (v.node i).commit
      go (inl e) = omega arith
      go (inr s) = by_term s (cases_two s.by (v.node i).term (omega (arith, s.le, late)))

  commits_low : (w : FreeWorld C) (g : History C) (rest : List (Event C)) → (e : Event C) → Allowed n w.sent (w.node (actor e)) e → IsSoundWorld n (effect w e) g → Run n (effect w e) rest v →
      CommitsLow (v.node i).commit e
  commits_low w g rest (Timeout j) ok sound r = tt
  commits_low w g rest (Ask j k) ok sound r = tt
  commits_low w g rest (Learn j p) ok sound r = tt
  commits_low w g rest (Grant j d last last_t) ok sound r = tt
  commits_low w g rest (Refuse j k m) ok sound r = tt
  commits_low w g rest (Count j d) ok sound r = tt
  commits_low w g rest (Lead j) ok sound r = tt
  commits_low w g rest (Propose j e) ok sound r = tt
  commits_low w g rest (Replicate j k prev many commit) ok sound r = tt
  commits_low w g rest (StepDown j d prev prev_t es commit) ok sound r = tt
  commits_low w g rest (Accept j d prev prev_t es commit) ok sound r = tt
  commits_low w g rest (Match j k index) ok sound r = tt
  commits_low w g rest (Commit j index) ok sound r =
      rw (eq-eqb j j refl) at (commit_low (effect w (Commit j index)) g rest sound r j (rw (eq-eqb j j refl) (ok.1)))
  commits_low w g rest (Apply j index) ok sound r = tt
  commits_low w g rest (Crash j) ok sound r = tt
  commits_low w g rest (Reboot j commit applied) ok sound r = tt

  low_at : (early late : List (Event C)) (w u : FreeWorld C) (g : History C) → IsSoundWorld n w g → IsLow (v.node i).commit w → Run n w early u → Run n u late v → IsLow (v.node i).commit u
  low_at [] late w u g sound low r s = rw r low
  low_at (e ∷ es) late w u g sound low r s =
      let next = step e sound r.0 in
      low_at es late (effect w e) u next.history next.sound (low_one n (v.node i).commit w e r.0 (commits_low w next.history (es ++ late) e r.0 next.sound (run_then n es late (effect w e) u v r.1 s)) low) r.1 s

  pub read_index : (u : FreeWorld C) (k : ℕ) → Moments C n u v → (u.node k).applied ≤ (v.node i).commit
  read_index u k t =
      let low = low_at t.early t.late (first_world C) u _ (first_sound C n) (record { node = λ k. omega arith; sent = λ p h. absurd h }) t.before t.after in
      let now = run t.early (first_sound C n) t.before in
      omega (arith, low.node k, (now.sound.node k).applied)
