-- What the safety of Raft with free choices says of entries that come to a node.
use Rattle.std.proofs.Common.{◌≡◌, ℕ, zero, suc, ◌≤◌, true, false, List, [], ◌∷◌, ◌++◌, length, take, refl, sym, ap, ◌∙◌, arith}
use Rattle.std.proofs.lemmas.Bool.{eq-eqb}
use Rattle.std.proofs.lemmas.List.{nil_from_length, take_at}
use Rattle.vst_base.specs.declared.entry.Entry.{Entry}
use Rattle.vst_base.specs.Logs.{has_conflict, matches, term_at}
use Rattle.raft_histories.specs.Prefixes.{Agree, Follows, Same}
use Rattle.raft_histories.proofs.Bookkeeping.{Replicated}
use Rattle.raft_histories.proofs.Completing.{agree}
use Rattle.raft_histories.proofs.Growing.{committed_fits}
use Rattle.raft_histories.proofs.Logs.{same_append, same_sym, same_trans, term_append_in}
use Rattle.raft_free.specs.Events.{Allowed, Comes, Event, In, actor, becomes, effect, says}
use Rattle.raft_free.specs.Nodes.{Append, FreeWorld, NodeState, Packet, first_world}
use Rattle.raft_free.specs.Runs.{Moments, Reached, Run}
use Rattle.raft_free.proofs.Applied.{state_machine_safety}
use Rattle.raft_free.proofs.Refusals.{matches_below_commit, no_committed_conflict}
use Rattle.raft_free.proofs.Running.{Remembered, reached}
use Rattle.snap_safety.specs.Mirrors.{packet}

-- all of a leader's entries, and its log
pub record AllOf {C : Type 0} (log es : List (Entry C)) : Type 0 where
  pub rest : List (Entry C)
  pub is : es ++ rest ≡ log

all_of : {C : Type 0} (log es : List (Entry C)) → Follows log 0 0 es → AllOf log es
all_of log es f = record { rest = f.rest; is = rw (nil_from_length f.front f.at) at f.whole }

same_of : {C : Type 0} (log es fs : List (Entry C)) → AllOf log es → AllOf log fs → length es ≡ length fs → es ≡ fs
same_of log es fs a b e =
    sym (take_at es a.rest (length es) refl) ∙ (rw (a.is, e) refl ∙ (ap (take (length fs)) (sym b.is) ∙ take_at fs b.rest (length fs) refl))

agree_all : {C : Type 0} (old log es : List (Entry C)) → AllOf log es → Agree old log → Agree old es
agree_all {C = C} old log es a g = record {
  at = λ n h k e.
      let same : Same n log es = rw (← a.is) (same_sym (same_append n es a.rest k)) in
      let t : term_at log n ≡ term_at es n = rw (← a.is) (term_append_in es a.rest n k) in
      same_trans (g.at n h (let l = ap length a.is in fits n k) (e ∙ sym t)) same;
}
  where
    longer : (n : ℕ) (xs ys : List (Entry C)) → n ≤ length xs → n ≤ length (xs ++ ys)
    longer zero xs ys h = omega arith
    longer (suc n) [] ys h = absurd (omega arith)
    longer (suc n) (x ∷ xs) ys h = let l = longer n xs ys (omega arith) in omega arith

    fits : (n : ℕ) → n ≤ length es → n ≤ length log
    fits n h = rw (← a.is) (longer n es a.rest h)

-- in a world that a run reaches, of a node and of what was sent
pub record Lawful {C : Type 0} (i : ℕ) (sent : List (Packet C)) (x : NodeState C) : Type 0 where
  pub no_conflict : (l prev prev_t commit : ℕ) (es : List (Entry C)) → Comes sent x l i (Append prev prev_t es commit) → has_conflict x.log x.commit prev es ≡ false
  pub below : (l prev prev_t commit : ℕ) (es : List (Entry C)) → Comes sent x l i (Append prev prev_t es commit) → prev ≤ x.commit → matches x.log prev prev_t ≡ true
  pub agrees : (l commit : ℕ) (es : List (Entry C)) → Comes sent x l i (Append 0 0 es commit) → Agree x.log es
  pub fits : x.commit ≤ length x.log
  -- entries that were sent in one term from the first on are the same, where they are as many
  pub once : (from to from' to' term index index' : ℕ) (es fs : List (Entry C)) → In (packet from to term (Append 0 0 es index)) sent →
      In (packet from' to' term (Append 0 0 fs index')) sent → length es ≡ length fs → es ≡ fs

pub lawful : {C : Type 0} (n : ℕ) (w : FreeWorld C) (i : ℕ) → Reached C n w → Lawful i w.sent (w.node i)
lawful {C = C} n w i r = record {
  no_conflict = λ l prev prev_t commit es c. no_committed_conflict C n w i l prev prev_t commit es r c;
  below = λ l prev prev_t commit es c le. matches_below_commit C n w i l prev prev_t commit es r c le;
  agrees = λ l commit es c.
      let s : Replicated n b.history l i (w.node i).term 0 0 es commit = b.sound.sent _ c in
      agree_all (w.node i).log (b.history.leader_log (w.node i).term) es (all_of _ es s.follows)
      (agree (b.sound.node i).kept.descend (b.sound.past.descend (w.node i).term));
  fits = committed_fits (w.node i).log (b.sound.node i).committed;
  once = λ from to from' to' term index index' es fs p q e.
      let s : Replicated n b.history from to term 0 0 es index = b.sound.sent _ p in
      let t : Replicated n b.history from' to' term 0 0 fs index' = b.sound.sent _ q in
      same_of (b.history.leader_log term) es fs (all_of _ es s.follows) (all_of _ fs t.follows) e;
}
  where
    b : Remembered n w
    b = reached r

-- one event more
run_more : {C : Type 0} (n : ℕ) (es : List (Event C)) (e : Event C) (u v : FreeWorld C) → Run n u es v → Allowed n v.sent (v.node (actor e)) e → Run n u (es ++ e ∷ []) (effect v e)
run_more n [] e u v r a = rw (← r) (a, refl)
run_more n (x ∷ es) e u v r a = (r.0, run_more n es e (effect u x) v r.1 a)

pub reached_more : {C : Type 0} (n : ℕ) (w : FreeWorld C) (e : Event C) → Reached C n w → Allowed n w.sent (w.node (actor e)) e → Reached C n (effect w e)
reached_more {C = C} n w e r a = record { events = r.events ++ e ∷ []; run = run_more n r.events e (first_world C) w r.run a }

-- a run reaches a world in which the node is so, and this was sent
pub record At {C : Type 0} (n i : ℕ) (sent : List (Packet C)) (x : NodeState C) : Type 0 where
  pub world : FreeWorld C
  pub reached : Reached C n world
  pub had : world.sent ≡ sent
  pub node : world.node i ≡ x

pub lawful_at : {C : Type 0} {n i : ℕ} {sent : List (Packet C)} {x : NodeState C} → At n i sent x → Lawful i sent x
lawful_at {n = n} {i = i} a = rw (a.had, a.node) at (lawful n a.world i a.reached)

pub at_more : {C : Type 0} {n i : ℕ} {sent : List (Packet C)} {x : NodeState C} → At n i sent x → (e : Event C) → actor e ≡ i → Allowed n sent x e →
    At n i (says x e ++ sent) (becomes x e)
at_more {C = C} {n = n} {i = i} {sent = sent} {x = x} a e is ok = record {
  world = effect a.world e;
  reached = reached_more n a.world e a.reached (rw (is, a.had, a.node) ok);
  had = rw (is, a.had, a.node) refl;
  node = rw (is, eq-eqb i i refl, a.node) refl;
}

-- what a node has applied stays in its log
pub applied_stays : {C : Type 0} {n i : ℕ} {sent : List (Packet C)} {x : NodeState C} → At n i sent x → (e : Event C) → actor e ≡ i → Allowed n sent x e →
    (becomes x e).applied ≡ x.applied → take x.applied (becomes x e).log ≡ take x.applied x.log
applied_stays {C = C} {n = n} {i = i} {sent = sent} {x = x} a e is ok same =
    sym ((rw (is, eq-eqb i i refl, a.node) at (state_machine_safety C n a.world (effect a.world e) i i x.applied moments)) fits (omega (arith, same))).0.1
  where
    moments : Moments C n a.world (effect a.world e)
    moments = record { early = a.reached.events; late = e ∷ []; before = a.reached.run; after = (rw (is, a.had, a.node) ok, refl) }

    fits : x.applied ≤ x.applied
    fits = omega arith
