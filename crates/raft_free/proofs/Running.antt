-- Every run keeps what always holds.
use Rattle.std.proofs.Common.{ℕ, None, List, [], ◌∷◌, inl, refl, arith}
use Rattle.raft_histories.specs.Histories.{History, empty_history}
use Rattle.raft_histories.proofs.Bookkeeping.{Grows, IsSoundKept}
use Rattle.raft_histories.proofs.Worked.{empty_is_sound}
use Rattle.raft_free.specs.Events.{Accept, Allowed, Apply, Ask, Commit, Count, Crash, Event, Grant, Lead, Learn, Match, Propose, Reboot, Refuse, Replicate, StepDown, Timeout, actor}
use Rattle.raft_free.specs.Nodes.{FreeWorld, first_node, first_world}
use Rattle.raft_free.specs.Runs.{Moments, Reached, Run}
use Rattle.raft_free.proofs.Electing.{grant, lead, timeout}
use Rattle.raft_free.proofs.Quiet.{apply, ask, counted, crash, follower_sound, learn, matched, reboot, refuse, replicate, stepped_down}
use Rattle.raft_free.proofs.Replicating.{accepts, commits, propose}
use Rattle.raft_free.proofs.Sound.{IsSoundWorld}
use Rattle.raft_free.proofs.Stepping.{Next, grows_self}
use Rattle.lists.specs.Prefixes.{prefix_trans}

pub step : {C : Type 0} {m : ℕ} {w : FreeWorld C} {g : History C} (e : Event C) → IsSoundWorld m w g → Allowed m w.sent (w.node (actor e)) e → Next m w e g
step (Timeout i) sound ok = timeout i sound ok
step (Ask i j) sound ok = ask i j sound ok
step (Learn i p) sound ok = learn i p sound ok
step (Grant i c last last_t) sound ok = grant i c last last_t sound ok
step (Refuse i j x) sound ok = refuse i j x sound ok
step (Count i v) sound ok = counted i v sound ok
step (Lead i) sound ok = lead i sound ok
step (Propose i e) sound ok = propose i e sound ok
step (Replicate i j prev many commit) sound ok = replicate i j prev many commit sound ok
step (StepDown i l prev prev_t es commit) sound ok = stepped_down i l prev prev_t es commit sound ok
step (Accept i l prev prev_t es commit) sound ok = accepts i l prev prev_t es commit sound ok
step (Match i j index) sound ok = matched i j index sound ok
step (Commit i index) sound ok = commits i index sound ok
step (Apply i index) sound ok = apply i index sound ok
step (Crash i) sound ok = crash i sound ok
step (Reboot i commit applied) sound ok = reboot i commit applied sound ok

grows_trans : {C : Type 0} {g h k : History C} → Grows g h → Grows h k → Grows g k
grows_trans p q =
    record {
      leader_log = λ u. prefix_trans _ (p.leader_log u) (q.leader_log u);
      candidacy = λ u c l e. q.candidacy u c l (p.candidacy u c l e);
      leader = λ u c e. q.leader u c (p.leader u c e);
      vote = λ u v c e. q.vote u v c (p.vote u v c e);
      acked = λ u v. let a = p.acked u v in let b = q.acked u v in omega arith;
      frozen = λ u v c t e lt. let a = p.frozen u v c t e lt in let b = q.frozen u v c t (p.vote u v c e) lt in omega arith;
    }

-- the history at a later moment
pub record Later {C : Type 0} (m : ℕ) (w : FreeWorld C) (g : History C) : Type 0 where
  pub history : History C
  pub sound : IsSoundWorld m w history
  pub grows : Grows g history

pub run : {C : Type 0} {m : ℕ} (events : List (Event C)) {w v : FreeWorld C} {g : History C} → IsSoundWorld m w g → Run m w events v → Later m v g
run [] {g = g} sound r = rw r (record { history = g; sound = sound; grows = grows_self g })
run (e ∷ es) {g = g} sound r =
    let n = step e sound r.0 in
    let l = run es n.sound r.1 in
    record { history = l.history; sound = l.sound; grows = grows_trans n.grows l.grows }

-- nothing was noted yet
pub first_sound : (C : Type 0) (m : ℕ) → IsSoundWorld m (first_world C) (empty_history C)
first_sound C m = record {
  past = empty_is_sound C m;
  node = λ i. follower_sound (first_node C) kept (inl refl) (omega arith) refl;
  sent = λ p i. absurd i;
}
  where
    kept : {i : ℕ} → IsSoundKept (empty_history C) i 0 None []
    kept = record {
      descend = (empty_is_sound C m).descend 0;
      terms = λ n. omega arith;
      past = λ t n a. absurd (omega (arith, a.pos, a.has));
      acks = λ t n a. absurd (omega (arith, a.pos, a.has));
      votes = λ u c e. absurd (cc (e));
      candidacies = λ u l e. absurd (cc (e));
    }

-- a world that a run reaches, with its history
pub record Remembered {C : Type 0} (m : ℕ) (w : FreeWorld C) : Type 0 where
  pub history : History C
  pub sound : IsSoundWorld m w history

pub reached : {C : Type 0} {m : ℕ} {w : FreeWorld C} → Reached C m w → Remembered m w
reached {C = C} {m = m} r = let l = run r.events (first_sound C m) r.run in record { history = l.history; sound = l.sound }

-- two moments of a run, with the history at each
pub record Both {C : Type 0} (m : ℕ) (v w : FreeWorld C) : Type 0 where
  pub early : History C
  pub late : History C
  pub first : IsSoundWorld m v early
  pub second : IsSoundWorld m w late
  pub grows : Grows early late

pub both : {C : Type 0} {m : ℕ} {v w : FreeWorld C} → Moments C m v w → Both m v w
both {C = C} {m = m} t =
    let a = run t.early (first_sound C m) t.before in
    let b = run t.late a.sound t.after in
    record { early = a.history; late = b.history; first = a.sound; second = b.sound; grows = b.grows }
