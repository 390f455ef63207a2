-- A leader adds an entry or commits, and a follower takes entries.
use Rattle.std.proofs.Common.{◌≡◌, ℕ, ◌+◌, ◌≤◌, List, [], ◌∷◌, ◌++◌, length, inr, refl, arith}
use Rattle.vst_base.specs.declared.entry.Entry.{Entry}
use Rattle.vst_base.specs.Logs.{accepted, term_at}
use Rattle.raft_histories.specs.Histories.{History}
use Rattle.raft_histories.specs.Prefixes.{Took}
use Rattle.raft_histories.proofs.Accepting.{matches_tells}
use Rattle.raft_histories.proofs.Acking.{acked, acked_at, follower_took, own_committed, own_leads, own_noted, taken_committed, taken_noted}
use Rattle.raft_histories.proofs.Bookkeeping.{Leads, Noted, Replicated}
use Rattle.raft_histories.proofs.Growing.{committed_front, committed_grow}
use Rattle.raft_histories.proofs.Leading.{proposed, proposed_leads, proposed_noted}
use Rattle.raft_free.specs.Events.{Accept, Allowed, Commit, Propose, becomes}
use Rattle.raft_free.specs.Nodes.{FreeWorld, NodeState}
use Rattle.raft_free.proofs.Quiet.{follower_sound}
use Rattle.raft_free.proofs.Sound.{IsSoundNode, IsSoundWorld}
use Rattle.raft_free.proofs.Stepping.{Next, next, say_none, say_one}
use Rattle.lists.specs.Prefixes.{prefix_append}

pub propose : {C : Type 0} {m : ℕ} {w : FreeWorld C} {g : History C} (i : ℕ) (e : Entry C) → IsSoundWorld m w g →
    Allowed m w.sent (w.node i) (Propose i e) → Next m w (Propose i e) g
propose {C = C} {m = m} {w = w} {g = g} i e sound ok = next (Propose i e) h sound noted me (say_none m h)
  where
    x : NodeState C
    x = w.node i

    nk : IsSoundNode m g i x
    nk = sound.node i

    l : Leads g i x.term x.log x.matched
    l = nk.leads ok.1

    new : List (Entry C)
    new = x.log ++ e ∷ []

    h : History C
    h = proposed g x.term new

    noted : Noted m i g h x.term x.voted new
    noted = proposed_noted g i x.term x.voted x.log x.matched e sound.past nk.kept l ok.2

    me : IsSoundNode m h i (becomes x (Propose i e))
    me = record {
      kept = noted.kept;
      leads = λ r. proposed_leads g i x.term x.log x.matched e l;
      stands = λ r. absurd (cc (ok.1));
      committed = committed_front x.log new (prefix_append x.log (e ∷ [])) (committed_grow x.log noted.grows x.term (omega arith) nk.committed);
      applied = nk.applied;
    }

pub commits : {C : Type 0} {m : ℕ} {w : FreeWorld C} {g : History C} (i index : ℕ) → IsSoundWorld m w g →
    Allowed m w.sent (w.node i) (Commit i index) → Next m w (Commit i index) g
commits {C = C} {m = m} {w = w} {g = g} i index sound ok = next (Commit i index) h sound noted me (say_none m h)
  where
    x : NodeState C
    x = w.node i

    nk : IsSoundNode m g i x
    nk = sound.node i

    l : Leads g i x.term x.log x.matched
    l = nk.leads ok.1

    h : History C
    h = acked g x.term i (length x.log)

    noted : Noted m i g h x.term x.voted x.log
    noted = own_noted g i x.term x.voted x.log x.matched sound.past nk.kept l

    me : IsSoundNode m h i (becomes x (Commit i index))
    me =
        let c = own_committed g i x.term x.log x.matched x.commit index sound.past noted.grows l ok.2 ok.3 in
        record {
          kept = noted.kept;
          leads = λ r. own_leads g i x.term (length x.log) x.log x.matched noted.grows l;
          stands = λ r. absurd (cc (ok.1));
          committed = inr c.1;
          applied = let a = nk.applied in let b = c.0 in omega arith;
        }

pub accepts : {C : Type 0} {m : ℕ} {w : FreeWorld C} {g : History C} (i l prev prev_t : ℕ) (es : List (Entry C)) (commit : ℕ) → IsSoundWorld m w g →
    Allowed m w.sent (w.node i) (Accept i l prev prev_t es commit) → Next m w (Accept i l prev prev_t es commit) g
accepts {C = C} {m = m} {w = w} {g = g} i l prev prev_t es commit sound ok =
    next (Accept i l prev prev_t es commit) h sound noted me (say_one m h _ (rw (acked_at g x.term i q) (omega arith)))
  where
    x : NodeState C
    x = w.node i

    nk : IsSoundNode m g i x
    nk = sound.node i

    sent : Replicated m g l i x.term prev prev_t es commit
    sent = sound.sent _ ok.1

    q : ℕ
    q = prev + length es

    new : List (Entry C)
    new = accepted x.log prev es

    meets : (prev ≤ length x.log) × (term_at x.log prev ≡ prev_t)
    meets = matches_tells x.log prev prev_t ok.3

    tk : Took x.log (g.leader_log x.term) q new
    tk = follower_took g i l x.term x.voted x.log prev prev_t es commit sound.past nk.kept sent meets.0 meets.1

    h : History C
    h = acked g x.term i q

    noted : Noted m i g h x.term x.voted new
    noted = taken_noted g i l x.term q x.voted x.log new sound.past nk.kept sent.leader tk

    me : IsSoundNode m h i (becomes x (Accept i l prev prev_t es commit))
    me = follower_sound (becomes x (Accept i l prev prev_t es commit))
        noted.kept
        (committed_grow new noted.grows x.term (omega arith) (taken_committed g l x.term q x.commit commit x.log new sound.past sent.leader tk nk.committed sent.committed))
        (let a = nk.applied in omega arith) refl
