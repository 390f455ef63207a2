-- A node becomes a candidate, votes, or is elected.
use Rattle.std.proofs.Common.{ℕ, suc, Some, arith}
use Rattle.raft_histories.specs.Histories.{History}
use Rattle.raft_histories.proofs.Bookkeeping.{Noted, Stands}
use Rattle.raft_histories.proofs.Growing.{committed_grow}
use Rattle.raft_histories.proofs.Leading.{led, led_leads, led_noted}
use Rattle.raft_histories.proofs.Putting.{put2_at}
use Rattle.raft_histories.proofs.Voting.{stood, stood_noted, stood_stands, voted_for, voted_noted}
use Rattle.raft_free.specs.Events.{Allowed, Grant, Lead, Timeout, becomes}
use Rattle.raft_free.specs.Nodes.{FreeWorld, NodeState}
use Rattle.raft_free.proofs.Sound.{IsSoundNode, IsSoundWorld}
use Rattle.raft_free.proofs.Stepping.{Next, next, say_none, say_one}

pub timeout : {C : Type 0} {m : ℕ} {w : FreeWorld C} {g : History C} (i : ℕ) → IsSoundWorld m w g → Allowed m w.sent (w.node i) (Timeout i) → Next m w (Timeout i) g
timeout {C = C} {m = m} {w = w} {g = g} i sound ok = next (Timeout i) h sound noted me (say_none _ _)
  where
    x : NodeState C
    x = w.node i

    nk : IsSoundNode m g i x
    nk = sound.node i

    h : History C
    h = stood g x.term i x.log

    noted : Noted m i g h (suc x.term) (Some i) x.log
    noted = stood_noted g i x.term x.voted x.log sound.past nk.kept

    me : IsSoundNode m h i (becomes x (Timeout i))
    me = record {
      kept = noted.kept;
      leads = λ r. absurd cc;
      stands = λ r. stood_stands g i x.term x.voted x.log sound.past nk.kept;
      committed = committed_grow x.log noted.grows (suc x.term) (omega arith) nk.committed;
      applied = nk.applied;
    }

pub grant : {C : Type 0} {m : ℕ} {w : FreeWorld C} {g : History C} (i c last last_t : ℕ) → IsSoundWorld m w g →
    Allowed m w.sent (w.node i) (Grant i c last last_t) → Next m w (Grant i c last last_t) g
grant {C = C} {m = m} {w = w} {g = g} i c last last_t sound ok =
    next (Grant i c last last_t) h sound noted me (say_one m h _ (put2_at g.vote x.term i (Some c)))
  where
    x : NodeState C
    x = w.node i

    nk : IsSoundNode m g i x
    nk = sound.node i

    h : History C
    h = voted_for g x.term i c

    noted : Noted m i g h x.term (Some c) x.log
    noted = voted_noted g i x.term c x.voted x.log last last_t sound.past nk.kept ok.2 ok.3 (sound.sent _ ok.1)

    me : IsSoundNode m h i (becomes x (Grant i c last last_t))
    me = record {
      kept = noted.kept;
      leads = λ r. let l = nk.leads r in record { leader = l.leader; own = l.own; heard = l.heard };
      stands = λ r. let s = nk.stands r in record { candidacy = s.candidacy; fresh = s.fresh; cast = λ v e. noted.grows.vote x.term v i (s.cast v e) };
      committed = committed_grow x.log noted.grows x.term (omega arith) nk.committed;
      applied = nk.applied;
    }

pub lead : {C : Type 0} {m : ℕ} {w : FreeWorld C} {g : History C} (i : ℕ) → IsSoundWorld m w g → Allowed m w.sent (w.node i) (Lead i) → Next m w (Lead i) g
lead {C = C} {m = m} {w = w} {g = g} i sound ok = next (Lead i) h sound noted me (say_none m h)
  where
    x : NodeState C
    x = w.node i

    nk : IsSoundNode m g i x
    nk = sound.node i

    s : Stands g i x.term x.log x.votes
    s = nk.stands ok.1

    h : History C
    h = led g x.term i x.log

    noted : Noted m i g h x.term x.voted x.log
    noted = led_noted g i x.term x.voted x.log x.votes sound.past nk.kept s ok.2 (λ v e. ((sound.node v).kept.votes x.term i (s.cast v e)).cast)

    me : IsSoundNode m h i (becomes x (Lead i))
    me = record {
      kept = noted.kept;
      leads = λ r. led_leads g i x.term x.log;
      stands = λ r. absurd cc;
      committed = committed_grow x.log noted.grows x.term (omega arith) nk.committed;
      applied = nk.applied;
    }
