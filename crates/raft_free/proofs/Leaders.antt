-- One leader in a term, whose log only grows, and from which all logs descend.
use Rattle.raft_histories.specs.Prefixes.{Agree}
use Rattle.raft_histories.proofs.Completing.{agree}
use Rattle.raft_histories.proofs.Growing.{descends_grow}
use Rattle.raft_free.specs.Safety.{ElectionSafety, LeaderAppendOnly, LogMatching}
use Rattle.raft_free.proofs.Running.{both}

pub election_safety : (C : Type 0) → ElectionSafety C
election_safety C n v w i j t lv lw e =
    let b = both t in
    let p = (b.first.node i).leads lv in
    let q = (b.second.node j).leads lw in
    cc (b.grows.leader _ _ p.leader, q.leader, e)

pub leader_append_only : (C : Type 0) → LeaderAppendOnly C
leader_append_only C n v w i t lv lw e =
    let b = both t in
    let p = (b.first.node i).leads lv in
    let q = (b.second.node i).leads lw in
    rw (p.own, q.own, ← e) (b.grows.leader_log (v.node i).term)

pub log_matching : (C : Type 0) → LogMatching C
log_matching C n v w i j k t p q e =
    let b = both t in
    let a : Agree (v.node i).log (w.node j).log = agree (descends_grow b.grows (b.first.node i).kept.descend) (b.second.node j).kept.descend in
    (a.at k p q e).eq
