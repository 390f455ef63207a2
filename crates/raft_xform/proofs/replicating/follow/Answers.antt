use Rattle.std.proofs.Common.{◌≡◌, ap, ◌≤◌, length, rules, arith, refl, subst, sym, true, false, ltb}
use Rattle.std.proofs.lemmas.Bool.{le-ltb}
use Rattle.vst_base.specs.Elections.{learned_commit}
use Rattle.vst_base.specs.Logs.{accepted, has_conflict, matches}
use Rattle.raft_xform.specs.Nodes.{RaftView, is_leader}
use Rattle.raft_xform.specs.Replicating.{follower, last_new, may_take, taken}
use Rattle.raft_xform.proofs.Doing.{conflict, learned_in_log, no_conflict, refuses, takes_them, took}
use Rattle.raft_xform.proofs.replicating.follow.Goals as goal

pub catch_up-requires-clause-committed : goal.catch_up-requires-clause-committed
catch_up-requires-clause-committed g c =
    let log = c.state.inside.log in
    let l : c.state.inside.commit ≤ length log = subst (λ (v : RaftView _ _ _). v.commit ≤ length v.log) (sym c.state.view_is) c.requires.committed in
    let h = learned_in_log log c.state.inside.commit c.prev_index-prev.result c.prev_term.result c.commit.result c.entries.result.now c.accept.new.self c.in-Taken.last
    l (search rules) (search rules) c.in_ok-accept.ensures.log in
    omega (arith, h, c.max-state-inside.ensures, c.min.ensures)

pub returns-in-Below : goal.returns-in-Below
returns-in-Below g c =
    let s = c.args.state.now in
    let a = c.args.append.now in
    let late : ltb a.term s.ballot.term ≡ false = le-ltb a.term s.ballot.term c.requires.in_time in
    let follows : is_leader s.role ≡ false = c.requires.follows in
    let found : has_conflict s.log s.commit a.prev_index a.entries ≡ true = conflict s.log s.commit a.prev_index a.entries c.in-Below.field-0 (search rules) in
    let same : c.accept.new.self ≡ c.state.inside.log = search (c.in_ok-accept.ensures.log, found, rules) in
    let none : may_take s a ≡ false = search (found, rules) in
    rw (refuses (g.M.Machine.meaning c.args.machine.now) c.args.me s c.args.from a late follows none) (record {
      state = rw same (ap follower c.state.view_is);
      outputs = search rules;
      sends = search rules;
    })

pub returns-in_ok-catch_up-in-Taken : goal.returns-in_ok-catch_up-in-Taken
returns-in_ok-catch_up-in-Taken g c =
    let s = c.args.state.now in
    let a = c.args.append.now in
    let late : ltb a.term s.ballot.term ≡ false = le-ltb a.term s.ballot.term c.requires.in_time in
    let follows : is_leader s.role ≡ false = c.requires.follows in
    let there : matches s.log a.prev_index a.prev_term ≡ true = search rules in
    let free = no_conflict s.log s.commit a.prev_index a.entries c.in-Taken.last (search rules) in
    let all : may_take s a ≡ true = rw (there, free.0) refl in
    let log_is : c.accept.new.self ≡ accepted c.state.inside.log a.prev_index a.entries = search (c.in_ok-accept.ensures.log, free.0, rules) in
    let commit_is : c.max-state-inside.result ≡ learned_commit c.state.inside.commit a.commit (last_new a) = search (free.1, rules) in
    rw (takes_them (g.M.Machine.meaning c.args.machine.now) c.args.me s c.args.from a late follows all)
    (took (g.M.Machine.meaning c.args.machine.now) c.args.me s _ c.catch_up.new.state c.args.from c.in-Taken.last a c.args.effects.now c.catch_up.new.effects c.answer-in-Taken.new.effects
    (rw (log_is, commit_is) (ap (λ (t : RaftView _ _ _). taken t a) c.state.view_is)) (search (free.1, rules)) c.in_ok-catch_up-in-Taken.ensures.does c.answer-in-Taken.ensures.outputs c.answer-in-Taken.ensures.sends)
