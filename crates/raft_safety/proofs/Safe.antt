-- The safety of a cluster, from that of the free choices that mirror it.
use Rattle.std.proofs.Common.{◌≡◌, ℕ, ◌≤◌, Bool, true, false, List, [], ◌∷◌, ◌++◌, length, take, Some, None, cond, refl, sym, ap, ◌∙◌, arith}
use Rattle.std.proofs.lemmas.Bool.{false≢true}
use Rattle.std.proofs.lemmas.List.{length-take, length-take-le}
use Rattle.net_semantics.specs.RunLaws.{run_from-append}
use Rattle.net_semantics.specs.Runs.{run_from, trace_from}
use Rattle.net_semantics.specs.Steps.{next}
use Rattle.net_semantics.specs.Worlds.{first_world}
use Rattle.vst_base.specs.Machines.{MachineMeaning}
use Rattle.vst_base.specs.Nets.{view_of}
use Rattle.vst_base.specs.declared.step.Step.{Step}
use Rattle.raft_histories.proofs.Logs.{same_less, same_take}
use Rattle.raft_free.specs.Nodes as free
use Rattle.raft_free.specs.Runs.{Moments}
use Rattle.raft_free.proofs.Applied.{state_machine_safety}
use Rattle.raft_free.proofs.Completeness.{committed_kept, committed_kept_before}
use Rattle.raft_free.proofs.Leaders.{election_safety, leader_append_only, log_matching}
use Rattle.raft_types.specs.declared.client.RaftInput.{RaftInput}
use Rattle.raft_xform.specs.declared.role.Role.{Role}
use Rattle.raft_xform.specs.declared.role.Role.TheVariants as role
use Rattle.raft_xform.specs.Nodes.{is_leader}
use Rattle.raft_xform.specs.Raft.{raft, raft_recovery}
use Rattle.raft_safety.specs.Runs.{AreMoments, IsReached, IsRun, Leads, RaftWorld, log_at, log_of, seen, world_after}
use Rattle.linearizability.specs.Linearizable.{Seen}
use Rattle.raft_safety.specs.Mirrors.{free_role}
use Rattle.raft_safety.specs.Safety.{AppliedIsThere, CommittedKept, CommittedKeptBefore, ElectionSafety, FirstIsFree, IsFree, LeaderAppendOnly, LeaderCompleteness, LeaderCompletenessBefore, LogMatching, StateMachineSafety, StepIsFree}
use Rattle.raft_safety.proofs.Freed.{free_node, node_is}
use Rattle.raft_safety.proofs.Longest.{did_fits}
use Rattle.raft_safety.proofs.Mirroring.{AreTaken, Goes, first_mirror, first_stands, first_taken, run_goes, step_goes}
use Rattle.raft_safety.proofs.Turning.{Stands}

-- the log of a node is in its state, also while it is down
pub log_is : {S C O : Type 0} (m : MachineMeaning S C O) (n : ℕ) (w : RaftWorld S C O) → Stands m n w → (i : ℕ) → log_at w i ≡ (w.state i).log
log_is m n w stands i = ap (log_of (w.state i)) (stands.kept i) ∙ go (w.is_up i)
  where
    go : (b : Bool) → log_of (w.state i) (cond b None (Some ((raft_recovery m).keep (w.state i)))) ≡ (w.state i).log
    go true = refl
    go false = refl

pub free_leads : {S C O : Type 0} (w : RaftWorld S C O) (i t : ℕ) → Leads w i t → (free_node (w.is_up i) (w.state i)).role ≡ free.Leader
free_leads w i t l = rw (l.up) (go (w.state i).role l.leader)
  where
    go : (r : Role) → is_leader r ≡ true → free_role r ≡ free.Leader
    go role.Leader e = refl
    go role.Candidate e = absurd (false≢true e)
    go role.Follower e = absurd (false≢true e)

-- two moments of a run, as runs with free choices come to them
pub record Moment {S C O : Type 0} (m : MachineMeaning S C O) (n : ℕ) (v w : RaftWorld S C O) : Type 0 where
  pub seen_first : Seen C O
  pub seen_second : Seen C O
  pub before : Goes m n (free.first_world C) v seen_first
  pub after : Goes m n before.world w seen_second

pub times : {S C O : Type 0} {m : MachineMeaning S C O} {n : ℕ} {v w : RaftWorld S C O} → (t : Moment m n v w) → Moments C n t.before.world t.after.world
times t = record { early = t.before.late; late = t.after.late; before = t.before.run; after = t.after.run }

module _ {S C O : Type 0} (m : MachineMeaning S C O) (n : ℕ) where
  pub parts : (w : RaftWorld S C O) (early late : List (Step (RaftInput C))) → AreTaken m n w (early ++ late) →
      AreTaken m n w early × AreTaken m n (run_from (raft n m) (raft_recovery m) w early) late
  parts w [] late e = (refl, e)
  parts w (s ∷ early) late e =
      let t = first_taken m n w s (early ++ late) e in
      let p = parts (next (raft n m) (raft_recovery m) w s) early late t.1 in
      (rw (t.0, p.0) refl, p.1)

  pub goes : (ss : List (Step (RaftInput C))) → IsRun m n ss → Goes m n (free.first_world C) (world_after m n ss) (seen m n ss)
  goes ss r = run_goes m n (first_world (raft n m)) (free.first_world C) [] (first_mirror m n) (first_stands m n r.size) ss r.allowed

  -- a run comes to the cluster
  pub goes_to : (w : RaftWorld S C O) → (r : IsReached m n w) → Goes m n (free.first_world C) w (seen m n r.steps)
  goes_to w r = rw (r.is) (goes r.steps r.run)

  moment_of : (early late : List (Step (RaftInput C))) → IsRun m n (early ++ late) → Moment m n (world_after m n early) (world_after m n (early ++ late))
  moment_of early late r = record { seen_first = seen m n early; seen_second = seen m n early ++ trace_from (raft n m) (raft_recovery m) (world_after m n early) late; before = before; after = after }
    where
      p : AreTaken m n (first_world (raft n m)) early × AreTaken m n (world_after m n early) late
      p = parts (first_world (raft n m)) early late r.allowed

      before : Goes m n (free.first_world C) (world_after m n early) (seen m n early)
      before = goes early (record { size = r.size; allowed = p.0 })

      after : Goes m n before.world (world_after m n (early ++ late)) (seen m n early ++ trace_from (raft n m) (raft_recovery m) (world_after m n early) late)
      after = rw (run_from-append (raft n m) (raft_recovery m) (first_world (raft n m)) early late)
          (run_goes m n (world_after m n early) before.world (seen m n early) before.mirrors before.stands late p.1)

  pub moment : (v w : RaftWorld S C O) → AreMoments m n v w → Moment m n v w
  moment v w t = rw (t.first, t.second) (moment_of t.early t.late t.run)

pub is_free : (S C O : Type 0) → IsFree S C O
is_free S C O m n v w a =
    let t = moment m n v w a in
    record { first = t.before.world; second = t.after.world; moments = times t; mirrors_first = t.before.mirrors; mirrors_second = t.after.mirrors }

pub first_is_free : (S C O : Type 0) → FirstIsFree S C O
first_is_free S C O m n = first_mirror m n

pub step_is_free : (S C O : Type 0) → StepIsFree S C O
step_is_free S C O m n ss s x r mirrors =
    let p = parts m n (first_world (raft n m)) ss (s ∷ []) r.allowed in
    let stands = (goes m n ss (record { size = r.size; allowed = p.0 })).stands in
    let g = step_goes m n (world_after m n ss) x [] mirrors stands (view_of s) (first_taken m n (world_after m n ss) s [] p.1).0 in
    rw (run_from-append (raft n m) (raft_recovery m) (first_world (raft n m)) ss (s ∷ []))
    (record { events = g.late; world = g.world; run = g.run; mirrors = g.mirrors })

pub run_election_safety : (S C O : Type 0) → ElectionSafety S C O
run_election_safety S C O m n v w i j term a li lj =
    let t = moment m n v w a in
    (rw (node_is t.before.mirrors i, node_is t.after.mirrors j) at (election_safety C n t.before.world t.after.world i j (times t)))
    (free_leads v i term li) (free_leads w j term lj) (li.term ∙ sym lj.term)

pub run_leader_append_only : (S C O : Type 0) → LeaderAppendOnly S C O
run_leader_append_only S C O m n v w i term a li lj =
    let t = moment m n v w a in
    rw (log_is m n v t.before.stands i, log_is m n w t.after.stands i)
    ((rw (node_is t.before.mirrors i, node_is t.after.mirrors i) at (leader_append_only C n t.before.world t.after.world i (times t)))
    (free_leads v i term li) (free_leads w i term lj) (li.term ∙ sym lj.term))

pub run_log_matching : (S C O : Type 0) → LogMatching S C O
run_log_matching S C O m n v w i j k a =
    let t = moment m n v w a in
    rw (log_is m n v t.before.stands i, log_is m n w t.after.stands j)
    (rw (node_is t.before.mirrors i, node_is t.after.mirrors j) at (log_matching C n t.before.world t.after.world i j k (times t)))

pub run_committed_kept : (S C O : Type 0) → CommittedKept S C O
run_committed_kept S C O m n v w i j k term a le lt l =
    let t = moment m n v w a in
    rw (log_is m n v t.before.stands i, log_is m n w t.after.stands j)
    ((rw (node_is t.before.mirrors i, node_is t.after.mirrors j) at (committed_kept C n t.before.world t.after.world i j k (times t)))
    le (free_leads w j term l) (rw (l.term) lt))

pub run_committed_kept_before : (S C O : Type 0) → CommittedKeptBefore S C O
run_committed_kept_before S C O m n v w i j k term a le lt l =
    let t = moment m n v w a in
    rw (log_is m n v t.before.stands j, log_is m n w t.after.stands i)
    ((rw (node_is t.before.mirrors j, node_is t.after.mirrors i) at (committed_kept_before C n t.before.world t.after.world i j k (times t)))
    le (free_leads v j term l) (rw (l.term) lt))

-- what a leader commits by the rule it knows to be committed, in the term in which it commits
pub run_leader_completeness : (S C O : Type 0) → LeaderCompleteness S C O
run_leader_completeness S C O m n v w i j k early late a c l lt = run_committed_kept S C O m n v w i j k late a c.up_to (rw (c.leads.term) lt) l

pub run_leader_completeness_before : (S C O : Type 0) → LeaderCompletenessBefore S C O
run_leader_completeness_before S C O m n v w i j k early late a c l lt = run_committed_kept_before S C O m n v w i j k late a c.up_to (rw (c.leads.term) lt) l

within : {A : Type 0} (k a : ℕ) (xs : List A) → k ≤ length (take a xs) → k ≤ a
within k a xs h = omega (arith, length-take a xs)

pub run_state_machine_safety : (S C O : Type 0) → StateMachineSafety S C O
run_state_machine_safety S C O m n v w i j k a le lf =
    let t = moment m n v w a in
    let x = v.state i in
    let y = w.state j in
    let p = within k x.applied x.log le in
    let q = within k y.applied y.log lf in
    let h = (rw (node_is t.before.mirrors i, node_is t.after.mirrors j) at (state_machine_safety C n t.before.world t.after.world i j k (times t))) p q in
    (same_less k p (same_take x.applied x.log)).eq ∙ (h.0.1 ∙ sym (same_less k q (same_take y.applied y.log)).eq)

pub applied_is_there : (S C O : Type 0) → AppliedIsThere S C O
applied_is_there S C O m n w i r =
    let g = goes_to m n w r in
    let fits : (w.state i).applied ≤ length (w.state i).log = rw (node_is g.mirrors i) at (did_fits i (record { early = g.late; late = []; before = g.run; after = refl })) in
    length-take-le (w.state i).applied (w.state i).log fits
