-- A node has applied all that it knows to be committed, after every event.
use Rattle.std.proofs.Common.{◌≡◌, ℕ, Bool, true, false, not, ◌&&◌, eqb, ltb, List, [], ◌∷◌, length, Option, Some, None, cond, slice_get, refl, sym, ap, ◌∙◌}
use Rattle.net_semantics.specs.Runs.{run_from}
use Rattle.net_semantics.specs.Steps.{after_event, delivery, next, rebooted, with_packets}
use Rattle.net_semantics.specs.Worlds.{Packet, change_at, first_world, one_less}
use Rattle.vst_base.specs.Machines.{MachineMeaning}
use Rattle.vst_base.specs.declared.step.Step.{Step}
use Rattle.vst_base.specs.declared.step.Step.TheVariants as step
use Rattle.raft_commit.specs.declared.peer.Moved.{Moved}
use Rattle.raft_commit.specs.declared.peer.Moved.TheVariants as moves
use Rattle.raft_election.specs.Ballots.{grants, learned, may_start}
use Rattle.raft_types.specs.Messages.{KeptView}
use Rattle.raft_types.specs.Terms.{term_of}
use Rattle.raft_types.specs.declared.client.RaftInput.{RaftInput}
use Rattle.raft_types.specs.declared.limits.TheConstants.{MAX_INDEX}
use Rattle.raft_types.specs.declared.msg.RaftMsg.{RaftMsg}
use Rattle.raft_types.specs.declared.msg.RaftMsg.TheVariants as msg
use Rattle.raft_xform.specs.declared.role.Role.TheVariants as role
use Rattle.raft_xform.specs.Electing.{campaign, candidate, has_won, heard, sees_up_to_date, tick, voted}
use Rattle.raft_xform.specs.Nodes.{RaftEffect, RaftView, is_candidate, is_leader}
use Rattle.raft_xform.specs.Raft.{by_message, raft, raft_recovery}
use Rattle.raft_xform.specs.Replicating.{known, may_take, moved_by, on_input, on_moved}
use Rattle.raft_safety.specs.Runs as raft_runs
use Rattle.raft_safety.specs.Runs.{RaftWorld}
use Rattle.raft_safety.proofs.Mirroring.{puts}
use Rattle.raft_reads.specs.Erasing.{erased}
use Rattle.reads_safety.specs.Safety.{AllIsApplied}
use Rattle.reads_safety.proofs.Erased.{erased_after}

record Level {S C O : Type 0} (s : RaftView S C O) : Type 0 where
  all : s.applied ≡ s.commit

module _ {S C O : Type 0} where
  either : (b : Bool) (e f : RaftEffect S C O) → Level e.state → Level f.state → Level (cond b e f).state
  either true e f p q = p
  either false e f p q = q

  level_campaign : (m : MachineMeaning S C O) (nodes me : ℕ) (s : RaftView S C O) → Level s → Level (campaign m nodes me s).state
  level_campaign m nodes me s h = either (has_won nodes s) _ _ (record { all = refl }) h

  level_tick : (m : MachineMeaning S C O) (nodes me : ℕ) (s : RaftView S C O) → Level s → Level (tick m nodes me s).state
  level_tick m nodes me s h = either (is_leader s.role) _ _ h (either (may_start s.ballot) _ _ (level_campaign m nodes me (candidate me s) (record { all = h.all })) h)

  level_input : (m : MachineMeaning S C O) (nodes me : ℕ) (s : RaftView S C O) (i : RaftInput C) → Level s → Level (on_input m nodes me s i).state
  level_input m nodes me s i h = either (not (is_leader s.role)) _ _ h (either (eqb (length s.log) MAX_INDEX) _ _ h (record { all = refl }))

  level_moved : (m : MachineMeaning S C O) (nodes me : ℕ) (s : RaftView S C O) (from : ℕ) (v : Moved) → Level s → Level (on_moved m nodes me s from v).state
  level_moved m nodes me s from moves.Raised h = record { all = refl }
  level_moved m nodes me s from moves.Back h = h
  level_moved m nodes me s from moves.Nothing h = h

  level_by : (m : MachineMeaning S C O) (nodes me : ℕ) (s : RaftView S C O) (from : ℕ) (x : RaftMsg C) → Level s → Level (by_message m nodes me s from x).state
  level_by m nodes me s from (msg.RequestVote r) h = either (grants s.ballot r.term from (sees_up_to_date s r)) _ _ (record { all = h.all }) h
  level_by m nodes me s from (msg.Vote v) h = either ((is_candidate s.role && eqb v.term s.ballot.term) && v.granted) _ _ (either (has_won nodes (voted s from)) _ _ (record { all = refl }) (record { all = h.all })) h
  level_by m nodes me s from (msg.Append a) h = either (ltb a.term s.ballot.term) _ _ h (either (is_leader s.role) _ _ h (either (may_take s a) _ _ (record { all = refl }) (record { all = h.all })))
  level_by m nodes me s from (msg.Appended a) h = either (is_leader s.role && eqb a.term s.ballot.term) _ _ (level_moved m nodes me (known s from a) from (moved_by s from a) (record { all = h.all })) h

  level_heard : (term : ℕ) (s : RaftView S C O) → Level s → Level (heard term s)
  level_heard term s h = go (ltb s.ballot.term term)
    where
      go : (b : Bool) → Level (cond b (record s { role = role.Follower; ballot = learned term s.ballot }) s)
      go true = record { all = h.all }
      go false = h

  module _ (m : MachineMeaning S C O) (n : ℕ) where
    level_next : (w : RaftWorld S C O) (s : Step (RaftInput C)) → ((i : ℕ) → Level (w.state i)) → (i : ℕ) → Level ((next (raft n m) (raft_recovery m) w s).state i)
    level_next w (step.In k q) h = puts (λ i x. Level x) w.state k _ (level_input m n k (w.state k) q (h k)) (λ j ne. h j)
    level_next w (step.Tick k) h = puts (λ i x. Level x) w.state k _ (level_tick m n k (w.state k) (h k)) (λ j ne. h j)
    level_next w (step.Deliver k) h = go (slice_get w.packets k)
      where
        go : (o : Option (Packet (RaftMsg C))) → (i : ℕ) → Level ((after_event (with_packets w (change_at one_less k w.packets)) (delivery (raft n m) w o)).state i)
        go None = h
        go (Some p) = puts (λ i x. Level x) w.state p.destination _
            (level_by m n p.destination (heard (term_of p.content) (w.state p.destination)) p.source p.content (level_heard (term_of p.content) (w.state p.destination) (h p.destination))) (λ j ne. h j)
    level_next w (step.Dup k) h = h
    level_next w (step.Lose k) h = h
    level_next w (step.Crash k) h = h
    level_next w (step.Reboot k) h = go (w.kept k)
      where
        go : (o : Option (KeptView C)) → (i : ℕ) → Level ((rebooted (raft_recovery m) w k o).state i)
        go None = h
        go (Some kept) = puts (λ i x. Level x) w.state k ((raft_recovery m).reboot k kept) (record { all = refl }) (λ j ne. h j)

    level_run : (w : RaftWorld S C O) (ss : List (Step (RaftInput C))) → ((i : ℕ) → Level (w.state i)) → (i : ℕ) → Level ((run_from (raft n m) (raft_recovery m) w ss).state i)
    level_run w [] h = h
    level_run w (s ∷ ss) h = level_run (next (raft n m) (raft_recovery m) w s) ss (level_next w s h)

pub all_is_applied : (S C O : Type 0) → AllIsApplied S C O
all_is_applied S C O c ss i =
    let l : Level ((raft_runs.world_after c.machine c.nodes (erased c ss)).state i) = level_run c.machine c.nodes (first_world (raft c.nodes c.machine)) (erased c ss) (λ j. record { all = refl }) i in
    (ap (λ (w : RaftWorld S C O). (w.state i).applied) (erased_after c ss) ∙ l.all) ∙ sym (ap (λ (w : RaftWorld S C O). (w.state i).commit) (erased_after c ss))
