-- No event of Raft takes a commit back.
use Rattle.std.proofs.Common.{◌≡◌, ℕ, ◌≤◌, Bool, true, false, not, ◌&&◌, length, cond, eqb, ltb, refl, arith}
use Rattle.vst_base.specs.Machines.{MachineMeaning}
use Rattle.vst_base.specs.declared.what.What.TheVariants.{Noop}
use Rattle.raft_commit.specs.Peers.{matched_of}
use Rattle.raft_commit.specs.declared.peer.Moved.{Moved}
use Rattle.raft_commit.specs.declared.peer.Moved.TheVariants as moves
use Rattle.raft_election.specs.Ballots.{grants, may_start}
use Rattle.raft_types.specs.Messages.{AppendView, VoteView}
use Rattle.raft_types.specs.Terms.{term_of}
use Rattle.raft_types.specs.declared.client.RaftInput.{RaftInput}
use Rattle.raft_types.specs.declared.limits.TheConstants.{MAX_INDEX}
use Rattle.raft_types.specs.declared.msg.RaftMsg.{RaftMsg}
use Rattle.raft_types.specs.declared.msg.RaftMsg.TheVariants as msg
use Rattle.raft_xform.specs.Electing.{broadcasts, campaign, candidate, has_won, heard, lead, led, on_vote, sees_up_to_date, tick, voted, with_entry, with_noop}
use Rattle.raft_xform.specs.Nodes.{RaftEffect, RaftView, is_candidate, is_leader}
use Rattle.raft_xform.specs.Raft.{by_message, on_message}
use Rattle.raft_xform.specs.Replicating.{known, may_take, moved_by, on_append, on_input, on_moved, proposed}
use Rattle.raft_xform.proofs.Lengths.{commits_no_less}

module _ {S C O : Type 0} where
  -- of two states, whichever it is
  same_either : (b : Bool) (s t : RaftView S C O) (commit : ℕ) → s.commit ≡ commit → t.commit ≡ commit → (cond b s t).commit ≡ commit
  same_either true s t commit k l = k
  same_either false s t commit k l = l

  same_with_noop : (s : RaftView S C O) → (with_noop s).commit ≡ s.commit
  same_with_noop s = same_either (ltb (length s.log) MAX_INDEX) (with_entry s Noop) s s.commit refl refl

  same_heard : (term : ℕ) (s : RaftView S C O) → (heard term s).commit ≡ s.commit
  same_heard term s = same_either (ltb s.ballot.term term) _ s s.commit refl refl

module _ {S C O : Type 0} (m : MachineMeaning S C O) (nodes me : ℕ) where
  -- of two effects, whichever it is
  grows_either : (b : Bool) (from : ℕ) (e f : RaftEffect S C O) → from ≤ e.state.commit → from ≤ f.state.commit → from ≤ (cond b e f).state.commit
  grows_either true from e f k l = k
  grows_either false from e f k l = l

  grows_broadcast : (s : RaftView S C O) → s.commit ≤ (broadcasts m nodes me s).state.commit
  grows_broadcast s = commits_no_less nodes me (matched_of s.peers) s.log s.ballot.term s.commit (length s.log)

  grows_lead : (s : RaftView S C O) → s.commit ≤ (lead m nodes me s).state.commit
  grows_lead s = let more = grows_broadcast (with_noop (led nodes s)) in let same = same_with_noop (led nodes s) in omega arith

  grows_campaign : (s : RaftView S C O) → s.commit ≤ (campaign m nodes me s).state.commit
  grows_campaign s = grows_either (has_won nodes s) s.commit _ _ (grows_lead s) (omega arith)

  pub grows_tick : (s : RaftView S C O) → s.commit ≤ (tick m nodes me s).state.commit
  grows_tick s = grows_either (is_leader s.role) s.commit _ _ (omega arith)
      (grows_either (may_start s.ballot) s.commit _ _ (grows_campaign (candidate me s)) (omega arith))

  pub grows_input : (s : RaftView S C O) (i : RaftInput C) → s.commit ≤ (on_input m nodes me s i).state.commit
  grows_input s i = grows_either (not (is_leader s.role)) s.commit _ _ (omega arith)
      (grows_either (eqb (length s.log) MAX_INDEX) s.commit _ _ (omega arith) (grows_broadcast (proposed me s i)))

  grows_vote : (s : RaftView S C O) (from : ℕ) (v : VoteView) → s.commit ≤ (on_vote m nodes me s from v).state.commit
  grows_vote s from v = grows_either (is_candidate s.role && eqb v.term s.ballot.term && v.granted) s.commit _ _
      (grows_either (has_won nodes (voted s from)) s.commit _ _ (grows_lead (voted s from)) (omega arith)) (omega arith)

  grows_append : (s : RaftView S C O) (from : ℕ) (a : AppendView C) → s.commit ≤ (on_append m me s from a).state.commit
  grows_append s from a = grows_either (ltb a.term s.ballot.term) s.commit _ _ (omega arith)
      (grows_either (is_leader s.role) s.commit _ _ (omega arith) (grows_either (may_take s a) s.commit _ _ (omega arith) (omega arith)))

  grows_moved : (s : RaftView S C O) (from : ℕ) (moved : Moved) → s.commit ≤ (on_moved m nodes me s from moved).state.commit
  grows_moved s from moves.Raised = grows_broadcast s
  grows_moved s from moves.Back = omega arith
  grows_moved s from moves.Nothing = omega arith

  grows_by_message : (s : RaftView S C O) (from : ℕ) (x : RaftMsg C) → s.commit ≤ (by_message m nodes me s from x).state.commit
  grows_by_message s from (msg.RequestVote r) = grows_either (grants s.ballot r.term from (sees_up_to_date s r)) s.commit _ _ (omega arith) (omega arith)
  grows_by_message s from (msg.Vote v) = grows_vote s from v
  grows_by_message s from (msg.Append a) = grows_append s from a
  grows_by_message s from (msg.Appended a) =
      grows_either (is_leader s.role && eqb a.term s.ballot.term) s.commit _ _ (grows_moved (known s from a) from (moved_by s from a)) (omega arith)

  pub grows_message : (s : RaftView S C O) (from : ℕ) (x : RaftMsg C) → s.commit ≤ (on_message m nodes me s from x).state.commit
  grows_message s from x = let more = grows_by_message (heard (term_of x) s) from x in let same = same_heard (term_of x) s in omega arith
