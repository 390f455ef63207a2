-- An event of Raft sends few packets: one to each other node, or one to one node, or none.
use Rattle.std.specs.Prelude.{ℕ, zero, suc, ◌≤◌, Bool, true, false, not, ◌&&◌, ◌==◌, [], ◌∷◌, ◌++◌, length, nat_lt, nat_le, cond}
use Rattle.std.proofs.Common.{arith, length-append}
use Rattle.raft_commit.specs.declared.peer.Moved.{Moved}
use Rattle.raft_commit.specs.declared.peer.Moved.TheVariants as moves
use Rattle.raft_election.specs.Ballots.{grants, may_start}
use Rattle.raft_types.specs.Messages.{AppendView, VoteView}
use Rattle.raft_types.specs.Terms.{term_of}
use Rattle.raft_types.specs.declared.client.RaftInput.{RaftInput}
use Rattle.raft_types.specs.declared.limits.TheConstants.{MAX_INDEX}
use Rattle.raft_types.specs.declared.msg.RaftMsg.{RaftMsg}
use Rattle.raft_types.specs.declared.msg.RaftMsg.TheVariants as msg
use Rattle.raft_xform.specs.Applying.{settled}
use Rattle.raft_xform.specs.Electing.{campaign, candidate, has_won, heard, on_vote, sees_up_to_date, tick, voted, broadcasts, lead, led, with_noop}
use Rattle.raft_xform.specs.Nodes.{RaftEffect, RaftView, is_candidate, is_leader, peer_at}
use Rattle.raft_xform.specs.Raft.{by_message, raft}
use Rattle.raft_xform.specs.Replicating.{known, may_take, moved_by, on_append, on_input, on_moved, proposed}
use Rattle.raft_xform.specs.Sending.{append, append_rest, to_others}
use Rattle.vst_base.specs.Machines.{MachineMeaning}
use Rattle.vst_base.specs.declared.node.TheConstants.{MAX_NODES}
use Rattle.made_schedules.specs.Sends.{SendsFew}

length-to_others : {M : Type 0} (n me : ℕ) (message : ℕ → M) → length (to_others n me message) ≤ n
length-to_others zero me message = omega arith
length-to_others (suc n) me message = go (n == me) (length-to_others n me message)
  where
    go : (b : Bool) → length (to_others n me message) ≤ n → length (to_others n me message ++ cond b [] ((n, message n) ∷ [])) ≤ suc n
    go true few = omega (arith, length-append (to_others n me message) [], few)
    go false few = omega (arith, length-append (to_others n me message) ((n, message n) ∷ []), few)

one-if : {M : Type 0} (b : Bool) (to : ℕ) (message : M) → length {A = ℕ × M} (cond b ((to, message) ∷ []) []) ≤ 1
one-if true to message = omega arith
one-if false to message = omega arith

-- an effect that sends few packets
record IsFew {S C O : Type 0} (e : RaftEffect S C O) : Type 0 where
  few : length e.sends ≤ MAX_NODES

either : {S C O : Type 0} (b : Bool) {e f : RaftEffect S C O} → IsFew e → IsFew f → IsFew (cond b e f)
either true k l = k
either false k l = l

module _ {S C O : Type 0} (nodes : ℕ) (m : MachineMeaning S C O) (most : nodes ≤ MAX_NODES) where
  to-others : (me : ℕ) (message : ℕ → RaftMsg C) → length (to_others nodes me message) ≤ MAX_NODES
  to-others me message = omega (arith, length-to_others nodes me message, most)

  few-broadcast : (me : ℕ) (s : RaftView S C O) → IsFew (broadcasts m nodes me s)
  few-broadcast me s = record { few = to-others me _ }

  few-lead : (me : ℕ) (s : RaftView S C O) → IsFew (lead m nodes me s)
  few-lead me s = few-broadcast me (with_noop (led nodes s))

  few-campaign : (me : ℕ) (s : RaftView S C O) → IsFew (campaign m nodes me s)
  few-campaign me s = either (has_won nodes s) (few-lead me s) (record { few = to-others me _ })

  few-tick : (me : ℕ) (s : RaftView S C O) → IsFew (tick m nodes me s)
  few-tick me s =
      either (is_leader s.role) (record { few = to-others me _ })
      (either (may_start s.ballot) (few-campaign me (candidate me s)) (record { few = omega arith }))

  few-input : (me : ℕ) (s : RaftView S C O) (i : RaftInput C) → IsFew (on_input m nodes me s i)
  few-input me s i =
      either (not (is_leader s.role)) (record { few = omega arith })
      (either (length s.log == MAX_INDEX) (record { few = omega arith }) (few-broadcast me (proposed me s i)))

  few-vote : (me : ℕ) (s : RaftView S C O) (from : ℕ) (v : VoteView) → IsFew (on_vote m nodes me s from v)
  few-vote me s from v =
      either (is_candidate s.role && v.term == s.ballot.term && v.granted)
      (either (has_won nodes (voted s from)) (few-lead me (voted s from)) (record { few = omega arith })) (record { few = omega arith })

  few-append : (me : ℕ) (s : RaftView S C O) (from : ℕ) (a : AppendView C) → IsFew (on_append m me s from a)
  few-append me s from a =
      either (nat_lt a.term s.ballot.term) (record { few = omega arith })
      (either (is_leader s.role) (record { few = omega arith }) (either (may_take s a) (record { few = omega arith }) (record { few = omega arith })))

  few-rest : (s : RaftView S C O) (node : ℕ) → length (append_rest s node) ≤ 1
  few-rest s node = one-if (nat_le (peer_at s.peers node).next (length s.log)) node (append s node)

  few-moved : (me : ℕ) (s : RaftView S C O) (from : ℕ) (moved : Moved) → IsFew (on_moved m nodes me s from moved)
  few-moved me s from moves.Raised = record { few = omega (arith, few-rest (settled m nodes me s).state from) }
  few-moved me s from moves.Back = record { few = omega arith }
  few-moved me s from moves.Nothing = record { few = omega arith }

  few-by : (me : ℕ) (s : RaftView S C O) (from : ℕ) (message : RaftMsg C) → IsFew (by_message m nodes me s from message)
  few-by me s from (msg.RequestVote r) = either (grants s.ballot r.term from (sees_up_to_date s r)) (record { few = omega arith }) (record { few = omega arith })
  few-by me s from (msg.Vote v) = few-vote me s from v
  few-by me s from (msg.Append a) = few-append me s from a
  few-by me s from (msg.Appended a) =
      either (is_leader s.role && a.term == s.ballot.term) (few-moved me (known s from a) from (moved_by s from a)) (record { few = omega arith })

  pub raft-few : SendsFew (raft nodes m)
  raft-few = record {
    input = λ n s i. (few-input n s i).few;
    message = λ n s from message. (few-by n (heard (term_of message) s) from message).few;
    timeout = λ n s. (few-tick n s).few;
  }
