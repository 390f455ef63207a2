-- Each event keeps what the state of a node keeps to.
use Rattle.std.proofs.Common.{◌≡◌, ℕ, ◌<◌, ◌≤◌, Bool, true, false, not, ◌&&◌, length, cond, eqb, ltb, Result, Ok, Err, OnOk, refl, arith}
use Rattle.std.proofs.lemmas.Bool.{and_parts, eqb-false, false≢true}
use Rattle.vst_base.specs.declared.entry.TheConstants.{MAX_TERM}
use Rattle.handler_trait.specs.Handling.{Gathered, Does}
use Rattle.vst_base.specs.Machines.{MachineMeaning}
use Rattle.vst_base.specs.declared.what.What.TheVariants.{Request}
use Rattle.raft_commit.specs.declared.peer.Moved.{Moved}
use Rattle.raft_commit.specs.declared.peer.Moved.TheVariants as moves
use Rattle.raft_election.specs.Ballots.{grants, may_start}
use Rattle.raft_types.specs.Messages.{AppendView, AppendedView, RequestVoteView, VoteView}
use Rattle.raft_types.specs.Terms.{term_of}
use Rattle.raft_types.specs.declared.client.RaftInput.{RaftInput}
use Rattle.raft_types.specs.declared.client.RaftOut.{RaftOut}
use Rattle.raft_types.specs.declared.limits.TheConstants.{MAX_INDEX}
use Rattle.raft_types.specs.declared.msg.RaftMsg.{RaftMsg}
use Rattle.raft_types.specs.declared.msg.RaftMsg.TheVariants as msg
use Rattle.raft_xform.specs.declared.role.Role.{Role}
use Rattle.raft_xform.specs.declared.role.Role.TheVariants as role
use Rattle.raft_xform.specs.Electing.{campaign, has_won, on_request, on_vote, sees_up_to_date, tick, voted, lead}
use Rattle.raft_xform.specs.Nodes.{RaftEffect, RaftView, is_candidate, is_leader}
use Rattle.raft_xform.specs.Raft.{by_message, on_message}
use Rattle.raft_xform.specs.Replicating.{last_new, may_take, moved_by, on_append, on_appended, on_input, on_moved}
use Rattle.raft_xform.specs.Sound.{HasTerm, IsInRange, IsSoundNode}
use Rattle.raft_xform.proofs.Sounding.{sound_candidate, sound_caught_up, sound_follower, sound_granted, sound_heard, sound_known, sound_led, sound_broadcast, sound_taken, sound_voted, sound_with_entry, sound_with_noop}

pub candidate_in_a_term : (r : Role) (term : ℕ) → is_candidate r ≡ true → HasTerm r term → 1 ≤ term
candidate_in_a_term role.Follower term e h = absurd (false≢true e)
candidate_in_a_term role.Candidate term e h = h
candidate_in_a_term role.Leader term e h = h

pub under : {n most : ℕ} → n ≤ most → eqb n most ≡ false → n < most
under h e = let d = eqb-false _ _ e in omega arith

pub term_in_range : {C : Type 0} (message : RaftMsg C) → IsInRange message → term_of message ≤ MAX_TERM
term_in_range (msg.RequestVote r) range = range
term_in_range (msg.Vote v) range = range
term_in_range (msg.Append a) range = range.0
term_in_range (msg.Appended a) range = range

-- the state after an effect keeps to it
pub record Keeps {S C O : Type 0} (nodes me : ℕ) (e : RaftEffect S C O) : Type 0 where
  pub sound : IsSoundNode nodes me e.state

-- of two effects, whichever it is
keeps_either : {S C O : Type 0} {nodes me : ℕ} (b : Bool) {e f : RaftEffect S C O} → (b ≡ true → Keeps nodes me e) → (b ≡ false → Keeps nodes me f) → Keeps nodes me (cond b e f)
keeps_either true k l = k refl
keeps_either false k l = l refl

-- a call that does what an effect says leaves the state sound
pub sound_done : {S C O A E : Type 0} {nodes me : ℕ} (r : Result A E) {e : RaftEffect S C O} (new : RaftView S C O) (before after : Gathered (RaftOut O) (RaftMsg C)) → Keeps nodes me e →
    OnOk r (Does e new before after) → OnOk r (IsSoundNode nodes me new)
sound_done (Ok x) new before after k h = rw (h.state) (k.sound)
sound_done (Err x) new before after k h = tt

module _ {S C O : Type 0} {nodes me : ℕ} where
  keeps_lead : {s : RaftView S C O} → IsSoundNode nodes me s → 1 ≤ s.ballot.term → (m : MachineMeaning S C O) → Keeps nodes me (lead m nodes me s)
  keeps_lead k t m = record { sound = sound_broadcast (sound_with_noop (sound_led k t)) m }

  keeps_campaign : {s : RaftView S C O} → IsSoundNode nodes me s → 1 ≤ s.ballot.term → (m : MachineMeaning S C O) → Keeps nodes me (campaign m nodes me s)
  keeps_campaign {s} k t m = keeps_either (has_won nodes s) (λ _. keeps_lead k t m) (λ _. record { sound = k })

  pub keeps_tick : {s : RaftView S C O} → IsSoundNode nodes me s → (m : MachineMeaning S C O) → Keeps nodes me (tick m nodes me s)
  keeps_tick {s} k m = keeps_either (is_leader s.role) (λ _. record { sound = k })
      (λ _. keeps_either (may_start s.ballot) (λ may. keeps_campaign (sound_candidate k may) (omega arith) m) (λ _. record { sound = k }))

  keeps_request : {s : RaftView S C O} → IsSoundNode nodes me s → (from : ℕ) → from < nodes → (r : RequestVoteView) → Keeps nodes me (on_request s from r)
  keeps_request {s} k from f r =
      keeps_either (grants s.ballot r.term from (sees_up_to_date s r)) (λ _. record { sound = sound_granted k from f }) (λ _. record { sound = k })

  pub keeps_vote : {s : RaftView S C O} → IsSoundNode nodes me s → (m : MachineMeaning S C O) (from : ℕ) (v : VoteView) → Keeps nodes me (on_vote m nodes me s from v)
  keeps_vote {s} k m from v = keeps_either (is_candidate s.role && eqb v.term s.ballot.term && v.granted)
      (λ counts. keeps_either (has_won nodes (voted s from))
      (λ _. keeps_lead (sound_voted k from) (candidate_in_a_term s.role s.ballot.term (and_parts _ _ (and_parts _ _ counts).0).0 k.in_a_term) m)
      (λ _. record { sound = sound_voted k from }))
      (λ _. record { sound = k })

  pub keeps_append : {s : RaftView S C O} → IsSoundNode nodes me s → (m : MachineMeaning S C O) (from : ℕ) (a : AppendView C) → last_new a ≤ MAX_INDEX → Keeps nodes me (on_append m me s from a)
  keeps_append {s} k m from a room =
      keeps_either (ltb a.term s.ballot.term) (λ _. record { sound = k }) (λ _. keeps_either (is_leader s.role) (λ _. record { sound = k }) (λ _.
      keeps_either (may_take s a) (λ may. record { sound = sound_caught_up (sound_taken k a room may) m }) (λ _. record { sound = sound_follower k })))

  keeps_moved : {s : RaftView S C O} → IsSoundNode nodes me s → (m : MachineMeaning S C O) (from : ℕ) (moved : Moved) → Keeps nodes me (on_moved m nodes me s from moved)
  keeps_moved k m from moves.Raised = record { sound = sound_broadcast k m }
  keeps_moved k m from moves.Back = record { sound = k }
  keeps_moved k m from moves.Nothing = record { sound = k }

  pub keeps_appended : {s : RaftView S C O} → IsSoundNode nodes me s → (m : MachineMeaning S C O) (from : ℕ) → from < nodes → (a : AppendedView) → Keeps nodes me (on_appended m nodes me s from a)
  keeps_appended {s} k m from f a =
      keeps_either (is_leader s.role && eqb a.term s.ballot.term)
      (λ leads. keeps_moved (sound_known k (and_parts _ _ leads).0 from f a) m from (moved_by s from a)) (λ _. record { sound = k })

  pub keeps_input : {s : RaftView S C O} → IsSoundNode nodes me s → (m : MachineMeaning S C O) (i : RaftInput C) → Keeps nodes me (on_input m nodes me s i)
  keeps_input {s} k m i =
      keeps_either (not (is_leader s.role)) (λ _. record { sound = k }) (λ _. keeps_either (eqb (length s.log) MAX_INDEX) (λ _. record { sound = k }) (λ room.
      record { sound = sound_broadcast (sound_with_entry k (Request i.client i.request me i.cmd) (under k.short room)) m }))

  keeps_by_message : {s : RaftView S C O} → IsSoundNode nodes me s → (m : MachineMeaning S C O) (from : ℕ) → from < nodes → (message : RaftMsg C) → IsInRange message →
      Keeps nodes me (by_message m nodes me s from message)
  keeps_by_message k m from f (msg.RequestVote r) range = keeps_request k from f r
  keeps_by_message k m from f (msg.Vote v) range = keeps_vote k m from v
  keeps_by_message k m from f (msg.Append a) range = keeps_append k m from a range.1
  keeps_by_message k m from f (msg.Appended a) range = keeps_appended k m from f a

  pub keeps_message : {s : RaftView S C O} → IsSoundNode nodes me s → (m : MachineMeaning S C O) (from : ℕ) → from < nodes → (message : RaftMsg C) → IsInRange message →
      Keeps nodes me (on_message m nodes me s from message)
  keeps_message k m from f message range = keeps_by_message (sound_heard k (term_of message) (term_in_range message range)) m from f message range
