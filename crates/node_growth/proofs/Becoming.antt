-- What each rule makes of a log, and so each event.
use Rattle.std.proofs.Common.{◌≡◌, ℕ, ◌≤◌, Bool, true, false, not, ◌&&◌, List, length, cond, eqb, ltb, refl, subst, inl, inr}
use Rattle.std.proofs.lemmas.Bool.{and_parts, leb-true}
use Rattle.raft_commit.specs.declared.peer.Moved.{Moved}
use Rattle.raft_commit.specs.declared.peer.Moved.TheVariants as moves
use Rattle.raft_election.specs.Ballots.{grants, learned, may_start}
use Rattle.raft_types.specs.Messages.{AppendView, AppendedView, RequestVoteView, VoteView}
use Rattle.raft_types.specs.Terms.{term_of}
use Rattle.raft_types.specs.declared.client.RaftInput.{RaftInput}
use Rattle.raft_types.specs.declared.limits.TheConstants.{MAX_INDEX}
use Rattle.raft_types.specs.declared.msg.RaftMsg.{RaftMsg}
use Rattle.raft_types.specs.declared.msg.RaftMsg.TheVariants as msg
use Rattle.raft_xform.specs.declared.role.Role.TheVariants as role
use Rattle.raft_xform.specs.Electing.{campaign, candidate, has_won, heard, on_request, on_vote, sees_up_to_date, tick, voted, lead, led, with_entry, with_noop}
use Rattle.raft_xform.specs.Nodes.{RaftEffect, RaftView, is_candidate, is_leader}
use Rattle.raft_xform.specs.Raft.{by_message, on_message}
use Rattle.raft_xform.specs.Replicating.{known, may_take, moved_by, on_append, on_appended, on_input, on_moved}
use Rattle.vst_base.specs.Entries.{EntryView}
use Rattle.vst_base.specs.Logs.{has_conflict, matches}
use Rattle.vst_base.specs.Machines.{MachineMeaning}
use Rattle.wire_fields.specs.Formats.{Format}
use Rattle.vst_base.specs.declared.what.What.TheVariants.{Noop}
use Rattle.node_run.specs.declared.event.Event.TheVariants.{Tick, Peer, Asked}
use Rattle.node_growth.specs.Growth.{Becomes, IsTaking, IsWithOne}
use Rattle.node_growth.specs.GrowthLaws.{LogBecomes}

-- an effect after which the log is such a one
record Leaves {S C O : Type 0} (Is : List (EntryView C) → Type 0) (e : RaftEffect S C O) : Type 0 where
  log : Is e.state.log

-- of two effects, whichever it is
either : {S C O : Type 0} {Is : List (EntryView C) → Type 0} (b : Bool) {e f : RaftEffect S C O} →
    (b ≡ true → Leaves Is e) → (b ≡ false → Leaves Is f) → Leaves Is (cond b e f)
either true k l = k refl
either false k l = l refl

module _ {S C O : Type 0} (m : MachineMeaning S C O) (nodes me : ℕ) where
  -- after this effect the log has one entry more at most
  abbrev Grows : RaftView S C O → RaftEffect S C O → Type 0
  Grows s e = Leaves (IsWithOne s.log) e

  -- a later term changes no log
  heard_log : (term : ℕ) (s : RaftView S C O) → (heard term s).log ≡ s.log
  heard_log term s = go (ltb s.ballot.term term)
    where
      go : (b : Bool) → (cond b (record s { role = role.Follower; ballot = learned term s.ballot }) s).log ≡ s.log
      go true = refl
      go false = refl

  noop_log : (s : RaftView S C O) → IsWithOne s.log (with_noop s).log
  noop_log s = go (ltb (length s.log) MAX_INDEX)
    where
      go : (b : Bool) → IsWithOne s.log (cond b (with_entry s Noop) s).log
      go true = inr (record { term = s.ballot.term; what = Noop }, refl)
      go false = inl refl

  lead_log : (s : RaftView S C O) → Grows s (lead m nodes me s)
  lead_log s = record { log = noop_log (led nodes s) }

  campaign_log : (s : RaftView S C O) → Grows s (campaign m nodes me s)
  campaign_log s = either (has_won nodes s) (λ _. lead_log s) (λ _. record { log = inl refl })

  tick_log : (s : RaftView S C O) → Grows s (tick m nodes me s)
  tick_log s = either (is_leader s.role) (λ _. record { log = inl refl })
      (λ _. either (may_start s.ballot) (λ _. campaign_log (candidate me s)) (λ _. record { log = inl refl }))

  input_log : (s : RaftView S C O) (i : RaftInput C) → Grows s (on_input m nodes me s i)
  input_log s i = either (not (is_leader s.role)) (λ _. record { log = inl refl })
      (λ _. either (eqb (length s.log) MAX_INDEX) (λ _. record { log = inl refl }) (λ _. record { log = inr (_, refl) }))

  request_log : (s : RaftView S C O) (from : ℕ) (r : RequestVoteView) → Grows s (on_request s from r)
  request_log s from r =
      either (grants s.ballot r.term from (sees_up_to_date s r)) (λ _. record { log = inl refl }) (λ _. record { log = inl refl })

  vote_log : (s : RaftView S C O) (from : ℕ) (v : VoteView) → Grows s (on_vote m nodes me s from v)
  vote_log s from v = either (is_candidate s.role && eqb v.term s.ballot.term && v.granted)
      (λ _. either (has_won nodes (voted s from)) (λ _. lead_log (voted s from)) (λ _. record { log = inl refl }))
      (λ _. record { log = inl refl })

  append_log : (s : RaftView S C O) (from : ℕ) (a : AppendView C) → Leaves (IsTaking a.prev_index a.entries s.log) (on_append m me s from a)
  append_log s from a = either (ltb a.term s.ballot.term) (λ _. record { log = inl refl }) (λ _.
      either (is_leader s.role) (λ _. record { log = inl refl }) (λ _.
      either (may_take s a) (λ may. record { log = inr (reaches may, refl) }) (λ _. record { log = inl refl })))
    where
      reaches : may_take s a ≡ true → a.prev_index ≤ length s.log
      reaches may =
          let parts = and_parts (matches s.log a.prev_index a.prev_term) (not (has_conflict s.log s.commit a.prev_index a.entries)) may in
          leb-true _ _ (and_parts _ _ parts.0).0

  moved_log : (s : RaftView S C O) (from : ℕ) (moved : Moved) → Grows s (on_moved m nodes me s from moved)
  moved_log s from moves.Raised = record { log = inl refl }
  moved_log s from moves.Back = record { log = inl refl }
  moved_log s from moves.Nothing = record { log = inl refl }

  appended_log : (s : RaftView S C O) (from : ℕ) (a : AppendedView) → Grows s (on_appended m nodes me s from a)
  appended_log s from a = either (is_leader s.role && eqb a.term s.ballot.term)
      (λ _. moved_log (known s from a) from (moved_by s from a)) (λ _. record { log = inl refl })

  by_message_log : (s : RaftView S C O) (from : ℕ) (message : RaftMsg C) →
      Becomes (Peer from message) s.log (by_message m nodes me s from message).state.log
  by_message_log s from (msg.RequestVote r) = (request_log s from r).log
  by_message_log s from (msg.Vote v) = (vote_log s from v).log
  by_message_log s from (msg.Append a) = (append_log s from a).log
  by_message_log s from (msg.Appended a) = (appended_log s from a).log

  message_log : (s : RaftView S C O) (from : ℕ) (message : RaftMsg C) →
      Becomes (Peer from message) s.log (on_message m nodes me s from message).state.log
  message_log s from message =
      subst (λ old. Becomes (Peer from message) old (on_message m nodes me s from message).state.log) (heard_log (term_of message) s)
      (by_message_log (heard (term_of message) s) from message)

pub log_becomes : {S C O : Type 0} (f : Format C) (g : Format O) → LogBecomes S f g
log_becomes f g settings m s Tick = (tick_log m (length settings.peers) settings.me s).log
log_becomes f g settings m s (Peer from message) = message_log m (length settings.peers) settings.me s from message
log_becomes f g settings m s (Asked request) = (input_log m (length settings.peers) settings.me s request).log
