-- What a sound node sends is in range.
use Rattle.std.proofs.Common.{◌≡◌, ℕ, zero, suc, ◌-◌, ◌<◌, ◌≤◌, Bool, true, false, not, ◌&&◌, ◌==◌, List, [], ◌∷◌, ◌++◌, length, drop, cond, eqb, ltb, leb, IsTrue, refl, ap, arith, length-drop, length-take}
use Rattle.std.proofs.lemmas.Bool.{and_parts}
use Rattle.std.proofs.lemmas.List.Elements.{All-get_or}
use Rattle.vst_base.specs.Machines.{MachineMeaning}
use Rattle.vst_base.specs.declared.what.What.TheVariants.{Request}
use Rattle.raft_commit.specs.Peers.{new_peer}
use Rattle.raft_commit.specs.declared.peer.Moved.{Moved}
use Rattle.raft_commit.specs.declared.peer.Moved.TheVariants as moves
use Rattle.raft_election.specs.Ballots.{grants, may_start}
use Rattle.raft_types.specs.Messages.{AppendView, VoteView}
use Rattle.raft_types.specs.Terms.{term_of}
use Rattle.raft_types.specs.declared.client.RaftInput.{RaftInput}
use Rattle.raft_types.specs.declared.limits.TheConstants.{MAX_INDEX}
use Rattle.raft_types.specs.declared.msg.RaftMsg.{RaftMsg}
use Rattle.raft_types.specs.declared.msg.RaftMsg.TheVariants as msg
use Rattle.raft_xform.specs.Electing.{candidate, has_won, on_vote, sees_up_to_date, tick, voted, lead, led, broadcasts}
use Rattle.raft_xform.specs.Nodes.{RaftEffect, RaftView, is_candidate, is_leader, peer_at}
use Rattle.raft_xform.specs.Raft.{by_message, on_message}
use Rattle.raft_xform.specs.Replicating.{may_take, moved_by, on_append, on_input, on_moved}
use Rattle.raft_xform.specs.Sending.{append, appends, append_rest, to_others}
use Rattle.raft_xform.specs.Sound.{AreInRange, IsInRange, IsPeer, IsSoundNode}
use Rattle.raft_xform.proofs.Keeping.{candidate_in_a_term, term_in_range, under}
use Rattle.raft_xform.proofs.Sounding.{same_role, sound_candidate, sound_heard, sound_known, sound_led, sound_broadcast, sound_voted, sound_with_entry, sound_with_noop}

in_range_both : {C : Type 0} (ps qs : List (ℕ × RaftMsg C)) → AreInRange ps → AreInRange qs → AreInRange (ps ++ qs)
in_range_both [] qs a b = b
in_range_both (p ∷ ps) qs a b = (a.0, in_range_both ps qs a.1 b)

others_in_range : {C : Type 0} (nodes me : ℕ) (message : ℕ → RaftMsg C) → ((n : ℕ) → n < nodes → IsInRange (message n)) → AreInRange (to_others nodes me message)
others_in_range zero me message h = tt
others_in_range {C} (suc n) me message h =
    in_range_both (to_others n me message) _ (others_in_range n me message (λ k l. h k (omega arith))) (go (n == me) (h n (omega arith)))
  where
    go : (b : Bool) → IsInRange (message n) → AreInRange (cond b [] ((n, message n) ∷ []))
    go true k = tt
    go false k = (k, tt)

-- an effect whose packets are in range
pub record SendsInRange {S C O : Type 0} (e : RaftEffect S C O) : Type 0 where
  pub sends : AreInRange e.sends

either : {S C O : Type 0} (b : Bool) {e f : RaftEffect S C O} → (b ≡ true → SendsInRange e) → (b ≡ false → SendsInRange f) → SendsInRange (cond b e f)
either true k l = k refl
either false k l = l refl

leads_where : (b : Bool) → not b ≡ false → b ≡ true
leads_where true e = refl
leads_where false e = absurd (cc e)

module _ {S C O : Type 0} {nodes me : ℕ} where
  append_in_range : {s : RaftView S C O} → IsSoundNode nodes me s → IsTrue (is_leader s.role) → (n : ℕ) → n < nodes → IsInRange (append s n)
  append_in_range {s} k leads n l =
      let ps = k.peers leads in
      let p : IsPeer (length s.log) (peer_at s.peers n) = All-get_or (IsPeer (length s.log)) s.peers n (new_peer 0) (omega (arith, ps.each)) ps.within in
      let next : ℕ = (peer_at s.peers n).next in
      (k.term, omega (arith, k.short, p.0, p.1, length-take 8 (drop (next - 1) s.log), length-drop (next - 1) s.log))

  appends_in_range : {s : RaftView S C O} → IsSoundNode nodes me s → IsTrue (is_leader s.role) → AreInRange (appends nodes me s)
  appends_in_range {s} k leads = others_in_range nodes me (append s) (append_in_range k leads)

  broadcast_in_range : {s : RaftView S C O} → IsSoundNode nodes me s → IsTrue (is_leader s.role) → (m : MachineMeaning S C O) → SendsInRange (broadcasts m nodes me s)
  broadcast_in_range k leads m = record { sends = appends_in_range (sound_broadcast k m) leads }

  lead_in_range : {s : RaftView S C O} → IsSoundNode nodes me s → 1 ≤ s.ballot.term → (m : MachineMeaning S C O) → SendsInRange (lead m nodes me s)
  lead_in_range {s} k t m = broadcast_in_range (sound_with_noop (sound_led k t)) (ap is_leader (same_role (led nodes s))) m

  pub tick_in_range : {s : RaftView S C O} → IsSoundNode nodes me s → (m : MachineMeaning S C O) → SendsInRange (tick m nodes me s)
  tick_in_range {s} k m = either (is_leader s.role) (λ leads. record { sends = appends_in_range k leads }) (λ _. either (may_start s.ballot) (λ may.
      let c = sound_candidate k may in
      either (has_won nodes (candidate me s)) (λ _. lead_in_range c (omega arith) m)
      (λ _. record { sends = others_in_range nodes me _ (λ n l. c.term) })) (λ _. record { sends = tt }))

  pub input_in_range : {s : RaftView S C O} → IsSoundNode nodes me s → (m : MachineMeaning S C O) (i : RaftInput C) → SendsInRange (on_input m nodes me s i)
  input_in_range {s} k m i = either (not (is_leader s.role)) (λ _. record { sends = tt }) (λ leads. either (eqb (length s.log) MAX_INDEX) (λ _. record { sends = tt }) (λ room.
      broadcast_in_range (sound_with_entry k (Request i.client i.request me i.cmd) (under k.short room)) (leads_where (is_leader s.role) leads) m))

  vote_in_range : {s : RaftView S C O} → IsSoundNode nodes me s → (m : MachineMeaning S C O) (from : ℕ) (v : VoteView) → SendsInRange (on_vote m nodes me s from v)
  vote_in_range {s} k m from v = either (is_candidate s.role && eqb v.term s.ballot.term && v.granted)
      (λ counts. either (has_won nodes (voted s from))
      (λ _. lead_in_range (sound_voted k from) (candidate_in_a_term s.role s.ballot.term (and_parts _ _ (and_parts _ _ counts).0).0 k.in_a_term) m) (λ _. record { sends = tt }))
      (λ _. record { sends = tt })

  append_answer_in_range : {s : RaftView S C O} → IsSoundNode nodes me s → (m : MachineMeaning S C O) (from : ℕ) (a : AppendView C) → SendsInRange (on_append m me s from a)
  append_answer_in_range {s} k m from a = either (ltb a.term s.ballot.term) (λ _. record { sends = (k.term, tt) }) (λ _. either (is_leader s.role) (λ _. record { sends = tt })
      (λ _. either (may_take s a) (λ _. record { sends = (k.term, tt) }) (λ _. record { sends = (k.term, tt) })))

  rest_in_range : {s : RaftView S C O} → IsSoundNode nodes me s → IsTrue (is_leader s.role) → (from : ℕ) → from < nodes → AreInRange (append_rest s from)
  rest_in_range {s} k leads from f = go (leb (peer_at s.peers from).next (length s.log))
    where
      go : (b : Bool) → AreInRange (cond b ((from, append s from) ∷ []) [])
      go true = (append_in_range k leads from f, tt)
      go false = tt

  moved_in_range : {s : RaftView S C O} → IsSoundNode nodes me s → IsTrue (is_leader s.role) → (m : MachineMeaning S C O) (from : ℕ) → from < nodes → (moved : Moved) → SendsInRange (on_moved m nodes me s from moved)
  moved_in_range k leads m from f moves.Raised = record { sends = rest_in_range (sound_broadcast k m) leads from f }
  moved_in_range k leads m from f moves.Back = record { sends = (append_in_range k leads from f, tt) }
  moved_in_range k leads m from f moves.Nothing = record { sends = tt }

  by_message_in_range : {s : RaftView S C O} → IsSoundNode nodes me s → (m : MachineMeaning S C O) (from : ℕ) → from < nodes → (message : RaftMsg C) → SendsInRange (by_message m nodes me s from message)
  by_message_in_range {s} k m from f (msg.RequestVote r) = either (grants s.ballot r.term from (sees_up_to_date s r)) (λ _. record { sends = (k.term, tt) }) (λ _. record { sends = (k.term, tt) })
  by_message_in_range k m from f (msg.Vote v) = vote_in_range k m from v
  by_message_in_range k m from f (msg.Append a) = append_answer_in_range k m from a
  by_message_in_range {s} k m from f (msg.Appended a) = either (is_leader s.role && eqb a.term s.ballot.term)
      (λ leads. let l = (and_parts _ _ leads).0 in moved_in_range (sound_known k l from f a) l m from f (moved_by s from a)) (λ _. record { sends = tt })

  pub message_in_range : {s : RaftView S C O} → IsSoundNode nodes me s → (m : MachineMeaning S C O) (from : ℕ) → from < nodes → (message : RaftMsg C) → IsInRange message →
      SendsInRange (on_message m nodes me s from message)
  message_in_range k m from f message range = by_message_in_range (sound_heard k (term_of message) (term_in_range message range)) m from f message
