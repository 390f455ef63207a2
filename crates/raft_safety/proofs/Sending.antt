-- What a node sends is in range, and goes to another node of the cluster.
use Rattle.std.proofs.Common.{◌≡◌, ◌≢◌, ℕ, zero, suc, ◌-◌, ◌<◌, ◌≤◌, Bool, true, false, ◌&&◌, List, [], ◌∷◌, length, drop, eqb, ltb, leb, cond, ◌⊎◌, inl, inr, refl, arith}
use Rattle.std.proofs.lemmas.Bool.{and_parts}
use Rattle.std.proofs.lemmas.Bool.Decides.{eqb_tells}
use Rattle.std.proofs.lemmas.List.{length-drop}
use Rattle.std.proofs.lemmas.List.Elements.{All-get_or}
use Rattle.vst_base.specs.Machines.{MachineMeaning}
use Rattle.vst_base.specs.declared.what.What.TheVariants.{Noop}
use Rattle.raft_commit.specs.Peers.{new_peer}
use Rattle.raft_commit.specs.declared.peer.Moved.{Moved}
use Rattle.raft_commit.specs.declared.peer.Moved.TheVariants as moves
use Rattle.raft_election.specs.Ballots.{grants, may_start}
use Rattle.raft_free.specs.Events.{In}
use Rattle.raft_free.proofs.Stepping.{in_append}
use Rattle.raft_types.specs.Messages.{AppendView, AppendedView, RequestVoteView, VoteView}
use Rattle.raft_types.specs.Terms.{term_of}
use Rattle.raft_types.specs.declared.client.RaftInput.{RaftInput}
use Rattle.raft_types.specs.declared.limits.TheConstants.{MAX_BATCH, MAX_INDEX}
use Rattle.raft_types.specs.declared.msg.RaftMsg.{RaftMsg}
use Rattle.raft_types.specs.declared.msg.RaftMsg.TheVariants as msg
use Rattle.raft_xform.specs.Electing.{campaign, candidate, has_won, heard, on_request, on_vote, sees_up_to_date, tick, voted, lead, led, broadcasts, with_entry}
use Rattle.raft_xform.specs.Nodes.{RaftEffect, RaftView, is_candidate, is_leader, peer_at, sending}
use Rattle.raft_xform.specs.Raft.{by_message, on_message}
use Rattle.raft_xform.specs.Replicating.{answer, known, may_take, moved_by, on_append, on_appended, on_input, on_moved, proposed}
use Rattle.raft_xform.specs.Sending.{append, appends, to_others}
use Rattle.raft_xform.specs.Sound.{IsInRange, IsPeer, IsSoundNode}
use Rattle.lists.specs.Places.{length_taken}

pub record IsGood {C : Type 0} (n from to : ℕ) (message : RaftMsg C) : Type 0 where
  pub below : to < n
  pub other : to ≢ from
  pub range : IsInRange message

abbrev pub AreGood : {C : Type 0} → ℕ → ℕ → List (ℕ × RaftMsg C) → Type 0
AreGood n i sends = (p : ℕ × RaftMsg _) → In p sends → IsGood n i p.0 p.1

-- where it leaves a sound node
pub record SendsGood {S C O : Type 0} (n i : ℕ) (e : RaftEffect S C O) : Type 0 where
  pub good : IsSoundNode n i e.state → AreGood n i e.sends

good_none : {C : Type 0} (n i : ℕ) → AreGood {C = C} n i []
good_none n i p h = absurd h

good_one : {C : Type 0} (n i to : ℕ) (message : RaftMsg C) → IsGood n i to message → AreGood n i ((to, message) ∷ [])
good_one n i to message g p (inl e) = rw e g
good_one n i to message g p (inr h) = absurd h

good_each : {C : Type 0} (n i : ℕ) (f : ℕ → RaftMsg C) → ((j : ℕ) → j < n → IsInRange (f j)) → (k : ℕ) → k ≤ n → AreGood n i (to_others k i f)
good_each n i f range zero le p h = absurd h
good_each n i f range (suc k) le p h =
    elim (in_append p (to_others k i f) (cond (eqb k i) [] ((k, f k) ∷ [])) h)
    [ inl q ↦ good_each n i f range k (omega arith) p q | inr q ↦ last (eqb_tells k i) q ]
  where
    last : ((eqb k i ≡ true) × (k ≡ i)) ⊎ ((eqb k i ≡ false) × (k ≢ i)) → In p (cond (eqb k i) [] ((k, f k) ∷ [])) → IsGood n i p.0 p.1
    last (inl t) = rw (t.0) (good_none n i p)
    last (inr t) = rw (t.0) (good_one n i k (f k) (record { below = omega arith; other = t.1; range = range k (omega arith) }) p)

either : {S C O : Type 0} {n i : ℕ} (b : Bool) {e f : RaftEffect S C O} → (b ≡ true → SendsGood n i e) → (b ≡ false → SendsGood n i f) → SendsGood n i (cond b e f)
either true k l = k refl
either false k l = l refl

module _ {S C O : Type 0} (m : MachineMeaning S C O) (n i : ℕ) where
  append_range : (s : RaftView S C O) → IsSoundNode n i s → is_leader s.role ≡ true → (j : ℕ) → j < n → IsInRange (append s j)
  append_range s k l j below =
      let ps = k.peers l in
      let p = (All-get_or (IsPeer (length s.log)) s.peers j (new_peer 0) (omega (arith, ps.each)) ps.within).1 in
      (k.term, omega (arith, k.short, length_taken MAX_BATCH (drop ((peer_at s.peers j).next - 1) s.log), length-drop ((peer_at s.peers j).next - 1) s.log))

  good_appends : (s : RaftView S C O) → is_leader s.role ≡ true → IsSoundNode n i s → AreGood n i (appends n i s)
  good_appends s l k = good_each n i (append s) (append_range s k l) n (omega arith)

  good_broadcast : (s : RaftView S C O) → is_leader s.role ≡ true → SendsGood n i (broadcasts m n i s)
  good_broadcast s l = record { good = λ k. good_appends (broadcasts m n i s).state l k }

  good_lead : (s : RaftView S C O) → SendsGood n i (lead m n i s)
  good_lead s = go (ltb (length s.log) MAX_INDEX)
    where
      go : (b : Bool) → SendsGood n i (broadcasts m n i (cond b (with_entry (led n s) Noop) (led n s)))
      go true = good_broadcast (with_entry (led n s) Noop) refl
      go false = good_broadcast (led n s) refl

  good_campaign : (s : RaftView S C O) → SendsGood n i (campaign m n i s)
  good_campaign s = either (has_won n s) (λ e. good_lead s) (λ e. record { good = λ k. good_each n i _ (λ j below. k.term) n (omega arith) })

  pub good_tick : (s : RaftView S C O) → SendsGood n i (tick m n i s)
  good_tick s =
      either (is_leader s.role) (λ e. record { good = λ k. good_appends s e k })
      (λ e. either (may_start s.ballot) (λ _. good_campaign (candidate i s)) (λ _. record { good = λ k. good_none n i }))

  pub good_input : (s : RaftView S C O) (q : RaftInput C) → SendsGood n i (on_input m n i s q)
  good_input s q = by_role (is_leader s.role) refl
    where
      by_role : (b : Bool) → is_leader s.role ≡ b → SendsGood n i (on_input m n i s q)
      by_role false e = rw e (record { good = λ k. good_none n i })
      by_role true e = rw e (either (eqb (length s.log) MAX_INDEX) (λ _. record { good = λ k. good_none n i }) (λ _. good_broadcast (proposed i s q) e))

  good_request : (s : RaftView S C O) (from : ℕ) (r : RequestVoteView) → from < n → from ≢ i → SendsGood n i (on_request s from r)
  good_request s from r below ne =
      either (grants s.ballot r.term from (sees_up_to_date s r)) (λ _. record { good = λ k. good_one n i from _ (record { below = below; other = ne; range = k.term }) })
      (λ _. record { good = λ k. good_one n i from _ (record { below = below; other = ne; range = k.term }) })

  good_vote : (s : RaftView S C O) (from : ℕ) (v : VoteView) → SendsGood n i (on_vote m n i s from v)
  good_vote s from v =
      either (is_candidate s.role && eqb v.term s.ballot.term && v.granted)
      (λ _. either (has_won n (voted s from)) (λ _. good_lead (voted s from)) (λ _. record { good = λ k. good_none n i }))
      (λ _. record { good = λ k. good_none n i })

  good_append : (s : RaftView S C O) (from : ℕ) (a : AppendView C) → from < n → from ≢ i → SendsGood n i (on_append m i s from a)
  good_append s from a below ne =
      either (ltb a.term s.ballot.term) (λ _. answers) (λ _. either (is_leader s.role) (λ _. record { good = λ k. good_none n i })
      (λ _. either (may_take s a) (λ _. record { good = λ k. good_one n i from _ (record { below = below; other = ne; range = k.term }) })
      (λ _. record { good = λ k. good_one n i from _ (record { below = below; other = ne; range = k.term }) })))
    where
      answers : SendsGood n i (sending s (answer s false a.prev_index from))
      answers = record { good = λ k. good_one n i from _ (record { below = below; other = ne; range = k.term }) }

  good_moved : (s : RaftView S C O) (from : ℕ) (v : Moved) → is_leader s.role ≡ true → from < n → from ≢ i → SendsGood n i (on_moved m n i s from v)
  good_moved s from moves.Raised l below ne = record { good = good_rest }
    where
      good_rest : IsSoundNode n i (on_moved m n i s from moves.Raised).state → AreGood n i (on_moved m n i s from moves.Raised).sends
      good_rest k = go (leb (peer_at s.peers from).next (length s.log))
        where
          go : (b : Bool) → AreGood n i (cond b ((from, append (on_moved m n i s from moves.Raised).state from) ∷ []) [])
          go true = good_one n i from _ (record { below = below; other = ne; range = append_range _ k l from below })
          go false = good_none n i
  good_moved s from moves.Back l below ne = record { good = λ k. good_one n i from _ (record { below = below; other = ne; range = append_range s k l from below }) }
  good_moved s from moves.Nothing l below ne = record { good = λ k. good_none n i }

  good_appended : (s : RaftView S C O) (from : ℕ) (a : AppendedView) → from < n → from ≢ i → SendsGood n i (on_appended m n i s from a)
  good_appended s from a below ne =
      either (is_leader s.role && eqb a.term s.ballot.term) (λ e. good_moved (known s from a) from (moved_by s from a) (and_parts _ _ e).0 below ne) (λ _. record { good = λ k. good_none n i })

  good_by_message : (s : RaftView S C O) (from : ℕ) (message : RaftMsg C) → from < n → from ≢ i → SendsGood n i (by_message m n i s from message)
  good_by_message s from (msg.RequestVote r) below ne = good_request s from r below ne
  good_by_message s from (msg.Vote v) below ne = good_vote s from v
  good_by_message s from (msg.Append a) below ne = good_append s from a below ne
  good_by_message s from (msg.Appended a) below ne = good_appended s from a below ne

  pub good_message : (s : RaftView S C O) (from : ℕ) (message : RaftMsg C) → from < n → from ≢ i → SendsGood n i (on_message m n i s from message)
  good_message s from message below ne = good_by_message (heard (term_of message) s) from message below ne
