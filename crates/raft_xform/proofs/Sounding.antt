-- Each rule keeps what the state of a node keeps to, whatever a message in range says.
use Rattle.std.proofs.Common.{◌≡◌, ℕ, suc, ◌<◌, ◌≤◌, Bool, true, false, not, List, [], ◌∷◌, ◌++◌, length, cond, leb, Option, Some, None, IfSome, IsTrue, refl, ◌∙◌, arith, length-append, ltb, ltb-true}
use Rattle.std.proofs.lemmas.Bool.{and_parts, eqb-true, false≢true, leb-true}
use Rattle.std.proofs.lemmas.List.{length-replicate, length-set}
use Rattle.std.proofs.lemmas.List.Elements.{All-get_or, All-replicate, All-set, All-weaker}
use Rattle.vst_base.specs.declared.entry.Entry.{Entry}
use Rattle.vst_base.specs.declared.entry.TheConstants.{MAX_TERM}
use Rattle.vst_base.specs.declared.what.What.{What}
use Rattle.vst_base.specs.declared.what.What.TheVariants.{Noop}
use Rattle.vst_base.specs.Logs.{has_conflict, matches}
use Rattle.vst_base.specs.Machines.{MachineMeaning}
use Rattle.raft_commit.specs.Peers.{PeerView, is_news, is_refusal, matched_of, moved, new_peer, peer_after}
use Rattle.raft_commit.specs.declared.peer.Moved.TheVariants as moves
use Rattle.raft_election.specs.Ballots.{may_start}
use Rattle.raft_types.specs.Messages.{AppendView, AppendedView, IsClusterSize}
use Rattle.raft_types.specs.declared.limits.TheConstants.{MAX_INDEX}
use Rattle.raft_xform.specs.declared.role.Role.TheVariants as role
use Rattle.raft_xform.specs.Applying.{caught_up, committed}
use Rattle.raft_xform.specs.Electing.{candidate, heard, voted, led, broadcasts, with_entry, with_noop}
use Rattle.raft_xform.specs.Nodes.{RaftView, is_leader, peer_at, started_with}
use Rattle.raft_xform.specs.Replicating.{follower, known, last_new, may_take, moved_by, taken}
use Rattle.raft_xform.specs.Sound.{ArePeers, IsPeer, IsSoundNode}
use Rattle.raft_xform.proofs.Lengths.{accepted_has_new, accepted_no_longer, committed_stay, commits_no_less, commits_no_more}

new_peers : (nodes len : ℕ) → ArePeers nodes len (Rattle.std.proofs.Common.replicate nodes (new_peer len))
new_peers nodes len = record {
  each = length-replicate nodes (new_peer len);
  within = All-replicate (IsPeer len) nodes (new_peer len) (omega arith, omega arith);
}

longer_log : {nodes len : ℕ} {peers : List PeerView} → ArePeers nodes len peers → ArePeers nodes (suc len) peers
longer_log {nodes} {len} {peers} p = record {
  each = p.each;
  within = All-weaker (IsPeer len) (IsPeer (suc len)) (λ q h. (h.0, omega (arith, h.1))) peers p.within;
}

-- an answer lets nextIndex stay in the log or right after its end, and past matchIndex
pub peer_moves : (len : ℕ) (p : PeerView) → IsPeer len p → (ok : Bool) (index : ℕ) → IsPeer len (peer_after p index (moved p ok index len))
peer_moves len p h true index = go (is_news p index len) refl
  where
    go : (b : Bool) → is_news p index len ≡ b → IsPeer len (peer_after p index (cond b moves.Raised moves.Nothing))
    go true t = let parts = and_parts (ltb p.matched index) (leb index len) t in let l : index ≤ len = leb-true index len parts.1 in (omega arith, omega arith)
    go false t = h
peer_moves len p h false index = go (is_refusal p index) refl
  where
    go : (b : Bool) → is_refusal p index ≡ b → IsPeer len (peer_after p index (cond b moves.Back moves.Nothing))
    go true t =
        let parts = and_parts _ _ t in
        let here : suc index ≡ p.next = eqb-true _ _ parts.0 in
        let l : p.matched < index = ltb-true _ _ parts.1 in
        (l, omega (arith, h.1))
    go false t = h

not_true : (b : Bool) → not b ≡ true → b ≡ false
not_true true e = absurd (false≢true e)
not_true false e = refl

-- a no-op changes the log alone
pub same_role : {S C O : Type 0} (s : RaftView S C O) → (with_noop s).role ≡ s.role
same_role s = go (ltb (length s.log) MAX_INDEX)
  where
    go : (b : Bool) → (cond b (with_entry s Noop) s).role ≡ s.role
    go true = refl
    go false = refl

module _ {S C O : Type 0} {nodes me : ℕ} where
  pub sound_led : {s : RaftView S C O} → IsSoundNode nodes me s → 1 ≤ s.ballot.term → IsSoundNode nodes me (led nodes s)
  sound_led {s} k t = record {
    cluster = k.cluster;
    here = k.here;
    term = k.term;
    in_a_term = t;
    vote = k.vote;
    applied = k.applied;
    committed = k.committed;
    short = k.short;
    peers = λ _. new_peers nodes (length s.log);
  }

  pub sound_candidate : {s : RaftView S C O} → IsSoundNode nodes me s → may_start s.ballot ≡ true → IsSoundNode nodes me (candidate me s)
  sound_candidate {s} k t = record {
    cluster = k.cluster;
    here = k.here;
    term = let l = ltb-true _ _ t in omega arith;
    in_a_term = omega arith;
    vote = k.here;
    applied = k.applied;
    committed = k.committed;
    short = k.short;
    peers = λ h. absurd (false≢true h);
  }

  pub sound_heard : {s : RaftView S C O} → IsSoundNode nodes me s → (term : ℕ) → term ≤ MAX_TERM → IsSoundNode nodes me (heard term s)
  sound_heard {s} k term t = go (ltb s.ballot.term term)
    where
      go : (b : Bool) → IsSoundNode nodes me (cond b (record s { role = role.Follower; ballot = record s.ballot { term = term; voted = None } }) s)
      go true = record {
        cluster = k.cluster;
        here = k.here;
        term = t;
        in_a_term = tt;
        vote = tt;
        applied = k.applied;
        committed = k.committed;
        short = k.short;
        peers = λ h. absurd (false≢true h);
      }
      go false = k

  pub sound_granted : {s : RaftView S C O} → IsSoundNode nodes me s → (from : ℕ) → from < nodes → IsSoundNode nodes me (record s { ballot = record s.ballot { voted = Some from } })
  sound_granted {s} k from f = record {
    cluster = k.cluster;
    here = k.here;
    term = k.term;
    in_a_term = k.in_a_term;
    vote = f;
    applied = k.applied;
    committed = k.committed;
    short = k.short;
    peers = k.peers;
  }

  pub sound_voted : {s : RaftView S C O} → IsSoundNode nodes me s → (from : ℕ) → IsSoundNode nodes me (voted s from)
  sound_voted {s} k from = record {
    cluster = k.cluster;
    here = k.here;
    term = k.term;
    in_a_term = k.in_a_term;
    vote = k.vote;
    applied = k.applied;
    committed = k.committed;
    short = k.short;
    peers = k.peers;
  }

  pub sound_caught_up : {s : RaftView S C O} → IsSoundNode nodes me s → (m : MachineMeaning S C O) → IsSoundNode nodes me (caught_up m me s).state
  sound_caught_up {s} k m = record {
    cluster = k.cluster;
    here = k.here;
    term = k.term;
    in_a_term = k.in_a_term;
    vote = k.vote;
    applied = omega arith;
    committed = k.committed;
    short = k.short;
    peers = k.peers;
  }

  pub sound_committed : {s : RaftView S C O} → IsSoundNode nodes me s → IsSoundNode nodes me (committed nodes me s)
  sound_committed {s} k = record {
    cluster = k.cluster;
    here = k.here;
    term = k.term;
    in_a_term = k.in_a_term;
    vote = k.vote;
    applied = omega (arith, commits_no_less nodes me (matched_of s.peers) s.log s.ballot.term s.commit (length s.log), k.applied);
    committed = omega (arith, commits_no_more nodes me (matched_of s.peers) s.log s.ballot.term s.commit (length s.log), k.committed);
    short = k.short;
    peers = k.peers;
  }

  pub sound_broadcast : {s : RaftView S C O} → IsSoundNode nodes me s → (m : MachineMeaning S C O) → IsSoundNode nodes me (broadcasts m nodes me s).state
  sound_broadcast k m = sound_caught_up (sound_committed k) m

  pub sound_with_entry : {s : RaftView S C O} → IsSoundNode nodes me s → (what : What C) → length s.log < MAX_INDEX → IsSoundNode nodes me (with_entry s what)
  sound_with_entry {s} k what room =
      let e : Entry C = record { term = s.ballot.term; what = what } in
      let more : length (s.log ++ e ∷ []) ≡ suc (length s.log) = omega (arith, length-append s.log (e ∷ [])) in
      record {
        cluster = k.cluster;
        here = k.here;
        term = k.term;
        in_a_term = k.in_a_term;
        vote = k.vote;
        applied = k.applied;
        committed = omega (arith, more, k.committed);
        short = omega (arith, more);
        peers = λ h. rw more (longer_log (k.peers h));
      }

  pub sound_with_noop : {s : RaftView S C O} → IsSoundNode nodes me s → IsSoundNode nodes me (with_noop s)
  sound_with_noop {s} k = go (ltb (length s.log) MAX_INDEX) refl
    where
      go : (b : Bool) → ltb (length s.log) MAX_INDEX ≡ b → IsSoundNode nodes me (cond b (with_entry s Noop) s)
      go true t = sound_with_entry k Noop (ltb-true _ _ t)
      go false t = k

  pub sound_follower : {s : RaftView S C O} → IsSoundNode nodes me s → IsSoundNode nodes me (follower s)
  sound_follower {s} k = record {
    cluster = k.cluster;
    here = k.here;
    term = k.term;
    in_a_term = tt;
    vote = k.vote;
    applied = k.applied;
    committed = k.committed;
    short = k.short;
    peers = λ h. absurd (false≢true h);
  }

  pub sound_taken : {s : RaftView S C O} → IsSoundNode nodes me s → (a : AppendView C) → last_new a ≤ MAX_INDEX → may_take s a ≡ true → IsSoundNode nodes me (taken s a)
  sound_taken {s} k a room may =
      let parts = and_parts (matches s.log a.prev_index a.prev_term) (not (has_conflict s.log s.commit a.prev_index a.entries)) may in
      let there : a.prev_index ≤ length s.log = leb-true _ _ (and_parts _ _ parts.0).0 in
      let none : has_conflict s.log s.commit a.prev_index a.entries ≡ false = not_true _ parts.1 in
      record {
        cluster = k.cluster;
        here = k.here;
        term = k.term;
        in_a_term = tt;
        vote = k.vote;
        applied = omega (arith, k.applied);
        committed = omega (arith, committed_stay s.log s.commit a.prev_index a.entries k.committed there none, accepted_has_new s.log a.prev_index a.entries there);
        short = omega (arith, accepted_no_longer s.log a.prev_index a.entries there, k.short, room);
        peers = λ h. absurd (false≢true h);
      }

  pub sound_known : {s : RaftView S C O} → IsSoundNode nodes me s → IsTrue (is_leader s.role) → (from : ℕ) → from < nodes → (a : AppendedView) → IsSoundNode nodes me (known s from a)
  sound_known {s} k leads from f a =
      let ps = k.peers leads in
      record {
        cluster = k.cluster;
        here = k.here;
        term = k.term;
        in_a_term = k.in_a_term;
        vote = k.vote;
        applied = k.applied;
        committed = k.committed;
        short = k.short;
        peers = λ _. record {
          each = length-set s.peers from (peer_after (peer_at s.peers from) a.index (moved_by s from a)) ∙ ps.each;
          within = All-set (IsPeer (length s.log)) s.peers from (peer_after (peer_at s.peers from) a.index (moved_by s from a))
              (peer_moves (length s.log) (peer_at s.peers from) (All-get_or (IsPeer (length s.log)) s.peers from (new_peer 0) (omega (arith, ps.each)) ps.within) a.ok a.index) ps.within;
        };
      }

  pub sound_started : (m : MachineMeaning S C O) (term : ℕ) (vote : Option ℕ) (log : List (Entry C)) → IsClusterSize nodes → me < nodes → term ≤ MAX_TERM → IfSome vote (λ node. node < nodes) →
      length log ≤ MAX_INDEX → IsSoundNode nodes me (started_with m term vote log)
  sound_started m term vote log cluster here t v short = record {
    cluster = cluster;
    here = here;
    term = t;
    in_a_term = tt;
    vote = v;
    applied = omega arith;
    committed = omega arith;
    short = short;
    peers = λ h. absurd (false≢true h);
  }
