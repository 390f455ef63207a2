-- What a node of a Raft cluster sends fits, where the commands of its log do.
use Rattle.std.specs.Prelude.{◌≡◌, ℕ, zero, suc, None, ◌+◌, ◌-◌, ◌*◌, ◌<◌, ◌≤◌, Bool, true, false, not, ◌&&◌, ◌==◌, nat_lt, nat_le, List, [], ◌∷◌, ◌++◌, length, take, drop, cond, IsTrue, refl}
use Rattle.std.specs.List.{flat_map}
use Rattle.std.proofs.Common.{ap, arith, length-append, length-drop, length-take}
use Rattle.std.proofs.lemmas.Bool.{and_parts, le-leb, leb-true, ltb-false}
use Rattle.std.proofs.lemmas.List.Elements.{All-append, All-cons, All-drop, All-get_or, All-head, All-push, All-tail, All-take}
use Rattle.node_body.specs.CommandLengths.{entries_length}
use Rattle.node_body.specs.declared.commands.TheConstants.{MAX_COMMAND}
use Rattle.raft_commit.specs.Peers.{new_peer}
use Rattle.raft_commit.specs.declared.peer.Moved.{Moved}
use Rattle.raft_commit.specs.declared.peer.Moved.TheVariants as moves
use Rattle.raft_election.specs.Ballots.{grants, may_start}
use Rattle.raft_types.specs.Messages.{AppendView, VoteView}
use Rattle.raft_types.specs.Terms.{term_of}
use Rattle.raft_types.specs.declared.client.RaftInput.{RaftInput}
use Rattle.raft_types.specs.declared.limits.TheConstants.{MAX_INDEX}
use Rattle.raft_types.specs.declared.msg.RaftMsg.{RaftMsg}
use Rattle.raft_types.specs.declared.msg.RaftMsg.TheVariants as msg
use Rattle.raft_xform.proofs.Keeping.{candidate_in_a_term, term_in_range, under}
use Rattle.raft_xform.proofs.Sounding.{same_role, sound_broadcast, sound_candidate, sound_heard, sound_known, sound_led, sound_voted, sound_with_entry, sound_with_noop}
use Rattle.raft_xform.specs.Electing.{candidate, has_won, heard, on_vote, sees_up_to_date, tick, voted, broadcasts, lead, led, with_entry, with_noop}
use Rattle.raft_xform.specs.Nodes.{RaftEffect, RaftView, is_candidate, is_leader, peer_at}
use Rattle.raft_xform.specs.Raft.{by_message, on_message}
use Rattle.raft_xform.specs.Replicating.{may_take, moved_by, on_append, on_input, on_moved}
use Rattle.raft_xform.specs.Sending.{append, append_rest, appends, to_others}
use Rattle.raft_xform.specs.Sound.{HasTerm, IsInRange, IsPeer, IsSoundNode}
use Rattle.raft_xform.specs.declared.role.Role.{Role}
use Rattle.raft_xform.specs.declared.role.Role.TheVariants as role
use Rattle.vst_base.specs.Entries.{EntryView}
use Rattle.vst_base.specs.Logs.{accepted, merged, term_at}
use Rattle.vst_base.specs.Machines.{MachineMeaning}
use Rattle.vst_base.specs.declared.entry.TheConstants.{MAX_TERM}
use Rattle.vst_base.specs.declared.what.What.TheVariants.{Noop, Request}
use Rattle.wire_fields.specs.ByteLaws.{length-number_bytes}
use Rattle.wire_fields.specs.Formats.{Format}
use Rattle.wire_messages.specs.EntryBytes.{entry}
use Rattle.wire_messages.specs.RaftBytes.{raft_message}
use Rattle.wired.specs.RaftSaving.{IsAsked}
use Rattle.wired.specs.RaftSending.{HasRaft, LogFits, longest_raft}

-- a leader is in a term in which a node may be elected
leader_in_a_term : (r : Role) (term : ℕ) → IsTrue (is_leader r) → HasTerm r term → 1 ≤ term
leader_in_a_term role.Follower term leads has = absurd (cc (leads))
leader_in_a_term role.Candidate term leads has = has
leader_in_a_term role.Leader term leads has = has

leads_where : (b : Bool) → not b ≡ false → b ≡ true
leads_where true e = refl
leads_where false e = absurd (cc (e))

-- a node that heard of a term is in it or in a later one
heard_term : {S C O : Type 0} (term : ℕ) (s : RaftView S C O) → 1 ≤ term → 1 ≤ (heard term s).ballot.term
heard_term term s some = go (nat_lt s.ballot.term term) refl
  where
    go : (b : Bool) → nat_lt s.ballot.term term ≡ b → 1 ≤ (cond b (record s { role = role.Follower; ballot = record s.ballot { term = term; voted = None } }) s).ballot.term
    go true e = some
    go false e = omega (arith, some, ltb-false s.ballot.term term e)

module _ {C : Type 0} (f : Format C) where
  -- each of these messages fits
  abbrev pub AreFit : List (ℕ × RaftMsg C) → Type 0
  AreFit [] = Unit {0}
  AreFit (p ∷ ps) = (raft_message f).Fits p.1 × AreFit ps

  pub fit_in_range : (x : RaftMsg C) → (raft_message f).Fits x → IsInRange x
  fit_in_range (msg.RequestVote r) fits = fits.0.1
  fit_in_range (msg.Vote v) fits = fits.0.1
  fit_in_range (msg.Append a) fits = (fits.0.0.1, leb-true (a.prev_index + length a.entries) MAX_INDEX fits.1)
  fit_in_range (msg.Appended a) fits = fits.0.1

  some_term : (x : RaftMsg C) → (raft_message f).Fits x → 1 ≤ term_of x
  some_term (msg.RequestVote r) fits = fits.0.0
  some_term (msg.Vote v) fits = fits.0.0
  some_term (msg.Append a) fits = fits.0.0.0
  some_term (msg.Appended a) fits = fits.0.0

  -- the bytes of a message: those of eight entries at most
  pub raft_fits : ((c : C) → f.Fits c → length (f.spell c) ≤ MAX_COMMAND) → (from to : ℕ) (x : RaftMsg C) → HasRaft f from to x → (raft_message f).Fits x × (length ((raft_message f).spell x) ≤ longest_raft)
  raft_fits short from to (msg.RequestVote r) fits = (fits, simp (length-append, length-number_bytes) (omega arith))
  raft_fits short from to (msg.Vote v) fits = (fits, simp (length-append, length-number_bytes) (omega arith))
  raft_fits short from to (msg.Append a) fits =
      let few : length a.entries ≤ 8 = fits.0.1.1.1.1.0.1 in
      let some : length (flat_map (entry f).spell a.entries) ≤ length a.entries * 2145 = entries_length f short a.entries fits.0.1.1.1.1.1.1 in
      (fits, simp (length-append, length-number_bytes) (omega (arith, few, some)))
  raft_fits short from to (msg.Appended a) fits = (fits, simp (length-append, length-number_bytes) (omega arith))

  term_at_few : (log : List (EntryView C)) (n : ℕ) → LogFits f log → term_at log n ≤ MAX_TERM
  term_at_few [] n fits = omega arith
  term_at_few (e ∷ es) zero fits = omega arith
  term_at_few (e ∷ es) (suc zero) fits = (All-head (entry f).Fits e es fits).0.1
  term_at_few (e ∷ es) (suc (suc n)) fits = term_at_few es (suc n) (All-tail (entry f).Fits e es fits)

  -- a log stays so as entries come
  merged_fits : (old new : List (EntryView C)) → LogFits f old → LogFits f new → LogFits f (merged old new)
  merged_fits old [] o n = o
  merged_fits [] (e ∷ es) o n = n
  merged_fits (x ∷ old) (e ∷ es) o n = go (x.term == e.term) (merged_fits old es (All-tail (entry f).Fits x old o) (All-tail (entry f).Fits e es n))
    where
      go : (b : Bool) → LogFits f (merged old es) → LogFits f (cond b (x ∷ merged old es) (e ∷ es))
      go true rest = All-cons (entry f).Fits x (merged old es) (All-head (entry f).Fits x old o) rest
      go false rest = n

  accepted_fits : (log : List (EntryView C)) (prev : ℕ) (es : List (EntryView C)) → LogFits f log → LogFits f es → LogFits f (accepted log prev es)
  accepted_fits log prev es l e =
      All-append (entry f).Fits (take prev log) (merged (drop prev log) es) (All-take (entry f).Fits prev log l) (merged_fits (drop prev log) es (All-drop (entry f).Fits prev log l) e)

  fit_both : (ps qs : List (ℕ × RaftMsg C)) → AreFit ps → AreFit qs → AreFit (ps ++ qs)
  fit_both [] qs a b = b
  fit_both (p ∷ ps) qs a b = (a.0, fit_both ps qs a.1 b)

  others_fit : (nodes me : ℕ) (message : ℕ → RaftMsg C) → ((n : ℕ) → n < nodes → (raft_message f).Fits (message n)) → AreFit (to_others nodes me message)
  others_fit zero me message h = tt
  others_fit (suc n) me message h = fit_both (to_others n me message) _ (others_fit n me message (λ k l. h k (omega arith))) (go (n == me) (h n (omega arith)))
    where
      go : (b : Bool) → (raft_message f).Fits (message n) → AreFit (cond b [] ((n, message n) ∷ []))
      go true k = tt
      go false k = (k, tt)

  module _ {S O : Type 0} where
    -- an effect whose log and packets are so
    pub record Fine (e : RaftEffect S C O) : Type 0 where
      pub log : LogFits f e.state.log
      pub sends : AreFit e.sends

    either : (b : Bool) {e d : RaftEffect S C O} → (b ≡ true → Fine e) → (b ≡ false → Fine d) → Fine (cond b e d)
    either true k l = k refl
    either false k l = l refl

    heard_log : (term : ℕ) (s : RaftView S C O) → LogFits f s.log → LogFits f (heard term s).log
    heard_log term s l = go (nat_lt s.ballot.term term)
      where
        go : (b : Bool) → LogFits f (cond b (record s { role = role.Follower; ballot = record s.ballot { term = term; voted = None } }) s).log
        go true = l
        go false = l

    noop_log : (s : RaftView S C O) → 1 ≤ s.ballot.term → s.ballot.term ≤ MAX_TERM → LogFits f s.log → LogFits f (with_noop s).log
    noop_log s some few l = go (nat_lt (length s.log) MAX_INDEX)
      where
        go : (b : Bool) → LogFits f (cond b (with_entry s Noop) s).log
        go true = All-push (entry f).Fits s.log (record { term = s.ballot.term; what = Noop }) l ((some, few), tt)
        go false = l

    module _ {nodes me : ℕ} where
      append_fits : {s : RaftView S C O} → IsSoundNode nodes me s → IsTrue (is_leader s.role) → LogFits f s.log → (n : ℕ) → n < nodes → (raft_message f).Fits (append s n)
      append_fits {s} k leads l n below =
          let ps = k.peers leads in
          let p : IsPeer (length s.log) (peer_at s.peers n) = All-get_or (IsPeer (length s.log)) s.peers n (new_peer 0) (omega (arith, ps.each)) ps.within in
          let next : ℕ = (peer_at s.peers n).next in
          let most = length-take 8 (drop (next - 1) s.log) in
          let left = length-drop (next - 1) s.log in (
            (
              (leader_in_a_term s.role s.ballot.term leads k.in_a_term, k.term),
              (
                (omega arith, omega (arith, k.short, p.0, p.1)),
                (
                  (omega arith, term_at_few s.log (next - 1) l),
                  (
                    (omega arith, omega (arith, k.committed, k.short)),
                    ((omega arith, omega (arith, most)), (refl, All-take (entry f).Fits 8 (drop (next - 1) s.log) (All-drop (entry f).Fits (next - 1) s.log l))),
                  ),
                ),
              ),
            ),
            le-leb ((next - 1) + length (take 8 (drop (next - 1) s.log))) MAX_INDEX (omega (arith, k.short, p.0, p.1, most, left)),
          )

      appends_fit : {s : RaftView S C O} → IsSoundNode nodes me s → IsTrue (is_leader s.role) → LogFits f s.log → AreFit (appends nodes me s)
      appends_fit {s} k leads l = others_fit nodes me (append s) (append_fits k leads l)

      broadcast_fine : {s : RaftView S C O} → IsSoundNode nodes me s → IsTrue (is_leader s.role) → LogFits f s.log → (m : MachineMeaning S C O) → Fine (broadcasts m nodes me s)
      broadcast_fine k leads l m = record { log = l; sends = appends_fit (sound_broadcast k m) leads l }

      lead_fine : {s : RaftView S C O} → IsSoundNode nodes me s → 1 ≤ s.ballot.term → LogFits f s.log → (m : MachineMeaning S C O) → Fine (lead m nodes me s)
      lead_fine {s} k t l m = broadcast_fine (sound_with_noop (sound_led k t)) (ap is_leader (same_role (led nodes s))) (noop_log (led nodes s) t k.term l) m

      pub tick_fine : {s : RaftView S C O} → IsSoundNode nodes me s → LogFits f s.log → (m : MachineMeaning S C O) → Fine (tick m nodes me s)
      tick_fine {s} k l m = either (is_leader s.role) (λ leads. record { log = l; sends = appends_fit k leads l }) (λ _. either (may_start s.ballot) (λ may.
          let c = sound_candidate k may in
          either (has_won nodes (candidate me s)) (λ _. lead_fine c (omega arith) l m)
          (λ _. record {
            log = l;
            sends = others_fit nodes me _ (λ n below. ((omega arith, c.term), ((omega arith, k.short), (omega arith, term_at_few s.log (length s.log) l))));
          })) (λ _. record { log = l; sends = tt }))

      pub input_fine : {s : RaftView S C O} → IsSoundNode nodes me s → LogFits f s.log → (m : MachineMeaning S C O) (i : RaftInput C) → IsAsked f i → Fine (on_input m nodes me s i)
      input_fine {s} k l m i asked =
          either (not (is_leader s.role)) (λ _. record { log = l; sends = tt }) (λ leads. either (length s.log == MAX_INDEX) (λ _. record { log = l; sends = tt }) (λ room.
          let leader = leads_where (is_leader s.role) leads in
          let what = Request i.client i.request me i.cmd in
          broadcast_fine (sound_with_entry k what (under k.short room)) leader
          (All-push (entry f).Fits s.log (record { term = s.ballot.term; what = what }) l (
            (leader_in_a_term s.role s.ballot.term leader k.in_a_term, k.term),
            (asked.0.0, (asked.0.1, ((omega arith, omega (arith, k.here, k.cluster.1)), asked.1))),
          )) m))

      vote_fine : {s : RaftView S C O} → IsSoundNode nodes me s → LogFits f s.log → (m : MachineMeaning S C O) (from : ℕ) (v : VoteView) → Fine (on_vote m nodes me s from v)
      vote_fine {s} k l m from v = either (is_candidate s.role && v.term == s.ballot.term && v.granted)
          (λ counts. either (has_won nodes (voted s from))
          (λ _. lead_fine (sound_voted k from) (candidate_in_a_term s.role s.ballot.term (and_parts _ _ (and_parts _ _ counts).0).0 k.in_a_term) l m) (λ _. record { log = l; sends = tt }))
          (λ _. record { log = l; sends = tt })

      append_answer_fine : {s : RaftView S C O} → IsSoundNode nodes me s → 1 ≤ s.ballot.term → LogFits f s.log → (m : MachineMeaning S C O) (from : ℕ) (a : AppendView C) → (raft_message f).Fits (msg.Append a)
          → Fine (on_append m me s from a)
      append_answer_fine {s} k some l m from a fits =
          let new : a.prev_index + length a.entries ≤ MAX_INDEX = leb-true (a.prev_index + length a.entries) MAX_INDEX fits.1 in
          either (nat_lt a.term s.ballot.term) (λ _. record { log = l; sends = (((some, k.term), (tt, (omega arith, omega (arith, new)))), tt) }) (λ _. either (is_leader s.role) (λ _. record { log = l; sends = tt })
          (λ _. either (may_take s a)
          (λ _. record { log = accepted_fits s.log a.prev_index a.entries l fits.0.1.1.1.1.1.1; sends = (((some, k.term), (tt, (omega arith, new))), tt) })
          (λ _. record { log = l; sends = (((some, k.term), (tt, (omega arith, omega (arith, new)))), tt) })))

      rest_fits : {s : RaftView S C O} → IsSoundNode nodes me s → IsTrue (is_leader s.role) → LogFits f s.log → (from : ℕ) → from < nodes → AreFit (append_rest s from)
      rest_fits {s} k leads l from below = go (nat_le (peer_at s.peers from).next (length s.log))
        where
          go : (b : Bool) → AreFit (cond b ((from, append s from) ∷ []) [])
          go true = (append_fits k leads l from below, tt)
          go false = tt

      moved_fine : {s : RaftView S C O} → IsSoundNode nodes me s → IsTrue (is_leader s.role) → LogFits f s.log → (m : MachineMeaning S C O) (from : ℕ) → from < nodes → (moved : Moved)
          → Fine (on_moved m nodes me s from moved)
      moved_fine k leads l m from below moves.Raised = record { log = l; sends = rest_fits (sound_broadcast k m) leads l from below }
      moved_fine k leads l m from below moves.Back = record { log = l; sends = (append_fits k leads l from below, tt) }
      moved_fine k leads l m from below moves.Nothing = record { log = l; sends = tt }

      by_message_fine : {s : RaftView S C O} → IsSoundNode nodes me s → 1 ≤ s.ballot.term → LogFits f s.log → (m : MachineMeaning S C O) (from : ℕ) → from < nodes → (x : RaftMsg C) → (raft_message f).Fits x
          → Fine (by_message m nodes me s from x)
      by_message_fine {s} k some l m from below (msg.RequestVote r) fits =
          either (grants s.ballot r.term from (sees_up_to_date s r)) (λ _. record { log = l; sends = (((some, k.term), tt), tt) }) (λ _. record { log = l; sends = (((some, k.term), tt), tt) })
      by_message_fine k some l m from below (msg.Vote v) fits = vote_fine k l m from v
      by_message_fine k some l m from below (msg.Append a) fits = append_answer_fine k some l m from a fits
      by_message_fine {s} k some l m from below (msg.Appended a) fits = either (is_leader s.role && a.term == s.ballot.term)
          (λ leads. let leader = (and_parts _ _ leads).0 in moved_fine (sound_known k leader from below a) leader l m from below (moved_by s from a)) (λ _. record { log = l; sends = tt })

      pub message_fine : {s : RaftView S C O} → IsSoundNode nodes me s → LogFits f s.log → (m : MachineMeaning S C O) (from : ℕ) → from < nodes → (x : RaftMsg C) → (raft_message f).Fits x
          → Fine (on_message m nodes me s from x)
      message_fine {s} k l m from below x fits =
          let term = term_of x in
          by_message_fine (sound_heard k term (term_in_range x (fit_in_range x fits))) (heard_term term s (some_term x fits)) (heard_log term s l) m from below x fits
