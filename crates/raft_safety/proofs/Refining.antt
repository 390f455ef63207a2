-- What a node does by each rule is a list of events with free choices.
use Rattle.std.proofs.Common.{◌≡◌, ◌≢◌, ℕ, zero, suc, ◌+◌, ◌-◌, ◌<◌, ◌≤◌, Bool, true, false, not, ◌&&◌, Some, None, List, [], ◌∷◌, length, eqb, ltb, leb, cond, set, ◌⊎◌, inl, inr, refl, sym, ap, ◌∙◌, arith}
use Rattle.std.proofs.lemmas.Bool.{and_parts, eqb-true, false≢true, leb-true, ltb-false, ltb-true, not-true}
use Rattle.std.proofs.lemmas.List.{get_or-map}
use Rattle.std.proofs.lemmas.List.Elements.{All-get_or}
use Rattle.vst_base.specs.declared.entry.Entry.{Entry}
use Rattle.vst_base.specs.Logs.{has_conflict, matches}
use Rattle.vst_base.specs.Elections.{is_free_for, with_node, advance, may_commit}
use Rattle.vst_base.specs.Machines.{MachineMeaning}
use Rattle.vst_base.specs.declared.what.What.{What}
use Rattle.vst_base.specs.declared.what.What.TheVariants.{Noop, Request}
use Rattle.raft_commit.specs.Peers.{PeerView, is_news, is_refusal, matched_of, new_peer, peer_after}
use Rattle.raft_commit.specs.declared.peer.Moved.{Moved}
use Rattle.raft_commit.specs.declared.peer.Moved.TheVariants as moves
use Rattle.raft_election.specs.Ballots.{grants, may_start, no_votes}
use Rattle.raft_election.proofs.Sets.{votes_are_sets}
use Rattle.raft_free.specs.Events.{Accept, Apply, Ask, Comes, Commit, Count, Grant, In, Lead, Learn, Match, Propose, Refuse, Replicate, StepDown, Timeout}
use Rattle.raft_free.specs.Nodes as free
use Rattle.raft_types.specs.Messages.{AppendView, AppendedView, RequestVoteView, VoteView}
use Rattle.raft_types.specs.Terms.{term_of}
use Rattle.raft_types.specs.declared.client.RaftInput.{RaftInput}
use Rattle.raft_types.specs.declared.client.RaftOut.{RaftOut}
use Rattle.raft_types.specs.declared.client.RaftOut.TheVariants as told
use Rattle.raft_types.specs.declared.limits.TheConstants.{MAX_BATCH, MAX_INDEX}
use Rattle.raft_types.specs.declared.msg.RaftMsg.{RaftMsg}
use Rattle.raft_types.specs.declared.msg.RaftMsg.TheVariants as msg
use Rattle.raft_xform.specs.declared.role.Role.{Role}
use Rattle.raft_xform.specs.declared.role.Role.TheVariants as role
use Rattle.raft_xform.specs.Applying.{committed, settled}
use Rattle.raft_xform.specs.Electing.{campaign, candidate, has_won, heard, on_request, on_vote, sees_up_to_date, tick, vote, voted, lead, led, broadcasts, with_entry}
use Rattle.raft_xform.specs.Nodes.{RaftEffect, RaftView, is_candidate, is_leader, peer_at, sending, stays}
use Rattle.raft_xform.specs.Raft.{by_message, on_message}
use Rattle.raft_xform.specs.Replicating.{answer, follower, known, last_new, may_take, moved_by, on_append, on_appended, on_input, on_moved, proposed, proposes, taken, takes, telling}
use Rattle.raft_xform.specs.Sending.{append, append_rest, appends, request, to_others}
use Rattle.raft_xform.specs.Sound.{ArePeers, IsPeer}
use Rattle.raft_safety.specs.Mirrors.{free_packet, free_role}
use Rattle.raft_safety.proofs.Acting.{Does, does_each, does_nothing, does_one, does_say, does_then}
use Rattle.raft_safety.proofs.Advancing.{Advances, IsAnswer, advances_none, replies_answer, silent}
use Rattle.raft_safety.proofs.Freed.{free_node}
use Rattle.raft_safety.proofs.Peers.{matched_new, matched_same, matched_set}

leads_true : (r : Role) → is_leader r ≡ true → free_role r ≡ free.Leader
leads_true role.Leader e = refl
leads_true role.Candidate e = absurd (false≢true e)
leads_true role.Follower e = absurd (false≢true e)

leads_false : (r : Role) → is_leader r ≡ false → free_role r ≢ free.Leader
leads_false role.Leader e h = absurd (false≢true (sym e))
leads_false role.Candidate e h = absurd (cc (h))
leads_false role.Follower e h = absurd (cc (h))

stands_true : (r : Role) → is_candidate r ≡ true → free_role r ≡ free.Candidate
stands_true role.Candidate e = refl
stands_true role.Leader e = absurd (false≢true e)
stands_true role.Follower e = absurd (false≢true e)

-- a node that is up
abbrev pub up : {S C O : Type 0} → RaftView S C O → free.NodeState C
up s = free_node true s

-- what a node knows as a leader is sound
abbrev pub Knows : {S C O : Type 0} → ℕ → RaftView S C O → Type 0
Knows n s = is_leader s.role ≡ true → ArePeers n (length s.log) s.peers

-- where a leader's commit rises, it may commit so much by the rule
abbrev pub Rises : {S C O : Type 0} → ℕ → ℕ → RaftView S C O → RaftView S C O → Type 0
Rises n i s t = s.commit < t.commit → may_commit n i (matched_of t.peers) t.log t.ballot.term s.commit t.commit ≡ true

-- a node's turn, by free choices, and with the machine
pub record Refined {S C O : Type 0} (m : MachineMeaning S C O) (n i : ℕ) (P : Entry C → Type 0) (sent : List (free.Packet C)) (s : RaftView S C O) (e : RaftEffect S C O) : Type 0 where
  pub does : Does n i P sent (up s) (up e.state) e.sends
  pub advances : Advances m s e
  pub rises : is_leader e.state.role ≡ true → Rises n i s e.state

next_in : (peers : List PeerView) (n len j : ℕ) → ArePeers n len peers → j < n → (peer_at peers j).next ≤ suc len
next_in peers n len j ps below = (All-get_or (IsPeer len) peers j (new_peer 0) (omega (arith, ps.each)) ps.within).1

module _ {S C O : Type 0} (m : MachineMeaning S C O) (n i : ℕ) (P : Entry C → Type 0) (idle : (term : ℕ) → P (record { term = term; what = Noop })) where
  -- the commit stays, and the machine with what is applied
  still : {sent : List (free.Packet C)} {s : RaftView S C O} {e : RaftEffect S C O} → Does n i P sent (up s) (up e.state) e.sends → e.state.commit ≡ s.commit → Advances m s e →
      Refined m n i P sent s e
  still d c a = record { does = d; advances = a; rises = λ l less. absurd (omega (arith, c, less)) }

  append_one : (s : RaftView S C O) → is_leader s.role ≡ true → Knows n s → (j : ℕ) → j < n → j ≢ i → (sent : List (free.Packet C)) → Does n i P sent (up s) (up s) ((j, append s j) ∷ [])
  append_one s l ok j below ne sent =
      let fits = next_in s.peers n (length s.log) j (ok l) below in
      does_say (Replicate i j ((peer_at s.peers j).next - 1) MAX_BATCH s.commit) j (append s j) refl (refl, leads_true _ l, ne, omega arith, omega arith) tt refl refl

  append_all : (s : RaftView S C O) → is_leader s.role ≡ true → Knows n s → (sent : List (free.Packet C)) → Does n i P sent (up s) (up s) (appends n i s)
  append_all s l ok sent = does_each (append s) (append_one s l ok) n (omega arith) sent

  ask_all : (s : RaftView S C O) → is_candidate s.role ≡ true → (sent : List (free.Packet C)) → Does n i P sent (up s) (up s) (to_others n i (λ _. request s))
  ask_all s c sent = does_each (λ _. request s) (λ j below ne more. does_say (Ask i j) j (request s) refl (refl, stands_true _ c) tt refl refl) n (omega arith) sent

  -- what a leader finds that it may commit
  finds : (s : RaftView S C O) (k : ℕ) →
      (advance n i (matched_of s.peers) s.log s.ballot.term s.commit k ≡ s.commit)
      ⊎ ((may_commit n i (matched_of s.peers) s.log s.ballot.term s.commit (advance n i (matched_of s.peers) s.log s.ballot.term s.commit k) ≡ true)
      × (advance n i (matched_of s.peers) s.log s.ballot.term s.commit k ≤ k) × (s.commit < advance n i (matched_of s.peers) s.log s.ballot.term s.commit k))
  finds s zero = inl refl
  finds s (suc k) = go (may s (suc k)) refl (finds s k)
    where
      may : (s : RaftView S C O) → ℕ → Bool
      may s index = may_commit n i (matched_of s.peers) s.log s.ballot.term s.commit index

      below : ℕ
      below = advance n i (matched_of s.peers) s.log s.ballot.term s.commit k

      go : (b : Bool) → may s (suc k) ≡ b → (below ≡ s.commit) ⊎ ((may s below ≡ true) × (below ≤ k) × (s.commit < below)) →
          (cond b (suc k) below ≡ s.commit) ⊎ ((may s (cond b (suc k) below) ≡ true) × (cond b (suc k) below ≤ suc k) × (s.commit < cond b (suc k) below))
      go true e r = inr (e, omega arith, leb-true _ _ (and_parts _ _ e).0)
      go false e (inl r) = inl r
      go false e (inr r) = inr (r.0, omega (arith, r.1), r.2)

  -- it commits what it may, and applies it
  settle : (s : RaftView S C O) → is_leader s.role ≡ true → s.applied ≤ s.commit → (sent : List (free.Packet C)) → Does n i P sent (up s) (up (settled m n i s).state) []
  settle s l fits sent = go (finds s (length s.log))
    where
      r : ℕ
      r = advance n i (matched_of s.peers) s.log s.ballot.term s.commit (length s.log)

      go : (r ≡ s.commit)
          ⊎ ((may_commit n i (matched_of s.peers) s.log s.ballot.term s.commit r ≡ true) × (r ≤ length s.log) × (s.commit < r)) → Does n i P sent (up s) (up (settled m n i s).state) []
      go (inl e) = does_one (Apply i s.commit) refl (refl, fits, omega arith) tt (ap (λ k. record (up s) { commit = k; applied = k }) e)
      go (inr f) =
          does_then {out = []} (does_one {y = up (committed n i s)} (Commit i r) refl (refl, leads_true _ l, f.1, f.0) tt refl)
          (λ mid old. does_one (Apply i r) refl (refl, omega (arith, f.2), omega arith) tt refl)

  settles_no_less : (s : RaftView S C O) → s.applied ≤ s.commit → s.applied ≤ (committed n i s).commit
  settles_no_less s fits = elim (finds s (length s.log)) [ inl e ↦ omega arith | inr f ↦ omega (arith, f.2) ]

  -- the commit of a leader that settles rises by the rule
  settles_by_the_rule : (s : RaftView S C O) → s.commit < (settled m n i s).state.commit →
      may_commit n i (matched_of s.peers) s.log s.ballot.term s.commit (settled m n i s).state.commit ≡ true
  settles_by_the_rule s less = elim (finds s (length s.log)) [ inl e ↦ absurd (omega (arith, e, less)) | inr f ↦ f.0 ]

  -- a leader broadcasts its log
  broadcast_does : (s : RaftView S C O) → is_leader s.role ≡ true → s.applied ≤ s.commit → Knows n (broadcasts m n i s).state → (sent : List (free.Packet C)) →
      Does n i P sent (up s) (up (broadcasts m n i s).state) (broadcasts m n i s).sends
  broadcast_does s l fits known sent = does_then {out = []} (settle s l fits sent) (λ mid old. append_all (broadcasts m n i s).state l known mid)

  broadcast_advances : (s : RaftView S C O) → s.applied ≤ s.commit → Advances m s (broadcasts m n i s)
  broadcast_advances s fits = record { no_less = settles_no_less s fits; machine = refl; sessions = refl; told = λ x h. replies_answer i _ x h }

  -- a leader adds an entry
  add_does : (s : RaftView S C O) (what : What C) → is_leader s.role ≡ true → P (record { term = s.ballot.term; what = what }) → (sent : List (free.Packet C)) →
      Does n i P sent (up s) (up (with_entry s what)) []
  add_does s what l p sent = does_one (Propose i (record { term = s.ballot.term; what = what })) refl (refl, leads_true _ l, refl) p refl

  -- a candidate that has won leads, adds a no-op where its log has room, and broadcasts it
  lead_refined : (s : RaftView S C O) → is_candidate s.role ≡ true → has_won n s ≡ true → s.applied ≤ s.commit → Knows n (lead m n i s).state → (sent : List (free.Packet C)) →
      Refined m n i P sent s (lead m n i s)
  lead_refined s c won fits known sent = go (ltb (length s.log) MAX_INDEX) known
    where
      starts : Does n i P sent (up s) (up (led n s)) []
      starts = does_one (Lead i) refl (refl, stands_true _ c, won) tt (ap (λ f. record (up (led n s)) { matched = f }) (matched_new n (length s.log)))

      go : (b : Bool) → Knows n (broadcasts m n i (cond b (with_entry (led n s) Noop) (led n s))).state → Refined m n i P sent s (broadcasts m n i (cond b (with_entry (led n s) Noop) (led n s)))
      go true knows =
          let t = with_entry (led n s) Noop in
          let a = broadcast_advances t fits in
          record {
            does = does_then {out = []} starts (λ more old. does_then {out = []} (add_does (led n s) Noop refl (idle s.ballot.term) more) (λ mid old. broadcast_does t refl fits knows mid));
            advances = record { no_less = a.no_less; machine = a.machine; sessions = a.sessions; told = a.told };
            rises = λ l less. settles_by_the_rule t less;
          }
      go false knows =
          let a = broadcast_advances (led n s) fits in
          record {
            does = does_then {out = []} starts (λ mid old. broadcast_does (led n s) refl fits knows mid);
            advances = record { no_less = a.no_less; machine = a.machine; sessions = a.sessions; told = a.told };
            rises = λ l less. settles_by_the_rule (led n s) less;
          }

  -- what leads on to a node, and what it does then
  after_it : {sent : List (free.Packet C)} {s t : RaftView S C O} {e : RaftEffect S C O} → Does n i P sent (up s) (up t) [] → t.commit ≡ s.commit →
      (Advances m t e → Advances m s e) → ((mid : List (free.Packet C)) → ((p : free.Packet C) → In p sent → In p mid) → Refined m n i P mid t e) → Refined m n i P sent s e
  after_it {sent = sent} {s = s} {t = t} {e = e} d c advances then = record {
    does = does_then d (λ mid old. (then mid old).does);
    advances = advances (then d.new d.old).advances;
    rises = λ l. rw c at ((then d.new d.old).rises l);
  }

  -- what was applied is the same
  on_from : (s t : RaftView S C O) (e : RaftEffect S C O) → t.applied ≡ s.applied → t.machine ≡ s.machine → t.sessions ≡ s.sessions → Advances m t e → Advances m s e
  on_from s t e p q r a = record { no_less = rw p at a.no_less; machine = rw (p, q, r) at a.machine; sessions = rw (p, q, r) at a.sessions; told = rw (p, q, r) at a.told }

  campaign_refined : (s : RaftView S C O) → is_candidate s.role ≡ true → s.applied ≤ s.commit → Knows n (campaign m n i s).state → (sent : List (free.Packet C)) →
      Refined m n i P sent s (campaign m n i s)
  campaign_refined s c fits known sent = go (has_won n s) refl known
    where
      asks : RaftEffect S C O
      asks = sending s (to_others n i (λ _. request s))

      go : (b : Bool) → has_won n s ≡ b → Knows n (cond b (lead m n i s) asks).state → Refined m n i P sent s (cond b (lead m n i s) asks)
      go true e knows = lead_refined s c e fits knows sent
      go false e knows = still (ask_all s c sent) refl (advances_none m s asks refl refl refl silent)

  pub tick_refined : (s : RaftView S C O) → Knows n s → Knows n (tick m n i s).state → s.applied ≤ s.commit → (sent : List (free.Packet C)) → Refined m n i P sent s (tick m n i s)
  tick_refined s ok after fits sent = go (is_leader s.role) refl after
    where
      starts : is_leader s.role ≡ false → Does n i P sent (up s) (up (candidate i s)) []
      starts e =
          does_one (Timeout i) refl (refl, leads_false _ e) tt
          (ap (λ f. record (up (candidate i s)) { votes = f }) (votes_are_sets.one_more i no_votes ∙ ap (with_node i) votes_are_sets.none))

      may : (c : Bool) → is_leader s.role ≡ false → Knows n (cond c (campaign m n i (candidate i s)) (stays s)).state → Refined m n i P sent s (cond c (campaign m n i (candidate i s)) (stays s))
      may true e knows = after_it (starts e) refl (on_from s (candidate i s) _ refl refl refl) (λ mid old. campaign_refined (candidate i s) refl fits knows mid)
      may false e knows = still (does_nothing refl) refl (advances_none m s (stays s) refl refl refl silent)

      go : (b : Bool) → is_leader s.role ≡ b → Knows n (cond b (sending s (appends n i s)) (cond (may_start s.ballot) (campaign m n i (candidate i s)) (stays s))).state →
          Refined m n i P sent s (cond b (sending s (appends n i s)) (cond (may_start s.ballot) (campaign m n i (candidate i s)) (stays s)))
      go true e knows = still (append_all s e ok sent) refl (advances_none m s (sending s (appends n i s)) refl refl refl silent)
      go false e knows = may (may_start s.ballot) e knows

  pub input_refined : (s : RaftView S C O) (q : RaftInput C) → Knows n s → Knows n (on_input m n i s q).state → s.applied ≤ s.commit →
      P (record { term = s.ballot.term; what = Request q.client q.request i q.cmd }) → (sent : List (free.Packet C)) → Refined m n i P sent s (on_input m n i s q)
  input_refined s q ok after fits p sent = go (is_leader s.role) refl (eqb (length s.log) MAX_INDEX) after
    where
      only : (answers : List (Entry C × O)) (o : RaftOut O) → IsAnswer answers o → (x : RaftOut O) → In x (o ∷ []) → IsAnswer answers x
      only answers o a x (inl e) = rw e a
      only answers o a x (inr h) = absurd h

      takes_it : is_leader s.role ≡ true → Knows n (proposes m n i s q).state → Refined m n i P sent s (proposes m n i s q)
      takes_it l known = record {
        does = does_then {out = []} (add_does s (Request q.client q.request i q.cmd) l p sent) (λ mid old. broadcast_does (proposed i s q) l fits known mid);
        advances = on_from s (proposed i s q) _ refl refl refl (broadcast_advances (proposed i s q) fits);
        rises = λ _ less. settles_by_the_rule (proposed i s q) less;
      }

      go : (b : Bool) → is_leader s.role ≡ b → (c : Bool) →
          Knows n (cond (not b) (telling s (told.NotLeader q.client q.request)) (cond c (telling s (told.Full q.client q.request)) (proposes m n i s q))).state →
          Refined m n i P sent s (cond (not b) (telling s (told.NotLeader q.client q.request)) (cond c (telling s (told.Full q.client q.request)) (proposes m n i s q)))
      go false e c known = still (does_nothing refl) refl (advances_none m s _ refl refl refl (λ answers x h. only answers (told.NotLeader q.client q.request) tt x h))
      go true e true known = still (does_nothing refl) refl (advances_none m s _ refl refl refl (λ answers x h. only answers (told.Full q.client q.request) tt x h))
      go true e false known = takes_it e known

  -- a message as it came, of this term
  abbrev pub Came : List (free.Packet C) → ℕ → RaftMsg C → Type 0
  Came sent from message = In (free_packet from i message) sent

  request_refined : (s : RaftView S C O) (from : ℕ) (r : RequestVoteView) (sent : List (free.Packet C)) → Came sent from (msg.RequestVote r) → Refined m n i P sent s (on_request s from r)
  request_refined s from r sent came = go (grants s.ballot r.term from (sees_up_to_date s r)) refl
    where
      votes : RaftView S C O
      votes = record s { ballot = record s.ballot { voted = Some from } }

      grant : grants s.ballot r.term from (sees_up_to_date s r) ≡ true → Does n i P sent (up s) (up votes) (vote votes true from).sends
      grant e =
          let a = and_parts (eqb s.ballot.term r.term && is_free_for s.ballot.voted from) (sees_up_to_date s r) e in
          let b = and_parts (eqb s.ballot.term r.term) (is_free_for s.ballot.voted from) a.0 in
          let t : s.ballot.term ≡ r.term = eqb-true _ _ b.0 in
          does_say (Grant i from r.last_index r.last_term) from (msg.Vote (record { term = s.ballot.term; granted = true })) refl (refl, rw t came, b.1, a.1) tt refl refl

      go : (b : Bool) → grants s.ballot r.term from (sees_up_to_date s r) ≡ b → Refined m n i P sent s (cond b (vote votes true from) (vote s false from))
      go true e = still (grant e) refl (advances_none m s _ refl refl refl silent)
      go false e =
          still (does_say (Refuse i from (free.Vote false)) from (msg.Vote (record { term = s.ballot.term; granted = false })) refl (refl, refl) tt refl refl) refl
          (advances_none m s _ refl refl refl silent)

  vote_refined : (s : RaftView S C O) (from : ℕ) (v : VoteView) → s.applied ≤ s.commit → Knows n (on_vote m n i s from v).state → (sent : List (free.Packet C)) → Came sent from (msg.Vote v) →
      Refined m n i P sent s (on_vote m n i s from v)
  vote_refined s from v fits after sent came = go (is_candidate s.role && eqb v.term s.ballot.term && v.granted) refl after
    where
      counts : is_candidate s.role ≡ true → v.term ≡ s.ballot.term → v.granted ≡ true → Does n i P sent (up s) (up (voted s from)) []
      counts c t g =
          does_one (Count i from) refl (refl, rw (← t, ← g) came, stands_true _ c) tt (ap (λ f. record (up (voted s from)) { votes = f }) (votes_are_sets.one_more from s.ballot.votes))

      more : (b : Bool) → has_won n (voted s from) ≡ b → is_candidate s.role ≡ true → Does n i P sent (up s) (up (voted s from)) [] →
          Knows n (cond b (lead m n i (voted s from)) (stays (voted s from))).state → Refined m n i P sent s (cond b (lead m n i (voted s from)) (stays (voted s from)))
      more true e c d knows = after_it d refl (on_from s (voted s from) _ refl refl refl) (λ mid old. lead_refined (voted s from) c e fits knows mid)
      more false e c d knows = still d refl (advances_none m s _ refl refl refl silent)

      go : (b : Bool) → (is_candidate s.role && eqb v.term s.ballot.term && v.granted) ≡ b →
          Knows n (cond b (cond (has_won n (voted s from)) (lead m n i (voted s from)) (stays (voted s from))) (stays s)).state →
          Refined m n i P sent s (cond b (cond (has_won n (voted s from)) (lead m n i (voted s from)) (stays (voted s from))) (stays s))
      go false e knows = still (does_nothing refl) refl (advances_none m s _ refl refl refl silent)
      go true e knows =
          let a = and_parts (is_candidate s.role && eqb v.term s.ballot.term) v.granted e in
          let b = and_parts (is_candidate s.role) (eqb v.term s.ballot.term) a.0 in
          more (has_won n (voted s from)) refl b.0 (counts b.0 (eqb-true _ _ b.1) a.1) knows

  append_refined : (s : RaftView S C O) (from : ℕ) (a : AppendView C) → s.applied ≤ s.commit → a.term ≤ s.ballot.term → (sent : List (free.Packet C)) → Came sent from (msg.Append a) →
      Refined m n i P sent s (on_append m i s from a)
  append_refined s from a fits le sent came = go (ltb a.term s.ballot.term) refl
    where
      no : (x : RaftView S C O) → x.ballot.term ≡ s.ballot.term → (mid : List (free.Packet C)) → Does n i P mid (up x) (up x) (answer x false a.prev_index from)
      no x same mid =
          does_say (Refuse i from (free.Appended false a.prev_index)) from (msg.Appended (record { term = x.ballot.term; ok = false; index = a.prev_index })) refl (refl, refl) tt refl refl

      comes : ltb a.term s.ballot.term ≡ false → Comes sent (up s) from i (free.Append a.prev_index a.prev_term a.entries a.commit)
      comes e = let late = ltb-false _ _ e in let t : s.ballot.term ≡ a.term = omega arith in rw t came

      takes_it : ltb a.term s.ballot.term ≡ false → is_leader s.role ≡ false → may_take s a ≡ true → Refined m n i P sent s (takes m i s from a)
      takes_it e l may =
          let p = and_parts (matches s.log a.prev_index a.prev_term) (not (has_conflict s.log s.commit a.prev_index a.entries)) may in
          record {
            does = does_then {out = answer s true (last_new a) from}
                (does_say {y = up (taken s a)} (Accept i from a.prev_index a.prev_term a.entries a.commit) from (msg.Appended (record { term = s.ballot.term; ok = true; index = a.prev_index + length a.entries }))
                refl (refl, comes e, leads_false _ l, p.0, not-true _ p.1) tt refl refl)
                (λ mid old. does_one (Apply i (taken s a).commit) refl (refl, omega (arith, fits), omega arith) tt refl);
            advances = record { no_less = omega (arith, fits); machine = refl; sessions = refl; told = λ x h. replies_answer i _ x h };
            rises = λ l. absurd (false≢true l);
          }

      refuses : (b : Bool) → may_take s a ≡ b → ltb a.term s.ballot.term ≡ false → is_leader s.role ≡ false →
          Refined m n i P sent s (cond b (takes m i s from a) (sending (follower s) (answer s false a.prev_index from)))
      refuses true may e l = takes_it e l may
      refuses false may e l =
          still (does_then (does_one {y = up (follower s)} (StepDown i from a.prev_index a.prev_term a.entries a.commit) refl (refl, comes e, leads_false _ l) tt refl) (λ mid old. no (follower s) refl mid))
          refl (advances_none m s _ refl refl refl silent)

      follows : (b : Bool) → is_leader s.role ≡ b → ltb a.term s.ballot.term ≡ false →
          Refined m n i P sent s (cond b (stays s) (cond (may_take s a) (takes m i s from a) (sending (follower s) (answer s false a.prev_index from))))
      follows true l e = still (does_nothing refl) refl (advances_none m s _ refl refl refl silent)
      follows false l e = refuses (may_take s a) refl e l

      go : (b : Bool) → ltb a.term s.ballot.term ≡ b → Refined m n i P sent s (cond b (sending s (answer s false a.prev_index from))
          (cond (is_leader s.role) (stays s) (cond (may_take s a) (takes m i s from a) (sending (follower s) (answer s false a.prev_index from)))))
      go true e = still (no s refl sent) refl (advances_none m s _ refl refl refl silent)
      go false e = follows (is_leader s.role) refl e

  -- a leader with what it learned of a node
  with_matched : (s : RaftView S C O) (from : ℕ) (p : PeerView) → from < length s.peers → p.matched ≡ (peer_at s.peers from).matched →
      up (record s { peers = set s.peers from p }) ≡ up s
  with_matched s from p below e = ap (λ f. record (up s) { matched = f }) (matched_same s.peers from p below e)

  moved_refined : (s : RaftView S C O) (from : ℕ) (a : AppendedView) → from < n → from ≢ i → is_leader s.role ≡ true → ArePeers n (length s.log) s.peers → s.applied ≤ s.commit →
      Knows n (on_moved m n i (known s from a) from (moved_by s from a)).state → (sent : List (free.Packet C)) → a.term ≡ s.ballot.term → Came sent from (msg.Appended a) →
      Refined m n i P sent s (on_moved m n i (known s from a) from (moved_by s from a))
  moved_refined s from a below ne l ps fits after sent t came = by_answer a.ok refl
    where
      p : PeerView
      p = peer_at s.peers from

      known_by : Moved → RaftView S C O
      known_by v = record s { peers = set s.peers from (peer_after p a.index v) }

      inside : from < length s.peers
      inside = omega (arith, ps.each)

      rest : (x : RaftView S C O) → is_leader x.role ≡ true → Knows n x → (mid : List (free.Packet C)) → Does n i P mid (up x) (up x) (append_rest x from)
      rest x lx ok mid = go (leb (peer_at x.peers from).next (length x.log))
        where
          go : (b : Bool) → Does n i P mid (up x) (up x) (cond b ((from, append x from) ∷ []) [])
          go true = append_one x lx ok from below ne mid
          go false = does_nothing refl

      notes : (ok : a.ok ≡ true) → p.matched < a.index → a.index ≤ length s.log → Does n i P sent (up s) (up (known_by moves.Raised)) []
      notes ok more le =
          does_one (Match i from a.index) refl (refl, rw (← t, ← ok) came, leads_true _ l, matches_less more, le) tt (ap (λ f. record (up s) { matched = f }) (matched_set s.peers from (peer_after p a.index moves.Raised) inside))
        where
          matches_less : p.matched < a.index → matched_of s.peers from < a.index
          matches_less h = rw (get_or-map (λ (q : PeerView). q.matched) s.peers from (new_peer 0) 0 inside) h

      same : (v : Moved) → (peer_after p a.index v).matched ≡ p.matched → Does n i P sent (up s) (up (known_by v)) []
      same v e = does_nothing (with_matched s from (peer_after p a.index v) inside e)

      raised : (b : Bool) → is_news p a.index (length s.log) ≡ b → a.ok ≡ true →
          Knows n (on_moved m n i (known_by (cond b moves.Raised moves.Nothing)) from (cond b moves.Raised moves.Nothing)).state →
          Refined m n i P sent s (on_moved m n i (known_by (cond b moves.Raised moves.Nothing)) from (cond b moves.Raised moves.Nothing))
      raised true e ok later =
          let h = and_parts (ltb p.matched a.index) (leb a.index (length s.log)) e in
          record {
            does = does_then {out = []} (notes ok (ltb-true _ _ h.0) (leb-true _ _ h.1)) (λ more old.
                does_then {out = []} (settle (known_by moves.Raised) l fits more) (λ mid old. rest (settled m n i (known_by moves.Raised)).state l later mid));
            advances = record { no_less = settles_no_less (known_by moves.Raised) fits; machine = refl; sessions = refl; told = λ x h. replies_answer i _ x h };
            rises = λ _ less. settles_by_the_rule (known_by moves.Raised) less;
          }
      raised false e ok later = still (same moves.Nothing refl) refl (advances_none m s _ refl refl refl silent)

      back : (b : Bool) → is_refusal p a.index ≡ b →
          Knows n (on_moved m n i (known_by (cond b moves.Back moves.Nothing)) from (cond b moves.Back moves.Nothing)).state →
          Refined m n i P sent s (on_moved m n i (known_by (cond b moves.Back moves.Nothing)) from (cond b moves.Back moves.Nothing))
      back true e later =
          still (does_then {out = []} (same moves.Back refl) (λ mid old. append_one (known_by moves.Back) l later from below ne mid)) refl (advances_none m s _ refl refl refl silent)
      back false e later = still (same moves.Nothing refl) refl (advances_none m s _ refl refl refl silent)

      by_answer : (ok : Bool) → a.ok ≡ ok → Refined m n i P sent s (on_moved m n i (known s from a) from (moved_by s from a))
      by_answer true e = rw e (raised (is_news p a.index (length s.log)) refl e (rw e at after))
      by_answer false e = rw e (back (is_refusal p a.index) refl (rw e at after))

  appended_refined : (s : RaftView S C O) (from : ℕ) (a : AppendedView) → from < n → from ≢ i → Knows n s → s.applied ≤ s.commit → Knows n (on_appended m n i s from a).state →
      (sent : List (free.Packet C)) → Came sent from (msg.Appended a) → Refined m n i P sent s (on_appended m n i s from a)
  appended_refined s from a below ne ok fits after sent came = go (is_leader s.role && eqb a.term s.ballot.term) refl after
    where
      go : (b : Bool) → (is_leader s.role && eqb a.term s.ballot.term) ≡ b → Knows n (cond b (on_moved m n i (known s from a) from (moved_by s from a)) (stays s)).state →
          Refined m n i P sent s (cond b (on_moved m n i (known s from a) from (moved_by s from a)) (stays s))
      go true e later =
          let p = and_parts (is_leader s.role) (eqb a.term s.ballot.term) e in
          moved_refined s from a below ne p.0 (ok p.0) fits later sent (eqb-true _ _ p.1) came
      go false e later = still (does_nothing refl) refl (advances_none m s _ refl refl refl silent)

  by_message_refined : (s : RaftView S C O) (from : ℕ) (message : RaftMsg C) → from < n → from ≢ i → Knows n s → s.applied ≤ s.commit → term_of message ≤ s.ballot.term →
      Knows n (by_message m n i s from message).state → (sent : List (free.Packet C)) → Came sent from message → Refined m n i P sent s (by_message m n i s from message)
  by_message_refined s from (msg.RequestVote r) below ne ok fits le after sent came = request_refined s from r sent came
  by_message_refined s from (msg.Vote v) below ne ok fits le after sent came = vote_refined s from v fits after sent came
  by_message_refined s from (msg.Append a) below ne ok fits le after sent came = append_refined s from a fits le sent came
  by_message_refined s from (msg.Appended a) below ne ok fits le after sent came = appended_refined s from a below ne ok fits after sent came

  -- the node has heard of a message's term
  pub record Hears (sent : List (free.Packet C)) (s : RaftView S C O) (term : ℕ) (t : RaftView S C O) : Type 0 where
    pub does : Does n i P sent (up s) (up t) []
    pub reached : term ≤ t.ballot.term
    pub log : t.log ≡ s.log
    pub commit : t.commit ≡ s.commit
    pub knows : Knows n t
    pub advances : (e : RaftEffect S C O) → Advances m t e → Advances m s e
    pub fits : t.applied ≤ t.commit

  pub hears : (s : RaftView S C O) (from : ℕ) (message : RaftMsg C) → Knows n s → s.applied ≤ s.commit → (sent : List (free.Packet C)) → Came sent from message →
      Hears sent s (term_of message) (heard (term_of message) s)
  hears s from message ok fits sent came = go (ltb s.ballot.term (term_of message)) refl
    where
      learned : RaftView S C O
      learned = record s { role = role.Follower; ballot = record s.ballot { term = term_of message; voted = None } }

      to_learned : s.ballot.term < term_of message → Does n i P sent (up s) (up learned) []
      to_learned less = does_one (Learn i (free_packet from i message)) refl (refl, came, refl, less) tt refl

      go : (b : Bool) → ltb s.ballot.term (term_of message) ≡ b → Hears sent s (term_of message) (cond b learned s)
      go true e = record {
        does = to_learned (ltb-true _ _ e);
        reached = omega arith;
        log = refl;
        commit = refl;
        knows = λ l. absurd (false≢true l);
        advances = λ f a. record { no_less = a.no_less; machine = a.machine; sessions = a.sessions; told = a.told };
        fits = fits;
      }
      go false e = record { does = does_nothing refl; reached = ltb-false _ _ e; log = refl; commit = refl; knows = ok; advances = λ f a. a; fits = fits }

  pub message_refined : (s : RaftView S C O) (from : ℕ) (message : RaftMsg C) → from < n → from ≢ i → Knows n s → s.applied ≤ s.commit → Knows n (on_message m n i s from message).state →
      (sent : List (free.Packet C)) → Came sent from message → Refined m n i P sent s (on_message m n i s from message)
  message_refined s from message below ne ok fits after sent came =
      let h = hears s from message ok fits sent came in
      after_it h.does h.commit (h.advances _) (λ mid old. by_message_refined (heard (term_of message) s) from message below ne h.knows h.fits h.reached after mid (old _ came))
