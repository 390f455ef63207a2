-- What a node does by each rule of Raft, over a log with a base, is a list of events with free choices over the whole log, and
-- keeps what the node holds.
use Rattle.std.proofs.Common.{◌≡◌, ◌≢◌, ℕ, ◌<◌, ◌≤◌, Bool, true, false, not, ◌&&◌, Some, List, [], ◌∷◌, ◌++◌, length, take, eqb, ltb, cond, inl, inr, refl, sym, ap, ◌∙◌, arith, append_assoc, length-append}
use Rattle.std.proofs.lemmas.Bool.{and_parts, eqb-true, false≢true}
use Rattle.std.proofs.lemmas.List.{length-replicate, take-append-le}
use Rattle.vst_base.specs.Machines.{MachineMeaning}
use Rattle.vst_base.specs.Elections as elections
use Rattle.vst_base.specs.Elections.{is_free_for, with_node}
use Rattle.vst_base.specs.declared.entry.Entry.{Entry}
use Rattle.vst_base.specs.declared.what.What.{What}
use Rattle.vst_base.specs.declared.what.What.TheVariants.{Noop, Request}
use Rattle.raft_commit.specs.Peers.{new_peer}
use Rattle.raft_election.specs.Ballots.{grants, may_start, no_votes}
use Rattle.raft_election.proofs.Sets.{votes_are_sets}
use Rattle.raft_free.specs.Events.{Ask, Count, Grant, In, Lead, Propose, Refuse, Timeout}
use Rattle.raft_free.specs.Nodes as free
use Rattle.raft_types.specs.Messages.{RequestVoteView, VoteView}
use Rattle.raft_types.specs.declared.client.RaftInput.{RaftInput}
use Rattle.raft_types.specs.declared.client.RaftOut.{RaftOut}
use Rattle.raft_types.specs.declared.client.RaftOut.TheVariants as told
use Rattle.raft_types.specs.declared.limits.TheConstants.{MAX_INDEX}
use Rattle.raft_types.specs.declared.msg.RaftMsg.TheVariants as msg
use Rattle.raft_snapshots.specs.Applying.{settled}
use Rattle.raft_snapshots.specs.Electing.{campaign, candidate, has_won, on_request, on_vote, sees_up_to_date, tick, vote, voted, broadcasts, lead, led, with_entry}
use Rattle.raft_snapshots.specs.Logs.{last_index}
use Rattle.raft_safety.specs.Mirrors.{free_packet}
use Rattle.raft_snapshots.specs.Nodes.{Kind, NodeView, RaftEffect, sending, stays}
use Rattle.raft_xform.specs.Nodes.{is_candidate, is_leader}
use Rattle.raft_snapshots.specs.Replicating.{known, on_input, proposed, proposes, telling}
use Rattle.raft_snapshots.specs.Sending.{request}
use Rattle.raft_xform.specs.Sending.{to_others}
use Rattle.raft_snapshots.proofs.Fronts.{IsGone, whole_last, whole_length}
use Rattle.raft_safety.proofs.Peers.{matched_new}
use Rattle.raft_safety.proofs.Advancing.{IsAnswer}
use Rattle.snap_safety.specs.Mirrors.{HoldsNode, all_of, snapshot_of}
use Rattle.snap_safety.proofs.Acting.{does_say}
use Rattle.snap_safety.proofs.Catching.{Settles, knows_still, settle}
use Rattle.snap_safety.proofs.KindLaws.{Goes, Knows, Law, Moves, by_one, by_raft, each_other, gone, leads_false, leads_true, on, stands_true, up}
use Rattle.snap_safety.proofs.Peers.{next_new}
use Rattle.snap_safety.proofs.Telling.{AreFit, IsOther, Noted, did_all, fit_each, fit_none, fit_one, noted_none}

module _ {S C O X M : Type 0} {m : MachineMeaning S C O} {kind : Kind S C O X M} {n i : ℕ} {P : Entry C → Type 0} (law : Law m kind n i P) (packets : List (free.Packet C)) (bound : ℕ) (idle : (term : ℕ) → P (record { term = term; what = Noop })) where
  -- an event of the node, by free choices from x on
  pub record Turned (x : free.NodeState C) (e : RaftEffect S C O X M) : Type 0 where
    pub after : List (Entry C)
    pub does : Moves law packets x (up after e.state) e.sends
    pub holds : HoldsNode m law.Own after e.state
    pub knows : Knows n e.state
    pub noted : Noted law.notes bound after e.state
    pub told : (o : RaftOut O) → In o e.outputs → IsAnswer (all_of m (did_all after e.state)).answers o
    pub known : AreFit (law.Fits e.state.applied) n i e.sends

  -- the node was so, and free choices led to it
  pub record Came (x : free.NodeState C) (front : List (Entry C)) (s : NodeView S C O X) : Type 0 where
    pub path : Moves law packets x (up front s) []
    pub holds : HoldsNode m law.Own front s
    pub knows : Knows n s
    pub nothing : law.notes [] s.more
    pub within : s.applied ≤ bound

  -- so it has noted nothing of what it has applied
  pub notes_none : (x : free.NodeState C) (front : List (Entry C)) (s : NodeView S C O X) → Came x front s → Noted law.notes bound front s
  notes_none x front s c = noted_none law.notes bound front s c.nothing c.within

  pub still : (x : free.NodeState C) (front : List (Entry C)) (s : NodeView S C O X) → Came x front s → Turned x (stays s)
  still x front s c = record {
    after = front;
    does = c.path;
    holds = c.holds;
    knows = c.knows;
    noted = notes_none x front s c;
    told = λ o h. absurd h;
    known = fit_none (law.Fits s.applied) n i;
  }

  -- it sends something, and is the same
  pub sends_it : (x : free.NodeState C) (front : List (Entry C)) (s : NodeView S C O X) (out : List (ℕ × M)) → Came x front s →
      Moves law packets (up front s) (up front s) out → AreFit (law.Fits s.applied) n i out → Turned x (sending s out)
  sends_it x front s out c d known = record {
    after = front;
    does = on law packets {out = []} c.path d;
    holds = c.holds;
    knows = c.knows;
    noted = notes_none x front s c;
    told = λ o h. absurd h;
    known = known;
  }

  -- a leader has something for each other node
  says_each : (front : List (Entry C)) (s : NodeView S C O X) → HoldsNode m law.Own front s → is_leader s.role ≡ true → Knows n s →
      Moves law packets (up front s) (up front s) (to_others n i (kind.says s))
  says_each front s h l k = each_other law packets (kind.says s) (λ j below ne sent. law.says front s h l k j ne sent)

  all_fit : (front : List (Entry C)) (s : NodeView S C O X) → HoldsNode m law.Own front s → AreFit (law.Fits s.applied) n i (to_others n i (kind.says s))
  all_fit front s h = fit_each (law.Fits s.applied) n i (kind.says s) (law.says_fits front s h) n (omega arith)

  broadcast : (x : free.NodeState C) (front : List (Entry C)) (s : NodeView S C O X) → Came x front s → is_leader s.role ≡ true → Turned x (broadcasts kind m n i s)
  broadcast x front s c l =
      let e : RaftEffect S C O X M = settled kind m n i s in
      let r : Settles law packets x s e = settle law packets front s c.holds l x c.path in
      let k : Knows n e.state = knows_still law packets s e r c.knows in
      record {
        after = r.after;
        does = on law packets {out = []} r.does (says_each r.after e.state r.holds (ap is_leader r.role ∙ l) k);
        holds = r.holds;
        knows = k;
        noted = record { just = r.noted.just; noted = r.noted.noted; long = r.noted.long; from = omega (arith, r.noted.from, c.within); is = r.noted.is };
        told = r.told;
        known = all_fit r.after e.state r.holds;
      }

  -- a leader adds an entry
  adds : (x : free.NodeState C) (front : List (Entry C)) (s : NodeView S C O X) (what : What C) → Came x front s → is_leader s.role ≡ true → P (record { term = s.ballot.term; what = what }) →
      Came x front (with_entry s what)
  adds x front s what c l p = record {
    path = on law packets {out = []} c.path
        (by_one law packets (Propose i (record { term = s.ballot.term; what = what })) (refl, p) (λ sent q. (refl, leads_true _ l, refl))
        (ap (λ (es : List (Entry C)). record (up front s) { log = es }) (sym (append_assoc front s.log.entries new))));
    holds = record {
      gone = h.gone;
      gone_term = h.gone_term;
      now = ap (snapshot_of m) (ap (take s.applied) (sym (append_assoc front s.log.entries new)) ∙ take-append-le s.applied (front ++ s.log.entries) new fits) ∙ h.now;
      base = h.base;
      behind = h.behind;
      committed = omega (arith, h.committed, length-append s.log.entries new);
      own = h.own;
    };
    knows = λ e. let k = c.knows l in record { each = k.each; next = λ j. let p = k.next j in omega (arith, p, length-append s.log.entries new) };
    nothing = c.nothing;
    within = c.within;
  }
    where
      h : HoldsNode m law.Own front s
      h = c.holds

      new : List (Entry C)
      new = record { term = s.ballot.term; what = what } ∷ []

      fits : s.applied ≤ length (front ++ s.log.entries)
      fits = omega (arith, h.behind, h.committed, whole_length front s.log (gone law packets front s h))

  leads_it : (x : free.NodeState C) (front : List (Entry C)) (s : NodeView S C O X) → Came x front s → is_candidate s.role ≡ true → has_won n s ≡ true → Turned x (lead kind m n i s)
  leads_it x front s c stands won = go (ltb (last_index s.log) MAX_INDEX)
    where
      h : HoldsNode m law.Own front s
      h = c.holds

      t : NodeView S C O X
      t = led kind n s

      leading : Came x front t
      leading = record {
        path = on law packets {out = []} c.path
            (by_one law packets (Lead i) (refl, tt) (λ sent q. (refl, stands_true _ stands, won)) (ap (λ f. record (up front t) { matched = f }) (matched_new n (last_index s.log))));
        holds = record {
          gone = h.gone;
          gone_term = h.gone_term;
          now = h.now;
          base = h.base;
          behind = h.behind;
          committed = h.committed;
          own = law.leads front s.more h.own;
        };
        knows = λ e. record { each = length-replicate n (new_peer (last_index s.log)); next = next_new n (last_index s.log) };
        nothing = law.leads_notes s.more c.nothing;
        within = c.within;
      }

      go : (b : Bool) → Turned x (broadcasts kind m n i (cond b (with_entry t Noop) t))
      go true = broadcast x front (with_entry t Noop) (adds x front t Noop leading refl (idle s.ballot.term)) refl
      go false = broadcast x front t leading refl

  campaigns : (x : free.NodeState C) (front : List (Entry C)) (s : NodeView S C O X) → Came x front s → is_candidate s.role ≡ true → Turned x (campaign kind m n i s)
  campaigns x front s c stands = go (has_won n s) refl
    where
      g : IsGone front s.log
      g = gone law packets front s c.holds

      ask : (j : ℕ) → j < n → j ≢ i → (sent : List (free.Packet C)) → Goes law packets sent (up front s) (up front s) ((j, kind.message (request s)) ∷ [])
      ask j below ne sent =
          does_say n i P law.Is law.mono (Ask i j) j (kind.message (request s)) (refl, tt) (refl, stands_true _ stands) refl
          (law.raft _ j (request s) (inl (rw (whole_last front s.log g, whole_length front s.log g) refl)))

      asks : List (ℕ × M)
      asks = to_others n i (λ _. kind.message (request s))

      go : (b : Bool) → has_won n s ≡ b → Turned x (cond b (lead kind m n i s) (sending s asks))
      go true e = leads_it x front s c stands e
      go false e = sends_it x front s asks c (each_other law packets (λ _. kind.message (request s)) ask)
          (fit_each (law.Fits s.applied) n i (λ _. kind.message (request s)) (λ j. law.raft_fits s.applied (request s)) n (omega arith))

  pub tick_turned : (x : free.NodeState C) (front : List (Entry C)) (s : NodeView S C O X) → Came x front s → Turned x (tick kind m n i s)
  tick_turned x front s c = go (is_leader s.role) refl
    where
      h : HoldsNode m law.Own front s
      h = c.holds

      starts : is_leader s.role ≡ false → Came x front (candidate i s)
      starts e = record {
        path = on law packets {out = []} c.path
            (by_one law packets (Timeout i) (refl, tt) (λ sent q. (refl, leads_false _ e))
            (ap (λ f. record (up front (candidate i s)) { votes = f }) (votes_are_sets.one_more i no_votes ∙ ap (with_node i) votes_are_sets.none)));
        holds = h;
        knows = λ l. absurd (false≢true l);
        nothing = c.nothing;
        within = c.within;
      }

      may : (b : Bool) → is_leader s.role ≡ false → Turned x (cond b (campaign kind m n i (candidate i s)) (stays s))
      may true e = campaigns x front (candidate i s) (starts e) refl
      may false e = still x front s c

      go : (b : Bool) → is_leader s.role ≡ b →
          Turned x (cond b (sending s (to_others n i (kind.says s))) (cond (may_start s.ballot) (campaign kind m n i (candidate i s)) (stays s)))
      go true e = sends_it x front s (to_others n i (kind.says s)) c (says_each front s h e c.knows) (all_fit front s h)
      go false e = may (may_start s.ballot) e

  pub input_turned : (x : free.NodeState C) (front : List (Entry C)) (s : NodeView S C O X) (q : RaftInput C) → Came x front s →
      P (record { term = s.ballot.term; what = Request q.client q.request i q.cmd }) → Turned x (on_input kind m n i s q)
  input_turned x front s q c p = go (is_leader s.role) refl (eqb (last_index s.log) MAX_INDEX)
    where
      answers : List (Entry C × O)
      answers = (all_of m (did_all front s)).answers

      only : (o : RaftOut O) → IsAnswer answers o → (y : RaftOut O) → In y (o ∷ []) → IsAnswer answers y
      only o a y (inl e) = rw e a
      only o a y (inr h) = absurd h

      tells : (o : RaftOut O) → IsAnswer answers o → Turned x (telling kind s o)
      tells o a = record {
        after = front;
        does = c.path;
        holds = c.holds;
        knows = c.knows;
        noted = notes_none x front s c;
        told = only o a;
        known = fit_none (law.Fits s.applied) n i;
      }

      go : (b : Bool) → is_leader s.role ≡ b → (d : Bool) →
          Turned x (cond (not b) (telling kind s (told.NotLeader q.client q.request)) (cond d (telling kind s (told.Full q.client q.request)) (proposes kind m n i s q)))
      go false e d = tells (told.NotLeader q.client q.request) tt
      go true e true = tells (told.Full q.client q.request) tt
      go true e false = broadcast x front (proposed i s q) (adds x front s (Request q.client q.request i q.cmd) c e p) e

  pub request_turned : (x : free.NodeState C) (front : List (Entry C)) (s : NodeView S C O X) (from : ℕ) (r : RequestVoteView) → Came x front s → IsOther n i from →
      In (free_packet from i (msg.RequestVote r)) packets → Turned x (on_request kind s from r)
  request_turned x front s from r c ne came = go (grants s.ballot r.term from (sees_up_to_date s r)) refl
    where
      g : IsGone front s.log
      g = gone law packets front s c.holds

      votes : NodeView S C O X
      votes = record s { ballot = record s.ballot { voted = Some from } }

      up_to_date : elections.is_up_to_date (front ++ s.log.entries) r.last_index r.last_term ≡ sees_up_to_date s r
      up_to_date = rw (whole_last front s.log g, whole_length front s.log g) refl

      grant : grants s.ballot r.term from (sees_up_to_date s r) ≡ true → Moves law packets (up front s) (up front votes) (vote kind votes true from).sends
      grant e =
          let a = and_parts (eqb s.ballot.term r.term && is_free_for s.ballot.voted from) (sees_up_to_date s r) e in
          let b = and_parts (eqb s.ballot.term r.term) (is_free_for s.ballot.voted from) a.0 in
          let t : s.ballot.term ≡ r.term = eqb-true _ _ b.0 in
          by_raft law packets (Grant i from r.last_index r.last_term) from ((msg.Vote (record { term = s.ballot.term; granted = true }))) (refl, tt)
          (λ sent k. (refl, rw t (k _ came), b.1, up_to_date ∙ a.1)) refl (λ sent. inl refl)

      go : (b : Bool) → grants s.ballot r.term from (sees_up_to_date s r) ≡ b → Turned x (cond b (vote kind votes true from) (vote kind s false from))
      go true e = record {
        after = front;
        does = on law packets {out = []} c.path (grant e);
        holds = c.holds;
        knows = c.knows;
        noted = noted_none law.notes bound front votes c.nothing c.within;
        told = λ o h. absurd h;
        known = fit_one (law.Fits s.applied) n i from _ ne (law.raft_fits s.applied _);
      }
      go false e = sends_it x front s _ c
          (by_raft law packets (Refuse i from (free.Vote false)) from ((msg.Vote (record { term = s.ballot.term; granted = false }))) (refl, tt) (λ sent k. (refl, refl)) refl (λ sent. inl refl))
          (fit_one (law.Fits s.applied) n i from _ ne (law.raft_fits s.applied _))

  pub vote_turned : (x : free.NodeState C) (front : List (Entry C)) (s : NodeView S C O X) (from : ℕ) (v : VoteView) → Came x front s →
      In (free_packet from i (msg.Vote v)) packets → Turned x (on_vote kind m n i s from v)
  vote_turned x front s from v c came = go (is_candidate s.role && eqb v.term s.ballot.term && v.granted) refl
    where
      counts : is_candidate s.role ≡ true → v.term ≡ s.ballot.term → v.granted ≡ true → Came x front (voted s from)
      counts stands t granted = record {
        path = on law packets {out = []} c.path
            (by_one law packets (Count i from) (refl, tt) (λ sent k. (refl, rw (← t, ← granted) (k _ came), stands_true _ stands))
            (ap (λ f. record (up front (voted s from)) { votes = f }) (votes_are_sets.one_more from s.ballot.votes)));
        holds = c.holds;
        knows = c.knows;
        nothing = c.nothing;
        within = c.within;
      }

      more : (b : Bool) → has_won n (voted s from) ≡ b → is_candidate s.role ≡ true → Came x front (voted s from) →
          Turned x (cond b (lead kind m n i (voted s from)) (stays (voted s from)))
      more true e stands d = leads_it x front (voted s from) d stands e
      more false e stands d = still x front (voted s from) d

      go : (b : Bool) → (is_candidate s.role && eqb v.term s.ballot.term && v.granted) ≡ b →
          Turned x (cond b (cond (has_won n (voted s from)) (lead kind m n i (voted s from)) (stays (voted s from))) (stays s))
      go false e = still x front s c
      go true e =
          let a = and_parts (is_candidate s.role && eqb v.term s.ballot.term) v.granted e in
          let b = and_parts (is_candidate s.role) (eqb v.term s.ballot.term) a.0 in
          more (has_won n (voted s from)) refl b.0 (counts b.0 (eqb-true _ _ b.1) a.1)
