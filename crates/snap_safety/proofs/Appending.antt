-- What a node does with a leader's entries, and a leader with the answer, is a list of events with free choices. Entries before
-- the node's base are committed there, so the whole log takes them as if they came after the base.
use Rattle.std.proofs.Common.{◌≡◌, ℕ, ◌+◌, ◌-◌, ◌<◌, ◌≤◌, Bool, true, false, List, [], ◌++◌, length, take, drop, ltb, cond, inl, refl, sym, ap, ◌∙◌, arith, length-drop}
use Rattle.std.proofs.lemmas.Bool.{and_parts, false≢true, ltb-false, ltb-true}
use Rattle.vst_base.specs.Machines.{MachineMeaning}
use Rattle.vst_base.specs.Elections.{learned_commit}
use Rattle.vst_base.specs.Logs as list
use Rattle.vst_base.specs.declared.entry.Entry.{Entry}
use Rattle.vst_base.specs.declared.what.What.TheVariants.{Noop}
use Rattle.raft_free.specs.Events.{Accept, Allowed, Comes, Event, In, Refuse, StepDown, becomes}
use Rattle.raft_free.specs.Nodes as free
use Rattle.raft_types.specs.Messages.{AppendView}
use Rattle.raft_types.specs.declared.msg.RaftMsg.TheVariants as msg
use Rattle.raft_snapshots.specs.Applying.{caught_up}
use Rattle.raft_snapshots.specs.Logs.{accepted, matches}
use Rattle.raft_safety.specs.Mirrors.{free_packet}
use Rattle.raft_snapshots.specs.Nodes.{Kind, NodeView, follower, sending, stays}
use Rattle.raft_xform.specs.Nodes.{is_leader}
use Rattle.raft_snapshots.specs.Replicating.{answer, from_base, may_take, on_append, taken, takes}
use Rattle.raft_xform.specs.Replicating.{last_new}
use Rattle.raft_snapshots.proofs.Fronts.{IsGone, whole_accepted, whole_length, whole_matches}
use Rattle.snap_safety.specs.Mirrors.{HoldsNode, snapshot_of}
use Rattle.snap_safety.proofs.Acting.{Kept}
use Rattle.snap_safety.proofs.Catching.{Settles, catches_up, knows_still}
use Rattle.snap_safety.proofs.Lawful.{At, Lawful, applied_stays, at_more, lawful_at}
use Rattle.snap_safety.proofs.KindLaws.{Law, Moves, by_one, by_raft, gone, leads_false, nowhere, on, up}
use Rattle.snap_safety.proofs.Refining.{Came, Turned, sends_it, still}
use Rattle.snap_safety.proofs.Telling.{IsOther, fit_one, noted_none}
use Rattle.snap_safety.proofs.Taking.{accepted_known, accepted_on, no_conflict_terms}

module _ {S C O X M : Type 0} {m : MachineMeaning S C O} {kind : Kind S C O X M} {n i : ℕ} {P : Entry C → Type 0} (law : Law m kind n i P) (packets : List (free.Packet C)) (bound : ℕ) (idle : (term : ℕ) → P (record { term = term; what = Noop })) where
  -- entries that came, as a node takes them that has a part of its log, b being what stands after its base
  takes_turned : (x : free.NodeState C) (front : List (Entry C)) (s : NodeView S C O X) (from : ℕ) (a b : AppendView C) → Came law packets bound idle x front s → IsOther n i from →
      At n i packets (up front s) → is_leader s.role ≡ false →
      ((sent : List (free.Packet C)) → Kept packets sent → Comes sent (up front s) from i (free.Append a.prev_index a.prev_term a.entries a.commit)) →
      list.accepted (front ++ s.log.entries) a.prev_index a.entries ≡ front ++ (accepted s.log b.prev_index b.entries).entries → last_new b ≡ last_new a → b.commit ≡ a.commit →
      list.matches (front ++ s.log.entries) a.prev_index a.prev_term ≡ true → list.has_conflict (front ++ s.log.entries) s.commit a.prev_index a.entries ≡ false →
      Turned law packets bound idle x (takes kind m i s from b)
  takes_turned x front s from a b c ne there l comes same ends commit meets agrees = record {
    after = r.after;
    does = on law packets {out = answer kind s true (last_new b) from} (on law packets {out = []} c.path accept) r.does;
    holds = r.holds;
    knows = knows_still law packets t (caught_up kind m i t) r (λ q. absurd (false≢true q));
    noted = record { just = r.noted.just; noted = r.noted.noted; long = r.noted.long; from = omega (arith, r.noted.from, c.within); is = r.noted.is };
    told = r.told;
    known = fit_one (law.Fits (caught_up kind m i t).state.applied) n i from _ ne (law.raft_fits (caught_up kind m i t).state.applied _);
  }
    where
      h : HoldsNode m law.Own front s
      h = c.holds

      t : NodeView S C O X
      t = taken s b

      whole : List (Entry C)
      whole = front ++ s.log.entries

      event : Event C
      event = Accept i from a.prev_index a.prev_term a.entries a.commit

      allowed : (sent : List (free.Packet C)) → Kept packets sent → Allowed n sent (up front s) event
      allowed sent k = (refl, comes sent k, leads_false _ l, meets, agrees)

      is : up front t ≡ becomes (up front s) event
      is = rw (same, ends, commit) refl

      accept : Moves law packets (up front s) (up front t) (answer kind s true (last_new b) from)
      accept = by_raft law packets event from ((msg.Appended (record { term = s.ballot.term; ok = true; index = last_new b }))) (refl, tt) allowed is
          (λ sent. inl (rw ends refl))

      fits : learned_commit s.commit a.commit (last_new a) ≤ length (list.accepted whole a.prev_index a.entries)
      fits = (lawful_at (at_more there event refl (allowed packets (λ p q. q)))).fits

      stays_there : take s.applied (list.accepted whole a.prev_index a.entries) ≡ take s.applied whole
      stays_there = applied_stays there event refl (allowed packets (λ p q. q)) refl

      held : HoldsNode m law.Own front t
      held = record {
        gone = h.gone;
        gone_term = h.gone_term;
        now = ap (snapshot_of m) (ap (take s.applied) (sym same) ∙ stays_there) ∙ h.now;
        base = h.base;
        behind = omega (arith, h.behind);
        committed = rw (ends, commit) (let f = rw same at fits in omega (arith, f, whole_length front t.log (record { gone = h.gone; gone_term = h.gone_term })));
        own = h.own;
      }

      r : Settles law packets (up front t) t (caught_up kind m i t)
      r = catches_up law packets front t held (up front t) (nowhere law packets refl)

  pub append_turned : (x : free.NodeState C) (front : List (Entry C)) (s : NodeView S C O X) (from : ℕ) (a : AppendView C) → Came law packets bound idle x front s → IsOther n i from →
      At n i packets (up front s) → a.term ≤ s.ballot.term → In (free_packet from i (msg.Append a)) packets → Turned law packets bound idle x (on_append kind m i s from a)
  append_turned x front s from a c ne there late came = go (ltb a.term s.ballot.term) refl
    where
      h : HoldsNode m law.Own front s
      h = c.holds

      g : IsGone front s.log
      g = gone law packets front s h

      whole : List (Entry C)
      whole = front ++ s.log.entries

      safe : Lawful i packets (up front s)
      safe = lawful_at there

      last : ℕ
      last = a.prev_index + length a.entries

      no : (t : NodeView S C O X) → Moves law packets (up front t) (up front t) (answer kind t false a.prev_index from)
      no t = by_raft law packets (Refuse i from (free.Appended false a.prev_index)) from
          ((msg.Appended (record { term = t.ballot.term; ok = false; index = a.prev_index }))) (refl, tt) (λ sent k. (refl, refl)) refl (λ sent. inl refl)

      comes : ltb a.term s.ballot.term ≡ false → (sent : List (free.Packet C)) → Kept packets sent →
          Comes sent (up front s) from i (free.Append a.prev_index a.prev_term a.entries a.commit)
      comes e sent k = let l = ltb-false _ _ e in let t : s.ballot.term ≡ a.term = omega arith in rw t (k _ came)

      conflicts_not : ltb a.term s.ballot.term ≡ false → list.has_conflict whole s.commit a.prev_index a.entries ≡ false
      conflicts_not e = safe.no_conflict from a.prev_index a.prev_term a.commit a.entries (comes e packets (λ p q. q))

      below : ltb a.term s.ballot.term ≡ false → a.prev_index ≤ s.commit → list.matches whole a.prev_index a.prev_term ≡ true
      below e le = safe.below from a.prev_index a.prev_term a.commit a.entries (comes e packets (λ p q. q)) le

      follows : Came law packets bound idle x front s → ltb a.term s.ballot.term ≡ false → is_leader s.role ≡ false → Came law packets bound idle x front (follower s)
      follows d e l = record {
        path = on law packets {out = []} d.path
            (by_one law packets (StepDown i from a.prev_index a.prev_term a.entries a.commit) (refl, tt) (λ sent k. (refl, comes e sent k, leads_false _ l)) refl);
        holds = d.holds;
        knows = λ q. absurd (false≢true q);
        nothing = d.nothing;
        within = d.within;
      }

      -- what does not reach the base
      knows_it : ltb a.term s.ballot.term ≡ false → is_leader s.role ≡ false → last < s.log.base →
          Turned law packets bound idle x (sending (follower s) (answer kind s true (last_new a) from))
      knows_it e l less =
          let same_log : list.accepted whole a.prev_index a.entries ≡ whole =
          accepted_known whole s.commit a.prev_index a.entries (conflicts_not e) (omega (arith, h.base, h.behind, less)) safe.fits in
          let same_commit : learned_commit s.commit a.commit last ≡ s.commit = omega (arith, h.base, h.behind, less) in
          record {
            after = front;
            does = on law packets {out = []} c.path
                (by_raft law packets (Accept i from a.prev_index a.prev_term a.entries a.commit) from
                ((msg.Appended (record { term = s.ballot.term; ok = true; index = last_new a }))) (refl, tt)
                (λ sent k. (refl, comes e sent k, leads_false _ l, below e (omega (arith, h.base, h.behind, less)), conflicts_not e))
                (rw (same_log, same_commit) refl) (λ sent. inl refl));
            holds = h;
            knows = λ q. absurd (false≢true q);
            noted = noted_none law.notes bound front (follower s) c.nothing c.within;
            told = λ o z. absurd z;
            known = fit_one (law.Fits s.applied) n i from _ ne (law.raft_fits s.applied _);
          }

      -- what reaches it
      reaches : (b : Bool) → ltb a.prev_index s.log.base ≡ b → ltb a.term s.ballot.term ≡ false → is_leader s.role ≡ false → s.log.base ≤ last →
          Turned law packets bound idle x (let t = cond b (record a { prev_index = s.log.base; prev_term = s.log.base_term; entries = drop (s.log.base - a.prev_index) a.entries }) a in
          cond (may_take s t) (takes kind m i s from t) (sending (follower s) (answer kind s false a.prev_index from)))
      reaches true p e l far = try (may_take s cut)
        where
          cut : AppendView C
          cut = record a { prev_index = s.log.base; prev_term = s.log.base_term; entries = drop (s.log.base - a.prev_index) a.entries }

          d : ℕ
          d = s.log.base - a.prev_index

          less : a.prev_index < s.log.base
          less = ltb-true _ _ p

          base_is : a.prev_index + d ≡ s.log.base
          base_is = omega (arith, less)

          same : list.accepted whole a.prev_index a.entries ≡ front ++ (accepted s.log s.log.base (drop d a.entries)).entries
          same =
              accepted_on whole a.prev_index d a.entries (omega (arith, base_is, h.base, h.behind, safe.fits)) (omega (arith, base_is, far))
              (λ k lt. no_conflict_terms whole s.commit a.prev_index a.entries (conflicts_not e) k (omega (arith, base_is, far, lt)) (omega (arith, base_is, h.base, h.behind, lt)))
              ∙ (rw base_is (whole_accepted front s.log g s.log.base (drop d a.entries) (omega arith)))

          try : (b : Bool) → Turned law packets bound idle x (cond b (takes kind m i s from cut) (sending (follower s) (answer kind s false a.prev_index from)))
          try true = takes_turned x front s from a cut c ne there l (comes e) same (omega (arith, base_is, far, length-drop d a.entries)) refl (below e (omega (arith, less, h.base, h.behind))) (conflicts_not e)
          try false = sends_it law packets bound idle x front (follower s) _ (follows c e l) (no (follower s)) (fit_one (law.Fits s.applied) n i from _ ne (law.raft_fits s.applied _))
      reaches false p e l far = try (may_take s a) refl
        where
          le : s.log.base ≤ a.prev_index
          le = ltb-false _ _ p

          try : (b : Bool) → may_take s a ≡ b → Turned law packets bound idle x (cond b (takes kind m i s from a) (sending (follower s) (answer kind s false a.prev_index from)))
          try true may =
              let q = and_parts (matches s.log a.prev_index a.prev_term) _ may in
              takes_turned x front s from a a c ne there l (comes e) (whole_accepted front s.log g a.prev_index a.entries le) refl refl
              (whole_matches front s.log g a.prev_index a.prev_term q.0) (conflicts_not e)
          try false may = sends_it law packets bound idle x front (follower s) _ (follows c e l) (no (follower s)) (fit_one (law.Fits s.applied) n i from _ ne (law.raft_fits s.applied _))

      by_base : (b : Bool) → ltb last s.log.base ≡ b → ltb a.term s.ballot.term ≡ false → is_leader s.role ≡ false →
          Turned law packets bound idle x (cond b (sending (follower s) (answer kind s true (last_new a) from))
          (cond (may_take s (from_base s.log a)) (takes kind m i s from (from_base s.log a)) (sending (follower s) (answer kind s false a.prev_index from))))
      by_base true p e l = knows_it e l (ltb-true _ _ p)
      by_base false p e l = reaches (ltb a.prev_index s.log.base) refl e l (ltb-false _ _ p)

      by_role : (b : Bool) → is_leader s.role ≡ b → ltb a.term s.ballot.term ≡ false →
          Turned law packets bound idle x (cond b (stays s) (cond (ltb last s.log.base) (sending (follower s) (answer kind s true (last_new a) from))
          (cond (may_take s (from_base s.log a)) (takes kind m i s from (from_base s.log a)) (sending (follower s) (answer kind s false a.prev_index from)))))
      by_role true l e = still law packets bound idle x front s c
      by_role false l e = by_base (ltb last s.log.base) refl e l

      go : (b : Bool) → ltb a.term s.ballot.term ≡ b →
          Turned law packets bound idle x (cond b (sending s (answer kind s false a.prev_index from)) (cond (is_leader s.role) (stays s)
          (cond (ltb last s.log.base) (sending (follower s) (answer kind s true (last_new a) from))
          (cond (may_take s (from_base s.log a)) (takes kind m i s from (from_base s.log a)) (sending (follower s) (answer kind s false a.prev_index from))))))
      go true e = sends_it law packets bound idle x front s _ c (no s) (fit_one (law.Fits s.applied) n i from _ ne (law.raft_fits s.applied _))
      go false e = by_role (is_leader s.role) refl e
