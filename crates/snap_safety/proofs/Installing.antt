-- What a node does with a piece of a snapshot, and a leader that is asked for another, is a list of events with free choices.
use Rattle.std.proofs.Common.{◌≡◌, ◌≢◌, ℕ, suc, ◌+◌, ◌<◌, ◌≤◌, Bool, true, false, ◌&&◌, Option, Some, None, List, [], ◌∷◌, ◌++◌, length, eqb, ltb, leb, cond, get_or, set, ◌⊎◌, inl, inr, refl, sym, ap, ◌∙◌, arith, append_assoc, append-nil}
use Rattle.std.proofs.lemmas.Bool.{and_from, and_parts, eqb-true, eq-eqb, false≢true, le-leb, leb-false, leb-true, ltb-false, or_cases}
use Rattle.std.proofs.lemmas.Bool.Decides.{eqb_tells}
use Rattle.std.proofs.lemmas.List.{get_or-set_other, get_or-set_same, nil_from_length, set_past, take_at}
use Rattle.vst_base.specs.Machines.{MachineMeaning}
use Rattle.vst_base.specs.Elections.{learned_commit}
use Rattle.vst_base.specs.Logs as list
use Rattle.vst_base.specs.declared.entry.Entry.{Entry}
use Rattle.vst_base.specs.declared.what.What.TheVariants.{Noop}
use Rattle.vst_base.proofs.LogTerms.{term_at_zero}
use Rattle.raft_free.specs.Events.{Accept, Allowed, Apply, Comes, Event, Refuse, StepDown}
use Rattle.raft_free.specs.Nodes as free
use Rattle.raft_types.specs.declared.msg.RaftMsg.TheVariants as msg
use Rattle.raft_snapshots.specs.Logs.{matches}
use Rattle.raft_snapshots.specs.Nodes.{follower, sending, stays}
use Rattle.raft_xform.specs.Nodes.{is_leader}
use Rattle.raft_snapshots.specs.Replicating.{answer}
use Rattle.raft_snapshots.specs.Snapshots.{InstallView, Installed, InstalledView, PartView, Plain, SnapNode, Snapshot, Way, asks_on, bytes_of, fits, had, installed, is_of, log_behind, on_install, on_installed, on_piece, on_whole, snap, snap_says, so_far, wants, with_part, with_place}
use Rattle.raft_snapshots.proofs.Fronts.{IsGone, whole_drop, whole_matches_is}
use Rattle.snap_safety.specs.Mirrors.{IsKeptPart, IsPart, MirrorsInstall, SnapHolds, snapshot_of}
use Rattle.snap_safety.proofs.Acting.{Kept}
use Rattle.snap_safety.proofs.Lawful.{At, Lawful, lawful_at}
use Rattle.snap_safety.proofs.KindLaws.{Law, Moves, by_one, by_say, gone, leads_false, on, up}
use Rattle.snap_safety.proofs.Refining.{Came, Turned, sends_it, still}
use Rattle.snap_safety.proofs.Snapping.{IsKnown, notes, says_known, says_one, snap_law}
use Rattle.snap_safety.proofs.Telling.{IsOther, fit_one, noted_none}
use Rattle.snap_safety.proofs.Taking.{accepted_known, takes_all}

-- the first bytes are as many as those that are kept, so they are these
same_front : {A : Type 0} (xs ys us vs : List A) → length xs ≡ length ys → xs ++ us ≡ ys ++ vs → xs ≡ ys
same_front xs ys us vs e f = sym (take_at xs us (length xs) refl) ∙ (rw (f, e) (take_at ys vs (length ys) refl))

module _ {S C O : Type 0} (m : MachineMeaning S C O) (way : Way S C O) (n i : ℕ) (P : Entry C → Type 0) (packets : List (free.Packet C)) (bound : ℕ) (idle : (term : ℕ) → P (record { term = term; what = Noop })) where
  abbrev pub its : Law m (snap way) n i P
  its = snap_law m way n i P packets

  -- a piece that fits goes on where what is kept ends: the two are of one snapshot
  pieces_fit : (x : free.NodeState C) (s : SnapNode S C O) (from : ℕ) (q : InstallView) → Lawful i packets x → IsKeptPart m way packets i s.more.part →
      (came : MirrorsInstall m way packets from i q) → fits s q ≡ true → so_far s q ++ came.piece.behind ≡ way.spell (snapshot_of m came.entries)
  pieces_fit x s from q law part came fit = go (eqb q.offset 0) refl
    where
      whole : List ℕ
      whole = way.spell (snapshot_of m came.entries)

      -- it begins anew
      anew : q.offset ≡ 0 → q.bytes ++ came.piece.behind ≡ whole
      anew e = rw (nil_from_length came.piece.before (came.piece.at ∙ e)) at came.piece.is

      by_part : (p : Option PartView) → IsKeptPart m way packets i p → length (bytes_of q p) ≡ q.offset → (bytes_of q p ++ q.bytes) ++ came.piece.behind ≡ whole
      by_part None k e = anew (sym e)
      by_part (Some p) k e = if_same (is_of q p) refl e
        where
          if_same : (b : Bool) → is_of q p ≡ b → length (cond b p.bytes []) ≡ q.offset → (cond b p.bytes [] ++ q.bytes) ++ came.piece.behind ≡ whole
          if_same false t e = anew (sym e)
          if_same true t e =
              let a = and_parts (eqb p.term q.term && eqb p.index q.index) (eqb p.last_term q.last_term) t in
              let b = and_parts (eqb p.term q.term) (eqb p.index q.index) a.0 in
              let term : p.term ≡ q.term = eqb-true _ _ b.0 in
              let index : p.index ≡ q.index = eqb-true _ _ b.1 in
              let same : k.entries ≡ came.entries =
              law.once k.from i from i p.term p.index q.index k.entries came.entries k.sent.there (rw term came.sent.there) (k.sent.all ∙ (index ∙ sym came.sent.all)) in
              let front : p.bytes ≡ came.piece.before =
              same_front p.bytes came.piece.before k.rest (q.bytes ++ came.piece.behind) (e ∙ sym came.piece.at) (k.is ∙ (ap (λ es. way.spell (snapshot_of m es)) same ∙ sym came.piece.is)) in
              append_assoc p.bytes q.bytes came.piece.behind ∙ (ap (λ bs. bs ++ (q.bytes ++ came.piece.behind)) front ∙ came.piece.is)

      go : (b : Bool) → eqb q.offset 0 ≡ b → (cond b [] (had s q) ++ q.bytes) ++ came.piece.behind ≡ whole
      go true e = anew (eqb-true _ _ e)
      go false e = by_part s.more.part part (length_is (or_cases (eqb q.offset 0) (eqb q.offset (length (had s q))) fit))
        where
          length_is : (eqb q.offset 0 ≡ true) ⊎ (eqb q.offset (length (had s q)) ≡ true) → length (had s q) ≡ q.offset
          length_is (inl z) = absurd (false≢true (sym e ∙ z))
          length_is (inr z) = sym (eqb-true _ _ z)

  -- once its last piece came, what is kept is the whole spelling
  pub whole_came : (x : free.NodeState C) (s : SnapNode S C O) (from : ℕ) (q : InstallView) → Lawful i packets x → IsKeptPart m way packets i s.more.part →
      (came : MirrorsInstall m way packets from i q) → fits s q ≡ true → q.done ≡ true → so_far s q ≡ way.spell (snapshot_of m came.entries)
  whole_came x s from q law part came fit done =
      sym (append-nil (so_far s q)) ∙ (ap (λ bs. so_far s q ++ bs) (sym (came.piece.last done)) ∙ pieces_fit x s from q law part came fit)

  -- the whole snapshot came, and is taken: the whole log takes all of the leader's entries, commits and applies them
  installs : (x : free.NodeState C) (front : List (Entry C)) (s : SnapNode S C O) (from : ℕ) (q : InstallView) (snapshot : Snapshot S O) → Came its packets bound idle x front s → IsOther n i from →
      Lawful i packets (up front s) → is_leader s.role ≡ false → (came : MirrorsInstall m way packets from i q) → q.term ≡ s.ballot.term → s.commit < q.index → q.index ≤ bound →
      snapshot_of m came.entries ≡ snapshot → Turned its packets bound idle x (sending (installed s q snapshot) (answer (snap way) s true q.index from))
  installs x front s from q snapshot c ne law l came term more most is = record {
    after = es;
    does = on its packets {out = answer (snap way) s true q.index from} (on its packets {out = []} c.path accepts) applies;
    holds = record {
      gone = came.sent.all;
      gone_term = came.sent.last;
      now = ap (snapshot_of m) (take_at es (log_behind s.log q).entries q.index came.sent.all) ∙ is;
      base = omega arith;
      behind = omega arith;
      committed = omega arith;
      own = record { snapshot = is; part = tt; places = λ node. omega arith };
    };
    knows = λ e. absurd (false≢true e);
    noted = noted_none (notes m way n i P packets) bound es (installed s q snapshot) refl most;
    told = λ o z. absurd z;
    known = fit_one (IsKnown q.index) n i from _ ne tt;
  }
    where
      h : SnapHolds m way packets i front s
      h = c.holds

      es : List (Entry C)
      es = came.entries

      g : IsGone front s.log
      g = gone its packets front s h

      whole : List (Entry C)
      whole = front ++ s.log.entries

      comes : (sent : List (free.Packet C)) → Kept packets sent → Comes sent (up front s) from i (free.Append 0 0 es q.index)
      comes sent k = rw (← term) (k _ came.sent.there)

      event : Event C
      event = Accept i from 0 0 es q.index

      meets : list.matches whole 0 0 ≡ true
      meets = and_from (leb 0 (length whole)) (eqb (list.term_at whole 0) 0) (le-leb _ _ (omega arith)) (eq-eqb _ _ (term_at_zero whole))

      allowed : (sent : List (free.Packet C)) → Kept packets sent → Allowed n sent (up front s) event
      allowed sent k = (refl, comes sent k, leads_false _ l, meets, law.no_conflict from 0 0 q.index es (comes packets (λ p z. z)))

      base_le : s.log.base ≤ q.index
      base_le = omega (arith, h.base, h.behind, more)

      has : list.matches whole (length es) (list.last_term es) ≡ matches s.log q.index q.last_term
      has = rw (came.sent.last, came.sent.all) (whole_matches_is front s.log g q.index q.last_term base_le)

      log_is : list.accepted whole 0 es ≡ es ++ (log_behind s.log q).entries
      log_is =
          takes_all whole es (law.agrees from q.index es (comes packets (λ p z. z))) (matches s.log q.index q.last_term) has
          ∙ ap (λ (r : List (Entry C)). es ++ cond (matches s.log q.index q.last_term) r []) (rw (came.sent.all) (whole_drop front s.log g q.index base_le))

      commit_is : learned_commit s.commit q.index (0 + length es) ≡ q.index
      commit_is = omega (arith, came.sent.all, more)

      -- once it has taken the entries, and before it has applied them
      mid : free.NodeState C
      mid = record (up es (installed s q snapshot)) { applied = s.applied }

      accepts : Moves its packets (up front s) mid (answer (snap way) s true q.index from)
      accepts =
          let ends : 0 + length es ≡ q.index = omega (arith, came.sent.all) in
          by_say its packets event from (Plain (msg.Appended (record { term = s.ballot.term; ok = true; index = q.index }))) (refl, tt) allowed (rw (log_is, commit_is) refl)
          (λ sent. inl (rw ends refl))

      applies : Moves its packets mid (up es (installed s q snapshot)) []
      applies = by_one its packets (Apply i q.index) (refl, tt) (λ sent k. (refl, omega (arith, h.behind, more), omega arith)) refl

  pub install_turned : (x : free.NodeState C) (front : List (Entry C)) (s : SnapNode S C O) (from : ℕ) (q : InstallView) → Came its packets bound idle x front s → IsOther n i from →
      At n i packets (up front s) → q.term ≤ s.ballot.term → q.index ≤ bound → MirrorsInstall m way packets from i q → Turned its packets bound idle x (on_install way s from q)
  install_turned x front s from q c ne there late most came = go (ltb q.term s.ballot.term) refl
    where
      h : SnapHolds m way packets i front s
      h = c.holds

      es : List (Entry C)
      es = came.entries

      whole : List (Entry C)
      whole = front ++ s.log.entries

      law : Lawful i packets (up front s)
      law = lawful_at there

      asks : (t : SnapNode S C O) (place : ℕ) → Moves its packets (up front t) (up front t) (wants t q place from)
      asks t place = by_say its packets (Refuse i from (free.Appended false q.index)) from (Installed (record { term = t.ballot.term; index = q.index; place = place })) (refl, tt)
          (λ sent k. (refl, refl)) refl (λ sent. inl refl)

      same_term : ltb q.term s.ballot.term ≡ false → q.term ≡ s.ballot.term
      same_term e = let l = ltb-false _ _ e in omega arith

      comes : ltb q.term s.ballot.term ≡ false → (sent : List (free.Packet C)) → Kept packets sent → Comes sent (up front s) from i (free.Append 0 0 es q.index)
      comes e sent k = rw (← same_term e) (k _ came.sent.there)

      follows : ltb q.term s.ballot.term ≡ false → is_leader s.role ≡ false → Moves its packets x (up front (follower s)) []
      follows e l = on its packets {out = []} c.path (by_one its packets (StepDown i from 0 0 es q.index) (refl, tt) (λ sent k. (refl, comes e sent k, leads_false _ l)) refl)

      -- it keeps another part
      with_its : (part : Option PartView) → IsKeptPart m way packets i part → ltb q.term s.ballot.term ≡ false → is_leader s.role ≡ false →
          Came its packets bound idle x front (with_part (follower s) part)
      with_its part k e l = record {
        path = follows e l;
        holds = record { gone = h.gone; gone_term = h.gone_term; now = h.now; base = h.base; behind = h.behind; committed = h.committed; own = record { snapshot = h.own.snapshot; part = k; places = h.own.places } };
        knows = λ z. absurd (false≢true z);
        nothing = c.nothing;
        within = c.within;
      }

      -- it has all of it already
      knows_it : ltb q.term s.ballot.term ≡ false → is_leader s.role ≡ false → q.index ≤ s.commit →
          Turned its packets bound idle x (sending (follower s) (answer (snap way) s true q.index from))
      knows_it e l le =
          let agrees = law.no_conflict from 0 0 q.index es (comes e packets (λ p z. z)) in
          let ends : 0 + length es ≡ q.index = omega (arith, came.sent.all) in
          let same_log : list.accepted whole 0 es ≡ whole = accepted_known whole s.commit 0 es agrees (omega (arith, ends, le)) law.fits in
          let same_commit : learned_commit s.commit q.index (0 + length es) ≡ s.commit = omega (arith, ends, le) in
          record {
            after = front;
            does = on its packets {out = []} c.path
                (by_say its packets (Accept i from 0 0 es q.index) from (Plain (msg.Appended (record { term = s.ballot.term; ok = true; index = q.index }))) (refl, tt)
                (λ sent k. (refl, comes e sent k, leads_false _ l, and_from (leb 0 (length whole)) (eqb (list.term_at whole 0) 0) (le-leb _ _ (omega arith)) (eq-eqb _ _ (term_at_zero whole)), agrees))
                (rw (same_log, same_commit) refl) (λ sent. inl (rw ends refl)));
            holds = h;
            knows = λ z. absurd (false≢true z);
            noted = noted_none (notes m way n i P packets) bound front (follower s) c.nothing c.within;
            told = λ o z. absurd z;
            known = fit_one (IsKnown s.applied) n i from _ ne tt;
          }

      by_read : (o : Option (Snapshot S O)) → way.read q.index (so_far s q) ≡ o → ltb q.term s.ballot.term ≡ false → is_leader s.role ≡ false → s.commit < q.index → fits s q ≡ true →
          q.done ≡ true → Turned its packets bound idle x (on_whole way s from q o)
      by_read None r e l more fit done = still its packets bound idle x front (with_part (follower s) None) (with_its None tt e l)
      by_read (Some snapshot) r e l more fit done =
          installs x front s from q snapshot c ne law l came (same_term e) more most
          (way.back q.index (snapshot_of m es) snapshot (ap (way.read q.index) (sym (whole_came (up front s) s from q law h.own.part came fit done)) ∙ r))

      by_done : (b : Bool) → q.done ≡ b → ltb q.term s.ballot.term ≡ false → is_leader s.role ≡ false → s.commit < q.index → fits s q ≡ true →
          Turned its packets bound idle x (cond b (on_whole way s from q (way.read q.index (so_far s q)))
          (sending (with_part (follower s) (Some (record { term = q.term; index = q.index; last_term = q.last_term; bytes = so_far s q }))) (wants s q (length (so_far s q)) from)))
      by_done true d e l more fit = by_read (way.read q.index (so_far s q)) refl e l more fit d
      by_done false d e l more fit =
          let part : PartView = record { term = q.term; index = q.index; last_term = q.last_term; bytes = so_far s q } in
          let is : IsPart m way packets i part =
          record { from = from; entries = es; sent = came.sent; rest = came.piece.behind; is = pieces_fit (up front s) s from q law h.own.part came fit } in
          sends_it its packets bound idle x front (with_part (follower s) (Some part)) _ (with_its (Some part) is e l) (asks (with_part (follower s) (Some part)) (length (so_far s q)))
          (fit_one (IsKnown s.applied) n i from _ ne tt)

      by_fit : (b : Bool) → fits s q ≡ b → ltb q.term s.ballot.term ≡ false → is_leader s.role ≡ false → s.commit < q.index →
          Turned its packets bound idle x (cond b (on_piece way s from q) (sending (follower s) (wants s q (length (had s q)) from)))
      by_fit true fit e l more = by_done q.done refl e l more fit
      by_fit false fit e l more =
          sends_it its packets bound idle x front (follower s) _ (record { path = follows e l; holds = h; knows = λ z. absurd (false≢true z); nothing = c.nothing; within = c.within })
          (asks (follower s) (length (had s q))) (fit_one (IsKnown s.applied) n i from _ ne tt)

      by_index : (b : Bool) → leb q.index s.commit ≡ b → ltb q.term s.ballot.term ≡ false → is_leader s.role ≡ false →
          Turned its packets bound idle x (cond b (sending (follower s) (answer (snap way) s true q.index from))
          (cond (fits s q) (on_piece way s from q) (sending (follower s) (wants s q (length (had s q)) from))))
      by_index true p e l = knows_it e l (leb-true _ _ p)
      by_index false p e l = by_fit (fits s q) refl e l (leb-false _ _ p)

      by_role : (b : Bool) → is_leader s.role ≡ b → ltb q.term s.ballot.term ≡ false →
          Turned its packets bound idle x (cond b (stays s) (cond (leb q.index s.commit) (sending (follower s) (answer (snap way) s true q.index from))
          (cond (fits s q) (on_piece way s from q) (sending (follower s) (wants s q (length (had s q)) from)))))
      by_role true l e = still its packets bound idle x front s c
      by_role false l e = by_index (leb q.index s.commit) refl e l

      go : (b : Bool) → ltb q.term s.ballot.term ≡ b →
          Turned its packets bound idle x (cond b (sending s (wants s q 0 from)) (cond (is_leader s.role) (stays s)
          (cond (leb q.index s.commit) (sending (follower s) (answer (snap way) s true q.index from))
          (cond (fits s q) (on_piece way s from q) (sending (follower s) (wants s q (length (had s q)) from))))))
      go true e = sends_it its packets bound idle x front s _ c (asks s 0) (fit_one (IsKnown s.applied) n i from _ ne tt)
      go false e = by_role (is_leader s.role) refl e

  pub installed_turned : (x : free.NodeState C) (front : List (Entry C)) (s : SnapNode S C O) (from : ℕ) (a : InstalledView) → Came its packets bound idle x front s →
      IsOther n i from → Turned its packets bound idle x (on_installed way s from a)
  installed_turned x front s from a c ne = go (asks_on way s from a) refl
    where
      h : SnapHolds m way packets i front s
      h = c.holds

      t : SnapNode S C O
      t = with_place s from a.place

      placed : (places : List ℕ) (most : ℕ) → a.place ≤ most → ((j : ℕ) → get_or places j 0 ≤ most) → (j : ℕ) → get_or (set places from a.place) j 0 ≤ most
      placed places most le all j = by_length (leb (suc from) (length places)) refl
        where
          by_place : suc from ≤ length places → ((eqb j from ≡ true) × (j ≡ from)) ⊎ ((eqb j from ≡ false) × (j ≢ from)) → get_or (set places from a.place) j 0 ≤ most
          by_place inside (inl z) = rw (z.1, get_or-set_same places from a.place 0 inside) le
          by_place inside (inr z) = rw (get_or-set_other places from j a.place 0 z.1) (all j)

          by_length : (b : Bool) → leb (suc from) (length places) ≡ b → get_or (set places from a.place) j 0 ≤ most
          by_length true e = by_place (leb-true _ _ e) (eqb_tells j from)
          by_length false e = let l = leb-false _ _ e in rw (set_past places from a.place (omega arith)) (all j)

      go : (b : Bool) → asks_on way s from a ≡ b → Turned its packets bound idle x (cond b (sending t ((from, snap_says way t from) ∷ [])) (stays s))
      go false e = still its packets bound idle x front s c
      go true e =
          let p = and_parts _ _ e in
          let q = and_parts _ _ p.0 in
          let r = and_parts _ _ q.0 in
          let u = and_parts (is_leader s.role) (eqb a.term s.ballot.term) r.0 in
          let d : Came its packets bound idle x front t = record {
            path = c.path;
            holds = record {
              gone = h.gone;
              gone_term = h.gone_term;
              now = h.now;
              base = h.base;
              behind = h.behind;
              committed = h.committed;
              own = record { snapshot = h.own.snapshot; part = h.own.part; places = placed s.more.places (length (way.spell s.more.snapshot)) (leb-true _ _ q.1) h.own.places };
            };
            knows = c.knows;
            nothing = c.nothing;
            within = c.within;
          } in
          sends_it its packets bound idle x front t _ d (λ sent kept. says_one m way n i P packets front t d.holds u.0 d.knows from ne.1 sent)
          (fit_one (IsKnown s.applied) n i from _ ne (says_known m way n i P packets front t d.holds from))
