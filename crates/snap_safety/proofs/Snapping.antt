-- Raft with snapshots is a kind: what a leader sends is mirrored, and a log that is shortened is the same whole log.
use Rattle.std.proofs.Common.{◌≡◌, ◌≢◌, ℕ, ◌+◌, ◌-◌, ◌≤◌, Bool, true, false, List, [], ◌∷◌, ◌++◌, length, take, drop, leb, ltb, cond, inl, refl, ap, ◌∙◌, arith, length-drop}
use Rattle.std.proofs.lemmas.Bool.{le-leb, leb-true, ltb-false}
use Rattle.std.proofs.lemmas.List.{drop_all, length-take-le, take-append-drop, take_at}
use Rattle.vst_base.specs.Machines.{MachineMeaning}
use Rattle.vst_base.specs.Logs as list
use Rattle.vst_base.specs.declared.entry.Entry.{Entry}
use Rattle.vst_base.proofs.LogTerms.{term_at_zero}
use Rattle.raft_free.specs.Events.{In, Replicate}
use Rattle.raft_free.specs.Nodes as free
use Rattle.raft_histories.proofs.Logs.{same_take, same_term}
use Rattle.raft_types.specs.declared.limits.TheConstants.{MAX_BATCH}
use Rattle.raft_snapshots.specs.Logs.{last_index, shortened, term_at}
use Rattle.raft_xform.specs.Nodes.{is_leader, peer_at}
use Rattle.raft_snapshots.specs.Sending.{append}
use Rattle.raft_snapshots.specs.Snapshots.{Install, Installed, MAX_PIECE, PartView, Plain, SnapMsg, SnapNode, SnapView, Way, compacted, piece, place_of, settles, snap, snap_says, snap_term_of, with_more}
use Rattle.raft_snapshots.proofs.Fronts.{IsGone, whole_drop, whole_length, whole_short, whole_term}
use Rattle.snap_safety.specs.Mirrors.{IsPart, IsPiece, MirrorsMessage, OwnSnapshot, SentAll, SnapHolds, packet}
use Rattle.snap_safety.proofs.Acting.{Does, Kept, does_say}
use Rattle.snap_safety.proofs.Catching.{zeros}
use Rattle.snap_safety.specs.Applied.{had_applied}
use Rattle.snap_safety.proofs.Telling.{Noted, did_all}
use Rattle.snap_safety.proofs.KindLaws.{Knows, Law, Settled, leads_true, up}

-- a part of a whole, by its place and the greatest length
pub is_piece : (whole : List ℕ) (place many : ℕ) → place ≤ length whole → IsPiece whole place (take many (drop place whole)) (leb (length whole) (place + many))
is_piece whole place many h = record {
  before = take place whole;
  behind = drop many (drop place whole);
  is = rw (take-append-drop many (drop place whole)) (take-append-drop place whole);
  at = length-take-le place whole h;
  last = λ e. let le : length whole ≤ place + many = leb-true _ _ e in drop_all many (drop place whole) (omega (arith, length-drop place whole));
  only_last = λ e. le-leb _ _ (omega (arith, ap length e, length-drop many (drop place whole), length-drop place whole));
}

sent_more : {C : Type 0} {sent new : List (free.Packet C)} {from to term index last_t : ℕ} {es : List (Entry C)} → Kept sent new → SentAll sent from to term index last_t es →
    SentAll new from to term index last_t es
sent_more k s = record { there = k _ s.there; all = s.all; last = s.last }

module _ {S C O : Type 0} (m : MachineMeaning S C O) (way : Way S C O) where
  pub mirrors_more : (sent new : List (free.Packet C)) (from to : ℕ) (message : SnapMsg C) → Kept sent new → MirrorsMessage m way sent from to message →
      MirrorsMessage m way new from to message
  mirrors_more sent new from to (Plain r) k h = k _ h
  mirrors_more sent new from to (Install q) k h = record { entries = h.entries; sent = sent_more k h.sent; piece = h.piece }
  mirrors_more sent new from to (Installed a) k h = k _ h

  pub part_more : (sent new : List (free.Packet C)) (i : ℕ) (part : PartView) → Kept sent new → IsPart m way sent i part → IsPart m way new i part
  part_more sent new i part k p = record { from = p.from; entries = p.entries; sent = sent_more k p.sent; rest = p.rest; is = p.is }

  -- the packet that shows the term of a message
  pub record ShowsTerm (sent : List (free.Packet C)) (from to : ℕ) (message : SnapMsg C) : Type 0 where
    pub shown : free.Message C
    pub there : In (packet from to (snap_term_of message) shown) sent

  pub shows_term : (sent : List (free.Packet C)) (from to : ℕ) (message : SnapMsg C) → MirrorsMessage m way sent from to message → ShowsTerm sent from to message
  shows_term sent from to (Plain r) h = record { shown = _; there = h }
  shows_term sent from to (Install q) h = record { shown = _; there = h.sent.there }
  shows_term sent from to (Installed a) h = record { shown = _; there = h }

-- a piece is of a snapshot that holds at most so many entries
abbrev pub IsKnown : {C : Type 0} → ℕ → SnapMsg C → Type 0
IsKnown n (Plain r) = Unit {0}
IsKnown n (Install q) = q.index ≤ n
IsKnown n (Installed a) = Unit {0}

module _ {S C O : Type 0} (m : MachineMeaning S C O) (way : Way S C O) (n i : ℕ) (P : Entry C → Type 0) (packets : List (free.Packet C)) where
  -- messages of the node i are mirrored
  abbrev pub Is : List (free.Packet C) → ℕ → SnapMsg C → Type 0
  Is sent to message = MirrorsMessage m way sent i to message

  pub mono : (sent new : List (free.Packet C)) (to : ℕ) (message : SnapMsg C) → Kept sent new → Is sent to message → Is new to message
  mono sent new to message k h = mirrors_more m way sent new i to message k h

  abbrev pub notes : List (Entry C) → SnapView S C O → Type 0
  notes es x = x.just ≡ es

  -- a leader sends a node what it has for it
  pub says_one : (front : List (Entry C)) (s : SnapNode S C O) → SnapHolds m way packets i front s → is_leader s.role ≡ true → Knows n s →
      (j : ℕ) → j ≢ i → (sent : List (free.Packet C)) → Does n i P Is sent (up front s) (up front s) ((j, snap_says way s j) ∷ [])
  says_one front s h l knows j ne sent = go (ltb ((peer_at s.peers j).next - 1) s.log.base) refl
    where
      g : IsGone front s.log
      g = record { gone = h.gone; gone_term = h.gone_term }

      prev : ℕ
      prev = (peer_at s.peers j).next - 1

      whole : List (Entry C)
      whole = front ++ s.log.entries

      long : length whole ≡ last_index s.log
      long = whole_length front s.log g

      fits : prev ≤ length whole
      fits = let k = (knows l).next j in omega (arith, long)

      there : In (packet i j s.ballot.term (free.Append 0 0 front s.log.base))
          (packet i j s.ballot.term (free.Append 0 (list.term_at whole 0) (take s.log.base whole) s.log.base) ∷ sent)
      there = inl (rw (term_at_zero whole, take_at front s.log.entries s.log.base h.gone) refl)

      go : (b : Bool) → ltb prev s.log.base ≡ b → Does n i P Is sent (up front s) (up front s) ((j, cond b (Install (piece way s (place_of s.more j))) (Plain (append s j))) ∷ [])
      go true e =
          does_say n i P Is mono (Replicate i j 0 s.log.base s.log.base) j (Install (piece way s (place_of s.more j))) (refl, tt)
          (refl, leads_true _ l, ne, omega arith, omega (arith, h.base, h.behind)) refl
          (record {
            entries = front;
            sent = record { there = there; all = h.gone; last = h.gone_term };
            piece = rw (h.own.snapshot) (is_piece (way.spell s.more.snapshot) (place_of s.more j) MAX_PIECE (h.own.places j));
          })
      go false e =
          let le : s.log.base ≤ prev = ltb-false _ _ e in
          does_say n i P Is mono (Replicate i j prev MAX_BATCH s.commit) j (Plain (append s j)) (refl, tt)
          (refl, leads_true _ l, ne, fits, omega arith) refl
          (inl (rw (whole_term front s.log g prev le, whole_drop front s.log g prev le) refl))

  pub says_known : (front : List (Entry C)) (s : SnapNode S C O) → SnapHolds m way packets i front s → (j : ℕ) → IsKnown s.applied (snap_says way s j)
  says_known front s h j = go (ltb ((peer_at s.peers j).next - 1) s.log.base)
    where
      go : (b : Bool) → IsKnown s.applied (cond b (Install (piece way s (place_of s.more j))) (Plain (append s j)))
      go true = h.base
      go false = tt

  -- what was just applied is noted, and the log is shortened where enough was
  pub shorten : (front : List (Entry C)) (s : SnapNode S C O) (es : List (Entry C)) → SnapHolds m way packets i front s →
      Settled m (OwnSnapshot m way packets i) notes front s es (settles way es s)
  shorten front s es h = go (way.is_due t)
    where
      g : IsGone front s.log
      g = record { gone = h.gone; gone_term = h.gone_term }

      t : SnapNode S C O
      t = with_more s (record s.more { just = es })

      whole : List (Entry C)
      whole = front ++ s.log.entries

      long : length whole ≡ last_index s.log
      long = whole_length front s.log g

      fits : s.applied ≤ length whole
      fits = omega (arith, h.behind, h.committed, long)

      first : List (Entry C)
      first = take s.applied whole

      short : first ++ (shortened s.log s.applied).entries ≡ whole
      short = whole_short front s.log g s.applied h.base

      first_long : length first ≡ s.applied
      first_long = length-take-le s.applied whole fits

      first_term : list.last_term first ≡ term_at s.log s.applied
      first_term =
          rw first_long (same_term s.applied (omega arith) (same_take s.applied whole) ∙ whole_term front s.log g s.applied h.base)

      go : (b : Bool) → Settled m (OwnSnapshot m way packets i) notes front s es (cond b (compacted t) t)
      go false = record {
        after = front;
        is = refl;
        holds = record {
          gone = h.gone;
          gone_term = h.gone_term;
          now = h.now;
          base = h.base;
          behind = h.behind;
          committed = h.committed;
          own = record { snapshot = h.own.snapshot; part = h.own.part; places = h.own.places };
        };
        role = refl;
        last = refl;
        peers = refl;
        did = refl;
        noted = refl;
        applied = refl;
      }
      go true = record {
        after = first;
        is = ap (λ (l : List (Entry C)). record (up front s) { log = l }) short;
        holds = record {
          gone = first_long;
          gone_term = first_term;
          now = rw short h.now;
          base = omega arith;
          behind = h.behind;
          committed = omega (arith, h.behind, h.committed, h.base, length-drop (s.applied - s.log.base) s.log.entries);
          own = record { snapshot = h.now; part = h.own.part; places = λ node. let z = zeros (length s.more.places) node in omega arith };
        };
        role = refl;
        last = omega (arith, h.behind, h.committed, h.base, length-drop (s.applied - s.log.base) s.log.entries);
        peers = refl;
        did = ap (take s.applied) short;
        noted = refl;
        applied = refl;
      }

  pub begins_to_lead : (front : List (Entry C)) (x : SnapView S C O) → OwnSnapshot m way packets i front x → OwnSnapshot m way packets i front ((snap way).leads n x)
  begins_to_lead front x h = record { snapshot = h.snapshot; part = h.part; places = λ node. let z = zeros n node in omega arith }

  abbrev pub snap_law : Law m (snap way) n i P
  snap_law = record {
    Is = Is;
    Own = OwnSnapshot m way packets i;
    notes = notes;
    Fits = IsKnown;
    mono = mono;
    raft = λ sent to r h. h;
    raft_fits = λ applied r. tt;
    says = says_one;
    says_fits = says_known;
    leads = begins_to_lead;
    leads_notes = λ x h. h;
    settles = shorten;
  }

-- of what a node has applied it notes the last entries, and before them it had applied no more than a bound
pub record NotedLast {S C O : Type 0} (bound : ℕ) (front : List (Entry C)) (t : SnapNode S C O) : Type 0 where
  pub long : length t.more.just ≤ t.applied
  pub from : had_applied t ≤ bound
  pub is : drop (had_applied t) (did_all front t) ≡ t.more.just

module _ {S C O : Type 0} (m : MachineMeaning S C O) (way : Way S C O) (n i : ℕ) (P : Entry C → Type 0) (packets : List (free.Packet C)) where
  pub noted_last : (bound : ℕ) (front : List (Entry C)) (t : SnapNode S C O) → Noted (notes m way n i P packets) bound front t → NotedLast bound front t
  noted_last bound front t k = record { long = rw (k.noted) k.long; from = rw (k.noted) k.from; is = rw (k.noted) k.is }
