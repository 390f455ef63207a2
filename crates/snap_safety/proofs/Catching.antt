-- A node applies what is committed, and shortens its log; a leader finds what it may commit.
use Rattle.std.proofs.Common.{◌≡◌, ℕ, zero, suc, ◌+◌, ◌-◌, ◌<◌, ◌≤◌, Bool, true, false, List, [], ◌∷◌, ◌++◌, length, take, drop, cond, get_or, replicate, ◌⊎◌, inl, inr, refl, sym, ap, subst, ◌∙◌, arith, length-drop}
use Rattle.std.proofs.lemmas.Bool.{and_parts, ltb-true}
use Rattle.std.proofs.lemmas.List.{drop-take, length-take-le}
use Rattle.std.specs.FinMap.{empty}
use Rattle.vst_base.specs.Machines.{MachineMeaning}
use Rattle.vst_base.specs.declared.entry.Entry.{Entry}
use Rattle.raft_clients.proofs.Once.{applied-append}
use Rattle.raft_clients.specs.Sessions.{AppliedAll, applied_all}
use Rattle.raft_commit.specs.Peers.{matched_of}
use Rattle.raft_free.specs.Events.{Apply, Commit, In}
use Rattle.raft_free.specs.Nodes as free
use Rattle.raft_types.specs.declared.client.RaftOut.{RaftOut}
use Rattle.raft_snapshots.specs.Snapshots.{Snapshot}
use Rattle.raft_snapshots.specs.Applying.{caught_up, committed, due, settled, with_applied}
use Rattle.raft_snapshots.specs.Logs.{advance, last_index, may_commit}
use Rattle.raft_snapshots.specs.Nodes.{Kind, NodeView, RaftEffect}
use Rattle.raft_xform.specs.Nodes.{is_leader}
use Rattle.raft_snapshots.proofs.Fronts.{whole_drop, whole_length, whole_term}
use Rattle.raft_safety.proofs.Advancing.{IsAnswer, replies_answer}
use Rattle.snap_safety.specs.Mirrors.{HoldsNode, all_of, snapshot_of}
use Rattle.snap_safety.proofs.Telling.{Noted, answers_later, did_all, noted_of}
use Rattle.snap_safety.proofs.KindLaws.{Knows, Law, Moves, Settled, at_last, by_one, gone, leads_true, nowhere, on, up}

-- the front of a list is a shorter front and what follows it
pub take_on : {A : Type 0} (a c : ℕ) (xs : List A) → a ≤ c → take c xs ≡ take a xs ++ take (c - a) (drop a xs)
take_on zero c xs h = let e : c - 0 ≡ c = omega arith in rw e refl
take_on (suc a) zero xs h = absurd (omega arith)
take_on {A = A} (suc a) (suc c) [] h = elim (suc c - suc a) as (λ k. [] ≡ take {A = A} k []) [ zero ↦ refl | suc k ↦ refl ]
take_on (suc a) (suc c) (x ∷ xs) h =
    let e : suc c - suc a ≡ c - a = omega arith in
    rw e (ap (λ ys. x ∷ ys) (take_on a c xs (omega arith)))

pub zeros : (n k : ℕ) → ◌≡◌ {A = ℕ} (get_or (replicate n 0) k 0) 0
zeros zero k = refl
zeros (suc n) zero = refl
zeros (suc n) (suc k) = zeros n k

-- the state and the sessions alone
abbrev of_all : {S C O : Type 0} → AppliedAll S C O → Snapshot S O
of_all a = record { state = a.state; sessions = a.sessions }

-- what entries make of a snapshot
abbrev more_of : {S C O : Type 0} → MachineMeaning S C O → List (Entry C) → Snapshot S O → Snapshot S O
more_of m es x = of_all (applied_all m x.state x.sessions es)

module _ {S C O : Type 0} (m : MachineMeaning S C O) where
  pub snapshot_more : (xs ys : List (Entry C)) (x : Snapshot S O) → snapshot_of m xs ≡ x → snapshot_of m (xs ++ ys) ≡ more_of m ys x
  snapshot_more xs ys x e = ap of_all (applied-append m m.init empty xs ys) ∙ ap (more_of m ys) e

module _ {S C O X M : Type 0} {m : MachineMeaning S C O} {kind : Kind S C O X M} {n i : ℕ} {P : Entry C → Type 0} (law : Law m kind n i P) (packets : List (free.Packet C)) where
  -- where what a node does of its own leaves it: it has applied what was due, and may tell what that is answered
  pub record Settles (x : free.NodeState C) (s : NodeView S C O X) (e : RaftEffect S C O X M) : Type 0 where
    pub after : List (Entry C)
    pub does : Moves law packets x (up after e.state) []
    pub holds : HoldsNode m law.Own after e.state
    pub role : e.state.role ≡ s.role
    pub last : last_index e.state.log ≡ last_index s.log
    pub peers : e.state.peers ≡ s.peers
    pub noted : Noted law.notes s.applied after e.state
    pub told : (o : RaftOut O) → In o e.outputs → IsAnswer (all_of m (did_all after e.state)).answers o

  -- what is due is applied
  pub catches_up : (front : List (Entry C)) (s : NodeView S C O X) → HoldsNode m law.Own front s →
      (x : free.NodeState C) → Moves law packets x (up front s) [] → Settles x s (caught_up kind m i s)
  catches_up front s h x d =
      record {
        after = r.after;
        does = at_last law packets r.is (on law packets {out = []} d (by_one law packets (Apply i s.commit) (refl, tt) (λ sent k. (refl, h.behind, omega arith)) refl));
        holds = r.holds;
        role = r.role;
        last = r.last;
        peers = r.peers;
        noted = noted_of law.notes s.applied r.after u (due s) (take s.commit whole) s.commit r.noted r.applied r.did (omega (arith, due_long, h.behind)) (omega (arith, due_long, h.behind))
            (rw (due_first) due_end);
        told = λ o told_it. subst (λ (answers : List (Entry C × O)). IsAnswer answers o) (sym answers_are)
            (answers_later (all_of m (take s.applied whole)).answers (applied_all m s.machine s.sessions (due s)).answers o (replies_answer i _ o told_it));
      }
    where
      t : NodeView S C O X
      t = with_applied m s

      whole : List (Entry C)
      whole = front ++ s.log.entries

      rest : List (Entry C)
      rest = take (s.commit - s.applied) (drop s.applied whole)

      due_is : rest ≡ due s
      due_is = ap (take (s.commit - s.applied)) (whole_drop front s.log (gone law packets front s h) s.applied h.base)

      fits : s.commit ≤ length whole
      fits = omega (arith, h.committed, whole_length front s.log (gone law packets front s h))

      due_long : length (due s) ≡ s.commit - s.applied
      due_long = rw (← due_is) (length-take-le (s.commit - s.applied) (drop s.applied whole) (omega (arith, fits, length-drop s.applied whole)))

      due_first : s.commit - length (due s) ≡ s.applied
      due_first = omega (arith, due_long, h.behind)

      due_end : drop s.applied (take s.commit whole) ≡ due s
      due_end =
          let e : s.applied + (s.commit - s.applied) ≡ s.commit = omega (arith, h.behind) in
          ap (λ k. drop s.applied (take k whole)) (sym e) ∙ (drop-take s.applied (s.commit - s.applied) whole ∙ due_is)

      held : HoldsNode m law.Own front t
      held = record {
        gone = h.gone;
        gone_term = h.gone_term;
        now =
            ap (snapshot_of m) (take_on s.applied s.commit whole h.behind)
            ∙ (snapshot_more m (take s.applied whole) rest (record { state = s.machine; sessions = s.sessions }) h.now
            ∙ ap (λ (es : List (Entry C)). more_of m es (record { state = s.machine; sessions = s.sessions })) due_is);
        base = omega (arith, h.base, h.behind);
        behind = omega arith;
        committed = h.committed;
        own = h.own;
      }

      r : Settled m law.Own law.notes front t (due s) (kind.settles (due s) t)
      r = law.settles front t (due s) held

      u : NodeView S C O X
      u = kind.settles (due s) t

      answers_are : (all_of m (did_all r.after u)).answers ≡ (all_of m (take s.applied whole)).answers ++ (applied_all m s.machine s.sessions (due s)).answers
      answers_are =
          ap (λ (es : List (Entry C)). (all_of m es).answers) (r.did ∙ take_on s.applied s.commit whole h.behind)
          ∙ (ap (λ (a : AppliedAll S C O). a.answers) (applied-append m m.init empty (take s.applied whole) rest)
          ∙ (ap (λ (y : Snapshot S O). (all_of m (take s.applied whole)).answers ++ (applied_all m y.state y.sessions rest).answers) h.now
          ∙ ap (λ (es : List (Entry C)). (all_of m (take s.applied whole)).answers ++ (applied_all m s.machine s.sessions es).answers) due_is))

  -- what a leader finds that it may commit
  finds : (s : NodeView S C O X) (k : ℕ) →
      (advance n i (matched_of s.peers) s.log s.ballot.term s.commit k ≡ s.commit)
      ⊎ ((may_commit n i (matched_of s.peers) s.log s.ballot.term s.commit (advance n i (matched_of s.peers) s.log s.ballot.term s.commit k) ≡ true)
      × (advance n i (matched_of s.peers) s.log s.ballot.term s.commit k ≤ k) × (s.commit < advance n i (matched_of s.peers) s.log s.ballot.term s.commit k))
  finds s zero = inl refl
  finds s (suc k) = go (may s (suc k)) refl (finds s k)
    where
      may : (s : NodeView S C O X) → ℕ → Bool
      may s index = may_commit n i (matched_of s.peers) s.log s.ballot.term s.commit index

      below : ℕ
      below = advance n i (matched_of s.peers) s.log s.ballot.term s.commit k

      go : (b : Bool) → may s (suc k) ≡ b → (below ≡ s.commit) ⊎ ((may s below ≡ true) × (below ≤ k) × (s.commit < below)) →
          (cond b (suc k) below ≡ s.commit) ⊎ ((may s (cond b (suc k) below) ≡ true) × (cond b (suc k) below ≤ suc k) × (s.commit < cond b (suc k) below))
      go true e r = inr (e, omega arith, ltb-true _ _ (and_parts _ _ e).0)
      go false e (inl r) = inl r
      go false e (inr r) = inr (r.0, omega (arith, r.1), r.2)

  -- a leader commits what it may, and applies it
  pub settle : (front : List (Entry C)) (s : NodeView S C O X) → HoldsNode m law.Own front s → is_leader s.role ≡ true →
      (x : free.NodeState C) → Moves law packets x (up front s) [] → Settles x s (settled kind m n i s)
  settle front s h l x d = go (finds s (last_index s.log))
    where
      r : ℕ
      r = advance n i (matched_of s.peers) s.log s.ballot.term s.commit (last_index s.log)

      t : NodeView S C O X
      t = committed n i s

      whole : List (Entry C)
      whole = front ++ s.log.entries

      held : s.commit ≤ r → r ≤ last_index s.log → HoldsNode m law.Own front t
      held more fits = record {
        gone = h.gone;
        gone_term = h.gone_term;
        now = h.now;
        base = h.base;
        behind = omega (arith, h.behind);
        committed = fits;
        own = h.own;
      }

      caught : Moves law packets (up front s) (up front t) [] → s.commit ≤ r → r ≤ last_index s.log →
          Settles x s (settled kind m n i s)
      caught e more fits =
          let c = catches_up front t (held more fits) x (on law packets {out = []} d e) in
          record { after = c.after; does = c.does; holds = c.holds; role = c.role; last = c.last; peers = c.peers; noted = c.noted; told = c.told }

      go : (r ≡ s.commit)
          ⊎ ((may_commit n i (matched_of s.peers) s.log s.ballot.term s.commit r ≡ true) × (r ≤ last_index s.log) × (s.commit < r)) →
          Settles x s (settled kind m n i s)
      go (inl e) =
          caught (nowhere law packets (ap (λ k. record (up front s) { commit = k }) e)) (omega arith) (omega (arith, e, h.committed))
      go (inr f) =
          let g = gone law packets front s h in
          let long = whole_length front s.log g in
          let at : s.log.base ≤ r = omega (arith, h.base, h.behind, f.2) in
          caught (by_one law packets (Commit i r) (refl, tt) (λ sent k. (refl, leads_true _ l, omega (arith, long, f.1), rw (whole_term front s.log g r at) f.0)) refl)
          (omega (arith, f.2)) f.1

  -- what a leader knows of the nodes stays
  pub knows_still : {x : free.NodeState C} (s : NodeView S C O X) (e : RaftEffect S C O X M) → Settles x s e → Knows n s → Knows n e.state
  knows_still s e r k l = rw (r.last, r.peers) (k (rw (r.role) at l))
