-- What a node tells its clients is what entries that it has applied are answered; what it notes of what it has just applied; and of
-- which snapshots it sends pieces.
use Rattle.std.proofs.Common.{◌≡◌, ◌≢◌, ◌⊎◌, ℕ, zero, suc, ◌-◌, ◌<◌, ◌≤◌, true, false, List, [], ◌∷◌, ◌++◌, length, take, drop, eqb, cond, inl, inr, refl, arith}
use Rattle.std.proofs.lemmas.Bool.Decides.{eqb_tells}
use Rattle.std.proofs.lemmas.List.{drop_all, length-take}
use Rattle.vst_base.specs.declared.entry.Entry.{Entry}
use Rattle.raft_free.specs.Events.{In}
use Rattle.raft_free.proofs.Stepping.{in_append}
use Rattle.raft_types.specs.declared.client.RaftOut.{RaftOut}
use Rattle.raft_types.specs.declared.client.RaftOut.TheVariants as told
use Rattle.raft_xform.specs.Sending.{to_others}
use Rattle.raft_snapshots.specs.Nodes.{NodeView}
use Rattle.raft_safety.proofs.Acting.{in_right}
use Rattle.raft_safety.proofs.Advancing.{IsAnswer}

module _ {C O : Type 0} where
  pub answers_later : (before answers : List (Entry C × O)) (x : RaftOut O) → IsAnswer answers x → IsAnswer (before ++ answers) x
  answers_later before answers (told.Reply client request output) t =
      record { answer = t.answer; one = in_right t.answer before answers t.one; asked = t.asked; by = t.by; whom = t.whom; number = t.number; with_it = t.with_it }
  answers_later before answers (told.NotLeader client request) t = tt
  answers_later before answers (told.Full client request) t = tt

-- another node than i, of so many
abbrev pub IsOther : ℕ → ℕ → ℕ → Type 0
IsOther nodes i node = (node < nodes) × (node ≢ i)

-- these packets of the node i are such, and go to others
abbrev pub AreFit : {M : Type 0} → (M → Type 0) → ℕ → ℕ → List (ℕ × M) → Type 0
AreFit {M} Fits nodes i sends = (p : ℕ × M) → In p sends → IsOther nodes i p.0 × Fits p.1

module _ {M : Type 0} (Fits : M → Type 0) (nodes i : ℕ) where
  pub fit_none : AreFit Fits nodes i []
  fit_none p h = absurd h

  pub fit_one : (to : ℕ) (message : M) → IsOther nodes i to → Fits message → AreFit Fits nodes i ((to, message) ∷ [])
  fit_one to message ne k p (inl e) = rw e (ne, k)
  fit_one to message ne k p (inr h) = absurd h

  pub fit_each : (f : ℕ → M) → ((j : ℕ) → Fits (f j)) → (k : ℕ) → k ≤ nodes → AreFit Fits nodes i (to_others k i f)
  fit_each f all zero le p h = absurd h
  fit_each f all (suc k) le p h =
      elim (in_append p (to_others k i f) (cond (eqb k i) [] ((k, f k) ∷ [])) h) [ inl q ↦ fit_each f all k (omega arith) p q | inr q ↦ last (eqb_tells k i) q ]
    where
      last : ((eqb k i ≡ true) × (k ≡ i)) ⊎ ((eqb k i ≡ false) × (k ≢ i)) → In p (cond (eqb k i) [] ((k, f k) ∷ [])) → IsOther nodes i p.0 × Fits p.1
      last (inl t) = rw (t.0) (λ q. absurd q)
      last (inr t) = rw (t.0) (λ q. fit_one k (f k) (omega arith, t.1) (all k) p q)

module _ {S C O X : Type 0} where
  -- what a node has applied, of the whole log
  abbrev pub did_all : List (Entry C) → NodeView S C O X → List (Entry C)
  did_all front s = take s.applied (front ++ s.log.entries)

  -- the node has noted, as its kind does, what it has just applied: its last entries; before them it had applied no more than a
  -- bound
  pub record Noted (notes : List (Entry C) → X → Type 0) (bound : ℕ) (front : List (Entry C)) (s : NodeView S C O X) : Type 0 where
    pub just : List (Entry C)
    pub noted : notes just s.more
    pub long : length just ≤ s.applied
    pub from : s.applied - length just ≤ bound
    pub is : drop (s.applied - length just) (did_all front s) ≡ just

  pub noted_of : (notes : List (Entry C) → X → Type 0) (bound : ℕ) (front : List (Entry C)) (s : NodeView S C O X) (just did : List (Entry C)) (applied : ℕ) → notes just s.more →
      s.applied ≡ applied → did_all front s ≡ did → length just ≤ applied → applied - length just ≤ bound → drop (applied - length just) did ≡ just → Noted notes bound front s
  noted_of notes bound front s just did applied p q r a b e = record { just = just; noted = p; long = rw q a; from = rw q b; is = rw (r, q) e }

  pub noted_none : (notes : List (Entry C) → X → Type 0) (bound : ℕ) (front : List (Entry C)) (s : NodeView S C O X) → notes [] s.more → s.applied ≤ bound → Noted notes bound front s
  noted_none notes bound front s e le =
      noted_of notes bound front s [] (did_all front s) s.applied e refl refl (omega arith) (omega arith)
      (drop_all (s.applied - 0) (did_all front s) (omega (arith, length-take s.applied (front ++ s.log.entries))))
