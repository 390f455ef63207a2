-- Events of one node, one after another.
use Rattle.std.proofs.Common.{◌≡◌, ◌≢◌, ℕ, zero, suc, ◌<◌, ◌≤◌, true, false, List, [], ◌∷◌, ◌++◌, eqb, cond, ◌⊎◌, inl, inr, refl, arith}
use Rattle.std.proofs.lemmas.Bool.Decides.{eqb_tells}
use Rattle.vst_base.specs.declared.entry.Entry.{Entry}
use Rattle.raft_free.specs.Events.{Allowed, Event, In, actor, becomes, says}
use Rattle.raft_free.specs.Nodes.{NodeState, Packet}
use Rattle.raft_free.proofs.Stepping.{in_append}
use Rattle.raft_xform.specs.Sending.{to_others}
use Rattle.raft_safety.proofs.Acting.{Proposes, Steps, in_right}

-- the event is of the node i, and proposes only such entries
abbrev pub IsOf : {C : Type 0} → ℕ → (Entry C → Type 0) → Event C → Type 0
IsOf i P e = (actor e ≡ i) × Proposes P e

-- what was sent is there still
abbrev pub Kept : {C : Type 0} → List (Packet C) → List (Packet C) → Type 0
Kept {C} sent new = (p : Packet C) → In p sent → In p new

-- the node i may go from x to y, and send at least what mirrors these messages
pub record Does {C M : Type 0} (n i : ℕ) (P : Entry C → Type 0) (Is : List (Packet C) → ℕ → M → Type 0) (sent : List (Packet C)) (x y : NodeState C) (out : List (ℕ × M)) : Type 0 where
  pub events : List (Event C)
  pub new : List (Packet C)
  pub steps : Steps n i events sent x new y
  pub said : (p : ℕ × M) → In p out → Is new p.0 p.1
  pub old : Kept sent new
  pub proposed : (e : Event C) → In e events → Proposes P e

steps_then : {C : Type 0} (n i : ℕ) (es fs : List (Event C)) (sent mid new : List (Packet C)) (x y z : NodeState C) → Steps n i es sent x mid y → Steps n i fs mid y new z →
    Steps n i (es ++ fs) sent x new z
steps_then n i [] fs sent mid new x y z s t = rw (← s.0, ← s.1) t
steps_then n i (e ∷ es) fs sent mid new x y z s t = (s.0, s.1, steps_then n i es fs (says x e ++ sent) mid new (becomes x e) y z s.2 t)

one : {C : Type 0} (P : Entry C → Type 0) (e : Event C) → Proposes P e → (f : Event C) → In f (e ∷ []) → Proposes P f
one P e p f (inl q) = rw q p
one P e p f (inr h) = absurd h

module _ {C M : Type 0} (n i : ℕ) (P : Entry C → Type 0) (Is : List (Packet C) → ℕ → M → Type 0) (mono : (sent new : List (Packet C)) (to : ℕ) (message : M) → Kept sent new → Is sent to message → Is new to message) where
  -- it does nothing, and is the same
  pub does_nothing : {sent : List (Packet C)} {x y : NodeState C} → y ≡ x → Does n i P Is sent x y []
  does_nothing {sent = sent} e = record { events = []; new = sent; steps = (refl, e); said = λ p h. absurd h; old = λ p h. h; proposed = λ e h. absurd h }

  -- one event, and what it sends is not asked for
  pub does_one : {sent : List (Packet C)} {x y : NodeState C} (e : Event C) → IsOf i P e → Allowed n sent x e → y ≡ becomes x e → Does n i P Is sent x y []
  does_one {sent = sent} {x = x} e a ok is = record {
    events = e ∷ [];
    new = says x e ++ sent;
    steps = (a.0, ok, (refl, is));
    said = λ p h. absurd h;
    old = λ p h. in_right p (says x e) sent h;
    proposed = one P e a.1;
  }

  -- one event that sends a message
  pub does_say : {sent : List (Packet C)} {x y : NodeState C} (e : Event C) (to : ℕ) (message : M) → IsOf i P e → Allowed n sent x e → y ≡ becomes x e →
      Is (says x e ++ sent) to message → Does n i P Is sent x y ((to, message) ∷ [])
  does_say {sent = sent} {x = x} e to message a ok is says_it = record {
    events = e ∷ [];
    new = says x e ++ sent;
    steps = (a.0, ok, (refl, is));
    said = said;
    old = λ p h. in_right p (says x e) sent h;
    proposed = one P e a.1;
  }
    where
      said : (p : ℕ × M) → In p ((to, message) ∷ []) → Is (says x e ++ sent) p.0 p.1
      said p (inl q) = rw q says_it
      said p (inr h) = absurd h

  pub does_then : {sent : List (Packet C)} {x y z : NodeState C} {out more : List (ℕ × M)} → Does n i P Is sent x y out →
      ((mid : List (Packet C)) → Kept sent mid → Does n i P Is mid y z more) → Does n i P Is sent x z (out ++ more)
  does_then {sent = sent} {x = x} {y = y} {z = z} {out = out} {more = more} d f = record {
    events = d.events ++ e.events;
    new = e.new;
    steps = steps_then n i d.events e.events sent d.new e.new x y z d.steps e.steps;
    said = λ p h. elim (in_append p out more h) [ inl q ↦ mono d.new e.new p.0 p.1 e.old (d.said p q) | inr q ↦ e.said p q ];
    old = λ p h. e.old p (d.old p h);
    proposed = λ g h. elim (in_append g d.events e.events h) [ inl q ↦ d.proposed g q | inr q ↦ e.proposed g q ];
  }
    where
      e : Does n i P Is d.new y z more
      e = f d.new d.old

  -- a message to each other node
  pub does_each : {x : NodeState C} (f : ℕ → M) → ((j : ℕ) → j < n → j ≢ i → (sent : List (Packet C)) → Does n i P Is sent x x ((j, f j) ∷ [])) →
      (k : ℕ) → k ≤ n → (sent : List (Packet C)) → Does n i P Is sent x x (to_others k i f)
  does_each f each zero le sent = does_nothing refl
  does_each {x = x} f each (suc k) le sent = does_then (does_each f each k (omega arith) sent) (λ mid old. go mid (eqb_tells k i))
    where
      go : (mid : List (Packet C)) → ((eqb k i ≡ true) × (k ≡ i)) ⊎ ((eqb k i ≡ false) × (k ≢ i)) → Does n i P Is mid x x (cond (eqb k i) [] ((k, f k) ∷ []))
      go mid (inl t) = rw (t.0) (does_nothing refl)
      go mid (inr t) = rw (t.0) (each k (omega arith) t.1 mid)

  -- the same node, by another account
  pub does_at : {sent : List (Packet C)} {x y z : NodeState C} {out : List (ℕ × M)} → z ≡ y → Does n i P Is sent x y out → Does n i P Is sent x z out
  does_at e d = rw e d
