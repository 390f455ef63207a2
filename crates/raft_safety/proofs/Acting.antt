-- Events of one node, one after another.
use Rattle.std.proofs.Common.{◌≡◌, ◌≢◌, ℕ, zero, suc, ◌<◌, ◌≤◌, true, false, List, [], ◌∷◌, ◌++◌, eqb, cond, ◌⊎◌, inl, inr, refl, sym, ◌∙◌, arith}
use Rattle.std.proofs.lemmas.Bool.Decides.{eqb_tells}
use Rattle.std.proofs.lemmas.Bool.{eq-eqb}
use Rattle.vst_base.specs.declared.entry.Entry.{Entry}
use Rattle.raft_free.specs.Events.{Accept, Allowed, Apply, Ask, Commit, Count, Crash, Event, Grant, In, Lead, Learn, Match, Propose, Reboot, Refuse, Replicate, StepDown, Timeout, actor, becomes, effect, says}
use Rattle.raft_free.specs.Nodes.{FreeWorld, NodeState, Packet}
use Rattle.raft_free.specs.Runs.{Run}
use Rattle.raft_free.proofs.Stepping.{in_append}
use Rattle.raft_types.specs.declared.msg.RaftMsg.{RaftMsg}
use Rattle.raft_xform.specs.Sending.{to_others}
use Rattle.raft_safety.specs.Mirrors.{free_packet}

-- from a node x, where these packets were sent, these events of the node i lead to the node y and to these packets
abbrev pub Steps : {C : Type 0} → ℕ → ℕ → List (Event C) → List (Packet C) → NodeState C → List (Packet C) → NodeState C → Type 0
Steps n i [] sent x new y = (new ≡ sent) × (y ≡ x)
Steps n i (e ∷ es) sent x new y = (actor e ≡ i) × Allowed n sent x e × Steps n i es (says x e ++ sent) (becomes x e) new y

-- the entry, if the event proposes one, is such
abbrev pub Proposes : {C : Type 0} → (Entry C → Type 0) → Event C → Type 0
Proposes P (Timeout i) = Unit {0}
Proposes P (Ask i j) = Unit {0}
Proposes P (Learn i p) = Unit {0}
Proposes P (Grant i c last last_t) = Unit {0}
Proposes P (Refuse i j m) = Unit {0}
Proposes P (Count i v) = Unit {0}
Proposes P (Lead i) = Unit {0}
Proposes P (Propose i e) = P e
Proposes P (Replicate i j prev many commit) = Unit {0}
Proposes P (StepDown i l prev prev_t es commit) = Unit {0}
Proposes P (Accept i l prev prev_t es commit) = Unit {0}
Proposes P (Match i j index) = Unit {0}
Proposes P (Commit i index) = Unit {0}
Proposes P (Apply i index) = Unit {0}
Proposes P (Crash i) = Unit {0}
Proposes P (Reboot i commit applied) = Unit {0}

-- the node i may go from x to y, send at least these messages, and propose only such entries
pub record Does {C : Type 0} (n i : ℕ) (P : Entry C → Type 0) (sent : List (Packet C)) (x y : NodeState C) (out : List (ℕ × RaftMsg C)) : Type 0 where
  pub events : List (Event C)
  pub new : List (Packet C)
  pub steps : Steps n i events sent x new y
  pub said : (p : ℕ × RaftMsg C) → In p out → In (free_packet i p.0 p.1) new
  pub old : (p : Packet C) → In p sent → In p new
  pub proposed : (e : Event C) → In e events → Proposes P e

pub in_left : {X : Type 0} (p : X) (xs ys : List X) → In p xs → In p (xs ++ ys)
in_left p [] ys i = absurd i
in_left p (x ∷ xs) ys (inl e) = inl e
in_left p (x ∷ xs) ys (inr i) = inr (in_left p xs ys i)

pub in_right : {X : Type 0} (p : X) (xs ys : List X) → In p ys → In p (xs ++ ys)
in_right p [] ys i = i
in_right p (x ∷ xs) ys i = inr (in_right p xs ys i)

steps_then : {C : Type 0} (n i : ℕ) (es fs : List (Event C)) (sent mid new : List (Packet C)) (x y z : NodeState C) → Steps n i es sent x mid y → Steps n i fs mid y new z →
    Steps n i (es ++ fs) sent x new z
steps_then n i [] fs sent mid new x y z s t = rw (← s.0, ← s.1) t
steps_then n i (e ∷ es) fs sent mid new x y z s t = (s.0, s.1, steps_then n i es fs (says x e ++ sent) mid new (becomes x e) y z s.2 t)

one : {C : Type 0} (P : Entry C → Type 0) (e : Event C) → Proposes P e → (f : Event C) → In f (e ∷ []) → Proposes P f
one P e p f (inl q) = rw q p
one P e p f (inr h) = absurd h

module _ {C : Type 0} {n i : ℕ} {P : Entry C → Type 0} where
  -- it does nothing, and is the same
  pub does_nothing : {sent : List (Packet C)} {x y : NodeState C} → y ≡ x → Does n i P sent x y []
  does_nothing {sent = sent} e = record { events = []; new = sent; steps = (refl, e); said = λ p h. absurd h; old = λ p h. h; proposed = λ e h. absurd h }

  -- one event, and what it sends is not asked for
  pub does_one : {sent : List (Packet C)} {x y : NodeState C} (e : Event C) → actor e ≡ i → Allowed n sent x e → Proposes P e → y ≡ becomes x e → Does n i P sent x y []
  does_one {sent = sent} {x = x} e a ok p is = record {
    events = e ∷ [];
    new = says x e ++ sent;
    steps = (a, ok, (refl, is));
    said = λ p h. absurd h;
    old = λ p h. in_right p (says x e) sent h;
    proposed = one P e p;
  }

  -- one event that sends a message
  pub does_say : {sent : List (Packet C)} {x y : NodeState C} (e : Event C) (to : ℕ) (message : RaftMsg C) → actor e ≡ i → Allowed n sent x e → Proposes P e → y ≡ becomes x e →
      says x e ≡ free_packet i to message ∷ [] → Does n i P sent x y ((to, message) ∷ [])
  does_say {sent = sent} {x = x} e to message a ok p is says_it = record {
    events = e ∷ [];
    new = says x e ++ sent;
    steps = (a, ok, (refl, is));
    said = said;
    old = λ p h. in_right p (says x e) sent h;
    proposed = one P e p;
  }
    where
      said : (p : ℕ × RaftMsg C) → In p ((to, message) ∷ []) → In (free_packet i p.0 p.1) (says x e ++ sent)
      said p (inl q) = rw (q, says_it) (inl refl)
      said p (inr h) = absurd h

  pub does_then : {sent : List (Packet C)} {x y z : NodeState C} {out more : List (ℕ × RaftMsg C)} → Does n i P sent x y out →
      ((mid : List (Packet C)) → ((p : Packet C) → In p sent → In p mid) → Does n i P mid y z more) → Does n i P sent x z (out ++ more)
  does_then {sent = sent} {x = x} {y = y} {z = z} {out = out} {more = more} d f = record {
    events = d.events ++ e.events;
    new = e.new;
    steps = steps_then n i d.events e.events sent d.new e.new x y z d.steps e.steps;
    said = λ p h. elim (in_append p out more h) [ inl q ↦ e.old _ (d.said p q) | inr q ↦ e.said p q ];
    old = λ p h. e.old p (d.old p h);
    proposed = λ g h. elim (in_append g d.events e.events h) [ inl q ↦ d.proposed g q | inr q ↦ e.proposed g q ];
  }
    where
      e : Does n i P d.new y z more
      e = f d.new d.old

  -- a message to each other node
  pub does_each : {x : NodeState C} (f : ℕ → RaftMsg C) → ((j : ℕ) → j < n → j ≢ i → (sent : List (Packet C)) → Does n i P sent x x ((j, f j) ∷ [])) →
      (m : ℕ) → m ≤ n → (sent : List (Packet C)) → Does n i P sent x x (to_others m i f)
  does_each f each zero le sent = does_nothing refl
  does_each {x = x} f each (suc m) le sent = does_then (does_each f each m (omega arith) sent) (λ mid old. go mid (eqb_tells m i))
    where
      go : (mid : List (Packet C)) → ((eqb m i ≡ true) × (m ≡ i)) ⊎ ((eqb m i ≡ false) × (m ≢ i)) → Does n i P mid x x (cond (eqb m i) [] ((m, f m) ∷ []))
      go mid (inl t) = rw (t.0) (does_nothing refl)
      go mid (inr t) = rw (t.0) (each m (omega arith) t.1 mid)

-- the world that these steps of one node leave
pub record Reaches {C : Type 0} (n i : ℕ) (w : FreeWorld C) (es : List (Event C)) (new : List (Packet C)) (y : NodeState C) : Type 0 where
  pub world : FreeWorld C
  pub run : Run n w es world
  pub sent : world.sent ≡ new
  pub node : world.node i ≡ y
  pub others : (j : ℕ) → j ≢ i → world.node j ≡ w.node j

effect_mine : {C : Type 0} (w : FreeWorld C) (e : Event C) (i : ℕ) → actor e ≡ i → (effect w e).node i ≡ becomes (w.node i) e
effect_mine w e i a = rw (a, eq-eqb i i refl) refl

effect_other : {C : Type 0} (w : FreeWorld C) (e : Event C) (i j : ℕ) → actor e ≡ i → j ≢ i → (effect w e).node j ≡ w.node j
effect_other w e i j a ne = elim (eqb_tells j (actor e)) [ inl t ↦ absurd (ne (t.1 ∙ a)) | inr t ↦ rw (t.0) refl ]

effect_said : {C : Type 0} (w : FreeWorld C) (e : Event C) (i : ℕ) → actor e ≡ i → (effect w e).sent ≡ says (w.node i) e ++ w.sent
effect_said w e i a = rw a refl

pub steps_reach : {C : Type 0} (n i : ℕ) (es : List (Event C)) (w : FreeWorld C) (new : List (Packet C)) (y : NodeState C) → Steps n i es w.sent (w.node i) new y → Reaches n i w es new y
steps_reach n i [] w new y s = record { world = w; run = refl; sent = sym s.0; node = sym s.1; others = λ j ne. refl }
steps_reach n i (e ∷ es) w new y s =
    let r : Reaches n i (effect w e) es new y = steps_reach n i es (effect w e) new y (rw (effect_said w e i s.0, effect_mine w e i s.0) s.2) in
    record {
      world = r.world;
      run = (rw (s.0) s.1, r.run);
      sent = r.sent;
      node = r.node;
      others = λ j ne. r.others j ne ∙ effect_other w e i j s.0 ne;
    }
