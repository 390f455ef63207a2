-- One node acts: it and what it sends are as they should be, and all else stays so.
use Rattle.std.proofs.Common.{◌≢◌, ℕ, Option, List, [], ◌∷◌, ◌++◌, ◌⊎◌, inl, inr, refl, arith}
use Rattle.std.proofs.lemmas.Bool.Decides.{eqb_tells}
use Rattle.vst_base.specs.declared.entry.Entry.{Entry}
use Rattle.raft_histories.specs.Histories.{History}
use Rattle.raft_histories.proofs.Bookkeeping.{Aside, Grows, Noted}
use Rattle.raft_free.specs.Events.{Event, In, actor, becomes, effect, put, says}
use Rattle.raft_free.specs.Nodes.{FreeWorld, NodeState, Packet}
use Rattle.raft_free.proofs.Sound.{IsSoundNode, IsSoundWorld, Told, node_grow, told_grow}
use Rattle.lists.specs.Prefixes.{prefix_self}

pub grows_self : {C : Type 0} (g : History C) → Grows g g
grows_self g =
    record { leader_log = λ u. prefix_self (g.leader_log u); candidacy = λ u c log e. e; leader = λ u c e. e; vote = λ u v c e. e; acked = λ u v. omega arith; frozen = λ u v c t e lt. omega arith }

aside_self : {C : Type 0} (j : ℕ) (g : History C) → Aside j g g
aside_self j g = record { apart = record { acked = λ t. omega arith; vote = λ u c e. e; candidacy = λ u log e. e }; leader = λ u e. e; leader_log = λ u e. refl }

pub in_append : {X : Type 0} (p : X) (xs ys : List X) → In p (xs ++ ys) → In p xs ⊎ In p ys
in_append p [] ys i = inr i
in_append p (x ∷ xs) ys (inl e) = inl (inl e)
in_append p (x ∷ xs) ys (inr i) = elim (in_append p xs ys i) [ inl h ↦ inl (inr h) | inr h ↦ inr h ]

put_holds : {C : Type 0} (P : ℕ → NodeState C → Type 0) (f : ℕ → NodeState C) (i : ℕ) (x : NodeState C) → P i x →
    ((j : ℕ) → j ≢ i → P j (f j)) → (j : ℕ) → P j (put f i x j)
put_holds P f i x p q j = elim (eqb_tells j i) [ inl t ↦ rw (t.0, t.1) p | inr t ↦ rw (t.0) (q j t.1) ]

-- what an event leaves
pub record Next {C : Type 0} (m : ℕ) (w : FreeWorld C) (e : Event C) (g : History C) : Type 0 where
  pub history : History C
  pub sound : IsSoundWorld m (effect w e) history
  pub grows : Grows g history

-- of each packet that it sends
abbrev pub SaysTold : {C : Type 0} → ℕ → FreeWorld C → Event C → History C → Type 0
SaysTold m w e h = (p : Packet _) → In p (says (w.node (actor e)) e) → Told m h p.source p.destination p.term p.message

pub next : {C : Type 0} {m : ℕ} {w : FreeWorld C} {g : History C} {term : ℕ} {voted : Option ℕ} {log : List (Entry C)} (e : Event C) (h : History C) → IsSoundWorld m w g →
    Noted m (actor e) g h term voted log → IsSoundNode m h (actor e) (becomes (w.node (actor e)) e) → SaysTold m w e h → Next m w e g
next {m = m} {w = w} {g = g} e h sound noted me said =
    record {
      history = h;
      sound = record {
        past = noted.past;
        node = put_holds (λ j x. IsSoundNode m h j x) w.node (actor e) (becomes (w.node (actor e)) e) me (λ j ne. node_grow sound.past noted.grows (noted.aside j ne) (sound.node j));
        sent = λ p i. elim (in_append p (says (w.node (actor e)) e) w.sent i)
            [ inl h ↦ said p h | inr h ↦ told_grow m p.source p.destination p.term p.message noted.grows (sound.sent p h) ];
      };
      grows = noted.grows;
    }

-- nothing is noted
pub quiet : {C : Type 0} {m : ℕ} {w : FreeWorld C} {g : History C} (e : Event C) → IsSoundWorld m w g →
    IsSoundNode m g (actor e) (becomes (w.node (actor e)) e) → SaysTold m w e g → Next m w e g
quiet {g = g} e sound me said =
    next e g sound (record { past = sound.past; grows = grows_self g; aside = λ j ne. aside_self j g; kept = me.kept }) me said

pub say_none : {C : Type 0} (m : ℕ) (g : History C) (p : Packet C) → In p [] → Told m g p.source p.destination p.term p.message
say_none m g p i = absurd i

pub say_one : {C : Type 0} (m : ℕ) (g : History C) (q : Packet C) → Told m g q.source q.destination q.term q.message → (p : Packet C) →
    In p (q ∷ []) → Told m g p.source p.destination p.term p.message
say_one m g q t p (inl e) = rw e t
say_one m g q t p (inr i) = absurd i
