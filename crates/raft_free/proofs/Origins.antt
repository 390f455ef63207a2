-- Where entries come from: whatever holds of each entry that is proposed holds of each in a log or a message.
use Rattle.std.proofs.Common.{◌≡◌, ℕ, zero, suc, Bool, true, false, List, [], ◌∷◌, take, drop, eqb, cond, ◌⊎◌, inl, inr, refl, sym}
use Rattle.std.proofs.lemmas.Bool.Decides.{eqb_tells}
use Rattle.vst_base.specs.declared.entry.Entry.{Entry}
use Rattle.vst_base.specs.Logs.{merged}
use Rattle.raft_free.specs.Events.{Accept, Allowed, Apply, Ask, Commit, Count, Crash, Event, Grant, In, IsRefusal, Lead, Learn, Match, Propose, Reboot, Refuse, Replicate, StepDown, Timeout, actor, becomes, effect, says}
use Rattle.raft_free.specs.Nodes.{Append, Appended, FreeWorld, Message, Packet, RequestVote, Vote, first_world}
use Rattle.raft_free.specs.Runs.{Run}
use Rattle.raft_free.specs.Safety.{NothingInvented}
use Rattle.raft_free.proofs.Stepping.{in_append}

-- each entry that a message brings has a property
abbrev Brings : {C : Type 0} → (Entry C → Type 0) → Message C → Type 0
Brings P (RequestVote l t) = Unit {0}
Brings P (Vote b) = Unit {0}
Brings {C = C} P (Append p t es c) = (e : Entry C) → In e es → P e
Brings P (Appended b k) = Unit {0}

record Known {C : Type 0} (P : Entry C → Type 0) (w : FreeWorld C) : Type 0 where
  logs : (i : ℕ) (e : Entry C) → In e (w.node i).log → P e
  sent : (p : Packet C) → In p w.sent → Brings P p.message

in_take : {X : Type 0} (p : X) (k : ℕ) (xs : List X) → In p (take k xs) → In p xs
in_take p zero xs i = absurd i
in_take p (suc k) [] i = i
in_take p (suc k) (x ∷ xs) (inl e) = inl e
in_take p (suc k) (x ∷ xs) (inr i) = inr (in_take p k xs i)

in_drop : {X : Type 0} (p : X) (k : ℕ) (xs : List X) → In p (drop k xs) → In p xs
in_drop p zero xs i = i
in_drop p (suc k) [] i = i
in_drop p (suc k) (x ∷ xs) i = inr (in_drop p k xs i)

in_merged : {C : Type 0} (e : Entry C) (old new : List (Entry C)) → In e (merged old new) → In e old ⊎ In e new
in_merged e old [] i = inl i
in_merged e [] (n ∷ ns) i = inr i
in_merged {C = C} e (o ∷ os) (n ∷ ns) i = go (eqb o.term n.term) (in_merged e os ns) i
  where
    go : (b : Bool) → (In e (merged os ns) → In e os ⊎ In e ns) → In e (cond b (o ∷ merged os ns) (n ∷ ns)) → In e (o ∷ os) ⊎ In e (n ∷ ns)
    go true h (inl p) = inl (inl p)
    go true h (inr p) = elim (h p) [ inl q ↦ inl (inr q) | inr q ↦ inr (inr q) ]
    go false h p = inr p

-- the acting node's log afterwards
acts : {C : Type 0} (P : Entry C → Type 0) (n : ℕ) (w : FreeWorld C) (ev : Event C) → Known P w → ((j : ℕ) (e : Entry C) → ev ≡ Propose j e → P e) →
    Allowed n w.sent (w.node (actor ev)) ev → (e : Entry C) → In e (becomes (w.node (actor ev)) ev).log → P e
acts P n w (Timeout i) k own ok e h = k.logs i e h
acts P n w (Ask i j) k own ok e h = k.logs i e h
acts P n w (Learn i p) k own ok e h = k.logs i e h
acts P n w (Grant i c l t) k own ok e h = k.logs i e h
acts P n w (Refuse i j m) k own ok e h = k.logs i e h
acts P n w (Count i v) k own ok e h = k.logs i e h
acts P n w (Lead i) k own ok e h = k.logs i e h
acts P n w (Propose i b) k own ok e h =
    elim (in_append e (w.node i).log (b ∷ []) h)
    [ inl q ↦ k.logs i e q | inr q ↦ elim q [ inl s ↦ rw s (own i b refl) | inr s ↦ absurd s ] ]
acts P n w (Replicate i j p m c) k own ok e h = k.logs i e h
acts P n w (StepDown i l p t es c) k own ok e h = k.logs i e h
acts P n w (Accept i l p t es c) k own ok e h =
    elim (in_append e (take p (w.node i).log) (merged (drop p (w.node i).log) es) h) [
      | inl q ↦ k.logs i e (in_take e p (w.node i).log q)
      | inr q ↦ elim (in_merged e (drop p (w.node i).log) es q) [ inl s ↦ k.logs i e (in_drop e p (w.node i).log s) | inr s ↦ k.sent _ ok.1 e s ]
    ]
acts P n w (Match i j m) k own ok e h = k.logs i e h
acts P n w (Commit i m) k own ok e h = k.logs i e h
acts P n w (Apply i m) k own ok e h = k.logs i e h
acts P n w (Crash i) k own ok e h = k.logs i e h
acts P n w (Reboot i c a) k own ok e h = k.logs i e h

refuses : {C : Type 0} (P : Entry C → Type 0) (m : Message C) → IsRefusal m → Brings P m
refuses P (RequestVote l t) r = tt
refuses P (Vote b) r = tt
refuses P (Append p t es c) r = absurd r
refuses P (Appended b k) r = tt

say : {C : Type 0} (P : Entry C → Type 0) (q : Packet C) → Brings P q.message → (p : Packet C) → In p (q ∷ []) → Brings P p.message
say P q b p (inl e) = rw e b
say P q b p (inr e) = absurd e

speaks : {C : Type 0} (P : Entry C → Type 0) (n : ℕ) (w : FreeWorld C) (ev : Event C) → Known P w → Allowed n w.sent (w.node (actor ev)) ev →
    (p : Packet C) → In p (says (w.node (actor ev)) ev) → Brings P p.message
speaks P n w (Timeout i) k ok p h = absurd h
speaks P n w (Ask i j) k ok p h = say P _ tt p h
speaks P n w (Learn i q) k ok p h = absurd h
speaks P n w (Grant i c l t) k ok p h = say P _ tt p h
speaks P n w (Refuse i j m) k ok p h = say P _ (refuses P m ok.1) p h
speaks P n w (Count i v) k ok p h = absurd h
speaks P n w (Lead i) k ok p h = absurd h
speaks P n w (Propose i b) k ok p h = absurd h
speaks P n w (Replicate i j q m c) k ok p h = say P _ (λ e s. k.logs i e (in_drop e q (w.node i).log (in_take e m (drop q (w.node i).log) s))) p h
speaks P n w (StepDown i l q t es c) k ok p h = absurd h
speaks P n w (Accept i l q t es c) k ok p h = say P _ tt p h
speaks P n w (Match i j m) k ok p h = absurd h
speaks P n w (Commit i m) k ok p h = absurd h
speaks P n w (Apply i m) k ok p h = absurd h
speaks P n w (Crash i) k ok p h = absurd h
speaks P n w (Reboot i c a) k ok p h = absurd h

known_step : {C : Type 0} (P : Entry C → Type 0) (n : ℕ) (w : FreeWorld C) (ev : Event C) → Known P w → ((j : ℕ) (e : Entry C) → ev ≡ Propose j e → P e) →
    Allowed n w.sent (w.node (actor ev)) ev → Known P (effect w ev)
known_step P n w ev k own ok =
    record {
      logs = λ i e. elim (eqb_tells i (actor ev)) [ inl t ↦ rw (t.0) (acts P n w ev k own ok e) | inr t ↦ rw (t.0) (k.logs i e) ];
      sent = λ p h. elim (in_append p (says (w.node (actor ev)) ev) w.sent h) [ inl q ↦ speaks P n w ev k ok p q | inr q ↦ k.sent p q ];
    }

known_run : {C : Type 0} (P : Entry C → Type 0) (n : ℕ) (events : List (Event C)) (v w : FreeWorld C) → Known P v →
    ((j : ℕ) (e : Entry C) → In (Propose j e) events → P e) → Run n v events w → Known P w
known_run P n [] v w k own r = rw r k
known_run P n (ev ∷ es) v w k own r =
    known_run P n es (effect v ev) w (known_step P n v ev k (λ j b e. own j b (inl (sym e))) r.0) (λ j b h. own j b (inr h)) r.1

pub nothing_invented : (C : Type 0) → NothingInvented C
nothing_invented C n w events i e r h =
    (known_run (λ x. (j : ℕ) × In (Propose j x) events) n events (first_world C) w (record { logs = λ i e h. absurd h; sent = λ p h. absurd h }) (λ j b s. (j, s)) r).logs i e h
