-- On a network of FIFO channels, what was put at a node and not said yet is in flight from there, in order: the
-- invariant, a lemma for each kind of step, and the induction over schedules.
use Rattle.std.specs.Prelude.{◌≡◌, ◌≢◌, ℕ, zero, suc, ◌-◌, ◌<◌, ◌≤◌, ◌==◌, ◌&&◌, ◌||◌, not, nat_lt, Bool, true, false, List, [], ◌∷◌, ◌++◌, length, take, cond, Option, Some, None, slice_get, refl}
use Rattle.std.proofs.Common.{ap, arith, sym, subst, ◌∙◌, inl, inr}
use Rattle.std.proofs.lemmas.List.{append-nil}
use Rattle.std.proofs.lemmas.Bool.{cases_eq, eq-eqb, ne_eqb}
use Rattle.std.proofs.lemmas.Option.{none-some, same_Some}
use Rattle.lists.specs.Prefixes.{IsPrefix}
use Rattle.vst_base.specs.declared.net.Net.TheVariants as net
use Rattle.vst_base.specs.declared.step.Step.{Step}
use Rattle.vst_base.specs.declared.step.Step.TheVariants as step
use Rattle.vst_base.specs.declared.step.StepRefusal.{StepRefusal}
use Rattle.vst_base.specs.declared.step.StepRefusal.TheVariants as refusal
use Rattle.net_semantics.specs.Worlds.{World, Packet, first_world, change_at, one_less, sent_by}
use Rattle.net_semantics.specs.Steps.{Event, next, refusal_of, items_of_event, delivery, after_event, with_packets, flies_among}
use Rattle.net_semantics.specs.Runs.{IsAllowed, trace, trace_from, first_refused_from, no_recovery}
use Rattle.net_semantics.specs.RunLaws.{place_and_why-none}
use Rattle.vst_base.specs.declared.mirror.MirrorInput.{MirrorInput}
use Rattle.vst_base.specs.declared.mirror.MirrorInput.TheVariants as ask
use Rattle.vst_base.specs.declared.mirror.MirrorOutput.{MirrorOutput}
use Rattle.vst_base.specs.declared.mirror.MirrorMsg.{MirrorMsg}
use Rattle.vst_base.specs.declared.mirror.MirrorMsg.TheVariants as msg
use Rattle.mirror.specs.Mirroring.{mirror, said, nothing}
use Rattle.mirror.specs.Prefix.{MirrorTrace, Mirrors, put_at, said_from}

abbrev MirrorWorld : Type 0
MirrorWorld = World (Unit {0}) (Unit {0}) MirrorMsg

abbrev MirrorPackets : Type 0
MirrorPackets = List (Packet MirrorMsg)

abbrev value_of : MirrorMsg → List ℕ
value_of (msg.Item value) = value

-- what is in flight from a node, in the order of sending
abbrev pending : ℕ → MirrorPackets → List (List ℕ)
pending a [] = []
pending a (p ∷ ps) = cond (p.source == a) (cond (nat_lt 0 p.copies) (value_of p.content ∷ pending a ps) (pending a ps)) (pending a ps)

-- all goes to node 0, each once
abbrev AreFresh : MirrorPackets → Type 0
AreFresh [] = Unit {0}
AreFresh (p ∷ ps) = (p.destination ≡ 0) × (p.copies ≤ 1) × AreFresh ps

-- one value more, of its node alone
abbrev more_of : ℕ → ℕ → List ℕ → List (List ℕ) → List (List ℕ)
more_of a n value values = cond (n == a) (value ∷ values) values

pending-sent : (a n : ℕ) (value : List ℕ) (ps : MirrorPackets) (later : List (List ℕ))
    → pending a (ps ++ sent_by n ((0, msg.Item value) ∷ [])) ++ later ≡ pending a ps ++ more_of a n value later
pending-sent a n value [] later = by-node (n == a) where
  by-node : (b : Bool) → cond b (value ∷ []) [] ++ later ≡ cond b (value ∷ later) later
  by-node true = refl
  by-node false = refl
pending-sent a n value (p ∷ ps) later = by-both (p.source == a) (nat_lt 0 p.copies) (pending a (ps ++ sent_by n ((0, msg.Item value) ∷ []))) (pending a ps) (pending-sent a n value ps later) where
  by-both : (b c : Bool) (xs ys : List (List ℕ)) → xs ++ later ≡ ys ++ more_of a n value later
      → cond b (cond c (value_of p.content ∷ xs) xs) xs ++ later ≡ cond b (cond c (value_of p.content ∷ ys) ys) ys ++ more_of a n value later
  by-both true true xs ys e = ap (λ l. value_of p.content ∷ l) e
  by-both true false xs ys e = e
  by-both false c xs ys e = e

fresh-sent : (n : ℕ) (value : List ℕ) (ps : MirrorPackets) → AreFresh ps → AreFresh (ps ++ sent_by n ((0, msg.Item value) ∷ []))
fresh-sent n value [] h = (refl, omega arith, tt)
fresh-sent n value (p ∷ ps) h = (h.0, h.1, fresh-sent n value ps h.2)

fresh-less : (k : ℕ) (ps : MirrorPackets) → AreFresh ps → AreFresh (change_at one_less k ps)
fresh-less k [] h = tt
fresh-less zero (p ∷ ps) h = (h.0, let c = h.1 in omega arith, h.2)
fresh-less (suc k) (p ∷ ps) h = (h.0, h.1, fresh-less k ps h.2)

fresh-at : (ps : MirrorPackets) (k : ℕ) (q : Packet MirrorMsg) → AreFresh ps → slice_get ps k ≡ Some q → (q.destination ≡ 0) × (q.copies ≤ 1)
fresh-at [] k q h e = absurd (none-some q e)
fresh-at (p ∷ ps) zero q h e = subst (λ (x : Packet MirrorMsg). (x.destination ≡ 0) × (x.copies ≤ 1)) (same_Some p q e) (h.0, h.1)
fresh-at (p ∷ ps) (suc k) q h e = fresh-at ps k q h.2 e

-- a delivery takes nothing from other nodes
pending-other : (a k : ℕ) (ps : MirrorPackets) (q : Packet MirrorMsg) → slice_get ps k ≡ Some q → q.source ≢ a → pending a (change_at one_less k ps) ≡ pending a ps
pending-other a k [] q e ne = refl
pending-other a zero (p ∷ ps) q e ne =
    let other : (p.source == a) ≡ false = ne_eqb p.source a (λ same. ne (ap (λ x. x.source) (sym (same_Some p q e)) ∙ same)) in
    rw other refl
pending-other a (suc k) (p ∷ ps) q e ne = ap (λ l. cond (p.source == a) (cond (nat_lt 0 p.copies) (value_of p.content ∷ l) l) l) (pending-other a k ps q e ne)

-- the first of a node is what was put first
pending-first : (a k : ℕ) (ps : MirrorPackets) (q : Packet MirrorMsg) → AreFresh ps → slice_get ps k ≡ Some q → q.source ≡ a → 0 < q.copies → flies_among (a, 0) (take k ps) ≡ false
    → pending a ps ≡ value_of q.content ∷ pending a (change_at one_less k ps)
pending-first a k [] q h e is copy first = absurd (none-some q e)
pending-first a zero (p ∷ ps) q h e is copy first =
    let same : p ≡ q = same_Some p q e in
    let source : (p.source == a) ≡ true = eq-eqb p.source a (ap (λ x. x.source) same ∙ is) in
    let some : 0 < p.copies = subst (λ (x : Packet MirrorMsg). 0 < x.copies) (sym same) copy in
    let here : nat_lt 0 p.copies ≡ true = flies p.copies some in
    let few = h.1 in
    let gone : nat_lt 0 (p.copies - 1) ≡ false = grounded (p.copies - 1) (omega arith) in
    rw (source, here, gone) (ap (λ (x : Packet MirrorMsg). value_of x.content ∷ pending a ps) same) where
      flies : (n : ℕ) → 0 < n → nat_lt 0 n ≡ true
      flies n lt = grind arith

      grounded : (n : ℕ) → n ≡ 0 → nat_lt 0 n ≡ false
      grounded n e = rw e refl
pending-first a (suc k) (p ∷ ps) q h e is copy first =
    let both = neither ((p.source == a) && ((p.destination == 0) && nat_lt 0 p.copies)) (flies_among (a, 0) (take k ps)) first in
    let rest = pending-first a k ps q h.2 e is copy both.1 in
    let to_node : (p.destination == 0) ≡ true = eq-eqb p.destination 0 h.0 in
    passed-by (p.source == a) (p.destination == 0) (nat_lt 0 p.copies) both.0 to_node rest where
      neither : (b c : Bool) → b || c ≡ false → (b ≡ false) × (c ≡ false)
      neither true c e = (e, absurd (cc (e)))
      neither false c e = (refl, e)

      passed-by : (b d c : Bool) {xs ys : List (List ℕ)} → b && (d && c) ≡ false → d ≡ true → xs ≡ value_of q.content ∷ ys
          → cond b (cond c (value_of p.content ∷ xs) xs) xs ≡ value_of q.content ∷ cond b (cond c (value_of p.content ∷ ys) ys) ys
      passed-by true true true none to e = absurd (cc (none))
      passed-by true true false none to e = e
      passed-by true false c none to e = absurd (cc (to))
      passed-by false d c none to e = e

-- what may be said from here on: a prefix of what is in flight and of what is put later
abbrev MaySay : MirrorPackets → MirrorTrace → Type 0
MaySay ps items = (a : ℕ) → IsPrefix (said_from a items) (pending a ps ++ put_at a items)

-- a value that node 0 says came from a node is the first that is in flight from there
said-one : (a from : ℕ) (m : MirrorMsg) (ps less : MirrorPackets) (tail : MirrorTrace) → (from ≡ a → pending a ps ≡ value_of m ∷ pending a less) → (from ≢ a → pending a ps ≡ pending a less)
    → take (length (said_from a tail)) (pending a less ++ put_at a tail) ≡ said_from a tail
    → take (length (said_from a (items_of_event {I = MirrorInput} (Some (record { node = 0; input = None; effect = said from m })) ++ tail)))
    (pending a ps ++ put_at a (items_of_event {I = MirrorInput} (Some (record { node = 0; input = None; effect = said from m })) ++ tail))
    ≡ said_from a (items_of_event {I = MirrorInput} (Some (record { node = 0; input = None; effect = said from m })) ++ tail)
said-one a from (msg.Item value) ps less tail here there rest = elim (cases_eq from a) [
  | inl same ↦ rw (eq-eqb from a same, here same) (ap (λ l. value ∷ l) rest)
  | inr ne ↦ rw (ne_eqb from a ne, there ne) rest
]

some-none : {A : Type 0} (x : A) → Some x ≡ None → ⊥
some-none x e = none-some x (sym e)

has-copy : (n : ℕ) → nat_lt 0 n ≡ true → 0 < n
has-copy n e = grind arith

module _ (nodes : ℕ) where
  abbrev MirrorEvent : Type 0
  MirrorEvent = Event (Unit {0}) MirrorInput MirrorOutput MirrorMsg

  -- a delivered packet was sent, has a copy, and is the first of its ends
  record IsDelivered (w : MirrorWorld) (k : ℕ) : Type 0 where
    pub packet : Packet MirrorMsg
    pub there : slice_get w.packets k ≡ Some packet
    pub copy : 0 < packet.copies
    pub first : flies_among (packet.source, packet.destination) (take k w.packets) ≡ false

  tested : (up copy flies : Bool) → cond (not up) (Some refusal.NodeDown) (cond (not copy) (Some refusal.NoCopy) (cond (not (not flies)) (Some refusal.NotFirst) None)) ≡ None → (copy ≡ true) × (flies ≡ false)
  tested true true false e = (refl, refl)
  tested true true true e = cc
  tested true false flies e = cc
  tested false copy flies e = cc

  delivered : (w : MirrorWorld) (k : ℕ) (o : Option (Packet MirrorMsg)) → slice_get w.packets k ≡ o → refusal_of net.Ord (mirror nodes) w (step.Deliver k) ≡ None → IsDelivered w k
  delivered w k None e allowed = let clash : Some refusal.NoCopy ≡ None = rw e at allowed in cc
  delivered w k (Some p) e allowed =
      let tests = tested (w.is_up p.destination) (nat_lt 0 p.copies) (flies_among (p.source, p.destination) (take k w.packets)) (rw e at allowed) in
      record { packet = p; there = e; copy = has-copy p.copies tests.0; first = tests.1 }

  -- what a delivery does: node 0 says whose value came
  abbrev says : Packet MirrorMsg → MirrorEvent
  says q = record { node = 0; input = None; effect = said q.source q.content }

  delivery-says : (w : MirrorWorld) (k : ℕ) (q : Packet MirrorMsg) → slice_get w.packets k ≡ Some q → q.destination ≡ 0 → delivery {I = MirrorInput} (mirror nodes) w (slice_get w.packets k) ≡ Some (says q)
  delivery-says w k q there to =
      ap (λ o. delivery {I = MirrorInput} (mirror nodes) w o) there
      ∙ (ap (λ b. Some (record { node = q.destination; input = None; effect = cond b (said q.source q.content) nothing })) (eq-eqb q.destination 0 to)
      ∙ ap (λ d. Some (record { node = d; input = None; effect = said q.source q.content })) to)

  -- the world after a delivery in which this happens, and what may be said from it on
  deliver-may : (w : MirrorWorld) (k : ℕ) (q : Packet MirrorMsg) → AreFresh w.packets → slice_get w.packets k ≡ Some q → q.destination ≡ 0 → 0 < q.copies → flies_among (q.source, q.destination) (take k w.packets) ≡ false
      → (tail : MirrorTrace) → MaySay (change_at one_less k w.packets) tail → MaySay w.packets (items_of_event (Some (says q)) ++ tail)
  deliver-may w k q fresh there to copy first tail rest a =
      let first_of_node : flies_among (q.source, 0) (take k w.packets) ≡ false = subst (λ d. flies_among (q.source, d) (take k w.packets) ≡ false) to first in
      said-one a q.source q.content w.packets (change_at one_less k w.packets) tail
      (λ same. pending-first a k w.packets q fresh there same copy (subst (λ n. flies_among (n, 0) (take k w.packets) ≡ false) same first_of_node))
      (λ ne. sym (pending-other a k w.packets q there ne)) (rest a)

  abbrev MayFrom : MirrorWorld → List (Step MirrorInput) → Type 0
  MayFrom w ss = MaySay w.packets (trace_from (mirror nodes) no_recovery w ss)

  abbrev Allowed : MirrorWorld → List (Step MirrorInput) → Type 0
  Allowed w ss = first_refused_from net.Ord (mirror nodes) no_recovery w ss ≡ None

  abbrev base : MirrorWorld → ℕ → MirrorWorld
  base w k = with_packets w (change_at one_less k w.packets)

  saying : (ss : List (Step MirrorInput)) (w : MirrorWorld) → AreFresh w.packets → Allowed w ss → MayFrom w ss
  saying [] w fresh allowed = λ a. refl
  saying (step.In n (ask.Put value) ∷ ss) w fresh allowed =
      let s : Step MirrorInput = step.In n (ask.Put value) in
      let both = place_and_why-none (refusal_of net.Ord (mirror nodes) w s) (first_refused_from net.Ord (mirror nodes) no_recovery (next (mirror nodes) no_recovery w s) ss) allowed in
      let rest = saying ss (next (mirror nodes) no_recovery w s) (fresh-sent n value w.packets fresh) both.1 in
      λ a.
      let tail : MirrorTrace = trace_from (mirror nodes) no_recovery (next (mirror nodes) no_recovery w s) ss in
      ap (take (length (said_from a tail))) (sym (pending-sent a n value w.packets (put_at a tail))) ∙ rest a
  saying (step.Tick n ∷ ss) w fresh allowed =
      let s : Step MirrorInput = step.Tick n in
      let both = place_and_why-none (refusal_of net.Ord (mirror nodes) w s) (first_refused_from net.Ord (mirror nodes) no_recovery (next (mirror nodes) no_recovery w s) ss) allowed in
      let rest = saying ss (next (mirror nodes) no_recovery w s) (subst AreFresh (sym (append-nil w.packets)) fresh) both.1 in
      subst (λ ps. MaySay ps (trace_from (mirror nodes) no_recovery (next (mirror nodes) no_recovery w s) ss)) (append-nil w.packets) rest
  saying (step.Deliver k ∷ ss) w fresh allowed =
      let s : Step MirrorInput = step.Deliver k in
      let both = place_and_why-none (refusal_of net.Ord (mirror nodes) w s) (first_refused_from net.Ord (mirror nodes) no_recovery (next (mirror nodes) no_recovery w s) ss) allowed in
      let d = delivered w k (slice_get w.packets k) refl both.0 in
      let to : d.packet.destination ≡ 0 = (fresh-at w.packets k d.packet fresh d.there).0 in
      let is = delivery-says w k d.packet d.there to in
      let packets : (after_event (base w k) (delivery {I = MirrorInput} (mirror nodes) w (slice_get w.packets k))).packets ≡ change_at one_less k w.packets =
      ap (λ o. (after_event (base w k) o).packets) is ∙ nothing-sent d.packet.source d.packet.content (change_at one_less k w.packets) in
      let rest = saying ss (next (mirror nodes) no_recovery w s) (subst AreFresh (sym packets) (fresh-less k w.packets fresh)) both.1 in
      let tail : MirrorTrace = trace_from (mirror nodes) no_recovery (next (mirror nodes) no_recovery w s) ss in
      subst (λ (o : Option MirrorEvent). MaySay w.packets (items_of_event o ++ tail)) (sym is)
      (deliver-may w k d.packet fresh d.there to d.copy d.first tail (subst (λ ps. MaySay ps tail) packets rest)) where
        nothing-sent : (from : ℕ) (m : MirrorMsg) (ps : MirrorPackets) → ps ++ sent_by 0 (said from m).sends ≡ ps
        nothing-sent from (msg.Item value) ps = append-nil ps
  saying (step.Dup k ∷ ss) w fresh allowed = absurd (some-none {A = ℕ × StepRefusal} (0, refusal.NotThisNet) allowed)
  saying (step.Lose k ∷ ss) w fresh allowed = absurd (some-none {A = ℕ × StepRefusal} (0, refusal.NotThisNet) allowed)
  saying (step.Crash n ∷ ss) w fresh allowed = absurd (some-none {A = ℕ × StepRefusal} (0, refusal.NotThisNet) allowed)
  saying (step.Reboot n ∷ ss) w fresh allowed = absurd (some-none {A = ℕ × StepRefusal} (0, refusal.NotThisNet) allowed)

pub mirrors : (nodes : ℕ) (ss : List (Step MirrorInput)) → IsAllowed net.Ord (mirror nodes) no_recovery ss → Mirrors (trace (mirror nodes) no_recovery ss)
mirrors nodes ss allowed = saying nodes ss (first_world (mirror nodes)) tt allowed
