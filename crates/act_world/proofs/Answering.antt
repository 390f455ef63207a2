-- What is known where the code finds the node or the packet of a step, and what a step answers.
use Rattle.std.proofs.Common.{◌≡◌, ℕ, ◌<◌, Bool, true, false, Option, Some, None, Result, Ok, Err, slice_get, refl, ap, sym, subst}
use Rattle.std.specs.Prelude.{IsErrAnd, IsSome, is_none, nat_lt, if◌then◌else◌}
use Rattle.std.proofs.lemmas.Bool.{false≢true, ltb-true}
use Rattle.handler_trait.specs.Facts.{RebootPromises}
use Rattle.handler_trait.specs.Handling.{Meaning}
use Rattle.vst_base.specs.declared.step.StepRefusal.{StepRefusal}
use Rattle.vst_base.specs.declared.step.StepRefusal.TheVariants as refusal
use Rattle.net_semantics.specs.declared.fault.StepFault.{StepFault}
use Rattle.net_semantics.specs.declared.fault.StepFault.TheVariants as fault
use Rattle.act_network.specs.declared.step.ActStep.{ActStep}
use Rattle.act_network.specs.ActRefusals.{act_refusal}
use Rattle.act_network.specs.ActWorlds.{ActWorld}
use Rattle.act_network.specs.Disks.{Disks}
use Rattle.act_world.specs.ActViews.{ActView, ShowsAct}
use Rattle.act_world.specs.Flights.{flight_copies, flight_ends}
use Rattle.act_world.specs.Moves.{AnswersAct, TakesAct}
use Rattle.act_world.specs.Refusals.{deliver_along, left_at, to_change, to_deliver, to_go_on, to_start, to_stop, to_take, to_tick, turn_at}
use Rattle.act_world.specs.Views.{FlightView}

none-is : {P : Type 0} (o : Option P) → is_none o ≡ true → o ≡ None
none-is None e = refl
none-is (Some x) e = absurd (false≢true e)

some-is : {P : Type 0} (o : Option P) → is_none o ≡ false → IsSome o
some-is None e = absurd (false≢true (sym e))
some-is (Some x) e = cc

module _ (n node : ℕ) where
  three-true : (a b c : Bool) (x y z : StepRefusal) → Ok node ≡ (if a then (if b then (if c then Ok n else Err x) else Err y) else Err z) →
      (node ≡ n) × (a ≡ true) × (b ≡ true) × (c ≡ true)
  three-true false b c x y z e = cc
  three-true true false c x y z e = cc
  three-true true true false x y z e = cc
  three-true true true true x y z e = (cc, refl, refl, refl)

  four-true : (a t b c : Bool) (v x y z : StepRefusal) → Ok node ≡ (if a then (if t then (if b then (if c then Ok n else Err x) else Err y) else Err v) else Err z) →
      (node ≡ n) × (a ≡ true) × (t ≡ true) × (b ≡ true) × (c ≡ true)
  four-true false t b c v x y z e = cc
  four-true true false b c v x y z e = cc
  four-true true true false c v x y z e = cc
  four-true true true true false v x y z e = cc
  four-true true true true true v x y z e = (cc, refl, refl, refl, refl)

  busy-true : (a b c : Bool) (x y z : StepRefusal) → Ok node ≡ (if a then (if b then (if c then Err x else Ok n) else Err y) else Err z) →
      (node ≡ n) × (a ≡ true) × (b ≡ true) × (c ≡ false)
  busy-true false b c x y z e = cc
  busy-true true false c x y z e = cc
  busy-true true true false x y z e = (cc, refl, refl, refl)
  busy-true true true true x y z e = cc

  two-true : (a b : Bool) (y z : StepRefusal) → Ok node ≡ (if a then (if b then Ok n else Err y) else Err z) → (node ≡ n) × (a ≡ true) × (b ≡ true)
  two-true false b y z e = cc
  two-true true false y z e = cc
  two-true true true y z e = (cc, refl, refl)

  down-true : (a b : Bool) (y z : StepRefusal) → Ok node ≡ (if a then (if b then Err y else Ok n) else Err z) → (node ≡ n) × (a ≡ true) × (b ≡ false)
  down-true false b y z e = cc
  down-true true false y z e = (cc, refl, refl)
  down-true true true y z e = cc

  one-true : (g : Bool) (y : StepRefusal) → Ok node ≡ (if g then Ok n else Err y) → (node ≡ n) × (g ≡ true)
  one-true false y e = cc
  one-true true y e = (cc, refl)

module _ {H S D I A O M X : Type 0} (m : Meaning S I O M) (v : ActView H S D I A O M X) (n node : ℕ) where
  -- a node that begins a turn
  pub record IsIdleAt : Type 0 where
    pub same : node ≡ n
    pub below : n < m.nodes
    pub up : left_at (slice_get v.nodes n) ≡ None
    pub idle : turn_at (slice_get v.nodes n) ≡ None

  pub tick-at : Ok node ≡ to_tick m v n → IsIdleAt
  tick-at e =
      let t = three-true n node (nat_lt n m.nodes) (is_none (left_at (slice_get v.nodes n))) (is_none (turn_at (slice_get v.nodes n))) refusal.NodeBusy refusal.NodeDown refusal.NoSuchNode e in
      record { same = t.0; below = ltb-true n m.nodes t.1; up = none-is (left_at (slice_get v.nodes n)) t.2; idle = none-is (turn_at (slice_get v.nodes n)) t.3 }

  pub take-at : Ok node ≡ to_take m v n → IsIdleAt × (m.takes_input n ≡ true)
  take-at e =
      let t = four-true n node (nat_lt n m.nodes) (m.takes_input n) (is_none (left_at (slice_get v.nodes n))) (is_none (turn_at (slice_get v.nodes n))) refusal.NoInputHere refusal.NodeBusy refusal.NodeDown refusal.NoSuchNode e in
      (record { same = t.0; below = ltb-true n m.nodes t.1; up = none-is (left_at (slice_get v.nodes n)) t.3; idle = none-is (turn_at (slice_get v.nodes n)) t.4 }, t.2)

  pub go_on-at : Ok node ≡ to_go_on m v n → (node ≡ n) × (n < m.nodes) × (left_at (slice_get v.nodes n) ≡ None) × IsSome (turn_at (slice_get v.nodes n))
  go_on-at e =
      let t = busy-true n node (nat_lt n m.nodes) (is_none (left_at (slice_get v.nodes n))) (is_none (turn_at (slice_get v.nodes n))) refusal.NodeIdle refusal.NodeDown refusal.NoSuchNode e in
      (t.0, ltb-true n m.nodes t.1, none-is (left_at (slice_get v.nodes n)) t.2, some-is (turn_at (slice_get v.nodes n)) t.3)

  pub stop-at : Ok node ≡ to_stop m v n → (node ≡ n) × (n < m.nodes) × (left_at (slice_get v.nodes n) ≡ None)
  stop-at e =
      let t = two-true n node (nat_lt n m.nodes) (is_none (left_at (slice_get v.nodes n))) refusal.NodeDown refusal.NoSuchNode e in
      (t.0, ltb-true n m.nodes t.1, none-is (left_at (slice_get v.nodes n)) t.2)

  pub start-at : Ok node ≡ to_start m v n → (node ≡ n) × (n < m.nodes) × IsSome (left_at (slice_get v.nodes n))
  start-at e =
      let t = down-true n node (nat_lt n m.nodes) (is_none (left_at (slice_get v.nodes n))) refusal.NodeUp refusal.NoSuchNode e in
      (t.0, ltb-true n m.nodes t.1, some-is (left_at (slice_get v.nodes n)) t.2)

module _ {H S D I A O M X : Type 0} (v : ActView H S D I A O M X) (k place : ℕ) where
  pub change-at : Ok place ≡ to_change v k → (place ≡ k) × (0 < flight_copies (slice_get v.flights k))
  change-at e =
      let t = one-true k place (nat_lt 0 (flight_copies (slice_get v.flights k))) refusal.NoCopy e in
      (t.0, ltb-true 0 (flight_copies (slice_get v.flights k)) t.1)

  pub record IsDeliveredAt : Type 0 where
    pub same : place ≡ k
    pub flight : FlightView M
    pub there : slice_get v.flights k ≡ Some flight
    pub copy : 0 < flight.packet.copies
    pub up : left_at (slice_get v.nodes flight.packet.destination) ≡ None
    pub idle : turn_at (slice_get v.nodes flight.packet.destination) ≡ None

  deliver-by : (o : Option (FlightView M)) → slice_get v.flights k ≡ o → Ok place ≡ deliver_along v k (flight_ends o) → IsDeliveredAt
  deliver-by None is e = cc
  deliver-by (Some f) is e =
      let copies : flight_copies (slice_get v.flights k) ≡ f.packet.copies = ap flight_copies is in
      let t = three-true k place (is_none (left_at (slice_get v.nodes f.packet.destination))) (nat_lt 0 (flight_copies (slice_get v.flights k)))
      (is_none (turn_at (slice_get v.nodes f.packet.destination))) refusal.NodeBusy refusal.NoCopy refusal.NodeDown e in
      record {
        same = t.0;
        flight = f;
        there = is;
        copy = subst (λ c. 0 < c) copies (ltb-true 0 (flight_copies (slice_get v.flights k)) t.2);
        up = none-is (left_at (slice_get v.nodes f.packet.destination)) t.1;
        idle = none-is (turn_at (slice_get v.nodes f.packet.destination)) t.3;
      }

  pub deliver-at : Ok place ≡ to_deliver v k → IsDeliveredAt
  deliver-at e = deliver-by (slice_get v.flights k) refl e

module _ {H S K D I A O M X : Type 0} (h : RebootPromises S K I O M) (d : Disks K D A X) (s : ActStep I X) (v after : ActView H S D I A O M X) where
  -- what the world says of the step
  abbrev pub First : Option StepRefusal → Type 0
  First why = (w : ActWorld S I O M D A X) → ShowsAct v w → act_refusal h.handlers.meaning w s ≡ why

  pub answers-taken : {T : Type 0} (x : T) → First None → TakesAct h d s v after → after.handlers ≡ v.handlers → AnswersAct {R = T} h d s v after (Ok x)
  answers-taken x tells takes same = record { refused = tells; unchanged = tt; taken = takes; same_handlers = same }

  pub answers-refused : {T : Type 0} (why : StepRefusal) (answer : Result T StepFault) → IsErrAnd answer (λ x. x ≡ fault.Refused why) → First (Some why) → after ≡ v →
      AnswersAct {R = T} h d s v after answer
  answers-refused why (Ok x) is tells same = absurd is
  answers-refused {T = T} why (Err x) is tells same = subst (λ y. AnswersAct {R = T} h d s v after (Err y)) (sym is) (record {
    refused = tells;
    unchanged = λ ne. same;
    taken = tt;
    same_handlers = ap (λ x. x.handlers) same;
  })

  pub answers-memory : {T : Type 0} (answer : Result T StepFault) → IsErrAnd answer (λ x. x ≡ fault.Memory) → First None → after.handlers ≡ v.handlers →
      AnswersAct {R = T} h d s v after answer
  answers-memory (Ok x) is tells same = absurd is
  answers-memory {T = T} (Err x) is tells same = subst (λ y. AnswersAct {R = T} h d s v after (Err y)) (sym is) (record {
    refused = tells;
    unchanged = λ ne. absurd (ne refl);
    taken = tt;
    same_handlers = same;
  })
