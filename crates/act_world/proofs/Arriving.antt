-- Deliveries, by what the code does of them.
use Rattle.std.proofs.Common.{◌≡◌, ℕ, ◌+◌, ◌<◌, ◌^◌, length, Option, Some, None, IfSome, slice_get, ap, sym, subst, ◌∙◌}
use Rattle.std.proofs.lemmas.Option.{same_Some}
use Rattle.lists.specs.Options.{of_some}
use Rattle.handler_trait.specs.Facts.{Promises, RebootPromises}
use Rattle.handler_trait.specs.Handling.{Effect, Gathered, IsModest}
use Rattle.handler_trait.specs.declared.handlers.TheConstants.{MAX_SENDS}
use Rattle.net_semantics.specs.Held.{held_less}
use Rattle.net_semantics.specs.Shown.{IsSoundPacket}
use Rattle.net_semantics.specs.Worlds.{change_at}
use Rattle.vst_base.specs.declared.step.Step.TheVariants as step
use Rattle.vst_base.specs.declared.step.TheConstants.{MAX_STEPS}
use Rattle.act_network.specs.Disks.{Disks}
use Rattle.act_network.specs.declared.step.ActStep.TheVariants as act
use Rattle.act_world.specs.ActViews.{ActView, IsSoundAct}
use Rattle.act_world.specs.Flights.{flight_copies, flight_ends, with_packet}
use Rattle.act_world.specs.Moves.{Begins, Delivers, TakesAct, one_taken, with_flights}
use Rattle.act_world.specs.Refusals.{left_at, turn_at}
use Rattle.act_world.specs.Views.{FlightView}
use Rattle.act_world.proofs.Answering.{IsDeliveredAt}
use Rattle.act_world.proofs.Beginning.{begins-handlers, begins-taken, mid-below, mid-fits, mid-handlers, mid-stands, mid-taken}
use Rattle.act_world.proofs.Copying.{deliver-takes}
use Rattle.act_world.proofs.Sound.{sound-less}

-- packets go to nodes that exist
below-by : {M : Type 0} (nodes taken : ℕ) (e : ℕ × ℕ) (o : Option (FlightView M)) → IfSome o (λ f. IsSoundPacket nodes taken f.packet) → flight_ends o ≡ Some e → e.1 < nodes
below-by nodes taken e None all is = cc
below-by nodes taken e (Some f) all is = subst (λ x. x.1 < nodes) (same_Some (f.packet.source, f.packet.destination) e is) all.destination

module _ {H S D I A O M X : Type 0} (p : Promises S I O M) (v : ActView H S D I A O M X) (was : IsSoundAct p v) where
  pub ends-below : (k : ℕ) (e : ℕ × ℕ) → flight_ends (slice_get v.flights k) ≡ Some e → e.1 < p.meaning.nodes
  ends-below k e is = below-by p.meaning.nodes v.taken e (slice_get v.flights k) (was.flights k) is

module _ {H S K D I A O M X : Type 0} (h : RebootPromises S K I O M) (d : Disks K D A X) (v mid : ActView H S D I A O M X) (k place : ℕ) (gathered : Gathered O M)
    (was : IsSoundAct h.handlers v) (few : v.taken < MAX_STEPS) (at : IsDeliveredAt v k place)
    (came : Delivers h.handlers.meaning.message h.handlers.sound place v mid gathered)
    (modest : (n : ℕ) (s : S) (from : ℕ) (m : M) → n < h.handlers.meaning.nodes → from < h.handlers.meaning.nodes → h.handlers.sound n s →
    IsModest h.handlers.meaning.nodes MAX_SENDS (h.handlers.sound n) h.handlers.spent s (h.handlers.meaning.message n s from m)) where
  dl : Delivers h.handlers.meaning.message h.handlers.sound k v mid gathered
  dl = subst (λ j. Delivers h.handlers.meaning.message h.handlers.sound j v mid gathered) at.same came

  same-flight : at.flight ≡ dl.flight
  same-flight = same_Some at.flight dl.flight (sym at.there ∙ dl.there)

  packet : IsSoundPacket h.handlers.meaning.nodes v.taken dl.flight.packet
  packet = of_some (λ x. IsSoundPacket h.handlers.meaning.nodes v.taken x.packet) (slice_get v.flights k) dl.flight dl.there (was.flights k)

  abbrev base : ActView H S D I A O M X
  base = with_flights v (change_at (with_packet held_less) k v.flights)

  abbrev dest : ℕ
  dest = dl.flight.packet.destination

  abbrev event : S → Effect S O M
  event s = h.handlers.meaning.message dest s dl.flight.packet.source dl.content

  event-modest : (s : S) → h.handlers.sound dest s → IsModest h.handlers.meaning.nodes MAX_SENDS (h.handlers.sound dest) h.handlers.spent s (event s)
  event-modest s ok = modest dest s dl.flight.packet.source dl.content packet.destination packet.source ok

  pub come-handlers : mid.handlers ≡ v.handlers
  come-handlers = mid-handlers h.handlers base mid event dest gathered dl.happens (sound-less h.handlers v k was) few

  pub come-taken : mid.taken ≡ v.taken
  come-taken = mid-taken h.handlers base mid event dest gathered dl.happens (sound-less h.handlers v k was) few

  pub come-fits : mid.notes.sent + length gathered.sends < 2 ^ 32
  come-fits = mid-fits h.handlers base mid event dest gathered dl.happens (sound-less h.handlers v k was) few event-modest

  -- of the packet that the code reads
  module _ (f : FlightView M) (there : slice_get v.flights k ≡ Some f) (n : ℕ) (to : n ≡ f.packet.destination) where
    flight-is : f ≡ dl.flight
    flight-is = same_Some f dl.flight (sym there ∙ dl.there)

    node-is : n ≡ dest
    node-is = to ∙ ap (λ x. x.packet.destination) flight-is

    pub come-exists : n < h.handlers.meaning.nodes
    come-exists = subst (λ j. j < h.handlers.meaning.nodes) (sym node-is) packet.destination

    pub come-below : n < length mid.nodes
    come-below =
        subst (λ j. j < length mid.nodes) (sym node-is)
        (mid-below h.handlers base mid event dest gathered dl.happens (sound-less h.handlers v k was) few packet.destination)

    pub come-stands : IfSome (slice_get mid.nodes n) (λ y. h.handlers.sound n y.state)
    come-stands =
        subst (λ j. IfSome (slice_get mid.nodes j) (λ y. h.handlers.sound j y.state)) (sym node-is)
        (mid-stands h.handlers base mid event dest gathered dl.happens (sound-less h.handlers v k was) few)

    module _ (number : ℕ) (number-is : number ≡ f.number) (last : ActView H S D I A O M X) (bg : Begins d h.recovery.keep n (step.Deliver number) gathered mid last) where
      pub last-taken : last.taken ≡ v.taken
      last-taken = ap (λ x. x.taken) bg.after_is ∙ (begins-taken mid n (step.Deliver number) gathered.sends gathered.outputs (d.acts bg.node.disk (h.recovery.keep bg.node.state)) ∙ come-taken)

      pub last-handlers : last.handlers ≡ v.handlers
      last-handlers =
          ap (λ x. x.handlers) bg.after_is ∙ (begins-handlers mid n (step.Deliver number) gathered.sends gathered.outputs (d.acts bg.node.disk (h.recovery.keep bg.node.state)) ∙ come-handlers)

      pub come-takes : (after : ActView H S D I A O M X) → after ≡ one_taken last → TakesAct h d (act.Deliver k) v after
      come-takes after is =
          let up = subst (λ (x : FlightView M). left_at (slice_get v.nodes x.packet.destination) ≡ None) same-flight at.up in
          let idle = subst (λ (x : FlightView M). turn_at (slice_get v.nodes x.packet.destination) ≡ None) same-flight at.idle in
          let copy : 0 < flight_copies (slice_get v.flights k) = subst (λ o. 0 < flight_copies o) (sym at.there) at.copy in
          let here = subst (λ j. Begins d h.recovery.keep j (step.Deliver number) gathered mid last) node-is bg in
          let numbered = subst (λ j. Begins d h.recovery.keep dest (step.Deliver j) gathered mid last) (number-is ∙ ap (λ x. x.number) flight-is) here in
          deliver-takes h d v k was few copy mid last gathered dl up idle event-modest numbered after is last-taken
