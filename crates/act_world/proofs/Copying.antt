-- Packets that are copied, lost and delivered, by what the parts of the code do.
use Rattle.std.proofs.Common.{◌≡◌, ℕ, ◌+◌, ◌<◌, [], ◌∷◌, ◌++◌, Some, None, slice_get, refl, ap, sym, subst, ◌∙◌}
use Rattle.std.proofs.lemmas.Option.{same_Some}
use Rattle.handler_trait.specs.Facts.{RebootPromises}
use Rattle.handler_trait.specs.Handling.{Effect, Gathered, IsModest}
use Rattle.handler_trait.specs.declared.handlers.TheConstants.{MAX_SENDS}
use Rattle.vst_base.specs.declared.step.Step.TheVariants as step
use Rattle.vst_base.specs.declared.step.TheConstants.{MAX_STEPS}
use Rattle.net_semantics.specs.Held.{held_less, held_more}
use Rattle.net_semantics.specs.Worlds.{Packet, change_at, one_less, one_more}
use Rattle.net_semantics.proofs.Showing.{packet_of_shown}
use Rattle.act_network.specs.declared.step.ActStep.TheVariants as act
use Rattle.act_network.specs.ActSteps as spec
use Rattle.act_network.specs.ActWorlds.{ActWorld, Came}
use Rattle.act_network.specs.Disks.{Disks}
use Rattle.act_world.specs.ActViews.{ActView, IsSoundAct, ShowsAct}
use Rattle.act_world.specs.Flights.{flight_copies, with_packet}
use Rattle.act_world.specs.Moves.{Begins, Delivers, TakesAct, one_taken, packet_changes, with_flights}
use Rattle.act_world.specs.Refusals.{left_at, turn_at}
use Rattle.act_world.specs.Views.{FlightView}
use Rattle.act_world.proofs.Flying.{flying-there, less-shown, more-shown}
use Rattle.act_world.proofs.Showing.{flying-shown}
use Rattle.act_world.proofs.Sound.{flights-later, flights-less, flights-more, sound-less, sound-packets}
use Rattle.act_world.proofs.Stepping.{begun-leads, begun-sound, shows-taken}

module _ {H S K D I A O M X : Type 0} (h : RebootPromises S K I O M) (d : Disks K D A X) (v : ActView H S D I A O M X) (k : ℕ) (was : IsSoundAct h.handlers v)
    (few : v.taken < MAX_STEPS) (copy : 0 < flight_copies (slice_get v.flights k)) where
  module _ (f : FlightView M) (there : slice_get v.flights k ≡ Some f) where
    abbrev dup-view : ActView H S D I A O M X
    dup-view = packet_changes held_more k (step.Dup f.number) v

    abbrev lose-view : ActView H S D I A O M X
    lose-view = packet_changes held_less k (step.Lose f.number) v

    dup-leads : (w : ActWorld S I O M D A X) → ShowsAct v w → ShowsAct dup-view (spec.copied h.handlers.meaning h.recovery d w k (slice_get w.packets k))
    dup-leads w sh =
        let p = flying-there v.flights w.packets k f sh.flights there in
        subst (λ o. ShowsAct dup-view (spec.copied h.handlers.meaning h.recovery d w k o)) (sym p.1)
        (flying-shown v dup-view w sh (change_at (spec.changed_copies one_more) k w.packets) (w.image ++ step.Dup p.0.number ∷ []) refl
        (more-shown v.flights w.packets k copy sh.flights) (ap (λ xs. xs ++ step.Dup f.number ∷ []) sh.image ∙ ap (λ j. w.image ++ step.Dup j ∷ []) p.2.number) refl refl)

    lose-leads : (w : ActWorld S I O M D A X) → ShowsAct v w → ShowsAct lose-view (spec.lost h.handlers.meaning h.recovery d w k (slice_get w.packets k))
    lose-leads w sh =
        let p = flying-there v.flights w.packets k f sh.flights there in
        subst (λ o. ShowsAct lose-view (spec.lost h.handlers.meaning h.recovery d w k o)) (sym p.1)
        (flying-shown v lose-view w sh (change_at (spec.changed_copies one_less) k w.packets) (w.image ++ step.Lose p.0.number ∷ []) refl
        (less-shown v.flights w.packets k copy sh.flights) (ap (λ xs. xs ++ step.Lose f.number ∷ []) sh.image ∙ ap (λ j. w.image ++ step.Lose j ∷ []) p.2.number) refl refl)

    pub dup-takes : (after : ActView H S D I A O M X) → after ≡ one_taken dup-view → TakesAct h d (act.Dup k) v after
    dup-takes after is = subst (TakesAct h d (act.Dup k) v) (sym is) (record {
      leads = λ w sh. shows-taken dup-view _ (dup-leads w sh);
      counts = refl;
      keeps = sound-packets h.handlers v (one_taken dup-view) was few refl refl refl refl (flights-more h.handlers v.taken k v.flights copy was.flights);
    })

    pub lose-takes : (after : ActView H S D I A O M X) → after ≡ one_taken lose-view → TakesAct h d (act.Lose k) v after
    lose-takes after is = subst (TakesAct h d (act.Lose k) v) (sym is) (record {
      leads = λ w sh. shows-taken lose-view _ (lose-leads w sh);
      counts = refl;
      keeps = sound-packets h.handlers v (one_taken lose-view) was few refl refl refl refl
          (flights-later h.handlers v.taken (change_at (with_packet held_less) k v.flights) (flights-less h.handlers v.taken k v.flights was.flights));
    })

  -- a delivery
  module _ (mid last : ActView H S D I A O M X) (gathered : Gathered O M) (dl : Delivers h.handlers.meaning.message h.handlers.sound k v mid gathered)
      (up : left_at (slice_get v.nodes dl.flight.packet.destination) ≡ None) (idle : turn_at (slice_get v.nodes dl.flight.packet.destination) ≡ None)
      (modest : (s : S) → h.handlers.sound dl.flight.packet.destination s → IsModest h.handlers.meaning.nodes MAX_SENDS (h.handlers.sound dl.flight.packet.destination) h.handlers.spent s
      (h.handlers.meaning.message dl.flight.packet.destination s dl.flight.packet.source dl.content))
      (bg : Begins d h.recovery.keep dl.flight.packet.destination (step.Deliver dl.flight.number) gathered mid last) where
    abbrev base : ActView H S D I A O M X
    base = with_flights v (change_at (with_packet held_less) k v.flights)

    abbrev n : ℕ
    n = dl.flight.packet.destination

    abbrev event : S → Effect S O M
    event s = h.handlers.meaning.message n s dl.flight.packet.source dl.content

    deliver-leads : (w : ActWorld S I O M D A X) → ShowsAct v w → ShowsAct (one_taken last) (spec.delivered h.handlers.meaning h.recovery d w k (slice_get w.packets k))
    deliver-leads w sh =
        let p = flying-there v.flights w.packets k dl.flight sh.flights dl.there in
        let there-copy : 0 < dl.flight.packet.copies = subst (λ o. 0 < flight_copies o) dl.there copy in
        let is = packet_of_shown dl.flight.packet dl.content (Some p.0.packet) there-copy dl.content_is p.2.packet in
        let q : Packet M = record { source = dl.flight.packet.source; destination = n; content = dl.content; copies = dl.flight.packet.copies } in
        let same : p.0.packet ≡ q = same_Some p.0.packet q is in
        let w0 : ActWorld S I O M D A X = spec.with_flying w (change_at (spec.changed_copies one_less) k w.packets) w.image in
        let sh0 : ShowsAct base w0 =
        flying-shown v base w sh (change_at (spec.changed_copies one_less) k w.packets) w.image refl (less-shown v.flights w.packets k copy sh.flights) sh.image refl refl in
        let led = begun-leads h d base mid last n (Came dl.flight.number) event gathered (sound-less h.handlers v k was) few up idle modest dl.happens bg w0 sh0 in
        subst (λ o. ShowsAct (one_taken last) (spec.delivered h.handlers.meaning h.recovery d w k o)) (sym p.1)
        (subst (λ (y : Packet M). ShowsAct (one_taken last) (spec.begun h.handlers.meaning h.recovery d w0 y.destination (Came p.0.number)
        (h.handlers.meaning.message y.destination (w.state y.destination) y.source y.content))) (sym same)
        (subst (λ j. ShowsAct (one_taken last) (spec.begun h.handlers.meaning h.recovery d w0 n (Came j) (event (w.state n)))) p.2.number led))

    pub deliver-takes : (after : ActView H S D I A O M X) → after ≡ one_taken last → last.taken ≡ v.taken → TakesAct h d (act.Deliver k) v after
    deliver-takes after is taken = subst (TakesAct h d (act.Deliver k) v) (sym is) (record {
      leads = deliver-leads;
      counts = ap (λ t. t + 1) taken;
      keeps = begun-sound h d base mid last n (Came dl.flight.number) event gathered (sound-less h.handlers v k was) few up idle modest dl.happens bg;
    })
