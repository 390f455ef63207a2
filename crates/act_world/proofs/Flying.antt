-- How the packets that are kept stand for a world's, as one of them changes.
use Rattle.std.proofs.Common.{◌≡◌, ℕ, zero, suc, ◌<◌, List, [], ◌∷◌, ◌++◌, map, Option, Some, None, slice_get, refl, subst, arith}
use Rattle.net_semantics.specs.Worlds.{Packet, change_at, copies_of, ends_of, one_less, one_more}
use Rattle.net_semantics.specs.Held.{held_less, held_more}
use Rattle.net_semantics.specs.PacketViews.{Shown}
use Rattle.net_semantics.specs.Shown.{ShowsPacket}
use Rattle.net_semantics.proofs.Showing.{shown_less, shown_more}
use Rattle.act_network.specs.ActSteps.{changed_copies, sent_now}
use Rattle.act_network.specs.ActWorlds.{Flying, packet_in}
use Rattle.act_world.specs.ActViews.{ShowsFlight, ShowsFlying}
use Rattle.act_world.specs.Flights.{flight_copies, flight_ends, flight_sent, with_packet}
use Rattle.act_world.specs.Views.{FlightView}

module _ {M : Type 0} where
  abbrev pub ShowsFlights : List (FlightView M) → List (Flying M) → Type 0
  ShowsFlights fs ps = (k : ℕ) → ShowsFlight (slice_get fs k) (slice_get ps k)

  pub flights-more : (fs : List (FlightView M)) (ps : List (Flying M)) (f : FlightView M) (p : Flying M) → ShowsFlights fs ps → ShowsFlying f p →
      ShowsFlights (fs ++ f ∷ []) (ps ++ p ∷ [])
  flights-more [] [] f p all one zero = one
  flights-more [] [] f p all one (suc k) = tt
  flights-more [] (q ∷ ps) f p all one k = absurd (all 0)
  flights-more (g ∷ fs) [] f p all one k = absurd (all 0)
  flights-more (g ∷ fs) (q ∷ ps) f p all one zero = all 0
  flights-more (g ∷ fs) (q ∷ ps) f p all one (suc k) = flights-more fs ps f p (λ j. all (suc j)) one k

  pub sent-shown : (n number : ℕ) (s : ℕ × M) → ShowsFlying (flight_sent n number s) (sent_now n number s)
  sent-shown n number s = record { packet = record { source = refl; destination = refl; copies = refl; content = λ _. refl }; number = refl }

  changed-shown : (f : Shown M → Shown M) (g : Packet M → Packet M) → ((p : Shown M) (q : Packet M) → 0 < p.copies → ShowsPacket p q → ShowsPacket (f p) (g q)) →
      (fs : List (FlightView M)) (ps : List (Flying M)) (k : ℕ) → 0 < flight_copies (slice_get fs k) → ShowsFlights fs ps →
      ShowsFlights (change_at (with_packet f) k fs) (change_at (changed_copies g) k ps)
  changed-shown f g keeps [] ps k copy all j = absurd (omega (arith, copy))
  changed-shown f g keeps (x ∷ fs) [] k copy all j = absurd (all 0)
  changed-shown f g keeps (x ∷ fs) (p ∷ ps) zero copy all zero =
      let h : ShowsFlying x p = all 0 in record { packet = keeps x.packet p.packet copy h.packet; number = h.number }
  changed-shown f g keeps (x ∷ fs) (p ∷ ps) zero copy all (suc j) = all (suc j)
  changed-shown f g keeps (x ∷ fs) (p ∷ ps) (suc k) copy all zero = all 0
  changed-shown f g keeps (x ∷ fs) (p ∷ ps) (suc k) copy all (suc j) = changed-shown f g keeps fs ps k copy (λ i. all (suc i)) j

  pub less-shown : (fs : List (FlightView M)) (ps : List (Flying M)) (k : ℕ) → 0 < flight_copies (slice_get fs k) → ShowsFlights fs ps →
      ShowsFlights (change_at (with_packet held_less) k fs) (change_at (changed_copies one_less) k ps)
  less-shown = changed-shown held_less one_less shown_less

  pub more-shown : (fs : List (FlightView M)) (ps : List (Flying M)) (k : ℕ) → 0 < flight_copies (slice_get fs k) → ShowsFlights fs ps →
      ShowsFlights (change_at (with_packet held_more) k fs) (change_at (changed_copies one_more) k ps)
  more-shown = changed-shown held_more one_more shown_more

  -- the packet that stands where this one is kept
  flying-of : (f : FlightView M) (o : Option (Flying M)) → ShowsFlight (Some f) o → (p : Flying M) × (o ≡ Some p) × ShowsFlying f p
  flying-of f None h = absurd h
  flying-of f (Some p) h = (p, refl, h)

  pub flying-there : (fs : List (FlightView M)) (ps : List (Flying M)) (k : ℕ) (f : FlightView M) → ShowsFlights fs ps → slice_get fs k ≡ Some f →
      (p : Flying M) × (slice_get ps k ≡ Some p) × ShowsFlying f p
  flying-there fs ps k f all is = flying-of f (slice_get ps k) (subst (λ o. ShowsFlight o (slice_get ps k)) is (all k))

  -- copies and ends are those of the world
  pub same-copies : (fs : List (FlightView M)) (ps : List (Flying M)) (k : ℕ) → ShowsFlights fs ps → flight_copies (slice_get fs k) ≡ copies_of (slice_get (map packet_in ps) k)
  same-copies [] [] k all = refl
  same-copies [] (p ∷ ps) k all = absurd (all 0)
  same-copies (f ∷ fs) [] k all = absurd (all 0)
  same-copies (f ∷ fs) (p ∷ ps) zero all = let h : ShowsFlying f p = all 0 in h.packet.copies
  same-copies (f ∷ fs) (p ∷ ps) (suc k) all = same-copies fs ps k (λ j. all (suc j))

  pub same-ends : (fs : List (FlightView M)) (ps : List (Flying M)) (k : ℕ) → ShowsFlights fs ps → flight_ends (slice_get fs k) ≡ ends_of (slice_get (map packet_in ps) k)
  same-ends [] [] k all = refl
  same-ends [] (p ∷ ps) k all = absurd (all 0)
  same-ends (f ∷ fs) [] k all = absurd (all 0)
  same-ends (f ∷ fs) (p ∷ ps) zero all = let h : ShowsFlying f p = all 0 in let a = h.packet.source in let b = h.packet.destination in cc
  same-ends (f ∷ fs) (p ∷ ps) (suc k) all = same-ends fs ps k (λ j. all (suc j))
