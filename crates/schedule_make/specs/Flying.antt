-- What a schedule in the making knows of the packets in flight.
use Rattle.std.specs.Prelude.{◌≡◌, ℕ, ◌<◌, ◌≤◌, ◌==◌, true, false, List, length, map, Option, Some, None, IfSome, is_none, get_or, slice_get, slice_set, if◌then◌else◌}
use Rattle.std.specs.List.{list_all}
use Rattle.std.specs.Option.{option_map}
use Rattle.flight_index.specs.Flights.{Flights, is_within}
use Rattle.flight_index.specs.Turns.{is_first}
use Rattle.net_semantics.specs.Worlds.{Packet, World, copies}
use Rattle.vst_base.specs.Nets.{keeps_order}
use Rattle.vst_base.specs.declared.net.Net.{Net}
use Rattle.vst_base.specs.declared.node.TheConstants.{MAX_NODES}
use Rattle.vst_base.specs.declared.step.Step.{Step}
use Rattle.vst_base.specs.declared.step.Step.TheVariants as step
use Rattle.schedule_make.specs.Candidates.{is_in_flight}

-- the destination of a packet while a copy of it is in flight
abbrev pub flight_of : {M : Type 0} → Packet M → Option ℕ
flight_of p = if is_in_flight p then Some p.destination else None

abbrev pub flights_of : {M : Type 0} → List (Packet M) → List (Option ℕ)
flights_of ps = map flight_of ps

-- its ends while a copy of it is in flight
abbrev pub way_of : {M : Type 0} → Packet M → Option (ℕ × ℕ)
way_of p = if is_in_flight p then Some (p.source, p.destination) else None

abbrev pub ways_of : {M : Type 0} → List (Packet M) → List (Option (ℕ × ℕ))
ways_of ps = map way_of ps

-- those of the packets of a network that keeps their order
abbrev pub turns_of : {M : Type 0} → Net → List (Packet M) → Option (List (Option (ℕ × ℕ)))
turns_of net ps = if keeps_order net then Some (ways_of ps) else None

-- where the network keeps the order of packets, it knows the ends of each packet in flight. There no node is down
pub record KnowsTurns {S K M : Type 0} (net : Net) (turns : Option (List (Option (ℕ × ℕ)))) (w : World S K M) : Type 0 where
  pub packets : turns ≡ turns_of net w.packets
  pub up : keeps_order net ≡ true → (n : ℕ) → w.is_up n ≡ true

-- it knows where each packet in flight goes, and which nodes are up. Those that are down have kept something
pub record KnowsFlights {S K M : Type 0} (f : Flights) (w : World S K M) : Type 0 where
  pub packets : f.packets ≡ flights_of w.packets
  pub within : list_all is_within f.packets ≡ true
  pub nodes : length f.up ≡ MAX_NODES
  pub up : (n : ℕ) → n < MAX_NODES → get_or f.up n false ≡ w.is_up n
  pub down : (n : ℕ) → w.is_up n ≡ is_none (w.kept n)

-- what a step did to the packets that were sent before it, as seen in the world after it, and to the nodes
abbrev pub seen : {S K I M : Type 0} → World S K M → Step I → Flights → Flights
seen w (step.Deliver k) f = if copies w k == 0 then record f { packets = slice_set f.packets k None } else f
seen w (step.Lose k) f = if copies w k == 0 then record f { packets = slice_set f.packets k None } else f
seen w (step.Crash n) f = record f { up = slice_set f.up n false }
seen w (step.Reboot n) f = record f { up = slice_set f.up n true }
seen w (step.In n i) f = f
seen w (step.Tick n) f = f
seen w (step.Dup k) f = f

-- the same where the order of packets is kept
abbrev pub seen_in_order : {S K I M : Type 0} → World S K M → Step I → Option (List (Option (ℕ × ℕ))) → Option (List (Option (ℕ × ℕ)))
seen_in_order w (step.Deliver k) turns = if copies w k == 0 then option_map (λ ps. slice_set ps k None) turns else turns
seen_in_order w (step.Lose k) turns = if copies w k == 0 then option_map (λ ps. slice_set ps k None) turns else turns
seen_in_order w (step.In n i) turns = turns
seen_in_order w (step.Tick n) turns = turns
seen_in_order w (step.Dup k) turns = turns
seen_in_order w (step.Crash n) turns = turns
seen_in_order w (step.Reboot n) turns = turns

-- a packet that leaves is the first of its source and destination, where the order of packets is kept
abbrev pub IsInTurn : {I : Type 0} → Option (List (Option (ℕ × ℕ))) → Step I → Type 0
IsInTurn turns (step.Deliver k) = IfSome turns (λ ps. is_first ps k ≡ true)
IsInTurn turns (step.Lose k) = IfSome turns (λ ps. is_first ps k ≡ true)
IsInTurn turns (step.In n i) = Unit {0}
IsInTurn turns (step.Tick n) = Unit {0}
IsInTurn turns (step.Dup k) = Unit {0}
IsInTurn turns (step.Crash n) = Unit {0}
IsInTurn turns (step.Reboot n) = Unit {0}

-- the step names a packet that was sent, or a node that there is
abbrev pub IsWithin : {I : Type 0} → ℕ → Flights → Step I → Type 0
IsWithin nodes f (step.Deliver k) = k < length f.packets
IsWithin nodes f (step.Lose k) = k < length f.packets
IsWithin nodes f (step.Crash n) = n < nodes
IsWithin nodes f (step.Reboot n) = n < nodes
IsWithin nodes f (step.In n i) = Unit {0}
IsWithin nodes f (step.Tick n) = Unit {0}
IsWithin nodes f (step.Dup k) = Unit {0}

-- from this place on each packet has a copy in flight
abbrev pub AreInFlightFrom : {M : Type 0} → ℕ → List (Packet M) → Type 0
AreInFlightFrom before ps = (k : ℕ) → before ≤ k → IfSome (slice_get ps k) (λ p. is_in_flight p ≡ true)
