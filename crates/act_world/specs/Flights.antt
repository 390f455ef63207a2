-- Packets of single acts, as the code keeps them.
use Rattle.std.specs.Prelude.{ℕ, Option, Some, None}
use Rattle.net_semantics.specs.PacketViews.{Shown}
use Rattle.net_semantics.specs.Held.{held_sent}
use Rattle.act_world.specs.Views.{FlightView}

abbrev pub with_packet : {M : Type 0} → (Shown M → Shown M) → FlightView M → FlightView M
with_packet f v = record { packet = f v.packet; number = v.number }

-- a packet that was just sent
abbrev pub flight_sent : {M : Type 0} → ℕ → ℕ → ℕ × M → FlightView M
flight_sent n number s = record { packet = held_sent n s; number = number }

abbrev pub flight_copies : {M : Type 0} → Option (FlightView M) → ℕ
flight_copies None = 0
flight_copies (Some v) = v.packet.copies

abbrev pub flight_ends : {M : Type 0} → Option (FlightView M) → Option (ℕ × ℕ)
flight_ends None = None
flight_ends (Some v) = Some (v.packet.source, v.packet.destination)
