-- What the definitions are computed on.
use Rattle.std.specs.Prelude.{ℕ, Bool, true, List, [], ◌∷◌, Option}
use Rattle.flight_index.specs.Flights.{Flights}
use Rattle.net_semantics.specs.Echo.{echo_after}
use Rattle.net_semantics.specs.Worlds.{World}
use Rattle.vst_base.specs.declared.step.Step.TheVariants as step

-- two nodes of the small application, of which node 1 has stopped. Packet 0 has come, packet 1 goes to node 1, and two copies of
-- packet 2 go to node 0
abbrev pub half_stopped : World ℕ ℕ ℕ
half_stopped = echo_after (step.In 1 5 ∷ step.Tick 1 ∷ step.Tick 0 ∷ step.Deliver 0 ∷ step.Dup 2 ∷ step.Crash 1 ∷ [])

-- the same two nodes, both stopped
abbrev pub all_stopped : World ℕ ℕ ℕ
all_stopped = echo_after (step.Crash 0 ∷ step.Crash 1 ∷ [])

-- two nodes that are up. Packets 0 and 2 go from node 1 to node 0, and packet 1 from node 0 to itself
abbrev pub two_lanes : World ℕ ℕ ℕ
two_lanes = echo_after (step.In 1 5 ∷ step.Tick 0 ∷ step.In 1 7 ∷ [])

-- the same after packet 0 came
abbrev pub first_came : World ℕ ℕ ℕ
first_came = echo_after (step.In 1 5 ∷ step.Tick 0 ∷ step.In 1 7 ∷ step.Deliver 0 ∷ [])

-- an index of packets that go there, where node 1 is up or is not, and all others are
abbrev pub flights : List (Option ℕ) → Bool → Flights
flights packets up = record { packets = packets; up = true ∷ up ∷ true ∷ true ∷ true ∷ true ∷ true ∷ true ∷ true ∷ [] }
