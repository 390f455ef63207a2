-- Which kind of step is made, and at which node or of which packet, from a random word each.
use Rattle.std.specs.Prelude.{ℕ, Bool, false, not, ◌&&◌, ◌%◌, nat_lt, List, [], ◌∷◌, length, get_or, filter, if◌then◌else◌}
use Rattle.std.specs.List.{range_with_len}
use Rattle.handler_trait.specs.Handling.{Meaning}
use Rattle.flight_index.specs.Flights.{numbers_of}
use Rattle.net_semantics.specs.Steps.{is_first}
use Rattle.net_semantics.specs.Worlds.{World, Packet}
use Rattle.vst_base.specs.Nets.{has_kind, keeps_order}
use Rattle.vst_base.specs.declared.net.Net.{Net}
use Rattle.vst_base.specs.declared.step.StepKind.{StepKind}
use Rattle.vst_base.specs.declared.step.StepKind.TheVariants as kind

-- four of sixteen words take an input, seven deliver, and one each does what else there is
abbrev pub drawn_kind : ℕ → StepKind
drawn_kind word =
    get_or (kind.In ∷ kind.In ∷ kind.In ∷ kind.In ∷ kind.Tick ∷ kind.Dup ∷ kind.Lose ∷ kind.Crash ∷ kind.Reboot ∷ []) (word % 16) kind.Deliver

-- the nodes that pass, ascending
abbrev pub nodes_that : {S I O M : Type 0} → Meaning S I O M → (ℕ → Bool) → List ℕ
nodes_that m p = filter p (range_with_len 0 m.nodes)

abbrev pub is_in_flight : {M : Type 0} → Packet M → Bool
is_in_flight p = nat_lt 0 p.copies

-- whether a step of this kind may be taken at node n
abbrev pub may_act : {S K I O M : Type 0} → Meaning S I O M → World S K M → StepKind → ℕ → Bool
may_act m w kind.In n = m.takes_input n && w.is_up n
may_act m w kind.Tick n = w.is_up n
may_act m w kind.Crash n = w.is_up n
may_act m w kind.Reboot n = not (w.is_up n)
may_act m w kind.Dup n = false
may_act m w kind.Lose n = false
may_act m w kind.Deliver n = false

-- those of these packets that may be delivered: each, or, where the network keeps their order, the first in flight of each source and
-- destination
abbrev pub in_turn : {S K M : Type 0} → Net → World S K M → List ℕ → List ℕ
in_turn net w ks = if keeps_order net then filter (is_first w) ks else ks

-- the nodes or packets that a step of this kind may name, ascending
abbrev pub candidates : {S K I O M : Type 0} → Net → Meaning S I O M → World S K M → StepKind → List ℕ
candidates net m w kind.In = nodes_that m (may_act m w kind.In)
candidates net m w kind.Tick = nodes_that m (may_act m w kind.Tick)
candidates net m w kind.Crash = nodes_that m (may_act m w kind.Crash)
candidates net m w kind.Reboot = nodes_that m (may_act m w kind.Reboot)
candidates net m w kind.Dup = numbers_of is_in_flight 0 w.packets
candidates net m w kind.Lose = numbers_of is_in_flight 0 w.packets
candidates net m w kind.Deliver = in_turn net w (numbers_of (λ p. is_in_flight p && w.is_up p.destination) 0 w.packets)

-- whether there is a step of this kind
abbrev pub has_step : {S K I O M : Type 0} → Net → Meaning S I O M → World S K M → StepKind → Bool
has_step net m w k = has_kind net k && nat_lt 0 (length (candidates net m w k))

-- a kind without a step becomes a tick, and a tick without one a reboot
abbrev pub made_kind : {S K I O M : Type 0} → Net → Meaning S I O M → World S K M → StepKind → StepKind
made_kind net m w k =
    if has_step net m w k then k
    else if has_step net m w kind.Tick then kind.Tick
    else kind.Reboot

-- the candidate of this number, counted round
abbrev pub chosen : List ℕ → ℕ → ℕ
chosen cs number = get_or cs (number % length cs) 0
