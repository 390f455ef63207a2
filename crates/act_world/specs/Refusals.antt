-- Which node or packet a step is of, or why it is refused, as the code tells it.
use Rattle.std.specs.Prelude.{ℕ, nat_lt, Option, Some, None, is_none, Result, Ok, Err, if◌then◌else◌, slice_get}
use Rattle.handler_trait.specs.Handling.{Meaning}
use Rattle.vst_base.specs.declared.step.StepRefusal.{StepRefusal}
use Rattle.vst_base.specs.declared.step.StepRefusal.TheVariants as refusal
use Rattle.act_world.specs.ActViews.{ActView}
use Rattle.act_world.specs.Flights.{flight_copies, flight_ends}
use Rattle.act_world.specs.declared.act_node.ActNode.{ActNode}
use Rattle.act_world.specs.declared.turn.Turn.{Turn}

abbrev pub left_at : {S D I A O M X : Type 0} → Option (ActNode S D I A O M X) → Option X
left_at None = None
left_at (Some node) = node.left

abbrev pub turn_at : {S D I A O M X : Type 0} → Option (ActNode S D I A O M X) → Option (Turn I A O M)
turn_at None = None
turn_at (Some node) = node.turn

abbrev pub if_exists : {S I O M : Type 0} → Meaning S I O M → ℕ → Result ℕ StepRefusal → Result ℕ StepRefusal
if_exists m n found = if nat_lt n m.nodes then found else Err refusal.NoSuchNode

module _ {H S D I A O M X : Type 0} (v : ActView H S D I A O M X) where
  abbrev pub if_up : ℕ → Result ℕ StepRefusal → Result ℕ StepRefusal
  if_up n found = if is_none (left_at (slice_get v.nodes n)) then found else Err refusal.NodeDown

  abbrev pub if_idle : ℕ → Result ℕ StepRefusal → Result ℕ StepRefusal
  if_idle n found = if is_none (turn_at (slice_get v.nodes n)) then found else Err refusal.NodeBusy

  abbrev pub if_in_flight : ℕ → Result ℕ StepRefusal → Result ℕ StepRefusal
  if_in_flight k found = if nat_lt 0 (flight_copies (slice_get v.flights k)) then found else Err refusal.NoCopy

  -- the packet that is delivered, copied or lost
  abbrev pub deliver_along : ℕ → Option (ℕ × ℕ) → Result ℕ StepRefusal
  deliver_along k None = Err refusal.NoCopy
  deliver_along k (Some e) = if_up e.1 (if_in_flight k (if_idle e.1 (Ok k)))

  abbrev pub to_deliver : ℕ → Result ℕ StepRefusal
  to_deliver k = deliver_along k (flight_ends (slice_get v.flights k))

  abbrev pub to_change : ℕ → Result ℕ StepRefusal
  to_change k = if_in_flight k (Ok k)

module _ {H S D I A O M X : Type 0} (m : Meaning S I O M) (v : ActView H S D I A O M X) where
  -- the node whose timer fires, that takes an input, that goes on, that stops or starts
  abbrev pub to_tick : ℕ → Result ℕ StepRefusal
  to_tick n = if_exists m n (if_up v n (if_idle v n (Ok n)))

  abbrev pub to_take : ℕ → Result ℕ StepRefusal
  to_take n = if_exists m n (if m.takes_input n then if_up v n (if_idle v n (Ok n)) else Err refusal.NoInputHere)

  abbrev pub to_go_on : ℕ → Result ℕ StepRefusal
  to_go_on n = if_exists m n (if_up v n (if is_none (turn_at (slice_get v.nodes n)) then Err refusal.NodeIdle else Ok n))

  abbrev pub to_stop : ℕ → Result ℕ StepRefusal
  to_stop n = if_exists m n (if_up v n (Ok n))

  abbrev pub to_start : ℕ → Result ℕ StepRefusal
  to_start n = if_exists m n (if is_none (left_at (slice_get v.nodes n)) then Err refusal.NodeUp else Ok n)
