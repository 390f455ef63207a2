-- The node or packet that a made step names has a small number.
use Rattle.std.specs.Prelude.{ℕ, ◌%◌, ◌<◌, ◌≤◌, Bool, true, false, ◌&&◌, List, length, get_or, if◌then◌else◌}
use Rattle.std.proofs.Common.{inl, inr, arith}
use Rattle.std.proofs.lemmas.Bool.{cases_lt}
use Rattle.std.proofs.lemmas.List.{get_or_past}
use Rattle.std.proofs.lemmas.Option.{slice_get_within}
use Rattle.std.specs.List.{filter, range_with_len}
use Rattle.flight_index.specs.Flights.{numbers_of}
use Rattle.handler_trait.specs.Handling.{Meaning}
use Rattle.net_semantics.specs.Steps.{is_first}
use Rattle.net_semantics.specs.Worlds.{World}
use Rattle.schedule_make.specs.Candidates.{candidates, chosen, is_in_flight, may_act}
use Rattle.schedule_make.proofs.Chosen.{filtered-at, node-at, one-at}
use Rattle.vst_base.specs.Nets.{keeps_order}
use Rattle.vst_base.specs.declared.net.Net.{Net}
use Rattle.vst_base.specs.declared.step.StepKind.{StepKind}
use Rattle.vst_base.specs.declared.step.StepKind.TheVariants as kind

-- where no candidate has the number, it is 0
or-zero : (cs : List ℕ) (i most : ℕ) → 0 < most → (i < length cs → get_or cs i 0 < most) → get_or cs i 0 < most
or-zero cs i most some within = elim (cases_lt i (length cs)) [
  | inl inside ↦ within inside
  | inr past ↦ omega (arith, get_or_past cs i 0 past)
]

node-below : (p : ℕ → Bool) (nodes i most : ℕ) → 0 < most → nodes ≤ most → get_or (filter p (range_with_len 0 nodes)) i 0 < most
node-below p nodes i most some few = or-zero (filter p (range_with_len 0 nodes)) i most some (λ inside. omega (arith, (node-at p 0 nodes i inside).below, few))

one-below : {X : Type 0} (p : X → Bool) (xs : List X) (i most : ℕ) → 0 < most → length xs ≤ most → get_or (numbers_of p 0 xs) i 0 < most
one-below p xs i most some few = or-zero (numbers_of p 0 xs) i most some (λ inside.
    let c = one-at p 0 xs i inside in
    omega (arith, c.number, slice_get_within xs c.place c.item c.is, few))

among-below : {X : Type 0} (t : ℕ → Bool) (p : X → Bool) (xs : List X) (i most : ℕ) → 0 < most → length xs ≤ most → get_or (filter t (numbers_of p 0 xs)) i 0 < most
among-below t p xs i most some few = or-zero (filter t (numbers_of p 0 xs)) i most some (λ inside.
    let c = filtered-at t (numbers_of p 0 xs) i inside in
    omega (arith, c.same, one-below p xs c.place most some few))

module _ {S K I O M : Type 0} (net : Net) (m : Meaning S I O M) (w : World S K M) (most : ℕ) (some : 0 < most) (nodes : m.nodes ≤ most) (packets : length w.packets ≤ most) where
  -- the packets that may be delivered, whatever their turn
  abbrev ks : List ℕ
  ks = numbers_of (λ p. is_in_flight p && w.is_up p.destination) 0 w.packets

  pub chosen-below : (k : StepKind) (number : ℕ) → chosen (candidates net m w k) number < most
  chosen-below kind.In number = node-below (may_act m w kind.In) m.nodes (number % length (candidates net m w kind.In)) most some nodes
  chosen-below kind.Tick number = node-below (may_act m w kind.Tick) m.nodes (number % length (candidates net m w kind.Tick)) most some nodes
  chosen-below kind.Crash number = node-below (may_act m w kind.Crash) m.nodes (number % length (candidates net m w kind.Crash)) most some nodes
  chosen-below kind.Reboot number = node-below (may_act m w kind.Reboot) m.nodes (number % length (candidates net m w kind.Reboot)) most some nodes
  chosen-below kind.Dup number = one-below is_in_flight w.packets (number % length (candidates net m w kind.Dup)) most some packets
  chosen-below kind.Lose number = one-below is_in_flight w.packets (number % length (candidates net m w kind.Lose)) most some packets
  chosen-below kind.Deliver number = of (keeps_order net) where
    of : (b : Bool) → chosen (if b then filter (is_first w) ks else ks) number < most
    of true = among-below (is_first w) (λ p. is_in_flight p && w.is_up p.destination) w.packets (number % length (filter (is_first w) ks)) most some packets
    of false = one-below (λ p. is_in_flight p && w.is_up p.destination) w.packets (number % length ks) most some packets
