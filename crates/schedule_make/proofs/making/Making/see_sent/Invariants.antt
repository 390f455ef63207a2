use Rattle.std.proofs.Common.{◌≡◌, List, length, take, true}
use Rattle.std.specs.List.{list_all}
use Rattle.std.specs.Prelude.{IfSome}
use Rattle.flight_index.specs.Flights.{is_within}
use Rattle.vst_base.specs.declared.net.Net.{Net}
use Rattle.vst_base.specs.declared.step.Step.{Step}
use Rattle.xform_stack.specs.Systems.{world_of}
use Rattle.schedule_make.specs.Flying.{AreInFlightFrom, flights_of, turns_of}
use Rattle.schedule_make.proofs.making.Making.see_sent.Given as goal

-- the packets so far were seen
abbrev pub invariant-loop-k : goal.invariant-loop-k
invariant-loop-k g l =
    let r = g.W.Network in
    record {
      number : length l.self-inside.flights.packets ≡ l.k;
      packets : (ss : List (Step g.row.H-Input.Denot)) → r.follows l.initial.self-inside.network ss
          → AreInFlightFrom l.before (world_of (r.system l.initial.self-inside.network) ss).packets
          → l.initial.self-inside.flights.packets ≡ take l.before (flights_of (world_of (r.system l.initial.self-inside.network) ss).packets)
          → l.self-inside.flights.packets ≡ take l.k (flights_of (world_of (r.system l.initial.self-inside.network) ss).packets);
      many : IfSome l.self-inside.turns (λ ws. length ws ≡ l.k);
      turns : (n : Net) (ss : List (Step g.row.H-Input.Denot)) → r.follows l.initial.self-inside.network ss
          → AreInFlightFrom l.before (world_of (r.system l.initial.self-inside.network) ss).packets
          → l.initial.self-inside.turns ≡ turns_of n (take l.before (world_of (r.system l.initial.self-inside.network) ss).packets)
          → l.self-inside.turns ≡ turns_of n (take l.k (world_of (r.system l.initial.self-inside.network) ss).packets);
      within : list_all is_within l.initial.self-inside.flights.packets ≡ true → list_all is_within l.self-inside.flights.packets ≡ true;
      up : l.self-inside.flights.up ≡ l.initial.self-inside.flights.up;
      network : l.self-inside.network ≡ l.initial.self-inside.network;
      random : l.self-inside.random ≡ l.initial.self-inside.random;
    }
