use Rattle.std.proofs.Common.{sym, subst, ℕ, length, arith, ap, ◌≡◌}
use Rattle.std.specs.Prelude.{slice_get, IfSome}
use Rattle.handler_trait.specs.Facts.{promises_of}
use Rattle.net_semantics.specs.Shown.{IsSoundPacket}
use Rattle.net_semantics.specs.Order.{IsInOrder}
use Rattle.net_semantics.proofs.Taken.{first_sound}
use Rattle.net_semantics.proofs.world.World.new.Goals as goal

pub returns-clause-sound : goal.returns-clause-sound
returns-clause-sound g c = record {
  nodes = c.in_ok-states.ensures.nodes;
  states = first_sound (promises_of g.H.Handlers c.args.handlers) c.in_ok-states.states.items c.in_ok-states.ensures.nodes c.in_ok-states.ensures.first c.in_ok-states.ensures.sound (g.met.H.Handlers.fresh c.args.handlers);
  packets = subst (λ ps. (k : ℕ) → IfSome (slice_get ps k) (IsSoundPacket (g.H.Handlers.meaning c.args.handlers).nodes 0)) (sym c.new.ensures) (λ k. tt);
  few_packets = let e : length c.new.result ≡ 0 = ap length c.new.ensures in omega arith;
  few_steps = omega arith;
  in_order = λ keeps. subst IsInOrder (sym c.new.ensures) (λ j k ahead. absurd (omega (arith, ahead.copy)));
}
