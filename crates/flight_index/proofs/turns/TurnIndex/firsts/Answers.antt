use Rattle.std.proofs.Common.{length, ap, ◌∙◌}
use Rattle.flight_index.specs.Turns.{firsts}
use Rattle.flight_index.proofs.Turning.{firsts_are}
use Rattle.flight_index.proofs.turns.TurnIndex.firsts.Goals as goal

pub returns : goal.returns
returns c = c.in_flight.ensures ∙ ap length (firsts_are c.self.invariant) ∙ ap (λ ps. length (firsts ps)) c.self.view_is
