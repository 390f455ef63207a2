use Rattle.std.proofs.Common.{ap, ◌∙◌}
use Rattle.std.specs.Prelude.{slice_get}
use Rattle.flight_index.specs.Turns.{firsts}
use Rattle.flight_index.proofs.Turning.{firsts_are}
use Rattle.flight_index.proofs.turns.TurnIndex.nth_first.Goals as goal

pub returns : goal.returns
returns c = c.nth_in_flight.ensures ∙ ap (λ ks. slice_get ks c.args.i) (firsts_are c.self.invariant) ∙ ap (λ ps. slice_get (firsts ps) c.args.i) c.self.view_is
