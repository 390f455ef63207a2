use Rattle.std.proofs.Common.{ap, eqb, ◌∙◌}
use Rattle.std.specs.Map.{lookup}
use Rattle.lanes.proofs.Pushes.{follows-nothing, get-entries}
use Rattle.lanes.proofs.lanes.Lanes.new.Goals as goal

pub returns : goal.returns
returns c = follows-nothing _ c.new-2.ensures.items (λ q. get-entries _ q ∙ ap (lookup (eqb q)) c.new.ensures.empty)
