use Rattle.std.proofs.Common.{ap, sym, ◌∙◌}
use Rattle.act_world.specs.Turns.{uncounted}
use Rattle.act_world.proofs.world.ActWorld.take_uncounted.Goals as goal

pub returns-in-Some-clause-turn : goal.returns-in-Some-clause-turn
returns-in-Some-clause-turn g c = c.uncounted.ensures ∙ ap uncounted (sym c.in-Some.is ∙ c.take_turn.ensures.turn)

pub returns-in-None-clause-turn : goal.returns-in-None-clause-turn
returns-in-None-clause-turn g c = ap uncounted (sym c.in-None.is ∙ c.take_turn.ensures.turn)
