use Rattle.std.specs.FinMap.{len}
use Rattle.snap_state.specs.StateLaws.{sessions_is_format}
use Rattle.snap_state.specs.States.{sessions}
use Rattle.snap_state.specs.TableLaws.{at_most_is_format}
use Rattle.snap_state.proofs.laws.states_have_one_spelling.Goals as goal

pub returns-clause-sessions : goal.returns-clause-sessions
returns-clause-sessions g c = sessions_is_format g.O.Wire.format g.met.O.Wire.is_format

pub returns-clause-few_sessions : goal.returns-clause-few_sessions
returns-clause-few_sessions g c = λ most. at_most_is_format len most (sessions g.O.Wire.format) (sessions_is_format g.O.Wire.format g.met.O.Wire.is_format)
