use Rattle.node_records.proofs.Turning.{nothing, quiet_turn, event_turn}
use Rattle.node_records.proofs.records.turn_is_record.Goals as goal

pub returns-clause-nothing : goal.returns-clause-nothing
returns-clause-nothing g c = λ settings m. nothing settings m g.C.Wire.format g.O.Wire.format

pub returns-clause-quiet : goal.returns-clause-quiet
returns-clause-quiet g c = λ settings m. quiet_turn settings m g.C.Wire.format g.O.Wire.format

pub returns-clause-event : goal.returns-clause-event
returns-clause-event g c = λ settings m. event_turn settings m g.C.Wire.format g.O.Wire.format
