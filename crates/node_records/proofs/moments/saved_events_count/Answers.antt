use Rattle.node_records.proofs.Saved.{event_saves, quiet_saves, saves_grow}
use Rattle.node_records.proofs.moments.saved_events_count.Goals as goal

pub returns-clause-quiet : goal.returns-clause-quiet
returns-clause-quiet g c = λ settings m. quiet_saves settings m g.C.Wire.format g.O.Wire.format

pub returns-clause-event : goal.returns-clause-event
returns-clause-event g c = λ settings m. event_saves settings m g.C.Wire.format g.O.Wire.format

pub returns-clause-grow : goal.returns-clause-grow
returns-clause-grow g c = λ settings m. saves_grow settings m g.C.Wire.format g.O.Wire.format
