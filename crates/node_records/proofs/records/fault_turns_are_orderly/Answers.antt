use Rattle.node_records.proofs.Growing.{record_stops, stops_grow}
use Rattle.node_records.proofs.Turning.{heard_stops, event_stops}
use Rattle.node_records.proofs.records.fault_turns_are_orderly.Goals as goal

pub returns-clause-heard : goal.returns-clause-heard
returns-clause-heard g c = λ settings m. heard_stops settings m g.C.Wire.format g.O.Wire.format

pub returns-clause-event : goal.returns-clause-event
returns-clause-event g c = λ settings m. event_stops settings m g.C.Wire.format g.O.Wire.format

pub returns-clause-grow : goal.returns-clause-grow
returns-clause-grow g c = λ settings m. stops_grow settings m g.C.Wire.format g.O.Wire.format

pub returns-clause-whole : goal.returns-clause-whole
returns-clause-whole g c = λ settings m. record_stops settings m g.C.Wire.format g.O.Wire.format
