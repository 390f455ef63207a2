use Rattle.node_body.specs.FoundLaws.{closed_hides, either, harmless, open_adds}
use Rattle.node_body.specs.GateLaws.{gate_stands}
use Rattle.node_body.proofs.laws.gates_are_exact.Goals as goal

pub returns-clause-hides : goal.returns-clause-hides
returns-clause-hides g c = closed_hides g.C.Commands.stack g.C.Wire.format g.met.C.Wire.is_format

pub returns-clause-adds : goal.returns-clause-adds
returns-clause-adds g c = open_adds g.C.Commands.stack g.C.Wire.format g.met.C.Wire.is_format

pub returns-clause-harmless : goal.returns-clause-harmless
returns-clause-harmless g c = harmless g.C.Commands.stack g.C.Wire.format g.met.C.Wire.is_format

pub returns-clause-either : goal.returns-clause-either
returns-clause-either g c = either g.C.Commands.stack g.C.Wire.format g.met.C.Wire.is_format

pub returns-clause-stands : goal.returns-clause-stands
returns-clause-stands g c = gate_stands g.C.Commands.stack g.C.Wire.format g.met.C.Wire.is_format
