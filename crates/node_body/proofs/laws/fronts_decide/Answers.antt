use Rattle.node_body.specs.FrontLaws.{fronts_decide, last_gate_decides, longer_fronts_decide}
use Rattle.node_body.proofs.laws.fronts_decide.Goals as goal

pub returns-clause-slots : goal.returns-clause-slots
returns-clause-slots g c = fronts_decide g.C.Commands.stack g.C.Wire.format g.met.C.Wire.is_format

pub returns-clause-longer : goal.returns-clause-longer
returns-clause-longer g c = longer_fronts_decide g.C.Commands.stack g.C.Wire.format g.met.C.Wire.is_format

pub returns-clause-gates : goal.returns-clause-gates
returns-clause-gates g c = last_gate_decides g.C.Commands.stack g.C.Wire.format
