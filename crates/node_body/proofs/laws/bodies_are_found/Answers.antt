use Rattle.node_body.specs.BaseLaws.{base_is_found}
use Rattle.node_body.specs.WhyLaws.{body_why, no_body}
use Rattle.node_body.proofs.laws.bodies_are_found.Goals as goal

pub returns-clause-bases : goal.returns-clause-bases
returns-clause-bases g c = base_is_found g.C.Commands.stack g.C.Wire.format g.met.C.Commands.short g.met.C.Wire.is_format

pub returns-clause-none : goal.returns-clause-none
returns-clause-none g c = no_body g.C.Commands.stack g.C.Wire.format

pub returns-clause-none_alone : goal.returns-clause-none_alone
returns-clause-none_alone g c = body_why g.C.Commands.stack g.C.Wire.format
