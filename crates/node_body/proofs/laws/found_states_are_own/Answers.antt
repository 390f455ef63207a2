use Rattle.node_body.specs.OwnLaws.{own_is_found, stack_is_told}
use Rattle.node_body.proofs.laws.found_states_are_own.Goals as goal

pub returns-clause-own : goal.returns-clause-own
returns-clause-own g c = own_is_found g.C.Commands.stack g.C.Wire.format g.met.C.Wire.is_format

pub returns-clause-stack : goal.returns-clause-stack
returns-clause-stack g c = stack_is_told g.C.Commands.stack g.C.Wire.format g.met.C.Commands.logged
