use Rattle.node_body.specs.BodyLaws.{body_back, body_is_format, body_one}
use Rattle.node_body.specs.SlotLaws.{sized_is_format}
use Rattle.node_body.proofs.laws.bodies_have_one_spelling.Goals as goal

pub returns-clause-bodies : goal.returns-clause-bodies
returns-clause-bodies g c = body_is_format g.C.Commands.stack g.C.Wire.format g.met.C.Wire.is_format

pub returns-clause-slots : goal.returns-clause-slots
returns-clause-slots g c = sized_is_format

pub returns-clause-reads_back : goal.returns-clause-reads_back
returns-clause-reads_back g c = body_back g.C.Commands.stack g.C.Wire.format g.met.C.Wire.is_format

pub returns-clause-one_spelling : goal.returns-clause-one_spelling
returns-clause-one_spelling g c = body_one g.C.Commands.stack g.C.Wire.format g.met.C.Wire.is_format
