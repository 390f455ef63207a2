use Rattle.node_body.specs.VoteLaws.{answer_keeps}
use Rattle.node_body.proofs.body.take_body.Goals as goal

pub returns-clause-keeps : goal.returns-clause-keeps
returns-clause-keeps g c = answer_keeps c.args.stack g.C.Wire.format g.met.C.Wire.is_format c.args.bytes.now c.take_named.result c.take_named.ensures
