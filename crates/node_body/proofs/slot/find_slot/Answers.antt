use Rattle.node_body.specs.VoteLaws.{answer_votes}
use Rattle.node_body.proofs.slot.find_slot.Goals as goal

pub returns-clause-voted : goal.returns-clause-voted
returns-clause-voted g c =
    answer_votes g.C.Commands.stack g.C.Wire.format g.met.C.Wire.is_format c.args.who.now c.args.bytes.now c.slot_for.result c.slot_for.ensures
