use Rattle.std.proofs.Common.{arith}
use Rattle.node_body.specs.Bodies.{kept_as}
use Rattle.node_state.proofs.Ends.{added_any}
use Rattle.node_state.proofs.saving.saved_anew.Goals as goal
use Rattle.lists.specs.Places.{take_rest}

pub returns-else-end-eq0-clause-fits : goal.returns-else-end-eq0-clause-fits
returns-else-end-eq0-clause-fits g c =
    added_any g.C.Commands.stack g.C.Wire.format c.args.who.now c.args.end.now c.args.keep (kept_as c.args.term c.args.voted c.args.log.now) c.saved_as_record.result _ (take_rest c.args.keep c.args.log.now)
    (λ none. omega (arith, none, c.if-end-eq0.false)) c.requires.who.nodes.1 c.requires.voted c.saved_as_record.ensures.fits
