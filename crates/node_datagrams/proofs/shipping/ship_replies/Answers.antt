use Rattle.std.proofs.Common.{arith}
use Rattle.node_datagrams.proofs.Listed.{told_by, replied_each}
use Rattle.node_datagrams.proofs.Sayings.{counts_both, on_err, says_all, says_more, stops_there}
use Rattle.node_datagrams.specs.Configured.{settings_of}
use Rattle.node_datagrams.proofs.shipping.ship_replies.Goals as goal

pub returns-in_err-ship_reply-clause-stopped : goal.returns-in_err-ship_reply-clause-stopped
returns-in_err-ship_reply-clause-stopped g c =
    let settings = settings_of c.args.config.now in
    rw (replied_each settings g.O.Wire.format c.args.outputs.now)
    (on_err _ _ (stops_there (told_by settings g.O.Wire.format) c.args.outputs.now c.loop-output.output-index _ _ _ c.loop-output.invariant.said c.in_err-ship_reply.ensures.nothing))

pub loop-output-preserved : goal.loop-output-preserved
loop-output-preserved g c = record {
  said = says_more (told_by (settings_of c.args.config.now) g.O.Wire.format) c.args.outputs.now c.loop-output.output-index c.output-item.result _ _ _ (omega arith) c.output-item.is
      c.loop-output.invariant.said c.in_ok-ship_reply.ensures.said;
  counts = counts_both _ _ _ c.loop-output.invariant.counts c.ship_reply.ensures.counts;
  begun = c.ship_reply.ensures.begun;
}

pub returns-clause-said : goal.returns-clause-said
returns-clause-said g c =
    let settings = settings_of c.args.config.now in
    rw (replied_each settings g.O.Wire.format c.args.outputs.now)
    (says_all (told_by settings g.O.Wire.format) c.args.outputs.now c.loop-output.output-index _ _ (omega arith) c.loop-output.invariant.said)
