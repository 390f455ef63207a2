use Rattle.std.proofs.Common.{arith}
use Rattle.node_datagrams.proofs.Listed.{sent_each}
use Rattle.node_run.specs.Events.{packet_to}
use Rattle.node_datagrams.proofs.Sayings.{counts_both, on_err, says_all, says_more, stops_there}
use Rattle.node_datagrams.specs.Configured.{settings_of}
use Rattle.node_datagrams.proofs.shipping.ship_packets.Goals as goal

pub returns-in_err-ship_packet-clause-stopped : goal.returns-in_err-ship_packet-clause-stopped
returns-in_err-ship_packet-clause-stopped g c =
    let settings = settings_of c.args.config.now in
    rw (sent_each settings g.C.Wire.format c.args.sends.now)
    (on_err _ _ (stops_there (packet_to settings g.C.Wire.format) c.args.sends.now c.loop-to.to-index _ _ _ c.loop-to.invariant.said c.in_err-ship_packet.ensures.nothing))

pub loop-to-preserved : goal.loop-to-preserved
loop-to-preserved g c = record {
  said = says_more (packet_to (settings_of c.args.config.now) g.C.Wire.format) c.args.sends.now c.loop-to.to-index c.loop-to-item.result _ _ _ (omega arith) c.loop-to-item.is
      c.loop-to.invariant.said c.in_ok-ship_packet.ensures.said;
  counts = counts_both _ _ _ c.loop-to.invariant.counts c.ship_packet.ensures.counts;
  begun = c.ship_packet.ensures.begun;
}

pub returns-clause-said : goal.returns-clause-said
returns-clause-said g c =
    let settings = settings_of c.args.config.now in
    rw (sent_each settings g.C.Wire.format c.args.sends.now)
    (says_all (packet_to settings g.C.Wire.format) c.args.sends.now c.loop-to.to-index _ _ (omega arith) c.loop-to.invariant.said)
