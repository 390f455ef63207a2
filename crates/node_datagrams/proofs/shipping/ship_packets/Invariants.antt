use Rattle.std.proofs.Common.{◌≡◌, true, take}
use Rattle.std.specs.List.{flat_map}
use Rattle.node_device.specs.Telling.{WhereTold}
use Rattle.node_run.specs.Events.{packet_to}
use Rattle.node_datagrams.specs.Configured.{settings_of}
use Rattle.node_datagrams.specs.Saying.{HasSaid, SendsOnly}
use Rattle.node_datagrams.proofs.shipping.ship_packets.Given as goal

abbrev pub invariant-loop-to : goal.invariant-loop-to
invariant-loop-to g l =
    let k = g.D.Device in
    record {
      said : WhereTold (k.told l.initial.device) (k.told l.device)
          (HasSaid (flat_map (packet_to (settings_of l.config) g.C.Wire.format) (take l.to-index l.sends)));
      counts : SendsOnly (k.faults l.initial.device) (k.faults l.device);
      begun : k.begun l.device ≡ true;
    }
