use Rattle.std.proofs.Common.{◌≡◌, true, take}
use Rattle.std.specs.List.{flat_map}
use Rattle.node_device.specs.Telling.{WhereTold}
use Rattle.node_datagrams.proofs.Listed.{told_by}
use Rattle.node_datagrams.specs.Configured.{settings_of}
use Rattle.node_datagrams.specs.Saying.{HasSaid, SendsOnly}
use Rattle.node_datagrams.proofs.shipping.ship_replies.Given as goal

abbrev pub invariant-loop-output : goal.invariant-loop-output
invariant-loop-output g l =
    let k = g.D.Device in
    record {
      said : WhereTold (k.told l.initial.device) (k.told l.device)
          (HasSaid (flat_map (told_by (settings_of l.config) g.O.Wire.format) (take l.output-index l.outputs)));
      counts : SendsOnly (k.faults l.initial.device) (k.faults l.device);
      begun : k.begun l.device ≡ true;
    }
