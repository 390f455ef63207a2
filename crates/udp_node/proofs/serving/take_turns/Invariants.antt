use Rattle.std.proofs.Common.{◌≡◌, true, IfSome, vec_len}
use Rattle.node_acts.specs.Stores.{Holds}
use Rattle.node_core.specs.Replicas.{IsReady, kept_of, who_of}
use Rattle.node_datagrams.specs.Saying.{SendsOnly}
use Rattle.node_device.specs.Telling.{TellsOn}
use Rattle.udp_node.specs.Serving.{StillTold, Went, WentEach}
use Rattle.node_device.specs.declared.limits.TheConstants.{RECEIVE_BUFFER}
use Rattle.udp_node.proofs.serving.take_turns.Given as goal

abbrev pub invariant-loop : goal.invariant-loop
invariant-loop g l =
    let k = g.D.Device in
    record {
      ready : IsReady g.C.Commands.stack l.node.replica;
      who : l.node.replica.store.who ≡ who_of l.config;
      room : vec_len l.room.received ≡ RECEIVE_BUFFER;
      begun : k.begun l.device ≡ true;
      counts : SendsOnly (k.faults l.initial.device) (k.faults l.device);
      holds : IfSome (k.told l.device) (λ told.
          Holds g.C.Commands.stack g.C.Wire.format l.node.replica.store (kept_of l.node.replica.state) told.disk);
      tells : TellsOn l.counter (k.told l.initial.device) (k.told l.device);
      went : StillTold l.counter (k.told l.initial.device) (k.told l.device)
          (Went g.C.Commands.stack l.config (g.M.Machine.meaning l.raft.machine) g.C.Wire.format g.O.Wire.format l.initial.node.replica l.counter l.node.replica);
      each : StillTold l.counter (k.told l.initial.device) (k.told l.device)
          (WentEach g.C.Commands.stack l.config (g.M.Machine.meaning l.raft.machine) g.C.Wire.format g.O.Wire.format l.counter
          l.initial.node.replica l.node.replica);
    }
