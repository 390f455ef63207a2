use Rattle.std.proofs.Common.{◌≡◌, ◌≤◌, ◌+◌, arith}
use Rattle.node_state.proofs.Stopping.{on_err}
use Rattle.udp_node.proofs.Clock.{tells_both, tells_more, tells_same}
use Rattle.udp_node.proofs.Counting.{ran_after, ran_err, sends_none, sends_twice}
use Rattle.udp_node.proofs.Served.{told_each, told_halts, told_halts_at_once, told_halts_each, told_halts_each_at_once, told_none, told_nowhere, told_on}
use Rattle.udp_node.proofs.serving.take_turns.Goals as goal

pub returns-in_err-room-clause-halted : goal.returns-in_err-room-clause-halted
returns-in_err-room-clause-halted g c =
    on_err _ _ (told_halts_at_once g.C.Commands.stack c.args.config.now (g.M.Machine.meaning c.args.raft.now.machine) g.C.Wire.format g.O.Wire.format
    c.args.node.replica c.args.turns _
    (told_nowhere g.C.Commands.stack c.args.config.now (g.M.Machine.meaning c.args.raft.now.machine) g.C.Wire.format g.O.Wire.format
    c.args.node.replica c.requires.who _ c.requires.holds))

pub loop-init : goal.loop-init
loop-init g c = record {
  ready = c.requires.ready;
  who = c.requires.who;
  room = c.in_ok-room.ensures.received;
  begun = c.requires.begun;
  counts = sends_none _;
  holds = c.requires.holds;
  tells = tells_same _;
  went = told_nowhere g.C.Commands.stack c.args.config.now (g.M.Machine.meaning c.args.raft.now.machine) g.C.Wire.format g.O.Wire.format
      c.args.node.replica c.requires.who _ c.requires.holds;
  each = told_none g.C.Commands.stack c.args.config.now (g.M.Machine.meaning c.args.raft.now.machine) g.C.Wire.format g.O.Wire.format
      c.args.node.replica _;
}

pub returns-in_err-node-clause-halted : goal.returns-in_err-node-clause-halted
returns-in_err-node-clause-halted g c =
    let below : c.loop.counter + 1 ≤ c.args.turns = omega (arith, c.loop-test.true) in
    on_err _ _ (told_halts g.C.Commands.stack c.args.config.now (g.M.Machine.meaning c.args.raft.now.machine) g.C.Wire.format g.O.Wire.format
    c.args.node.replica c.loop.node.replica c.loop.counter c.args.turns below _ _ _ c.loop.invariant.tells c.loop.invariant.went c.in_err-node.ensures.halted)

pub returns-in_err-node-clause-causes : goal.returns-in_err-node-clause-causes
returns-in_err-node-clause-causes g c =
    ran_err _ _ _ c.in_err-node.field-0.0 c.from_residual-in_err-node.ensures.1
    (ran_after _ (g.D.Device.faults c.loop.device) _ c.in_err-node.field-0.0 c.loop.invariant.counts c.in_err-node.ensures.causes)

pub loop-preserved : goal.loop-preserved
loop-preserved g c = record {
  ready = c.in_ok-node.ensures.ready;
  who = c.in_ok-node.ensures.who;
  room = c.turn.ensures.room;
  begun = c.in_ok-node.ensures.begun;
  counts = sends_twice _ (g.D.Device.faults c.loop.device) _ c.loop.invariant.counts c.in_ok-node.ensures.causes;
  holds = c.in_ok-node.ensures.holds;
  tells = tells_both c.loop.counter 1 _ _ _ c.loop.invariant.tells c.in_ok-node.ensures.tells;
  went = told_on g.C.Commands.stack c.args.config.now (g.M.Machine.meaning c.args.raft.now.machine) g.C.Wire.format g.O.Wire.format
      c.args.node.replica c.loop.node.replica c.in_ok-node.node.replica c.loop.counter _ _ _ c.loop.invariant.tells c.loop.invariant.went c.in_ok-node.ensures.went;
  each = told_each g.C.Commands.stack c.args.config.now (g.M.Machine.meaning c.args.raft.now.machine) g.C.Wire.format g.O.Wire.format
      c.args.node.replica c.loop.node.replica c.in_ok-node.node.replica c.loop.counter _ _ _ c.loop.invariant.tells c.loop.invariant.each c.in_ok-node.ensures.went;
}

pub returns-clause-went : goal.returns-clause-went
returns-clause-went g c =
    let all : c.loop.counter ≡ c.args.turns = omega (arith, c.loop-test.false, c.loop.auto.counter-end) in
    rw all at c.loop.invariant.went

pub returns-clause-each : goal.returns-clause-each
returns-clause-each g c =
    let all : c.loop.counter ≡ c.args.turns = omega (arith, c.loop-test.false, c.loop.auto.counter-end) in
    rw all at c.loop.invariant.each

pub returns-in_err-room-clause-halted_each : goal.returns-in_err-room-clause-halted_each
returns-in_err-room-clause-halted_each g c =
    on_err _ _ (told_halts_each_at_once g.C.Commands.stack c.args.config.now (g.M.Machine.meaning c.args.raft.now.machine) g.C.Wire.format g.O.Wire.format
    c.args.node.replica c.args.turns c.requires.who _ c.requires.holds)

pub returns-in_err-node-clause-halted_each : goal.returns-in_err-node-clause-halted_each
returns-in_err-node-clause-halted_each g c =
    let below : c.loop.counter + 1 ≤ c.args.turns = omega (arith, c.loop-test.true) in
    on_err _ _ (told_halts_each g.C.Commands.stack c.args.config.now (g.M.Machine.meaning c.args.raft.now.machine) g.C.Wire.format g.O.Wire.format
    c.args.node.replica c.loop.node.replica c.loop.counter c.args.turns below _ _ _ c.loop.invariant.tells c.loop.invariant.each c.in_err-node.ensures.halted)

pub returns-in_err-room-clause-tells : goal.returns-in_err-room-clause-tells
returns-in_err-room-clause-tells g c = tells_more 0 c.args.turns (omega arith) _ _ (tells_same _)

pub returns-in_err-node-clause-tells : goal.returns-in_err-node-clause-tells
returns-in_err-node-clause-tells g c =
    let below : c.loop.counter + 1 ≤ c.args.turns = omega (arith, c.loop-test.true) in
    tells_more (c.loop.counter + 1) c.args.turns below _ _ (tells_both c.loop.counter 1 _ _ _ c.loop.invariant.tells c.in_err-node.ensures.tells)

pub returns-clause-tells : goal.returns-clause-tells
returns-clause-tells g c =
    let all : c.loop.counter ≡ c.args.turns = omega (arith, c.loop-test.false, c.loop.auto.counter-end) in
    rw all at c.loop.invariant.tells
