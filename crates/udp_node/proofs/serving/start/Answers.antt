use Rattle.std.proofs.Common.{arith}
use Rattle.node_state.proofs.Stopping.{on_fault}
use Rattle.udp_node.specs.declared.fault.NodeFault.TheVariants as fault
use Rattle.udp_node.proofs.Clock.{ended_tells, tells_more}
use Rattle.udp_node.proofs.Served.{begun_tells, start_holds, told_started, told_wanting}
use Rattle.udp_node.proofs.serving.start.Goals as goal

pub returns-in_err-node-clause-ended : goal.returns-in_err-node-clause-ended
returns-in_err-node-clause-ended g c =
    on_fault _ fault.Memory _ c.from_residual-in_err-node.ensures.1
    (told_wanting g.C.Commands.stack c.args.config.now (g.M.Machine.meaning c.args.raft.now.machine) g.C.Wire.format g.O.Wire.format
    c.in_ok-store.store c.in_ok-store.kept c.now-now.result c.in_ok-store.ensures.who _ _ _ c.in_ok-store.ensures.opened c.in_ok-store.ensures.holds
    c.now-now.ensures.outcome c.now-now.ensures.tells)

pub returns-clause-holds : goal.returns-clause-holds
returns-clause-holds g c =
    start_holds g.C.Commands.stack c.args.config.now (g.M.Machine.meaning c.args.raft.now.machine) g.C.Wire.format g.O.Wire.format
    c.in_ok-store.store c.in_ok-store.kept c.now-now.result c.in_ok-node.node.replica c.in_ok-node.ensures.replica _ _
    c.in_ok-store.ensures.holds c.now-now.ensures.outcome

pub returns-clause-served : goal.returns-clause-served
returns-clause-served g c =
    told_started g.C.Commands.stack c.args.config.now (g.M.Machine.meaning c.args.raft.now.machine) g.C.Wire.format g.O.Wire.format
    c.in_ok-store.store c.in_ok-store.kept c.now-now.result c.in_ok-store.ensures.who c.in_ok-node.node.replica c.in_ok-node.ensures.replica _ _ _
    c.in_ok-store.ensures.opened c.in_ok-store.ensures.holds c.now-now.ensures.outcome c.now-now.ensures.tells

pub returns-in_err-store-clause-tells : goal.returns-in_err-store-clause-tells
returns-in_err-store-clause-tells g c =
    tells_more 0 1 (omega arith) _ _
    (ended_tells g.C.Commands.stack c.args.config.now g.C.Wire.format c.in_err-store.field-0.0 _ _
    c.in_err-store.ensures.ended)

pub returns-in_err-node-clause-tells : goal.returns-in_err-node-clause-tells
returns-in_err-node-clause-tells g c =
    begun_tells g.C.Commands.stack c.args.config.now (g.M.Machine.meaning c.args.raft.now.machine) g.C.Wire.format g.O.Wire.format
    c.in_ok-store.store c.in_ok-store.kept _ _ _ c.in_ok-store.ensures.opened c.now-now.ensures.tells

pub returns-clause-tells : goal.returns-clause-tells
returns-clause-tells g c =
    begun_tells g.C.Commands.stack c.args.config.now (g.M.Machine.meaning c.args.raft.now.machine) g.C.Wire.format g.O.Wire.format
    c.in_ok-store.store c.in_ok-store.kept _ _ _ c.in_ok-store.ensures.opened c.now-now.ensures.tells
