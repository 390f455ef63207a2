use Rattle.std.proofs.Common.{◌+◌, ap, arith}
use Rattle.node_state.proofs.Stopping.{on_fault}
use Rattle.udp_node.proofs.Clock.{tells_both, tells_more}
use Rattle.udp_node.proofs.Served.{told_ended, told_later, told_served}
use Rattle.udp_node.proofs.serving.serve_stack.Goals as goal

pub returns-in_err-node-clause-ended : goal.returns-in_err-node-clause-ended
returns-in_err-node-clause-ended g c =
    on_fault _ c.in_err-node.field-0.0 _ c.from_residual.ensures.1
    (told_later g.C.Commands.stack c.args.config.now (g.M.Machine.meaning c.args.machine) g.C.Wire.format g.O.Wire.format
    c.in_err-node.field-0.0 c.args.turns _ _ (rw (ap (λ r. r.machine) c.new-raft.ensures) at c.in_err-node.ensures.ended))

pub returns-in_err-take_turns-clause-ended : goal.returns-in_err-take_turns-clause-ended
returns-in_err-take_turns-clause-ended g c =
    on_fault _ c.in_err-take_turns.field-0.0 _ c.from_residual-in_err-take_turns.ensures.1
    (told_ended g.C.Commands.stack c.args.config.now (g.M.Machine.meaning c.args.machine) g.C.Wire.format g.O.Wire.format
    c.in_ok-node.node.replica c.args.turns c.in_err-take_turns.field-0.0 c.in_err-take_turns.ensures.of_a_turn _ _ _
    c.in_ok-node.ensures.tells (rw (ap (λ r. r.machine) c.new-raft.ensures) at c.in_ok-node.ensures.served)
    (rw (ap (λ r. r.machine) c.new-raft.ensures) at c.in_err-take_turns.ensures.halted)
    (rw (ap (λ r. r.machine) c.new-raft.ensures) at c.in_err-take_turns.ensures.halted_each))

pub returns-clause-served : goal.returns-clause-served
returns-clause-served g c =
    told_served g.C.Commands.stack c.args.config.now (g.M.Machine.meaning c.args.machine) g.C.Wire.format g.O.Wire.format
    c.in_ok-node.node.replica c.in_ok-take_turns.field-0.replica c.args.turns _ _ _
    c.in_ok-node.ensures.tells (rw (ap (λ r. r.machine) c.new-raft.ensures) at c.in_ok-node.ensures.served)
    (rw (ap (λ r. r.machine) c.new-raft.ensures) at c.in_ok-take_turns.ensures.went)
    (rw (ap (λ r. r.machine) c.new-raft.ensures) at c.in_ok-take_turns.ensures.each)

pub returns-in_err-node-clause-tells : goal.returns-in_err-node-clause-tells
returns-in_err-node-clause-tells g c = tells_more 1 (1 + c.args.turns) (omega arith) _ _ c.in_err-node.ensures.tells

pub returns-in_err-take_turns-clause-tells : goal.returns-in_err-take_turns-clause-tells
returns-in_err-take_turns-clause-tells g c = tells_both 1 c.args.turns _ _ _ c.in_ok-node.ensures.tells c.in_err-take_turns.ensures.tells

pub returns-clause-tells : goal.returns-clause-tells
returns-clause-tells g c = tells_both 1 c.args.turns _ _ _ c.in_ok-node.ensures.tells c.in_ok-take_turns.ensures.tells
