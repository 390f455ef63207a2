use Rattle.std.proofs.Common.{ap, sym, ◌∙◌}
use Rattle.node_state.proofs.Stopping.{on_err}
use Rattle.udp_node.proofs.Clock.{acted_tells, tells_both}
use Rattle.udp_node.proofs.Going.{ready_at, turn_halts, turn_halts_hearing, turn_holds, turn_quiet, turn_went, who_stays}
use Rattle.udp_node.proofs.turning.turn.Goals as goal

pub returns-in_err-event-clause-halted : goal.returns-in_err-event-clause-halted
returns-in_err-event-clause-halted g c =
    let stack = sym (ap (λ w. w.stack) c.requires.who) ∙ c.requires.ready.is.of.stack in
    on_err _ _ (turn_halts_hearing g.C.Commands.stack c.args.config.now (g.M.Machine.meaning c.args.raft.now.machine) g.C.Wire.format g.O.Wire.format
    c.args.node.replica c.requires.who stack _ _ c.requires.holds c.in_err-event.ensures.stopped)

pub act-requires-clause-ready : goal.act-requires-clause-ready
act-requires-clause-ready g c = ready_at g.C.Commands.stack c.args.node.replica _ c.await_event.ensures.node c.requires.ready

pub act-requires-clause-holds : goal.act-requires-clause-holds
act-requires-clause-holds g c =
    let stack = sym (ap (λ w. w.stack) c.requires.who) ∙ c.requires.ready.is.of.stack in
    turn_holds g.C.Commands.stack c.args.config.now (g.M.Machine.meaning c.args.raft.now.machine) g.C.Wire.format g.O.Wire.format
    c.args.node.replica c.requires.who stack _ c.in_ok-event.field-0 _ c.await_event.ensures.node _ _ c.requires.holds c.in_ok-event.ensures.heard

pub returns-in-Some-clause-who : goal.returns-in-Some-clause-who
returns-in-Some-clause-who g c =
    who_stays g.C.Commands.stack c.args.config.now (g.M.Machine.meaning c.args.raft.now.machine) g.C.Wire.format g.O.Wire.format
    c.args.node.replica c.await_event.new.node.replica c.in-Some.event c.requires.who c.await_event.ensures.node c.act.result c.act.ensures.next

pub returns-in-Some-clause-went : goal.returns-in-Some-clause-went
returns-in-Some-clause-went g c =
    let stack = sym (ap (λ w. w.stack) c.requires.who) ∙ c.requires.ready.is.of.stack in
    turn_went g.C.Commands.stack c.args.config.now (g.M.Machine.meaning c.args.raft.now.machine) g.C.Wire.format g.O.Wire.format
    c.args.node.replica c.requires.who stack c.await_event.new.node.replica c.await_event.ensures.node c.in_ok-event.field-0 c.in-Some.event c.in-Some.is _ _ _
    c.requires.holds c.in_ok-event.ensures.heard c.act.result c.act.ensures.acted c.act.ensures.next

pub returns-in-Some-clause-halted : goal.returns-in-Some-clause-halted
returns-in-Some-clause-halted g c =
    let stack = sym (ap (λ w. w.stack) c.requires.who) ∙ c.requires.ready.is.of.stack in
    turn_halts g.C.Commands.stack c.args.config.now (g.M.Machine.meaning c.args.raft.now.machine) g.C.Wire.format g.O.Wire.format
    c.args.node.replica c.requires.who stack c.await_event.new.node.replica c.await_event.ensures.node c.in_ok-event.field-0 c.in-Some.event c.in-Some.is _ _ _
    c.requires.holds c.in_ok-event.ensures.heard c.act.result c.act.ensures.in_part

pub returns-in-Some-clause-tells : goal.returns-in-Some-clause-tells
returns-in-Some-clause-tells g c =
    tells_both 1 0 _ _ _ c.await_event.ensures.tells
    (acted_tells g.C.Commands.stack c.args.config.now (g.M.Machine.meaning c.args.raft.now.machine) g.C.Wire.format g.O.Wire.format
    c.await_event.new.node.replica c.in-Some.event _ _ c.act.result c.act.ensures.acted c.act.ensures.in_part)

pub returns-in-None-clause-ready : goal.returns-in-None-clause-ready
returns-in-None-clause-ready g c = ready_at g.C.Commands.stack c.args.node.replica _ c.await_event.ensures.node c.requires.ready

pub returns-in-None-clause-holds : goal.returns-in-None-clause-holds
returns-in-None-clause-holds g c =
    let stack = sym (ap (λ w. w.stack) c.requires.who) ∙ c.requires.ready.is.of.stack in
    turn_holds g.C.Commands.stack c.args.config.now (g.M.Machine.meaning c.args.raft.now.machine) g.C.Wire.format g.O.Wire.format
    c.args.node.replica c.requires.who stack _ c.in_ok-event.field-0 _ c.await_event.ensures.node _ _ c.requires.holds c.in_ok-event.ensures.heard

pub returns-in-None-clause-went : goal.returns-in-None-clause-went
returns-in-None-clause-went g c =
    let stack = sym (ap (λ w. w.stack) c.requires.who) ∙ c.requires.ready.is.of.stack in
    turn_quiet g.C.Commands.stack c.args.config.now (g.M.Machine.meaning c.args.raft.now.machine) g.C.Wire.format g.O.Wire.format
    c.args.node.replica c.requires.who stack _ c.in_ok-event.field-0 c.in-None.is _ c.await_event.ensures.node _ _ c.requires.holds c.in_ok-event.ensures.heard
