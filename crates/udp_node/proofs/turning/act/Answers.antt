use Rattle.std.proofs.Common.{ap, ◌∙◌}
use Rattle.node_state.proofs.Stopping.{on_err}
use Rattle.udp_node.proofs.Acts.{acted, held_before, holds_after_saying, said_in_part, saved_in_part}
use Rattle.udp_node.proofs.turning.act.Goals as goal

pub save-requires-clause-held : goal.save-requires-clause-held
save-requires-clause-held g c =
    held_before g.C.Commands.stack c.args.config.now (g.M.Machine.meaning c.args.raft.now.machine) g.C.Wire.format g.O.Wire.format
    c.args.node.replica c.args.event c.in_ok-taken.taken.replica c.in_ok-taken.ensures.replica c.in_ok-taken.ensures.continues _ c.requires.holds

pub returns-in_err-saved-clause-in_part : goal.returns-in_err-saved-clause-in_part
returns-in_err-saved-clause-in_part g c =
    on_err _ _ (saved_in_part g.C.Commands.stack c.args.config.now (g.M.Machine.meaning c.args.raft.now.machine) g.C.Wire.format g.O.Wire.format
    c.args.node.replica c.args.event c.in_ok-taken.taken.replica c.in_ok-taken.ensures.replica c.in_ok-taken.ensures.continues c.requires.who _ _
    c.requires.holds c.in_err-saved.ensures.stopped c.in_err-saved.ensures.crash)

pub returns-in_err-ship-clause-in_part : goal.returns-in_err-ship-clause-in_part
returns-in_err-ship-clause-in_part g c =
    let effects = c.in_ok-saved.ensures.effects in
    on_err _ _ (said_in_part g.C.Commands.stack c.args.config.now (g.M.Machine.meaning c.args.raft.now.machine) g.C.Wire.format g.O.Wire.format
    c.args.node.replica c.args.event c.in_ok-taken.taken.replica c.in_ok-taken.ensures.replica c.in_ok-taken.ensures.continues _ _
    (ap (λ e. e.sends) effects ∙ c.in_ok-taken.ensures.sends) (ap (λ e. e.outputs) effects ∙ c.in_ok-taken.ensures.outputs) _ _ _ c.requires.holds
    c.in_ok-saved.ensures.keeps c.in_ok-saved.ensures.did c.in_err-ship.ensures.stopped)

pub returns-clause-holds : goal.returns-clause-holds
returns-clause-holds g c =
    holds_after_saying g.C.Commands.stack g.C.Wire.format c.in_ok-saved.saved.replica _ _ _ _ c.in_ok-saved.ensures.holds
    c.in_ok-ship.ensures.replica c.in_ok-ship.ensures.said

pub returns-clause-acted : goal.returns-clause-acted
returns-clause-acted g c =
    let effects = c.in_ok-saved.ensures.effects in
    acted g.C.Commands.stack c.args.config.now (g.M.Machine.meaning c.args.raft.now.machine) g.C.Wire.format g.O.Wire.format
    c.args.node.replica c.args.event c.in_ok-taken.taken.replica c.in_ok-taken.ensures.replica c.in_ok-taken.ensures.continues _ _
    (ap (λ e. e.sends) effects ∙ c.in_ok-taken.ensures.sends) (ap (λ e. e.outputs) effects ∙ c.in_ok-taken.ensures.outputs) _ _ _ c.requires.holds
    c.in_ok-saved.ensures.keeps c.in_ok-saved.ensures.did c.in_ok-ship.ensures.said
