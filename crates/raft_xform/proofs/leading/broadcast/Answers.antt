use Rattle.raft_xform.proofs.Doing.{may_send_settled}
use Rattle.raft_xform.proofs.leading.broadcast.Goals as goal

pub append_to_others-requires-clause-state : goal.append_to_others-requires-clause-state
append_to_others-requires-clause-state g c =
    rw (c.in_ok-settle.ensures.does.state) (may_send_settled c.requires.sound c.requires.leads (g.M.Machine.meaning c.args.machine.now))
