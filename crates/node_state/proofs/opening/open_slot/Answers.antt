use Rattle.node_state.proofs.Stopping.{on_err}
use Rattle.node_state.proofs.Openings.{slot_stopped}
use Rattle.node_state.proofs.opening.open_slot.Goals as goal

pub returns-in_err-hold-in-Ok-clause-stopped : goal.returns-in_err-hold-in-Ok-clause-stopped
returns-in_err-hold-in-Ok-clause-stopped g c =
    on_err _ _
    (slot_stopped g.C.Commands.stack g.C.Wire.format c.args.who.now c.args.selector c.in_ok-len.len (g.D.Device.told c.args.device.now) _ c.in-Ok.held
    (rw c.in-Ok.is at c.in_ok-len.ensures.found) (rw c.in_ok-len.ensures.same at c.in_err-hold-in-Ok.ensures.stopped))
