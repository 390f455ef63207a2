use Rattle.raft_xform.proofs.Keeping.{keeps_input, sound_done}
use Rattle.raft_xform.proofs.raft.RaftHandlers.input.Goals as goal

pub returns-clause-sound : goal.returns-clause-sound
returns-clause-sound g c =
    rw (← c.self.view_is) (sound_done c.on_input.result c.on_input.new.state c.args.effects.now c.on_input.new.effects
    (keeps_input (rw (← c.self.view_is) at c.requires.sound) (g.M.Machine.meaning c.self.inside.machine) c.args.input.now) (rw (c.seat.ensures, ← c.self.view_is) at c.on_input.ensures))
