use Rattle.raft_xform.proofs.Keeping.{keeps_tick, sound_done}
use Rattle.raft_xform.proofs.raft.RaftHandlers.timeout.Goals as goal

pub returns-clause-sound : goal.returns-clause-sound
returns-clause-sound g c =
    rw (← c.self.view_is) (sound_done c.tick.result c.tick.new.state c.args.effects.now c.tick.new.effects
    (keeps_tick (rw (← c.self.view_is) at c.requires.sound) (g.M.Machine.meaning c.self.inside.machine)) (rw (c.seat.ensures, ← c.self.view_is) at c.tick.ensures))
