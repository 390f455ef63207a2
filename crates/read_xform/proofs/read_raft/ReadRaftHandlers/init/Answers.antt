use Rattle.read_xform.proofs.Keeping.{sound_none}
use Rattle.read_xform.proofs.read_raft.ReadRaftHandlers.init.Goals as goal

pub returns-clause-sound : goal.returns-clause-sound
returns-clause-sound g c = record {
  raft = rw (← c.self.view_is) (c.in_ok-init.ensures.sound);
  reads = rw (c.in_ok-none.ensures, c.nodes.ensures, ← c.self.view_is) (sound_none (g.M.Queries.reads c.self.inside.raft.machine) c.self.inside.raft.nodes _);
}
