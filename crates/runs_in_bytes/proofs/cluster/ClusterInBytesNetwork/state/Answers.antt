use Rattle.runs_in_bytes.proofs.cluster.ClusterInBytesNetwork.state.Goals as goal

pub state-requires-clause-sound : goal.state-requires-clause-sound
state-requires-clause-sound g c = rw (← c.self.view_is) at c.requires.sound

pub returns-clause-state : goal.returns-clause-state
returns-clause-state g c = rw (← c.self.view_is) c.state.ensures.state
