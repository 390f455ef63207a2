use Rattle.runs_in_bytes.proofs.cluster.ClusterInBytesNetwork.forget_trace.Goals as goal

pub returns-clause-follows : goal.returns-clause-follows
returns-clause-follows g c = rw (← c.self.view_is) c.forget_trace.ensures.follows

pub returns-clause-sound : goal.returns-clause-sound
returns-clause-sound g c = rw (← c.self.view_is) c.forget_trace.ensures.sound
