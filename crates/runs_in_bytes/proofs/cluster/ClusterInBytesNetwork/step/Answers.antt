use Rattle.runs_in_bytes.proofs.cluster.ClusterInBytesNetwork.step.Goals as goal

pub step-requires-clause-sound : goal.step-requires-clause-sound
step-requires-clause-sound g c = rw (← c.self.view_is) at c.requires.sound

pub returns-clause-refused : goal.returns-clause-refused
returns-clause-refused g c = rw (← c.self.view_is) c.step.ensures.refused

pub returns-clause-next : goal.returns-clause-next
returns-clause-next g c = rw (← c.self.view_is) c.step.ensures.next

pub returns-clause-trace : goal.returns-clause-trace
returns-clause-trace g c = rw (← c.self.view_is) c.step.ensures.trace
