use Rattle.runs_in_bytes.proofs.cluster.ClusterInBytesNetwork.ends.Goals as goal

pub returns-clause-ends : goal.returns-clause-ends
returns-clause-ends g c = rw (← c.self.view_is) c.ends.ensures.ends

pub returns-clause-below : goal.returns-clause-below
returns-clause-below g c = rw (← c.self.view_is) c.ends.ensures.below
