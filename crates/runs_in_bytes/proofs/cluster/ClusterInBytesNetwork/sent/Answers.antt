use Rattle.runs_in_bytes.proofs.cluster.ClusterInBytesNetwork.sent.Goals as goal

pub sent-requires : goal.sent-requires
sent-requires g c = rw (← c.self.view_is) at c.requires

pub returns : goal.returns
returns g c = rw (← c.self.view_is) c.sent.ensures
