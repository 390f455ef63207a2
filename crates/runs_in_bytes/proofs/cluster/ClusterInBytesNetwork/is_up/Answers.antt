use Rattle.runs_in_bytes.proofs.cluster.ClusterInBytesNetwork.is_up.Goals as goal

pub returns : goal.returns
returns g c = rw (← c.self.view_is) c.is_up.ensures
