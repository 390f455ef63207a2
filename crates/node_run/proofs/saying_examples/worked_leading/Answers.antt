-- What a leader says, by look-ups in its sessions.
use Rattle.raft_clients.proofs.Lookups.{lookups}
use Rattle.wire_fields.specs.Bytes.{has_bytes, number_bytes, number_in, read_number}
use Rattle.node_run.proofs.saying_examples.worked_leading.Goals as goal

pub returns-clause-committed : goal.returns-clause-committed
unfolding number_bytes number_in has_bytes read_number
returns-clause-committed c = simp lookups
