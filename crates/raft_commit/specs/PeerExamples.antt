-- What leaders know of nodes, for definitions to be computed on.
use Rattle.std.specs.Prelude.{ℕ, suc, List, map}
use Rattle.raft_commit.specs.Peers.{PeerView}

abbrev pub peer : ℕ → ℕ → PeerView
peer next matched = record { next = next; matched = matched }

-- nodes that said that their logs are the leader's up to these indexes
abbrev pub peers : List ℕ → List PeerView
peers indexes = map (λ i. peer (suc i) i) indexes
