-- Nodes with reads that the rules are computed on, with a machine that adds.
use Rattle.std.specs.Prelude.{ℕ, Bool, List, [], ◌∷◌, Some, replicate, map, ◌==◌}
use Rattle.vst_base.specs.Examples.{counter}
use Rattle.handler_trait.specs.Handling.{Meaning}
use Rattle.raft_types.specs.declared.client.RaftInput.{RaftInput}
use Rattle.raft_types.specs.declared.client.RaftOut.{RaftOut}
use Rattle.raft_types.specs.declared.msg.RaftMsg.{RaftMsg}
use Rattle.raft_xform.specs.Examples.{Node, applied, asked, leader, noop, peer}
use Rattle.raft_reads.specs.Clusters.{ReadCluster}
use Rattle.raft_reads.specs.ReadRaft.{ReadEffect, read_raft}
use Rattle.raft_types.specs.Rounds.{ReadMsg}
use Rattle.raft_reads.specs.Reads.{ReadView, Waiting, started}

-- to add nothing is to read the sum
abbrev pub adds_nothing : ℕ → Bool
adds_nothing cmd = cmd == 0

abbrev pub counting : ℕ → Meaning (ReadView ℕ ℕ ℕ) (RaftInput ℕ) (RaftOut ℕ) (ReadMsg ℕ)
counting nodes = read_raft nodes counter adds_nothing

abbrev pub cluster : ℕ → ReadCluster ℕ ℕ ℕ
cluster nodes = record { machine = counter; is_read = adds_nothing; nodes = nodes }

-- a message with its round, and the same one to each of these nodes
abbrev pub in_round : ℕ → RaftMsg ℕ → ReadMsg ℕ
in_round round message = record { raft = message; round = round }

abbrev pub to_each : List ℕ → ReadMsg ℕ → List (ℕ × ReadMsg ℕ)
to_each nodes message = map (λ n. (n, message)) nodes

-- client 7's read of this number, of a round, with a read index
abbrev pub read : ℕ → ℕ → ℕ → Waiting ℕ
read request round read_index = record { input = asked request 0; round = round; read_index = read_index }

-- a node of so many that has no reads
abbrev pub idle : ℕ → Node → ReadView ℕ ℕ ℕ
idle nodes s = started nodes s

-- a node in this round, with what the others acknowledged, the reads that wait, and those that it has just answered
abbrev pub reading : Node → ℕ → List ℕ → List (Waiting ℕ) → List (Waiting ℕ) → ReadView ℕ ℕ ℕ
reading s round acked waiting answered =
    record { raft = s; reads = record { round = round; acked = acked; waiting = waiting }; answered = answered }

-- an event that tells clients and sends nothing, and one that sends and tells nothing
abbrev pub telling : ReadView ℕ ℕ ℕ → List (RaftOut ℕ) → ReadEffect ℕ ℕ ℕ
telling s outputs = record { state = s; outputs = outputs; sends = [] }

abbrev pub sending : ReadView ℕ ℕ ℕ → List (ℕ × ReadMsg ℕ) → ReadEffect ℕ ℕ ℕ
sending s packets = record { state = s; outputs = []; sends = packets }

-- a new leader of three, of five, and one alone that has committed its no-op
abbrev pub elected : Node
elected = leader 1 3 (noop 1 ∷ []) 0 (replicate 3 (peer 1 0))

abbrev pub alone : Node
alone = applied 1 (leader 1 1 (noop 1 ∷ []) 1 (peer 1 0 ∷ []))

-- the leader of three, and of five, that has committed its no-op, which node 1 has
abbrev pub of_three : Node
of_three = applied 1 (leader 1 3 (noop 1 ∷ []) 1 (peer 1 0 ∷ peer 2 1 ∷ peer 1 0 ∷ []))

abbrev pub of_five : Node
of_five = applied 1 (leader 1 7 (noop 1 ∷ []) 1 (peer 1 0 ∷ peer 2 1 ∷ peer 2 1 ∷ peer 1 0 ∷ peer 1 0 ∷ []))

-- the leader of three, at which one read waits, and two; and of five, at which one waits
abbrev pub one_waits : ReadView ℕ ℕ ℕ
one_waits = reading of_three 1 (0 ∷ 0 ∷ 0 ∷ []) (read 1 1 1 ∷ []) []

abbrev pub two_wait : ReadView ℕ ℕ ℕ
two_wait = reading of_three 2 (0 ∷ 0 ∷ 0 ∷ []) (read 1 1 1 ∷ read 2 2 1 ∷ []) []

abbrev pub one_of_five_waits : ReadView ℕ ℕ ℕ
one_of_five_waits = reading of_five 1 (0 ∷ 0 ∷ 0 ∷ 0 ∷ 0 ∷ []) (read 1 1 1 ∷ []) []

-- the first as the leader of term 3
abbrev pub waits_in_term_three : ReadView ℕ ℕ ℕ
waits_in_term_three =
    reading (record of_three { ballot = record { term = 3; voted = Some 0; votes = 3 } }) 1 (0 ∷ 0 ∷ 0 ∷ []) (read 1 1 1 ∷ []) []
