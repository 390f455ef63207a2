-- Runs with reads that the definitions are computed on, with a machine that adds, where to add nothing is to read the sum.
use Rattle.std.specs.Prelude.{ℕ, List, [], ◌∷◌, ◌++◌, ◌+◌, ◌==◌}
use Rattle.vst_base.specs.Examples.{counter}
use Rattle.vst_base.specs.declared.step.Step.{Step}
use Rattle.vst_base.specs.declared.step.Step.TheVariants as step
use Rattle.raft_types.specs.declared.client.RaftInput.{RaftInput}
use Rattle.linearizability.specs.Examples.{asks, put_at, tell_at}
use Rattle.linearizability.specs.Linearizable.{Seen}
use Rattle.raft_reads.specs.Clusters.{ReadCluster}
use Rattle.raft_reads.specs.Examples.{adds_nothing}

abbrev pub counters : ℕ → ReadCluster ℕ ℕ ℕ
counters nodes = record { machine = counter; is_read = adds_nothing; nodes = nodes }

-- client 7's first request, to add 5, and its second, to add 6; and the first reads of clients 8 and 9
abbrev pub five : RaftInput ℕ
five = asks 7 1 5

abbrev pub six : RaftInput ℕ
six = asks 7 2 6

abbrev pub eight_reads : RaftInput ℕ
eight_reads = asks 8 1 0

abbrev pub nine_reads : RaftInput ℕ
nine_reads = asks 9 1 0

-- a node alone answers a read at once, from no entry
abbrev pub alone : List (Step (RaftInput ℕ))
alone = step.Tick 0 ∷ step.In 0 five ∷ step.In 0 eight_reads ∷ []

-- node 0 leads, and has committed its no-op with node 1
abbrev pub led : List (Step (RaftInput ℕ))
led = step.Tick 0 ∷ step.Deliver 0 ∷ step.Deliver 2 ∷ step.Deliver 3 ∷ step.Deliver 5 ∷ []

-- node 1 leads next, and commits a request with node 2. A read comes to node 0, which hears of the next term
abbrev pub deposed : List (Step (RaftInput ℕ))
deposed =
    led
    ++ step.Tick 1 ∷ step.Deliver 7 ∷ step.Deliver 8 ∷ step.Deliver 10 ∷ step.Deliver 11 ∷ step.Deliver 12 ∷ step.Deliver 13
    ∷ step.In 1 five ∷ step.Deliver 15 ∷ step.Deliver 16 ∷ step.In 0 eight_reads ∷ step.Deliver 18 ∷ step.Deliver 19 ∷ []

-- a read waits until node 1 has acknowledged its round
abbrev pub acknowledged : List (Step (RaftInput ℕ))
acknowledged =
    led
    ++ step.In 0 five ∷ step.Deliver 6 ∷ step.Deliver 8 ∷ step.In 0 eight_reads ∷ step.Deliver 9 ∷ step.Deliver 11 ∷ []

-- node 1 acknowledges it, leads in the next term, and commits another request with node 2, before node 0 hears of the acknowledgement
abbrev pub answered_late : List (Step (RaftInput ℕ))
answered_late =
    led
    ++ step.In 0 five ∷ step.Deliver 6 ∷ step.Deliver 8 ∷ step.In 0 eight_reads ∷ step.Deliver 9
    ∷ step.Tick 1 ∷ step.Deliver 13 ∷ step.Deliver 14 ∷ step.In 1 six ∷ step.Deliver 18 ∷ step.Deliver 19 ∷ step.Deliver 20 ∷ step.Deliver 21
    ∷ step.Deliver 22 ∷ step.Deliver 23 ∷ step.Deliver 11 ∷ []

-- node 0 leads again, in term 3, and node 1 answers the AppendEntries of a read of term 1 in that term. Node 2 leads in term 4, and
-- commits a request with node 1; then a read comes to node 0. With the old round acknowledged it would be answered from before
abbrev pub old_round : List (Step (RaftInput ℕ))
old_round =
    led
    ++ step.In 0 nine_reads ∷ step.Tick 2 ∷ step.Tick 2 ∷ step.Deliver 10 ∷ step.Tick 0 ∷ step.Deliver 13 ∷ step.Deliver 15 ∷ step.Deliver 6
    ∷ step.Deliver 18 ∷ step.Deliver 16 ∷ step.Deliver 20 ∷ step.Deliver 17 ∷ step.Deliver 21 ∷ step.Deliver 22 ∷ step.Tick 2 ∷ step.Deliver 25
    ∷ step.Deliver 26 ∷ step.In 2 five ∷ step.Deliver 30 ∷ step.Deliver 31 ∷ step.In 0 eight_reads ∷ []

-- the same where node 1 acknowledged the round in term 1: a new leader that kept that would answer from before
abbrev pub old_acknowledgement : List (Step (RaftInput ℕ))
old_acknowledgement =
    led
    ++ step.In 0 nine_reads ∷ step.Deliver 6 ∷ step.Deliver 8 ∷ step.Tick 2 ∷ step.Tick 2 ∷ step.Deliver 11 ∷ step.Tick 0 ∷ step.Deliver 14
    ∷ step.Deliver 16 ∷ step.Deliver 17 ∷ step.Deliver 19 ∷ step.Deliver 18 ∷ step.Deliver 20 ∷ step.Deliver 21 ∷ step.Tick 2 ∷ step.Deliver 24
    ∷ step.Deliver 25 ∷ step.In 2 five ∷ step.Deliver 29 ∷ step.Deliver 30 ∷ step.In 0 eight_reads ∷ []

-- a client is told of its request, and the next leader does not know yet that it is committed: a read that comes to it takes an entry. If
-- it waited for a round alone it would be answered from before
abbrev pub new_leader : List (Step (RaftInput ℕ))
new_leader =
    led
    ++ step.In 0 five ∷ step.Deliver 6 ∷ step.Deliver 8 ∷ step.Tick 1 ∷ step.Deliver 10 ∷ step.Deliver 11 ∷ step.In 1 eight_reads
    ∷ step.Deliver 15 ∷ step.Deliver 16 ∷ step.Deliver 17 ∷ step.Deliver 18 ∷ step.Deliver 19 ∷ step.Deliver 20 ∷ []

-- a read that was answered is put in again, at another node
abbrev pub read_twice : List (Step (RaftInput ℕ))
read_twice = acknowledged ++ step.In 1 eight_reads ∷ []

-- the leader stops while a read waits, starts, and leads again, in term 2, once node 1 has voted for it and has its no-op; the
-- acknowledgement of the round of term 1 comes at last
abbrev pub started_again : List (Step (RaftInput ℕ))
started_again = led ++ step.In 0 eight_reads ∷ step.Deliver 6 ∷ step.Crash 0 ∷ step.Reboot 0 ∷ []

abbrev pub leads_again : List (Step (RaftInput ℕ))
leads_again =
    started_again
    ++ step.Tick 0 ∷ step.Deliver 9 ∷ step.Deliver 11 ∷ step.Deliver 12 ∷ step.Deliver 14 ∷ step.Deliver 8 ∷ []

-- the same of a machine whose sum has no bound: the one above keeps to 255, so that from a greater sum, which it never has, to add
-- nothing would change it
abbrev pub adders : ℕ → ReadCluster ℕ ℕ ℕ
adders nodes = record { machine = record { init = 0; apply = λ s x. (s + x, s) }; is_read = adds_nothing; nodes = nodes }

-- a cluster in which to add 5 is to read: such a read changes the state
abbrev pub fives_read : ReadCluster ℕ ℕ ℕ
fives_read = record { machine = counter; is_read = λ cmd. cmd == 5; nodes = 1 }

-- what clients would see of the deposed leader if it answered at once
abbrev pub stale : Seen ℕ ℕ
stale = put_at 1 five ∷ tell_at 1 7 1 0 ∷ put_at 0 eight_reads ∷ tell_at 0 8 1 0 ∷ []
