-- What the definitions are computed on.
use Rattle.std.specs.Prelude.{ℕ, List, [], ◌∷◌}
use Rattle.std.specs.FinMap.{empty, insert}
use Rattle.vst_base.specs.declared.entry.Entry.{Entry}
use Rattle.vst_base.specs.declared.what.What.TheVariants.{Noop, Request}
use Rattle.raft_clients.specs.Sessions.{Sessions}
use Rattle.raft_clients.specs.declared.session.Session.{Session}
use Rattle.raft_types.specs.declared.client.RaftInput.{RaftInput}

-- a request of this client, number and command
abbrev pub asked : ℕ → ℕ → ℕ → RaftInput ℕ
asked client request cmd = record { client = client; request = request; cmd = cmd }

-- an entry that holds it
abbrev pub asks : ℕ → ℕ → ℕ → Entry ℕ
asks client request cmd = record { term = 1; what = Request client request 0 cmd }

-- and one that holds none
abbrev pub noop : Entry ℕ
noop = record { term = 1; what = Noop }

abbrev pub session : ℕ → ℕ → Session ℕ
session request output = record { request = request; output = output }

-- client 7 has had an output 5 to its request 2
abbrev pub one_client : Sessions ℕ
one_client = insert empty 7 (session 2 5)

-- two clients and two no-ops; 7 asks again, with another command and late, 9 asks again and goes on past a number
abbrev pub two_clients : List (Entry ℕ)
two_clients = noop ∷ asks 7 1 3 ∷ asks 9 4 1 ∷ asks 7 1 8 ∷ noop ∷ asks 7 2 5 ∷ asks 9 4 1 ∷ asks 7 1 3 ∷ asks 9 6 2 ∷ []
