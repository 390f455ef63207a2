-- What the definitions are computed on.
use Rattle.std.specs.Prelude.{ℕ, Bool, List, [], ◌∷◌, ◌++◌}
use Rattle.net_semantics.specs.Worlds.{Packet}
use Rattle.vst_base.specs.LogExamples.{noop}
use Rattle.vst_base.specs.declared.entry.Entry.{Entry}
use Rattle.vst_base.specs.declared.step.Step.{Step}
use Rattle.vst_base.specs.declared.step.Step.TheVariants as step
use Rattle.vst_base.specs.declared.what.What.TheVariants.{Request}
use Rattle.raft_free.specs.Nodes as free
use Rattle.raft_types.specs.Messages.{AppendView}
use Rattle.raft_types.specs.declared.client.RaftInput.{RaftInput}
use Rattle.raft_types.specs.declared.msg.RaftMsg.{RaftMsg}
use Rattle.raft_types.specs.declared.msg.RaftMsg.TheVariants as msg
use Rattle.raft_xform.specs.Nodes.{RaftView}
use Rattle.raft_safety.specs.Mirrors.{MirrorsNode}
use Rattle.linearizability.specs.Examples.{asks}

-- client 7's first request, to add 5, as a leader has it in its log
abbrev pub five : ℕ → ℕ → Entry ℕ
five term leader = record { term = term; what = Request 7 1 leader 5 }

-- node 1 votes for node 0, and 0 leads, with its no-op
abbrev pub elected : List (Step (RaftInput ℕ))
elected = step.Tick 0 ∷ step.Deliver 0 ∷ step.Deliver 2 ∷ []

-- two clients ask it, and node 1 has both entries and the no-op; then node 0 stops
abbrev pub two_clients : List (Step (RaftInput ℕ))
two_clients = elected ++ step.In 0 (asks 7 1 5) ∷ step.In 0 (asks 9 1 3) ∷ step.Deliver 7 ∷ step.Deliver 9 ∷ step.Crash 0 ∷ []

-- a client asks it, node 1 has the entry, and node 0 tells the client and stops
abbrev pub asked_once : List (Step (RaftInput ℕ))
asked_once = elected ++ step.In 0 (asks 7 1 5) ∷ step.Deliver 5 ∷ step.Deliver 7 ∷ step.Crash 0 ∷ []

-- node 0 starts again, with its log, and has applied nothing yet
abbrev pub started_again : List (Step (RaftInput ℕ))
started_again = asked_once ++ step.Reboot 0 ∷ []

-- node 2 votes for node 1, and 1 leads; the client asks it the same again; node 2 has no entry yet, and gets all
abbrev pub asked_again : List (Step (RaftInput ℕ))
asked_again =
    asked_once
    ++ step.Tick 1 ∷ step.Deliver 9 ∷ step.Deliver 10 ∷ step.In 1 (asks 7 1 5) ∷ step.Deliver 14 ∷ step.Deliver 15 ∷ step.Deliver 16
    ∷ step.Deliver 17 ∷ step.Deliver 18 ∷ step.Deliver 19 ∷ []

-- a client asks node 0, node 1 has the entry, and node 0 stops before it commits; node 2 votes for node 1, and gets all
-- that 1 has, with its no-op
abbrev pub finished_by_the_next : List (Step (RaftInput ℕ))
finished_by_the_next =
    elected
    ++ step.In 0 (asks 7 1 5) ∷ step.Deliver 5 ∷ step.Crash 0 ∷ step.Tick 1 ∷ step.Deliver 9 ∷ step.Deliver 10 ∷ step.Deliver 12
    ∷ step.Deliver 13 ∷ step.Deliver 14 ∷ step.Deliver 15 ∷ step.Deliver 16 ∷ step.Deliver 17 ∷ []

-- node 1 gets the entry, node 2's is lost, and a heartbeat tells node 1 of the commit; a copy of the entry is in flight
abbrev pub copied : List (Step (RaftInput ℕ))
copied =
    elected
    ++ step.In 0 (asks 7 1 5) ∷ step.Dup 5 ∷ step.Deliver 5 ∷ step.Lose 6 ∷ step.Deliver 7 ∷ step.Tick 0 ∷ step.Deliver 8 ∷ []

-- the entries as node 0 sends them, and the packet with the copy
abbrev pub sent_first : AppendView ℕ
sent_first = record { term = 1; prev_index = 0; prev_term = 0; commit = 0; entries = noop 1 ∷ five 1 0 ∷ [] }

abbrev pub late_copy : Packet (RaftMsg ℕ)
late_copy = record { source = 0; destination = 1; content = msg.Append sent_first; copies = 1 }

-- node 0 hears nothing of the election of node 1, and commits and tells the client in its own term
abbrev pub two_leaders : List (Step (RaftInput ℕ))
two_leaders =
    elected
    ++ step.In 0 (asks 7 1 5) ∷ step.Deliver 5 ∷ step.Tick 1 ∷ step.Deliver 9 ∷ step.Deliver 10 ∷ step.Deliver 7 ∷ []

-- it holds of each free node that mirrors this one
abbrev pub OfItsMirror : Bool → RaftView ℕ ℕ ℕ → (free.NodeState ℕ → Type 0) → Type 0
OfItsMirror is_up s P = (x : free.NodeState ℕ) → MirrorsNode is_up s x → P x
