-- Nodes that the rules are computed on, with a machine that adds.
use Rattle.std.specs.Prelude.{ℕ, Bool, List, [], ◌∷◌, ◌++◌, Option, Some, None, map}
use Rattle.std.specs.FinMap as finite
use Rattle.vst_base.specs.Examples.{counter}
use Rattle.vst_base.specs.declared.entry.Entry.{Entry}
use Rattle.vst_base.specs.declared.step.Step.{Step}
use Rattle.vst_base.specs.declared.step.Step.TheVariants as step
use Rattle.vst_base.specs.declared.what.What.TheVariants.{Noop, Request}
use Rattle.raft_commit.specs.Peers.{PeerView}
use Rattle.raft_types.specs.declared.client.RaftInput.{RaftInput}
use Rattle.raft_types.specs.declared.msg.RaftMsg.{RaftMsg}
use Rattle.raft_types.specs.declared.msg.RaftMsg.TheVariants as msg
use Rattle.raft_xform.specs.declared.role.Role.TheVariants as role
use Rattle.raft_xform.specs.Nodes.{RaftView, started_with}

abbrev pub Node : Type 0
Node = RaftView ℕ ℕ ℕ

-- client 7 asks for this to be added
abbrev pub asked : ℕ → ℕ → RaftInput ℕ
asked request cmd = record { client = 7; request = request; cmd = cmd }

-- the same as an entry, of a term and taken by a node
abbrev pub entry : ℕ → ℕ → ℕ → ℕ → Entry ℕ
entry term origin request cmd = record { term = term; what = Request 7 request origin cmd }

abbrev pub noop : ℕ → Entry ℕ
noop term = record { term = term; what = Noop }

-- messages by their parts
abbrev pub ask : ℕ → ℕ → ℕ → RaftMsg ℕ
ask term last_index last_term = msg.RequestVote (record { term = term; last_index = last_index; last_term = last_term })

abbrev pub vote : ℕ → Bool → RaftMsg ℕ
vote term granted = msg.Vote (record { term = term; granted = granted })

abbrev pub append : ℕ → ℕ → ℕ → ℕ → List (Entry ℕ) → RaftMsg ℕ
append term prev_index prev_term commit entries =
    msg.Append (record { term = term; prev_index = prev_index; prev_term = prev_term; commit = commit; entries = entries })

abbrev pub appended : ℕ → Bool → ℕ → RaftMsg ℕ
appended term ok index = msg.Appended (record { term = term; ok = ok; index = index })

-- the same message to each of these nodes
abbrev pub to_each : List ℕ → RaftMsg ℕ → List (ℕ × RaftMsg ℕ)
to_each nodes message = map (λ n. (n, message)) nodes

abbrev pub peer : ℕ → ℕ → PeerView
peer next matched = record { next = next; matched = matched }

-- a node that starts for the first time
abbrev pub first : Node
first = started_with counter 0 None []

-- a follower of a term, which voted for some node, with a log
abbrev pub follower : ℕ → Option ℕ → List (Entry ℕ) → Node
follower term voted log = started_with counter term voted log

-- a candidate of a term, with these votes and a log
abbrev pub candidate : ℕ → ℕ → ℕ → List (Entry ℕ) → Node
candidate term me votes log =
    record (follower term (Some me) log) { role = role.Candidate; ballot = record { term = term; voted = Some me; votes = votes } }

-- node 0 as the leader of a term, elected by these nodes, with a log, its commit and what it knows of the others
abbrev pub leader : ℕ → ℕ → List (Entry ℕ) → ℕ → List PeerView → Node
leader term votes log commit peers = record (candidate term 0 votes log) { role = role.Leader; commit = commit; peers = peers }

-- the same node once it hears of a greater term
abbrev pub unseated : ℕ → Node → Node
unseated term s = record s { role = role.Follower; ballot = record { term = term; voted = None; votes = s.ballot.votes } }

-- once it has applied so much of its log, all no-ops
abbrev pub applied : ℕ → Node → Node
applied index s = record s { applied = index }

-- once it has applied client 7's first request, add 5, among so many entries
abbrev pub with_five_added : ℕ → Node → Node
with_five_added index s = record s { applied = index; machine = 5; sessions = finite.insert finite.empty 7 (record { request = 1; output = 0 }) }

-- and its second, add 6
abbrev pub with_six_added : ℕ → Node → Node
with_six_added index s = record s {
  applied = index;
  machine = 11;
  sessions = finite.insert (finite.insert finite.empty 7 (record { request = 1; output = 0 })) 7 (record { request = 2; output = 5 });
}

-- node 1 votes for node 0 and forgets all but its vote, so that it has none for node 2
abbrev pub a_vote_outlives : List (Step (RaftInput ℕ))
a_vote_outlives =
    step.Tick 0 ∷ step.Deliver 0 ∷ step.Crash 1 ∷ step.Reboot 1 ∷ step.Tick 2 ∷ step.Deliver 4 ∷ step.Deliver 5 ∷ step.In 2 (asked 1 5) ∷ []

-- node 0 starts again with an entry of its first term, leads in its second, and learns that node 1 has none of its log
abbrev pub old_entries : List (Step (RaftInput ℕ))
old_entries =
    step.Tick 0 ∷ step.Deliver 0 ∷ step.Deliver 2 ∷ step.In 0 (asked 1 5) ∷ step.Crash 0 ∷ step.Reboot 0 ∷ step.Tick 0 ∷ step.Deliver 7
    ∷ step.Deliver 9 ∷ step.Deliver 10 ∷ step.Deliver 12 ∷ step.Deliver 13 ∷ step.Deliver 14 ∷ []

-- node 1 gets it, with the no-op of the second term
abbrev pub committed_by_a_noop : List (Step (RaftInput ℕ))
committed_by_a_noop = old_entries ++ step.Deliver 15 ∷ step.Deliver 16 ∷ []
