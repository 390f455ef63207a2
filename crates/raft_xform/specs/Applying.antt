-- What is committed, and what comes of it (the Raft paper, sections 5.3 and 5.4.2).
use Rattle.std.specs.Prelude.{ℕ, ◌-◌, List, [], ◌∷◌, ◌++◌, length, take, drop, ◌==◌, if◌then◌else◌}
use Rattle.vst_base.specs.Elections.{advance}
use Rattle.vst_base.specs.Machines.{MachineMeaning}
use Rattle.vst_base.specs.declared.entry.Entry.{Entry}
use Rattle.vst_base.specs.declared.what.What.{What}
use Rattle.vst_base.specs.declared.what.What.TheVariants.{Noop, Request}
use Rattle.raft_clients.specs.Sessions.{applied_all}
use Rattle.raft_commit.specs.Peers.{matched_of}
use Rattle.raft_types.specs.declared.client.RaftOut.{RaftOut}
use Rattle.raft_types.specs.declared.client.RaftOut.TheVariants as told
use Rattle.raft_xform.specs.Nodes.{RaftEffect, RaftView}

-- the node that took a request from its client tells it the output, and no other does. Nobody asked for a no-op
abbrev pub reply : {C O : Type 0} → ℕ → What C → O → List (RaftOut O)
reply me Noop output = []
reply me (Request client request origin cmd) output = if origin == me then told.Reply client request output ∷ [] else []

-- of entries with their outputs, what this node tells its clients
abbrev pub replies : {C O : Type 0} → ℕ → List (Entry C × O) → List (RaftOut O)
replies me [] = []
replies me (a ∷ rest) = reply me a.0.what a.1 ++ replies me rest

module _ {S C O : Type 0} where
  -- the entries that are committed and not applied
  abbrev pub due : RaftView S C O → List (Entry C)
  due s = take (s.commit - s.applied) (drop s.applied s.log)

  -- if commitIndex > lastApplied: apply the entries between to the state machine
  abbrev pub caught_up : MachineMeaning S C O → ℕ → RaftView S C O → RaftEffect S C O
  caught_up m me s =
      let all = applied_all m s.machine s.sessions (due s) in
      record { state = record s { applied = s.commit; machine = all.state; sessions = all.sessions }; outputs = replies me all.answers; sends = [] }

  -- a leader commits what it may: entries of its own term on a majority of nodes, and all before them
  abbrev pub committed : ℕ → ℕ → RaftView S C O → RaftView S C O
  committed nodes me s = record s { commit = advance nodes me (matched_of s.peers) s.log s.ballot.term s.commit (length s.log) }

  -- and applies it
  abbrev pub settled : MachineMeaning S C O → ℕ → ℕ → RaftView S C O → RaftEffect S C O
  settled m nodes me s = caught_up m me (committed nodes me s)
