-- What is committed, and what comes of it (the Raft paper, sections 5.3 and 5.4.2).
use Rattle.std.specs.Prelude.{ℕ, ◌-◌, List, []}
use Rattle.vst_base.specs.Machines.{MachineMeaning}
use Rattle.vst_base.specs.declared.entry.Entry.{Entry}
use Rattle.raft_clients.specs.Sessions.{applied_all}
use Rattle.raft_commit.specs.Peers.{matched_of}
use Rattle.raft_xform.specs.Applying.{replies}
use Rattle.raft_snapshots.specs.Logs.{advance, entries_after, last_index}
use Rattle.raft_snapshots.specs.Nodes.{Kind, NodeView, RaftEffect}

module _ {S C O X : Type 0} where
  -- the entries that are committed and not applied
  abbrev pub due : NodeView S C O X → List (Entry C)
  due s = entries_after s.log s.applied (s.commit - s.applied)

  -- a leader commits what it may: entries of its own term on a majority of nodes, and all before them
  abbrev pub committed : ℕ → ℕ → NodeView S C O X → NodeView S C O X
  committed nodes me s = record s { commit = advance nodes me (matched_of s.peers) s.log s.ballot.term s.commit (last_index s.log) }

  -- with what is due applied
  abbrev pub with_applied : MachineMeaning S C O → NodeView S C O X → NodeView S C O X
  with_applied m s =
      let all = applied_all m s.machine s.sessions (due s) in record s { applied = s.commit; machine = all.state; sessions = all.sessions }

module _ {S C O X M : Type 0} (kind : Kind S C O X M) where
  -- if commitIndex > lastApplied: apply the entries between to the state machine. Then the node does what its kind does
  abbrev pub caught_up : MachineMeaning S C O → ℕ → NodeView S C O X → RaftEffect S C O X M
  caught_up m me s = record {
    state = kind.settles (due s) (with_applied m s);
    outputs = replies me (applied_all m s.machine s.sessions (due s)).answers;
    sends = [];
  }

  -- a leader commits, and applies it
  abbrev pub settled : MachineMeaning S C O → ℕ → ℕ → NodeView S C O X → RaftEffect S C O X M
  settled m nodes me s = caught_up m me (committed nodes me s)
