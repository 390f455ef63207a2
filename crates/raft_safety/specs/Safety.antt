-- The safety of a cluster (the Raft paper, Figure 3), over every run and any two moments of it.
use Rattle.std.specs.Prelude.{◌≡◌, ℕ, ◌<◌, ◌≤◌, List, [], ◌∷◌, ◌++◌, length, take, IsFalse, IsTrue}
use Rattle.net_semantics.specs.Worlds.{Packet}
use Rattle.vst_base.specs.Machines.{MachineMeaning, state_after}
use Rattle.vst_base.specs.Logs.{has_conflict, term_at}
use Rattle.vst_base.specs.declared.step.Step.{Step}
use Rattle.vst_base.specs.Elections.{is_majority, holders}
use Rattle.raft_clients.specs.Executed.{executed, executed_entries, commands, requests}
use Rattle.raft_commit.specs.Peers.{matched_of}
use Rattle.raft_free.specs.Events.{Event, In}
use Rattle.raft_free.specs.Nodes.{FreeWorld, first_world}
use Rattle.raft_free.specs.Runs.{Moments, Run}
use Rattle.raft_free.specs.Safety.{Has}
use Rattle.raft_types.specs.Messages.{AppendView}
use Rattle.raft_types.specs.declared.client.RaftInput.{RaftInput}
use Rattle.raft_types.specs.declared.msg.RaftMsg.{RaftMsg}
use Rattle.raft_types.specs.declared.msg.RaftMsg.TheVariants as msg
use Rattle.raft_xform.specs.Electing.{heard}
use Rattle.raft_xform.specs.Nodes.{is_leader}
use Rattle.raft_safety.specs.Applied.{applied_by, applied_list, executed_by}
use Rattle.raft_safety.specs.Runs.{AreMoments, IsReached, IsRun, Leads, RaftWorld, log_at, seen, world_after}
use Rattle.linearizability.specs.Linearizable.{IsLinearizable}
use Rattle.raft_safety.specs.Mirrors.{Mirrors}
use Rattle.lists.specs.Prefixes.{IsPrefix}

-- two moments of a run with free choices mirror these
pub record AreMirrored {S C O : Type 0} (nodes : ℕ) (v w : RaftWorld S C O) : Type 0 where
  pub first : FreeWorld C
  pub second : FreeWorld C
  pub moments : Moments C nodes first second
  pub mirrors_first : Mirrors v first
  pub mirrors_second : Mirrors w second

-- free choices lead on from the free world x to one that mirrors this
pub record LeadOn {S C O : Type 0} (nodes : ℕ) (x : FreeWorld C) (w : RaftWorld S C O) : Type 0 where
  pub events : List (Event C)
  pub world : FreeWorld C
  pub run : Run nodes x events world
  pub mirrors : Mirrors w world

-- the packet was sent, and is a leader's AppendEntries, with entries or none. Its destination is up, and once it has
-- heard of the packet's term it is in no later one
pub record ComesInItsTerm {S C O : Type 0} (w : RaftWorld S C O) (p : Packet (RaftMsg C)) (a : AppendView C) : Type 0 where
  pub sent : In p w.packets
  pub entries : p.content ≡ msg.Append a
  pub up : IsTrue (w.is_up p.destination)
  pub term : (heard a.term (w.state p.destination)).ballot.term ≡ a.term

-- a leader has committed up to the index by the rule in this term (the Raft paper, section 5.4.2): its entry at its commit
-- is of this term, and it knows most nodes to have it
pub record CommitsByTheRule {S C O : Type 0} (nodes : ℕ) (w : RaftWorld S C O) (i term index : ℕ) : Type 0 where
  pub leads : Leads w i term
  pub own : term_at (w.state i).log (w.state i).commit ≡ term
  pub most : IsTrue (is_majority nodes (holders i (matched_of (w.state i).peers) (w.state i).commit))
  pub up_to : index ≤ (w.state i).commit

module _ (S C O : Type 0) where
  -- a cluster does nothing that free choices don't allow: two moments of a run of theirs mirror any two moments of it
  abbrev pub IsFree : Type 0
  IsFree = (m : MachineMeaning S C O) (nodes : ℕ) (v w : RaftWorld S C O) → AreMoments m nodes v w → AreMirrored nodes v w

  -- and step by step: the first free world mirrors the first one of a cluster
  abbrev pub FirstIsFree : Type 0
  FirstIsFree = (m : MachineMeaning S C O) (nodes : ℕ) → Mirrors (world_after m nodes []) (first_world C)

  -- and from each free world that mirrors one of a run, free choices lead on to one that mirrors the next: so one run of
  -- theirs follows the whole run
  abbrev pub StepIsFree : Type 0
  StepIsFree =
      (m : MachineMeaning S C O) (nodes : ℕ) (ss : List (Step (RaftInput C))) (s : Step (RaftInput C)) (x : FreeWorld C) → IsRun m nodes (ss ++ s ∷ []) →
      Mirrors (world_after m nodes ss) x → LeadOn nodes x (world_after m nodes (ss ++ s ∷ []))

  -- no two nodes lead in one term
  abbrev pub ElectionSafety : Type 0
  ElectionSafety =
      (m : MachineMeaning S C O) (nodes : ℕ) (v w : RaftWorld S C O) (i j term : ℕ) → AreMoments m nodes v w →
      Leads v i term → Leads w j term → i ≡ j

  -- the log of a node that leads in one term at both moments only grew at its end
  abbrev pub LeaderAppendOnly : Type 0
  LeaderAppendOnly =
      (m : MachineMeaning S C O) (nodes : ℕ) (v w : RaftWorld S C O) (i term : ℕ) → AreMoments m nodes v w →
      Leads v i term → Leads w i term → IsPrefix (log_at v i) (log_at w i)

  -- logs with equal terms at an index agree up to it
  abbrev pub LogMatching : Type 0
  LogMatching =
      (m : MachineMeaning S C O) (nodes : ℕ) (v w : RaftWorld S C O) (i j k : ℕ) → AreMoments m nodes v w →
      k ≤ length (log_at v i) → k ≤ length (log_at w j) → term_at (log_at v i) k ≡ term_at (log_at w j) k →
      take k (log_at v i) ≡ take k (log_at w j)

  -- what a leader commits by the rule in its term, and all before it, is in the log of each leader of a greater term: of
  -- one that leads later
  abbrev pub LeaderCompleteness : Type 0
  LeaderCompleteness =
      (m : MachineMeaning S C O) (nodes : ℕ) (v w : RaftWorld S C O) (i j k early late : ℕ) → AreMoments m nodes v w →
      CommitsByTheRule nodes v i early k → Leads w j late → early < late → Has (log_at w j) k (log_at v i)

  -- and of one that led before
  abbrev pub LeaderCompletenessBefore : Type 0
  LeaderCompletenessBefore =
      (m : MachineMeaning S C O) (nodes : ℕ) (v w : RaftWorld S C O) (i j k early late : ℕ) → AreMoments m nodes v w →
      CommitsByTheRule nodes w i early k → Leads v j late → early < late → Has (log_at v j) k (log_at w i)

  -- where a step raises the commit of a node that leads after it, it does so by the rule
  abbrev pub CommitsRiseByTheRule : Type 0
  CommitsRiseByTheRule =
      (m : MachineMeaning S C O) (nodes : ℕ) (ss : List (Step (RaftInput C))) (s : Step (RaftInput C)) (i term : ℕ) →
      let before = world_after m nodes ss in
      let after = world_after m nodes (ss ++ s ∷ []) in
      IsRun m nodes (ss ++ s ∷ []) → Leads after i term → (before.state i).commit < (after.state i).commit →
      CommitsByTheRule nodes after i term (after.state i).commit

  -- what any node knows to be committed, with all before it, is in the log of each leader of a term over the node's: of
  -- one that leads later
  abbrev pub CommittedKept : Type 0
  CommittedKept =
      (m : MachineMeaning S C O) (nodes : ℕ) (v w : RaftWorld S C O) (i j k term : ℕ) → AreMoments m nodes v w →
      k ≤ (v.state i).commit → (v.state i).ballot.term < term → Leads w j term → Has (log_at w j) k (log_at v i)

  -- and of one that led before
  abbrev pub CommittedKeptBefore : Type 0
  CommittedKeptBefore =
      (m : MachineMeaning S C O) (nodes : ℕ) (v w : RaftWorld S C O) (i j k term : ℕ) → AreMoments m nodes v w →
      k ≤ (w.state i).commit → (w.state i).ballot.term < term → Leads v j term → Has (log_at v j) k (log_at w i)

  -- what two nodes have applied up to an index is the same
  abbrev pub StateMachineSafety : Type 0
  StateMachineSafety =
      (m : MachineMeaning S C O) (nodes : ℕ) (v w : RaftWorld S C O) (i j k : ℕ) → AreMoments m nodes v w →
      k ≤ length (applied_list (v.state i)) → k ≤ length (applied_list (w.state j)) →
      take k (applied_list (v.state i)) ≡ take k (applied_list (w.state j))

  -- a node has as much in its log as it has applied
  abbrev pub AppliedIsThere : Type 0
  AppliedIsThere =
      (m : MachineMeaning S C O) (nodes : ℕ) (w : RaftWorld S C O) (i : ℕ) → IsReached m nodes w →
      length (applied_list (w.state i)) ≡ (w.state i).applied

  -- a leader's AppendEntries of a node's own term, or of one that it goes on to by it, may come to it: it does not lead
  abbrev pub NoRivalAppends : Type 0
  NoRivalAppends =
      (m : MachineMeaning S C O) (nodes : ℕ) (w : RaftWorld S C O) (p : Packet (RaftMsg C)) (a : AppendView C) → IsReached m nodes w →
      ComesInItsTerm w p a → IsFalse (is_leader (heard a.term (w.state p.destination)).role)

  -- and none of them conflicts with what it knows to be committed
  abbrev pub NoCommittedConflict : Type 0
  NoCommittedConflict =
      (m : MachineMeaning S C O) (nodes : ℕ) (w : RaftWorld S C O) (p : Packet (RaftMsg C)) (a : AppendView C) → IsReached m nodes w →
      ComesInItsTerm w p a → IsFalse (has_conflict (w.state p.destination).log (w.state p.destination).commit a.prev_index a.entries)

  -- as further steps are taken, what is applied grows at its end alone
  abbrev pub AppliedGrows : Type 0
  AppliedGrows =
      (m : MachineMeaning S C O) (nodes : ℕ) (early late : List (Step (RaftInput C))) → IsRun m nodes (early ++ late) →
      IsPrefix (applied_by m nodes early) (applied_by m nodes (early ++ late))

  -- and so do the requests of it that are executed
  abbrev pub ExecutedGrows : Type 0
  ExecutedGrows =
      (m : MachineMeaning S C O) (nodes : ℕ) (early late : List (Step (RaftInput C))) → IsRun m nodes (early ++ late) →
      IsPrefix (executed_by m nodes early) (executed_by m nodes (early ++ late))

  -- and the entries of it that hold these, each with its term and the node that took it
  abbrev pub ExecutedEntriesGrow : Type 0
  ExecutedEntriesGrow =
      (m : MachineMeaning S C O) (nodes : ℕ) (early late : List (Step (RaftInput C))) → IsRun m nodes (early ++ late) →
      IsPrefix (executed_entries (applied_by m nodes early)) (executed_entries (applied_by m nodes (early ++ late)))

  -- each node has applied a beginning of it
  abbrev pub EachHasABeginning : Type 0
  EachHasABeginning =
      (m : MachineMeaning S C O) (nodes : ℕ) (ss : List (Step (RaftInput C))) (i : ℕ) → IsRun m nodes ss → i < nodes →
      IsPrefix (applied_list ((world_after m nodes ss).state i)) (applied_by m nodes ss)

  -- the machine of each node is as one machine that takes the executed commands of what the node has applied
  abbrev pub EachMachineFollows : Type 0
  EachMachineFollows =
      (m : MachineMeaning S C O) (nodes : ℕ) (ss : List (Step (RaftInput C))) (i : ℕ) → IsRun m nodes ss →
      ((world_after m nodes ss).state i).machine ≡ state_after m m.init (commands (executed (requests (applied_list ((world_after m nodes ss).state i)))))

  -- one machine, which takes the executed requests in their order, explains what clients see
  abbrev pub RunsAreLinearizable : Type 0
  RunsAreLinearizable =
      (m : MachineMeaning S C O) (nodes : ℕ) (ss : List (Step (RaftInput C))) → IsRun m nodes ss →
      IsLinearizable m (executed_by m nodes ss) (seen m nodes ss)
