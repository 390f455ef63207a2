-- Nodes of a Raft cluster that store first, and hear only what was said to them: one machine explains what their clients note.
use Rattle.std.specs.Prelude.{ℕ, List, ◌++◌}
use Rattle.linearizability.specs.Linearizable.{IsLinearizable}
use Rattle.node_histories.specs.Histories.{world_of}
use Rattle.node_histories.specs.HistoryLaws.{RunsAs}
use Rattle.node_histories.specs.Views.{HasView}
use Rattle.raft_safety.specs.Applied.{executed_by}
use Rattle.raft_safety.specs.Runs.{AreMoments, seen}
use Rattle.raft_types.specs.Messages.{KeptView, IsClusterSize}
use Rattle.raft_types.specs.declared.client.RaftInput.{RaftInput}
use Rattle.raft_types.specs.declared.client.RaftOut.{RaftOut}
use Rattle.raft_types.specs.declared.msg.RaftMsg.{RaftMsg}
use Rattle.raft_xform.specs.Raft.{raft, raft_recovery}
use Rattle.vst_base.specs.Machines.{MachineMeaning}
use Rattle.vst_base.specs.declared.step.Step.{Step}
use Rattle.cluster_histories.specs.Alone.{DoTheirParts}
use Rattle.cluster_histories.specs.DeedLaws.{AreMoves, moves_of}
use Rattle.cluster_histories.specs.Deeds.{AllStoreFirst, Deeds, noted_by}
use Rattle.cluster_histories.specs.MoveLaws.{AreExplained, AreTwoMoments, ClientMoves}
use Rattle.cluster_histories.specs.Moves.{counted_by}

abbrev pub RaftDeeds : Type 0 → Type 0 → Type 0
RaftDeeds C O = Deeds (RaftInput C) (RaftOut O) (RaftMsg C) (KeptView C)

abbrev pub RaftMoves : Type 0 → Type 0 → Type 0
RaftMoves C O = ClientMoves C O (RaftMsg C)

module _ {S C O : Type 0} (m : MachineMeaning S C O) (nodes : ℕ) where
  -- what counts of what the nodes did is a run; what clients note is a view of its trace; and one machine, which takes the executed
  -- requests in their order, explains that
  pub record OneMachineExplains (deeds : RaftDeeds C O) : Type 0 where
    pub are : AreMoves (raft nodes m) (raft_recovery m) deeds
    pub steps : List (Step (RaftInput C))
    pub runs : RunsAs (raft nodes m) (raft_recovery m) (counted_by (moves_of are.choices deeds)) steps
    pub view : HasView (seen m nodes steps) (noted_by deeds)
    pub explained : IsLinearizable m (executed_by m nodes steps) (noted_by deeds)

  -- one run comes to what counts of some deeds, and goes on to what counts of them and more; and what it executes by each of the two
  -- moments explains what clients note by it. It speaks of what counts: areas that would open as after an event which never comes to
  -- count are those of the deeds with that opening behind them
  pub record DeedsGoOn (deeds more : RaftDeeds C O) : Type 0 where
    pub are : AreMoves (raft nodes m) (raft_recovery m) (deeds ++ more)
    pub early : List (Step (RaftInput C))
    pub late : List (Step (RaftInput C))
    pub first : RunsAs (raft nodes m) (raft_recovery m) (counted_by (moves_of are.choices deeds)) early
    pub second : RunsAs (raft nodes m) (raft_recovery m) (counted_by (moves_of are.choices (deeds ++ more))) (early ++ late)
    pub explained_first : IsLinearizable m (executed_by m nodes early) (noted_by deeds)
    pub explained_second : IsLinearizable m (executed_by m nodes (early ++ late)) (noted_by (deeds ++ more))
    pub moments : AreMoments m nodes (world_of (raft nodes m) (raft_recovery m) (counted_by (moves_of are.choices deeds)))
        (world_of (raft nodes m) (raft_recovery m) (counted_by (moves_of are.choices (deeds ++ more))))

module _ (S C O : Type 0) where
  -- of nodes that store what they decide before anything of it goes out
  abbrev pub DeedsAreExplained : Type 0
  DeedsAreExplained =
      (m : MachineMeaning S C O) (nodes : ℕ) (deeds : RaftDeeds C O) → IsClusterSize nodes →
      AllStoreFirst (raft nodes m) (raft_recovery m) deeds → OneMachineExplains m nodes deeds

  -- what counts of them at two moments is two moments of one run
  abbrev pub DeedsAreOfOneRun : Type 0
  DeedsAreOfOneRun =
      (m : MachineMeaning S C O) (nodes : ℕ) (deeds more : RaftDeeds C O) → IsClusterSize nodes →
      AllStoreFirst (raft nodes m) (raft_recovery m) (deeds ++ more) → DeedsGoOn m nodes deeds more

  -- the same of nodes that keep what they come to, whenever they do, before anything of it goes out
  abbrev pub KeptMovesAreExplained : Type 0
  KeptMovesAreExplained =
      (m : MachineMeaning S C O) (nodes : ℕ) (moves : RaftMoves C O) → IsClusterSize nodes →
      DoTheirParts (raft nodes m) (raft_recovery m) moves → AreExplained (raft nodes m) (raft_recovery m) m (executed_by m nodes) moves

  abbrev pub KeptMovesAreOfOneRun : Type 0
  KeptMovesAreOfOneRun =
      (m : MachineMeaning S C O) (nodes : ℕ) (moves more : RaftMoves C O) →
      DoTheirParts (raft nodes m) (raft_recovery m) (moves ++ more) → AreTwoMoments (raft nodes m) (raft_recovery m) moves more
