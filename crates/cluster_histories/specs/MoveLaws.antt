-- Nodes that tell only what they keep are a run of the network that fails, and where one machine explains its runs, it explains what
-- their clients note.
use Rattle.std.specs.Prelude.{List, ◌++◌}
use Rattle.handler_trait.specs.Handling.{Meaning, Recovery}
use Rattle.linearizability.specs.Linearizable.{IsLinearizable}
use Rattle.net_semantics.specs.Runs.{IsAllowed, trace}
use Rattle.node_histories.specs.Histories.{MayHappen, items_of}
use Rattle.node_histories.specs.HistoryLaws.{RunsAs}
use Rattle.node_histories.specs.Views.{HasView}
use Rattle.raft_types.specs.declared.client.RaftInput.{RaftInput}
use Rattle.raft_types.specs.declared.client.RaftOut.{RaftOut}
use Rattle.vst_base.specs.Machines.{MachineMeaning}
use Rattle.vst_base.specs.declared.net.Net.TheVariants as net
use Rattle.vst_base.specs.declared.step.Step.{Step}
use Rattle.cluster_histories.specs.Alone.{DoTheirParts}
use Rattle.cluster_histories.specs.Moves.{AreAllowed, Moves, counted_by, view_of}

-- moves of nodes whose clients ask and are told as those of Raft are
abbrev pub ClientMoves : Type 0 → Type 0 → Type 0 → Type 0
ClientMoves C O M = Moves (RaftInput C) (RaftOut O) M

module _ {S K C O M : Type 0} (m : Meaning S (RaftInput C) (RaftOut O) M) (r : Recovery S K) where
  -- what counts may happen, and what clients note is a view of what is seen of it
  pub record AreRun (moves : ClientMoves C O M) : Type 0 where
    pub may : MayHappen m r (counted_by moves)
    pub view : HasView (items_of m r (counted_by moves)) (view_of moves)

  -- each schedule that the network allows is explained by this machine, with the order that belongs to the schedule
  abbrev pub IsExplained : {X : Type 0} → MachineMeaning X C O → (List (Step (RaftInput C)) → List (RaftInput C)) → Type 0
  IsExplained machine order =
      (ss : List (Step (RaftInput C))) → IsAllowed net.Fail m r ss → IsLinearizable machine (order ss) (trace m r ss)

  -- one schedule comes to what counts, what clients note is a view of its trace, and what explains the trace explains that
  pub record AreExplained {X : Type 0} (machine : MachineMeaning X C O) (order : List (Step (RaftInput C)) → List (RaftInput C))
      (moves : ClientMoves C O M) : Type 0 where
    pub steps : List (Step (RaftInput C))
    pub runs : RunsAs m r (counted_by moves) steps
    pub view : HasView (trace m r steps) (view_of moves)
    pub explained : IsLinearizable machine (order steps) (view_of moves)

  -- one schedule comes to what counts after some moves, and goes on to what counts after more
  pub record AreTwoMoments (moves more : ClientMoves C O M) : Type 0 where
    pub early : List (Step (RaftInput C))
    pub late : List (Step (RaftInput C))
    pub first : RunsAs m r (counted_by moves) early
    pub second : RunsAs m r (counted_by (moves ++ more)) (early ++ late)

module _ (S K C O M : Type 0) where
  -- where each node does its part, they do together what they may
  abbrev pub PartsAreAllowed : Type 0
  PartsAreAllowed =
      (m : Meaning S (RaftInput C) (RaftOut O) M) (r : Recovery S K) (moves : ClientMoves C O M) →
      DoTheirParts m r moves → AreAllowed m r moves

  abbrev pub MovesAreRuns : Type 0
  MovesAreRuns =
      (m : Meaning S (RaftInput C) (RaftOut O) M) (r : Recovery S K) (moves : ClientMoves C O M) →
      AreAllowed m r moves → AreRun m r moves

  abbrev pub MomentsAreOfOneRun : Type 0
  MomentsAreOfOneRun =
      (m : Meaning S (RaftInput C) (RaftOut O) M) (r : Recovery S K) (moves more : ClientMoves C O M) →
      AreAllowed m r (moves ++ more) → AreTwoMoments m r moves more

  abbrev pub MovesAreExplained : Type 0 → Type 0
  MovesAreExplained X =
      (m : Meaning S (RaftInput C) (RaftOut O) M) (r : Recovery S K) (machine : MachineMeaning X C O)
      (order : List (Step (RaftInput C)) → List (RaftInput C)) (moves : ClientMoves C O M) →
      IsExplained m r machine order → AreAllowed m r moves → AreExplained m r machine order moves
