-- The theorem of clusters, of their deeds and of their moves.
use Rattle.std.proofs.Common.{◌≡◌, ℕ, List, [], ◌∷◌, ◌++◌, refl, sym, subst, drop, length}
use Rattle.linearizability.specs.Linearizable.{IsLinearizable}
use Rattle.net_semantics.specs.Worlds.{put}
use Rattle.node_histories.specs.HistoryLaws.{RunsAs}
use Rattle.node_histories.specs.Translations.{at_node, translated}
use Rattle.node_histories.specs.Views.{HasView}
use Rattle.raft_safety.proofs.Ordering.{runs_are_linearizable}
use Rattle.raft_safety.specs.Applied.{executed_by}
use Rattle.raft_safety.specs.Runs.{seen}
use Rattle.raft_types.specs.Messages.{IsClusterSize}
use Rattle.raft_xform.specs.Raft.{raft, raft_recovery}
use Rattle.vst_base.specs.Machines.{MachineMeaning}
use Rattle.cluster_histories.proofs.Explaining.{allowed_front, explains, moments_are_of_one_run, moves_are_explained}
use Rattle.cluster_histories.proofs.Parting.{parts_are_allowed}
use Rattle.cluster_histories.proofs.Storing.{deeds_are_moves, view_same}
use Rattle.cluster_histories.specs.Alone.{DoTheirParts}
use Rattle.cluster_histories.specs.ClusterLaws.{DeedsAreExplained, DeedsAreOfOneRun, KeptMovesAreExplained, KeptMovesAreOfOneRun, RaftMoves}
use Rattle.cluster_histories.specs.DeedLaws.{AreMoves, moves_of, moves_of_one}
use Rattle.cluster_histories.specs.MoveLaws.{AreExplained, AreTwoMoments, IsExplained}
use Rattle.cluster_histories.specs.Moves.{at_first, counted_by}
use Rattle.lists.specs.Prefixes.{IsPrefix, prefix_behind, prefix_joined}

-- each schedule is explained, by what it executes
each_is_explained : {S C O : Type 0} (m : MachineMeaning S C O) (nodes : ℕ) → IsClusterSize nodes → IsExplained (raft nodes m) (raft_recovery m) m (executed_by m nodes)
each_is_explained {S = S} {C = C} {O = O} m nodes size = λ ss allowed. runs_are_linearizable S C O m nodes ss (record { size = size; allowed = allowed })

pub kept_moves_are_explained : (S C O : Type 0) → KeptMovesAreExplained S C O
kept_moves_are_explained S C O m nodes moves size parts =
    moves_are_explained _ _ C O _ S (raft nodes m) (raft_recovery m) m (executed_by m nodes) moves
    (each_is_explained m nodes size) (parts_are_allowed (raft nodes m) (raft_recovery m) moves parts)

pub kept_moves_are_of_one_run : (S C O : Type 0) → KeptMovesAreOfOneRun S C O
kept_moves_are_of_one_run S C O m nodes moves more parts =
    moments_are_of_one_run _ _ C O _ (raft nodes m) (raft_recovery m) moves more (parts_are_allowed (raft nodes m) (raft_recovery m) (moves ++ more) parts)

pub deeds_are_explained : (S C O : Type 0) → DeedsAreExplained S C O
deeds_are_explained S C O m nodes deeds size all =
    let are : AreMoves (raft nodes m) (raft_recovery m) deeds = deeds_are_moves _ _ _ _ _ (raft nodes m) (raft_recovery m) deeds all in
    let moves : RaftMoves C O = moves_of are.choices deeds in
    let is : AreExplained (raft nodes m) (raft_recovery m) m (executed_by m nodes) moves = kept_moves_are_explained S C O m nodes moves size are.parts in
    record {
      are = are;
      steps = is.steps;
      runs = is.runs;
      view = subst (HasView (seen m nodes is.steps)) are.noted is.view;
      explained = subst (IsLinearizable m (executed_by m nodes is.steps)) are.noted is.explained;
    }

-- a prefix, told in other words, is a prefix of the whole
begins : {T X A : Type 0} (step : ℕ → T → X → T × List A) (t : ℕ → T) (xs ys : List (ℕ × X)) → IsPrefix (translated step t xs) (translated step t (xs ++ ys))
begins step t [] ys = refl
begins step t (x ∷ xs) ys =
    let first = at_node x.0 (step x.0 (t x.0) x.1).1 in
    prefix_behind first _ (begins step (put t x.0 (step x.0 (t x.0) x.1).0) xs ys)

pub deeds_are_of_one_run : (S C O : Type 0) → DeedsAreOfOneRun S C O
deeds_are_of_one_run S C O m nodes deeds more size all =
    let are : AreMoves (raft nodes m) (raft_recovery m) (deeds ++ more) = deeds_are_moves _ _ _ _ _ (raft nodes m) (raft_recovery m) (deeds ++ more) all in
    let moves : RaftMoves C O = moves_of are.choices deeds in
    let whole : RaftMoves C O = moves_of are.choices (deeds ++ more) in
    let rest : RaftMoves C O = drop (length moves) whole in
    let both : moves ++ rest ≡ whole = prefix_joined (begins moves_of_one are.choices deeds more) in
    let parts : DoTheirParts (raft nodes m) (raft_recovery m) (moves ++ rest) = subst (DoTheirParts (raft nodes m) (raft_recovery m)) (sym both) are.parts in
    let two : AreTwoMoments (raft nodes m) (raft_recovery m) moves rest = kept_moves_are_of_one_run S C O m nodes moves rest parts in
    let second : RunsAs (raft nodes m) (raft_recovery m) (counted_by whole) (two.early ++ two.late) =
    subst (λ ms. RunsAs (raft nodes m) (raft_recovery m) (counted_by ms) (two.early ++ two.late)) both two.second in
    record {
      are = are;
      early = two.early;
      late = two.late;
      first = two.first;
      second = second;
      explained_first = subst (IsLinearizable m (executed_by m nodes two.early)) (view_same are.choices deeds)
          (explains (raft nodes m) (raft_recovery m) m (executed_by m nodes) moves two.early (each_is_explained m nodes size)
          (allowed_front (raft nodes m) (raft_recovery m) at_first [] moves rest (parts_are_allowed (raft nodes m) (raft_recovery m) (moves ++ rest) parts)) two.first);
      explained_second = subst (IsLinearizable m (executed_by m nodes (two.early ++ two.late))) are.noted
          (explains (raft nodes m) (raft_recovery m) m (executed_by m nodes) whole (two.early ++ two.late) (each_is_explained m nodes size)
          (parts_are_allowed (raft nodes m) (raft_recovery m) whole are.parts) second);
      moments = record {
        early = two.early;
        late = two.late;
        run = record { size = size; allowed = second.allowed };
        first = sym two.first.comes_to;
        second = sym second.comes_to;
      };
    }
