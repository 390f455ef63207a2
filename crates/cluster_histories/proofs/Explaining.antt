-- So what counts is a run, and what explains its trace explains what clients note.
use Rattle.std.proofs.Common.{◌≡◌, ℕ, List, [], ◌∷◌, ◌++◌, refl, sym, ap, ◌∙◌, subst, drop, length}
use Rattle.handler_trait.specs.Handling.{Meaning, Recovery}
use Rattle.linearizability.specs.Linearizable.{IsLinearizable}
use Rattle.net_semantics.specs.Worlds.{Packet}
use Rattle.raft_types.specs.declared.client.RaftInput.{RaftInput}
use Rattle.raft_types.specs.declared.client.RaftOut.{RaftOut}
use Rattle.vst_base.specs.Machines.{MachineMeaning}
use Rattle.vst_base.specs.declared.step.Step.{Step}
use Rattle.node_histories.proofs.Showing.{less_is_explained}
use Rattle.node_histories.proofs.Running.{histories_are_runs, runs_go_on}
use Rattle.node_histories.proofs.Lists.{contains_none}
use Rattle.node_histories.specs.Histories.{MayHappen, Restarts, items_of}
use Rattle.node_histories.specs.HistoryLaws.{GoesOn, HasRun, RunsAs}
use Rattle.node_histories.specs.Views.{HasView}
use Rattle.cluster_histories.specs.Moves.{Move, AreAllowed, AreAllowed_since, ComesTo, Keeps, Sends, SoFar, StartsAgain, Tells, after_move, after_moves, at_first, counted_by, kept, out_after, view_of}
use Rattle.cluster_histories.specs.MoveLaws.{ClientMoves, MovesAreRuns, AreExplained, AreTwoMoments, AreRun, MovesAreExplained, IsExplained, MomentsAreOfOneRun}
use Rattle.cluster_histories.proofs.Keeping.{Holds, all_moves}
use Rattle.lists.specs.Prefixes.{IsPrefix, prefix_append, prefix_joined, prefix_self, prefix_trans}

module _ {S K C O M : Type 0} (m : Meaning S (RaftInput C) (RaftOut O) M) (r : Recovery S K) where
  holds_first : Holds m r at_first [] []
  holds_first = record {
    may = record { at_nodes = tt; taken = tt; nothing_forged = tt };
    pending = λ n h e. absurd (cc);
    went_out = λ p i. absurd (contains_none p i);
    shows = record { asked = tt; told = tt };
  }

  are_run : (moves : ClientMoves C O M) → AreAllowed m r moves → AreRun m r moves
  are_run moves may =
      let ends : (out : List (Packet M)) × Holds m r (after_moves at_first moves) out (view_of moves) = all_moves m r at_first [] [] moves may holds_first in
      record { may = ends.1.may; view = ends.1.shows }

  -- what explains the trace of a schedule that comes to what counts
  pub explains : {X : Type 0} (machine : MachineMeaning X C O) (order : List (Step (RaftInput C)) → List (RaftInput C)) (moves : ClientMoves C O M) (ss : List (Step (RaftInput C)))
      → IsExplained m r machine order → AreAllowed m r moves → RunsAs m r (counted_by moves) ss → IsLinearizable machine (order ss) (view_of moves)
  explains {X = X} machine order moves ss each may runs =
      less_is_explained X C O machine (order ss) (items_of m r (counted_by moves)) (view_of moves) (are_run moves may).view
      (subst (IsLinearizable machine (order ss)) runs.seen (each ss runs.allowed))

  one_machine : {X : Type 0} (machine : MachineMeaning X C O) (order : List (Step (RaftInput C)) → List (RaftInput C)) (moves : ClientMoves C O M)
      → IsExplained m r machine order → AreAllowed m r moves → AreExplained m r machine order moves
  one_machine machine order moves each may =
      let is : AreRun m r moves = are_run moves may in
      let run : HasRun m r (counted_by moves) = histories_are_runs S K (RaftInput C) (RaftOut O) M m r (counted_by moves) is.may in
      record {
        steps = run.steps;
        runs = run.runs;
        view = subst (λ xs. HasView xs (view_of moves)) (sym run.runs.seen) is.view;
        explained = explains machine order moves run.steps each may run.runs;
      }

  -- what counts only grows at its end
  grows_one : (s : SoFar (RaftInput C) M) (n : ℕ) (a : Move (RaftInput C) (RaftOut O) M) → IsPrefix s.counted (after_move s n a).counted
  grows_one s n (ComesTo event) = prefix_self s.counted
  grows_one s n Keeps = prefix_append s.counted (kept n (s.pending n))
  grows_one s n StartsAgain = prefix_append s.counted ((n, Restarts) ∷ [])
  grows_one s n (Sends to c) = prefix_self s.counted
  grows_one s n (Tells o) = prefix_self s.counted

  grows : (s : SoFar (RaftInput C) M) (moves : ClientMoves C O M) → IsPrefix s.counted (after_moves s moves).counted
  grows s [] = prefix_self s.counted
  grows s (a ∷ moves) =
      prefix_trans (after_moves s (a ∷ moves)).counted (grows_one s a.0 a.1) (grows (after_move s a.0 a.1) moves)

  after_both : (s : SoFar (RaftInput C) M) (moves more : ClientMoves C O M) → after_moves s (moves ++ more) ≡ after_moves (after_moves s moves) more
  after_both s [] more = refl
  after_both s (a ∷ moves) more = after_both (after_move s a.0 a.1) moves more

  pub allowed_front : (s : SoFar (RaftInput C) M) (out : List (Packet M)) (moves more : ClientMoves C O M) → AreAllowed_since m r s out (moves ++ more) → AreAllowed_since m r s out moves
  allowed_front s out [] more may = tt
  allowed_front s out (a ∷ moves) more may = (may.0, may.1, allowed_front (after_move s a.0 a.1) (out_after out a.0 a.1) moves more may.2)

  moments : (moves more : ClientMoves C O M) → AreAllowed m r (moves ++ more) → AreTwoMoments m r moves more
  moments moves more may =
      let before : AreRun m r moves = are_run moves (allowed_front at_first [] moves more may) in
      let after : AreRun m r (moves ++ more) = are_run (moves ++ more) may in
      let run : HasRun m r (counted_by moves) = histories_are_runs S K (RaftInput C) (RaftOut O) M m r (counted_by moves) before.may in
      let whole = (after_moves (after_moves at_first moves) more).counted in
      let grown = drop (length (counted_by moves)) whole in
      let joined : counted_by moves ++ grown ≡ whole = prefix_joined (grows (after_moves at_first moves) more) in
      let is : counted_by moves ++ grown ≡ counted_by (moves ++ more) = joined ∙ ap (λ s. s.counted) (sym (after_both at_first moves more)) in
      let on : GoesOn m r (counted_by moves) grown run.steps =
      runs_go_on S K (RaftInput C) (RaftOut O) M m r (counted_by moves) grown run.steps (subst (MayHappen m r) (sym is) after.may) run.runs in
      record { early = run.steps; late = on.more; first = run.runs; second = subst (λ hs. RunsAs m r hs (run.steps ++ on.more)) is on.runs }

pub moves_are_runs : (S K C O M : Type 0) → MovesAreRuns S K C O M
moves_are_runs S K C O M m r moves may = are_run m r moves may

pub moves_are_explained : (S K C O M X : Type 0) → MovesAreExplained S K C O M X
moves_are_explained S K C O M X m r machine order moves each may = one_machine m r machine order moves each may

pub moments_are_of_one_run : (S K C O M : Type 0) → MomentsAreOfOneRun S K C O M
moments_are_of_one_run S K C O M m r moves more may = moments m r moves more may
