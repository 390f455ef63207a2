-- What is explained stays explained where less of it is told, or more is asked.
use Rattle.std.specs.Prelude.{List, ◌++◌}
use Rattle.linearizability.specs.Linearizable.{IsLinearizable, Seen}
use Rattle.raft_types.specs.declared.client.RaftInput.{RaftInput}
use Rattle.vst_base.specs.Machines.{MachineMeaning}
use Rattle.node_histories.specs.Views.{AreAsked, AreGiven, HasView}

-- the order that explains what was seen explains each view of it
abbrev pub LessIsExplained : Type 0 → Type 0 → Type 0 → Type 0
LessIsExplained S C O =
    (m : MachineMeaning S C O) (order : List (RaftInput C)) (seen view : Seen C O) → HasView seen view →
    IsLinearizable m order seen → IsLinearizable m order view

module _ (C O : Type 0) where
  -- what was seen is a view of itself, and a view of a view is a view
  abbrev pub ShowsItself : Type 0
  ShowsItself = (seen : Seen C O) → HasView seen seen

  abbrev pub ViewsGoOn : Type 0
  ViewsGoOn = (seen between view : Seen C O) → HasView seen between → HasView between view → HasView seen view

  -- more may be seen where its requests show, and more may show where its replies were seen: so views are kept up as both go on
  abbrev pub SeenGoesOn : Type 0
  SeenGoesOn = (seen more view : Seen C O) → HasView seen view → AreAsked more view → HasView (seen ++ more) view

  abbrev pub ViewGoesOn : Type 0
  ViewGoesOn = (seen view more : Seen C O) → HasView seen view → AreGiven more seen → HasView seen (view ++ more)
