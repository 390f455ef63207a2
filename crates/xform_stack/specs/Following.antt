-- Which schedules a world has followed, and what holds of it when it is made and after each step.
use Rattle.std.specs.Prelude.{List}
use Rattle.handler_trait.specs.Facts.{HandlersFacts, RebootableFacts}
use Rattle.net_semantics.specs.Runs.{no_recovery, run}
use Rattle.net_semantics.specs.Shown.{IsSoundBy, ShowsBy, WorldView}
use Rattle.net_semantics.specs.ShownFail.{FailView, IsSoundFailBy, ShowsFailBy}
use Rattle.net_semantics.specs.Worlds.{World}
use Rattle.vst_base.specs.declared.net.Net.TheVariants as net
use Rattle.vst_base.specs.declared.step.Step.{Step}
use Rattle.xform_stack.specs.Systems.{System}

module _ {H S I O M : Type 0} (f : HandlersFacts H S I O M) (v : WorldView H S I O M) where
  -- a world no node of which stops is that after these steps
  abbrev pub HasFollowed : List (Step I) → Type 0
  HasFollowed ss = ShowsBy f v (run (f.meaning v.handlers) no_recovery ss)

  -- it is sound, and stands for one
  pub record IsShown : Type 0 where
    pub sound : IsSoundBy f v
    pub shown : World S S M
    pub shows : ShowsBy f v shown

module _ {H S K I O M : Type 0} (f : RebootableFacts H S K I O M) where
  -- handlers on a network whose nodes stop and start again
  abbrev pub failing : H → System S K I O M
  failing h = record { net = net.Fail; meaning = f.meaning h; recovery = f.recovery h }

  -- a world whose nodes stop is that after these steps
  abbrev pub HasFollowedFail : FailView H S K I O M → List (Step I) → Type 0
  HasFollowedFail v ss = ShowsFailBy f v (run (f.meaning v.handlers) (f.recovery v.handlers) ss)

  -- it is sound, and stands for one
  pub record IsShownFail (v : FailView H S K I O M) : Type 0 where
    pub sound : IsSoundFailBy f v
    pub shown : World S K M
    pub shows : ShowsFailBy f v shown
