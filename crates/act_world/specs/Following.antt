-- Which schedules of single acts a world has followed.
use Rattle.std.specs.Prelude.{List}
use Rattle.handler_trait.specs.Facts.{RebootableFacts}
use Rattle.act_network.specs.ActRuns.{acts_run}
use Rattle.act_network.specs.Disks.{Disks}
use Rattle.act_network.specs.declared.step.ActStep.{ActStep}
use Rattle.act_world.specs.ActViews.{ActView, ShowsAct}

-- a world is that after these steps
abbrev pub HasFollowedActs : {H S K D I A O M X : Type 0} → RebootableFacts H S K I O M → Disks K D A X → ActView H S D I A O M X → List (ActStep I X) → Type 0
HasFollowedActs f d v ss = ShowsAct v (acts_run (f.meaning v.handlers) (f.recovery v.handlers) d ss)
