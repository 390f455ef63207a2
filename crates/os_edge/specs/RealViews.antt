-- What contracts see of a real device.
use Rattle.std.specs.Prelude.{ℕ, Bool, Option, None}
use Rattle.node_device.specs.Faults.{Faults}
use Rattle.node_device.specs.Telling.{Told}
use Rattle.os_edge.specs.declared.device.Counts.{Counts}

-- Whether it has begun, and whether a sync has failed since, after which it stores and reads nothing; how often its calls have failed,
-- and how often one has answered want of memory.
pub record RealView : Type 0 where
  pub begun : Bool
  pub sync_failed : Bool
  pub faults : Faults
  pub wants : ℕ

abbrev pub faults_of : Counts → Faults
faults_of counts = record { begin = counts.begin; receive = counts.receive; store = counts.store; send = counts.send }

-- it tells no acts and no areas
abbrev pub untold : Option Told
untold = None
