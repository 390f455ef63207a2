use Rattle.std.proofs.Common.{◌≡◌, ℕ, List, take, drop}
use Rattle.disk.specs.Images.{followed}
use Rattle.node_device_mem.specs.Histories.{all_acts}
use Rattle.node_device_mem.specs.MemoryTrails.{trail_of}
use Rattle.node_device_mem.proofs.trail.MemoryTrail.follow_all.Given as goal

-- what is left to do leads where all of it does
abbrev pub invariant-loop-act : goal.invariant-loop-act
invariant-loop-act l =
    (clock : List ℕ) (from nows : ℕ) → followed (trail_of l.self) (take l.left (all_acts clock (drop l.act-index l.past) from nows))
    ≡ followed (trail_of l.fn.self) (take l.acts (all_acts clock l.past from nows))
