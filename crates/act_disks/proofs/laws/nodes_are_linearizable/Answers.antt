use Rattle.disk.proofs.Between.{by_model}
use Rattle.disk.specs.Disk.{may_become}
use Rattle.act_disks.proofs.NodeRuns.{nodes_are_linearizable}
use Rattle.act_disks.proofs.laws.nodes_are_linearizable.Goals as goal

pub returns : goal.returns
returns g c =
    nodes_are_linearizable g.C.Commands.stack g.C.Wire.format g.met.C.Wire.is_format g.met.C.Commands.short
    may_become by_model _ _ (λ v old new disk saved. saved.keeps)
