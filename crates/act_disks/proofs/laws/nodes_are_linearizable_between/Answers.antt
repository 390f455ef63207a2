use Rattle.disk.proofs.Between.{by_between}
use Rattle.disk.specs.Between.{may_become_between}
use Rattle.act_disks.proofs.NodeRuns.{nodes_are_linearizable}
use Rattle.act_disks.proofs.laws.nodes_are_linearizable_between.Goals as goal

pub returns : goal.returns
returns g c =
    nodes_are_linearizable g.C.Commands.stack g.C.Wire.format g.met.C.Wire.is_format g.met.C.Commands.short
    may_become_between by_between _ _ (λ v old new disk saved. saved.between)
