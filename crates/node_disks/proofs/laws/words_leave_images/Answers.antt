use Rattle.disk.specs.Disk.{may_become}
use Rattle.act_disks.specs.NodeStores.{node_stores}
use Rattle.node_disks.proofs.Trails.{trails-hold, words-left}
use Rattle.node_disks.proofs.laws.words_leave_images.Goals as goal
use Rattle.node_disks.specs.NodeTrails.{node_changes}
use Rattle.disk.proofs.Imaging.{words_give_images}

pub returns-clause-holds : goal.returns-clause-holds
returns-clause-holds g c who = trails-hold may_become (node_stores g.C.Commands.stack g.C.Wire.format who) (node_changes g.C.Commands.stack g.C.Wire.format)

pub returns-clause-left : goal.returns-clause-left
returns-clause-left g c who disk word t =
    words-left (node_stores g.C.Commands.stack g.C.Wire.format who) (node_changes g.C.Commands.stack g.C.Wire.format) words_give_images disk word t
