use Rattle.disk.specs.Between.{may_become_between}
use Rattle.disk.proofs.Between.{by_between}
use Rattle.node_acts.proofs.StateOpens.{opening_leaves_by, syncs_leave_by}
use Rattle.node_acts.proofs.laws.openings_leave_between.Goals as goal

pub returns-clause-leaves : goal.returns-clause-leaves
returns-clause-leaves g c =
    opening_leaves_by g.C.Commands.stack g.C.Wire.format g.met.C.Wire.is_format g.met.C.Commands.short may_become_between by_between

pub returns-clause-syncs : goal.returns-clause-syncs
returns-clause-syncs g c = syncs_leave_by may_become_between by_between
