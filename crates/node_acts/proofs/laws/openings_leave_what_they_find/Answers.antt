use Rattle.node_acts.proofs.StateOpens.{fresh_is_held, found_is_held, opening_leaves, syncs_leave}
use Rattle.node_acts.proofs.laws.openings_leave_what_they_find.Goals as goal

pub returns-clause-fresh : goal.returns-clause-fresh
returns-clause-fresh g c = fresh_is_held g.C.Commands.stack g.C.Wire.format g.met.C.Wire.is_format g.met.C.Commands.short

pub returns-clause-found : goal.returns-clause-found
returns-clause-found g c = found_is_held g.C.Commands.stack g.C.Wire.format g.met.C.Wire.is_format g.met.C.Commands.short

pub returns-clause-leaves : goal.returns-clause-leaves
returns-clause-leaves g c = opening_leaves g.C.Commands.stack g.C.Wire.format g.met.C.Wire.is_format g.met.C.Commands.short

pub returns-clause-syncs : goal.returns-clause-syncs
returns-clause-syncs g c = syncs_leave
