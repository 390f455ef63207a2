use Rattle.node_acts.proofs.Helds.{holds_rests}
use Rattle.node_acts.proofs.StateSaves.{save_keeps_state}
use Rattle.node_acts.proofs.laws.saves_keep_states.Goals as goal

pub returns-clause-rests : goal.returns-clause-rests
returns-clause-rests g c = holds_rests g.C.Commands.stack g.C.Wire.format

pub returns-clause-saves : goal.returns-clause-saves
returns-clause-saves g c = save_keeps_state g.C.Commands.stack g.C.Wire.format g.met.C.Wire.is_format g.met.C.Commands.short
