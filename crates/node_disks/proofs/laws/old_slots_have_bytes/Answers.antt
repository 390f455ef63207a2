use Rattle.node_disks.proofs.OldSlots.{found_fits}
use Rattle.node_disks.proofs.laws.old_slots_have_bytes.Goals as goal

pub returns : goal.returns
returns g c nodes name size named = found_fits g.C.Commands.stack g.C.Wire.format g.met.C.Wire.is_format nodes name size named
