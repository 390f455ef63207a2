use Rattle.node_growth.proofs.Growing.{kept_fits, stays_sound}
use Rattle.node_growth.proofs.Hearing.{heard_is_of_cluster}
use Rattle.node_growth.proofs.laws.events_keep_nodes_sound.Goals as goal

pub returns-clause-sound : goal.returns-clause-sound
returns-clause-sound g c = stays_sound g.C.Wire.format g.O.Wire.format

pub returns-clause-heard : goal.returns-clause-heard
returns-clause-heard g c = heard_is_of_cluster g.C.Wire.format g.met.C.Wire.is_format

pub returns-clause-kept_fits : goal.returns-clause-kept_fits
returns-clause-kept_fits g c = kept_fits
