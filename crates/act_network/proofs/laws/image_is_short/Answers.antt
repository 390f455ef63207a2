use Rattle.act_network.proofs.Bounding.{image_is_short}
use Rattle.act_network.proofs.laws.image_is_short.Goals as goal

pub returns : goal.returns
returns g c = image_is_short _ _ _ _ g.D.SavesStates.disks
