use Rattle.disk.specs.Disk.{may_become}
use Rattle.disk.proofs.Between.{by_model}
use Rattle.slots.proofs.Saves.{saves, save_done, rests_is_ready}
use Rattle.slots.proofs.Opens.{opens, moves}
use Rattle.slots.proofs.saving.laws.Goals as goal

pub returns : goal.returns
returns g c = record {
  saves = saves may_become by_model;
  saved = save_done;
  ready = rests_is_ready;
  opens = opens may_become by_model;
  moves = moves may_become by_model;
}
