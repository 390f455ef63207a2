use Rattle.disk.specs.Between.{may_become_between}
use Rattle.disk.proofs.Between.{by_between}
use Rattle.slots.proofs.Saves.{saves}
use Rattle.slots.proofs.Opens.{opens, moves}
use Rattle.slots.proofs.saving.laws_between.Goals as goal

pub returns : goal.returns
returns g c = record {
  saves = saves may_become_between by_between;
  opens = opens may_become_between by_between;
  moves = moves may_become_between by_between;
}
