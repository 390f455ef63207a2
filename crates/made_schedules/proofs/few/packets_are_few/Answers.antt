use Rattle.std.proofs.Common.{arith}
use Rattle.net_semantics.specs.Worlds.{first_world}
use Rattle.made_schedules.proofs.Packets.{packets-after-all}
use Rattle.made_schedules.proofs.few.packets_are_few.Goals as goal

pub returns : goal.returns
returns g c = λ m r ss few. omega (arith, packets-after-all m r few (first_world m) ss)
