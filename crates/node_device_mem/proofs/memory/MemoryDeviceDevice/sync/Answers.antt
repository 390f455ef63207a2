use Rattle.std.proofs.Common.{rules}
use Rattle.disk.specs.Acts.{Sync, StoreFailed}
use Rattle.node_device_mem.specs.Devices.{steady_told}
use Rattle.node_device_mem.proofs.Failed.{others_noted}
use Rattle.node_device_mem.proofs.memory.MemoryDeviceDevice.sync.Goals as goal

pub returns-clause-others : goal.returns-clause-others
returns-clause-others c = others_noted c.args.area (StoreFailed (Sync c.args.area)) (steady_told c.args.self.now.steady) _ (search rules)
