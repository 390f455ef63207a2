use Rattle.std.proofs.Common.{rules}
use Rattle.disk.specs.Acts.{Synced}
use Rattle.disk.specs.Disk.{synced}
use Rattle.node_device_mem.specs.Devices.{steady_told}
use Rattle.node_device_mem.proofs.Failed.{others_changed}
use Rattle.node_device_mem.proofs.steady.SteadyDeviceDevice.sync.Goals as goal

pub returns-clause-others : goal.returns-clause-others
returns-clause-others c = others_changed c.args.area synced (Synced c.args.area) (steady_told c.args.self.now) _ (search rules)
