use Rattle.std.proofs.Common.{rules}
use Rattle.disk.specs.Acts.{Cut}
use Rattle.disk.specs.Disk.{cut}
use Rattle.node_device_mem.specs.Devices.{steady_told}
use Rattle.node_device_mem.proofs.Failed.{others_changed}
use Rattle.node_device_mem.proofs.steady.SteadyDeviceDevice.cut.Goals as goal

pub returns-clause-others : goal.returns-clause-others
returns-clause-others c =
    others_changed c.args.area (cut c.args.len) (Cut c.args.area c.args.len) (steady_told c.args.self.now) _ (search rules)
