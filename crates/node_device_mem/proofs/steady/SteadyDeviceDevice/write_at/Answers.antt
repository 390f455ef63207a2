use Rattle.std.proofs.Common.{rules}
use Rattle.disk.specs.Acts.{Wrote}
use Rattle.disk.specs.Disk.{written}
use Rattle.node_device_mem.specs.Devices.{steady_told}
use Rattle.node_device_mem.proofs.Failed.{others_changed}
use Rattle.node_device_mem.proofs.steady.SteadyDeviceDevice.write_at.Goals as goal

pub returns-clause-others : goal.returns-clause-others
returns-clause-others c =
    others_changed c.args.area (written c.args.at c.args.bytes.now) (Wrote c.args.area c.args.at c.args.bytes.now) (steady_told c.args.self.now) _ (search rules)
