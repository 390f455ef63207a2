use Rattle.std.proofs.Common.{[], ◌∷◌, rules}
use Rattle.disk.specs.Acts.{CutTo, StoreFailed}
use Rattle.disk.specs.Disk.{cut}
use Rattle.node_device.specs.Telling.{Did}
use Rattle.node_device_mem.specs.Devices.{steady_told}
use Rattle.node_device_mem.proofs.Failed.{failed_exactly, others_changed}
use Rattle.node_device_mem.proofs.memory.MemoryDeviceDevice.cut.Goals as goal

pub returns-clause-outcome : goal.returns-clause-outcome
returns-clause-outcome c =
    let did : Did (steady_told c.args.self.now.steady) (steady_told c.cut_as.new.self) (StoreFailed (CutTo c.args.area c.args.len) ∷ []) = search rules in
    failed_exactly _ _ _ did

pub returns-clause-others : goal.returns-clause-others
returns-clause-others c =
    others_changed c.args.area (cut c.args.len) (StoreFailed (CutTo c.args.area c.args.len)) (steady_told c.args.self.now.steady) _ (search rules)
