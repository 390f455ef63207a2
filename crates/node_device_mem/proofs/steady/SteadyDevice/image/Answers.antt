use Rattle.node_device_mem.specs.MemoryDisks.{disk_of}
use Rattle.node_device_mem.specs.Histories.{acts_told}
use Rattle.node_device_mem.specs.MemoryTrails.{trail_of}
use Rattle.node_device_mem.specs.Devices.{first_disk}
use Rattle.node_device_mem.proofs.Worded.{worded_left}
use Rattle.node_device_mem.proofs.steady.SteadyDevice.image.Goals as goal

pub returns-clause-left : goal.returns-clause-left
returns-clause-left c =
    let device = c.args.self.now in
    worded_left c.image.result (acts_told device.history) (first_disk device) (disk_of device.disk) (trail_of c.in_ok-trail.trail) c.args.acts c.args.word
    c.image.ensures c.in_ok-trail.ensures
