-- What contracts see of a trail in memory.
use Rattle.disk.specs.Images.{Trail}
use Rattle.node_device_mem.specs.MemoryDisks.{image_of, disk_of}
use Rattle.node_device_mem.specs.declared.trail.MemoryTrail.{MemoryTrail}

abbrev pub trail_of : MemoryTrail → Trail
trail_of trail = record { disk = disk_of trail.disk; stood = image_of trail.stood }
