-- What contracts see of areas in memory.
use Rattle.disk.specs.Disk.{Area}
use Rattle.node_device_mem.specs.declared.area.MemoryArea.{MemoryArea}

abbrev pub area_of : MemoryArea → Area
area_of area = record { bytes = area.bytes.items; ranges = area.ranges.items; lengths = area.lengths.items }
