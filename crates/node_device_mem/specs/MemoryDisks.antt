-- What contracts see of three areas in memory.
use Rattle.disk.specs.Disk.{Disk, Image}
use Rattle.node_device_mem.specs.MemoryAreas.{area_of}
use Rattle.node_device_mem.specs.declared.memory_disk.Areas.{Areas}
use Rattle.node_device_mem.specs.declared.memory_disk.MemoryDisk.{MemoryDisk}

abbrev pub image_of : Areas → Image
image_of areas = record { slot0 = areas.slot0.items; slot1 = areas.slot1.items; selector = areas.selector.items }

abbrev pub disk_of : MemoryDisk → Disk
disk_of disk = record { slot0 = area_of disk.slot0; slot1 = area_of disk.slot1; selector = area_of disk.selector }
