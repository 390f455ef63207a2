-- Devices that tell, for examples.
use Rattle.std.specs.Prelude.{ℕ, Option, None, Some, List, [], ◌∷◌}
use Rattle.outside.specs.declared.device.Address.{Address}
use Rattle.disk.specs.Acts.{Act}
use Rattle.disk.specs.Disk.{Area, settled}
use Rattle.node_device.specs.Faults.{Faults}
use Rattle.node_device.specs.Telling.{Told}

-- a record of these acts, and slot 0 like this; the other areas are empty
abbrev pub shows : List Act → Area → Option Told
shows acts area = Some (record { acts = acts; disk = record { slot0 = area; slot1 = settled []; selector = settled [] } })

-- a record of these acts, and empty areas
abbrev pub tells : List Act → Option Told
tells acts = shows acts (settled [])

-- nothing is told
abbrev pub untold : Option Told
untold = None

-- slot 0 with these bytes, and no act yet
abbrev pub holds : List ℕ → Option Told
holds bytes = shows [] (settled bytes)

-- so many faults of receives, and of store calls, and one of each other kind
abbrev pub counts : ℕ → ℕ → Faults
counts receive store = record { begin = 1; receive = receive; store = store; send = 1 }

-- so many faults of sends, and one of each other kind
abbrev pub sends : ℕ → Faults
sends n = record { begin = 1; receive = 1; store = 1; send = n }

-- a node of this computer
abbrev pub node_at : ℕ → Address
node_at port = record { ip = 127 ∷ 0 ∷ 0 ∷ 1 ∷ []; port = port }
