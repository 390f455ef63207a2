-- Real devices that have begun, and files that are looked at, for examples.
use Rattle.std.specs.Prelude.{ℕ, true, false, Option, Some}
use Rattle.node_device.specs.Faults.{Faults}
use Rattle.node_device.specs.Examples.{counts, sends}
use Rattle.os_edge.specs.RealViews.{RealView}
use Rattle.os_edge.specs.declared.looks.Look.{Look}

abbrev pub begun_with : Faults → RealView
begun_with faults = record { begun = true; sync_failed = false; faults = faults; wants = 0 }

-- with so many faults of beginnings alone
abbrev pub begun_after : ℕ → RealView
begun_after n = begun_with (record { begin = n; receive = 0; store = 0; send = 0 })

-- with so many faults of receives and of store calls, and one of each other kind
abbrev pub failed : ℕ → ℕ → RealView
failed receive store = begun_with (counts receive store)

-- with so many faults of sends, and one of each other kind
abbrev pub sent : ℕ → RealView
sent n = begun_with (sends n)

-- after a sync that failed
abbrev pub stopped : RealView → RealView
stopped view = record view { sync_failed = true }

-- with so many wants
abbrev pub wanted : ℕ → RealView → RealView
wanted n view = record view { wants = n }

-- a regular file with one name, this number and so many bytes
abbrev pub plain : ℕ → ℕ → Option Look
plain inode len = Some (record { is_regular = true; names = 1; device = 8; inode = inode; len = len })

-- the same on another disk
abbrev pub elsewhere : ℕ → ℕ → Option Look
elsewhere inode len = Some (record { is_regular = true; names = 1; device = 9; inode = inode; len = len })

-- an empty file that has so many names
abbrev pub named : ℕ → ℕ → Option Look
named inode names = Some (record { is_regular = true; names = names; device = 8; inode = inode; len = 0 })

-- a link, a directory, a pipe or a device
abbrev pub no_file : ℕ → Option Look
no_file inode = Some (record { is_regular = false; names = 1; device = 8; inode = inode; len = 0 })
