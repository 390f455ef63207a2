-- The table of named locks, as functions on finite maps.
use Rattle.std.specs.Prelude.{ℕ, Bool, true, false, List, Option, None, Some, is_some, if◌then◌else◌}
use Rattle.std.specs.FinMap.{empty, get, insert, remove}
use Rattle.key_map.specs.ByKey.{ByKey}
pub use Rattle.key_map.specs.ByKey.{holds}
use Rattle.vst_base.specs.Machines.{MachineMeaning}
use Rattle.lock_table.specs.declared.cmd.TableCmd.{TableCmd}
use Rattle.lock_table.specs.declared.cmd.TableCmd.TheVariants.{Acquire, Release, Holder}
use Rattle.lock_table.specs.declared.out.TableOut.{TableOut}

-- from the bytes of the names that are held to those of their owners
abbrev pub Holders : Type 0
Holders = ByKey (List ℕ)

-- a reply: the name, its holder after the command, and yes or no
abbrev pub told : List ℕ → Option (List ℕ) → Bool → TableOut
told name holder answer = record { name = name; holder = holder; yes = answer }

-- what a command makes of the table, and its reply
abbrev pub Change : Type 0
Change = Holders × TableOut

abbrev pub answers : Holders → List ℕ → Bool → Change
answers m l answer = (m, told l (get m l) answer)

-- the owner has the name exactly where it was free, and is told yes exactly there
abbrev pub acquires : Holders → List ℕ → List ℕ → Change
acquires m l o = if holds m l None then answers (insert m l o) l true else answers m l false

-- the name is free exactly where the owner had it, and the owner is told yes exactly there
abbrev pub releases : Holders → List ℕ → List ℕ → Change
releases m l o = if holds m l (Some o) then answers (remove m l) l true else answers m l false

-- yes exactly where the name is held
abbrev pub tells : Holders → List ℕ → Change
tells m l = answers m l (is_some (get m l))

abbrev pub apply : Holders → TableCmd → Change
apply m (Acquire l o) = acquires m l o
apply m (Release l o) = releases m l o
apply m (Holder l) = tells m l

-- the question who holds a name is the one command that only reads
abbrev pub is_read : TableCmd → Bool
is_read (Acquire l o) = false
is_read (Release l o) = false
is_read (Holder l) = true

abbrev pub table : MachineMeaning Holders TableCmd TableOut
table = record { init = empty; apply = apply }
