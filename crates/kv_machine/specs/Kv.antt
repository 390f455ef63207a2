-- The key-value machine, as functions on finite maps.
use Rattle.std.specs.Prelude.{ℕ, Bool, true, false, List, None, Some, if◌then◌else◌}
use Rattle.std.specs.FinMap.{empty, get, insert, remove}
use Rattle.key_map.specs.ByKey.{ByKey}
pub use Rattle.key_map.specs.ByKey.{holds}
use Rattle.vst_base.specs.Machines.{MachineMeaning}
use Rattle.kv_machine.specs.declared.cmd.KvCmd.{KvCmd}
use Rattle.kv_machine.specs.declared.cmd.KvCmd.TheVariants.{Get, Put, Del, Cas, Cad}
use Rattle.kv_machine.specs.declared.out.KvOut.{KvOut}

-- from the bytes of keys to those of values
abbrev pub Store : Type 0
Store = ByKey (List ℕ)

-- what a command makes of the store, and its reply: the key, its value after and its value before
abbrev pub Change : Type 0
Change = Store × KvOut

abbrev pub keeps : Store → List ℕ → Change
keeps m k = (m, record { key = k; after = get m k; before = get m k })

abbrev pub sets : Store → List ℕ → List ℕ → Change
sets m k v = (insert m k v, record { key = k; after = Some v; before = get m k })

abbrev pub removes : Store → List ℕ → Change
removes m k = (remove m k, record { key = k; after = None; before = get m k })

-- cas sets exactly where the present value is the expected one, cad removes exactly there
abbrev pub apply : Store → KvCmd → Change
apply m (Get k) = keeps m k
apply m (Put k v) = sets m k v
apply m (Del k) = removes m k
apply m (Cas k e v) = if holds m k e then sets m k v else keeps m k
apply m (Cad k v) = if holds m k (Some v) then removes m k else keeps m k

-- get is the one command that only reads
abbrev pub is_read : KvCmd → Bool
is_read (Get k) = true
is_read (Put k v) = false
is_read (Del k) = false
is_read (Cas k e v) = false
is_read (Cad k v) = false

abbrev pub kv : MachineMeaning Store KvCmd KvOut
kv = record { init = empty; apply = apply }
