-- The texts of the lock server's inputs and outputs.
use Rattle.std.specs.Prelude.{ℕ, List, Option, None, Some, codes, if◌then◌else◌}
use Rattle.std.specs.Str.{bytes_eq}
use Rattle.vst_base.specs.declared.lock.LockInput.{LockInput}
use Rattle.vst_base.specs.declared.lock.LockInput.TheVariants.{Lock, Unlock}
use Rattle.vst_base.specs.declared.lock.LockOutput.{LockOutput}
use Rattle.vst_base.specs.declared.lock.LockOutput.TheVariants.{Locked}

abbrev pub input_text : LockInput → List ℕ
input_text Lock = codes "lock"
input_text Unlock = codes "unlock"

abbrev pub input_of : List ℕ → Option LockInput
input_of bs =
    if bytes_eq bs (codes "lock") then Some Lock
    else if bytes_eq bs (codes "unlock") then Some Unlock
    else None

abbrev pub output_text : LockOutput → List ℕ
output_text Locked = codes "locked"

abbrev pub output_of : List ℕ → Option LockOutput
output_of bs = if bytes_eq bs (codes "locked") then Some Locked else None
