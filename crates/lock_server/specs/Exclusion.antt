-- What a lock is for, said of what clients see alone.
use Rattle.std.specs.Prelude.{◌≡◌, ◌≢◌, ℕ, List, ◌∷◌, ◌++◌, Contains}
use Rattle.vst_base.specs.declared.lock.LockInput.{LockInput}
use Rattle.vst_base.specs.declared.lock.LockInput.TheVariants as ask
use Rattle.vst_base.specs.declared.lock.LockOutput.{LockOutput}
use Rattle.vst_base.specs.declared.lock.LockOutput.TheVariants as told
use Rattle.vst_base.specs.declared.step.Item.{Item}
use Rattle.vst_base.specs.declared.step.Item.TheVariants as item

-- what clients see of a lock
abbrev pub LockTrace : Type 0
LockTrace = List (Item LockInput LockOutput)

-- between `locked` at a client and `locked` at another, the first gives an `unlock`
abbrev pub Excludes : LockTrace → Type 0
Excludes trace = (a b : ℕ) (before between after : LockTrace) → a ≢ b
    → trace ≡ before ++ item.Output a told.Locked ∷ between ++ item.Output b told.Locked ∷ after
    → Contains between (item.Input a ask.Unlock)
