-- What a crash leaves during a call, where the device tells its acts.
use Rattle.std.specs.Prelude.{◌≡◌, ℕ, true, List, ◌++◌, take, Option, ◌⊎◌}
use Rattle.disk.specs.Acts.{Act}
use Rattle.disk.specs.Disk.{Image, may_leave}
use Rattle.raft_types.specs.Messages.{KeptView}
use Rattle.slots.specs.Opening.{OpensAs}
use Rattle.slots.specs.Saving.{sync_acts}
use Rattle.vst_base.specs.declared.stack.StackId.{StackId}
use Rattle.wire_fields.specs.Formats.{Format}
use Rattle.node_acts.specs.StateLaws.{IsAsFound, StateSaved}
use Rattle.node_acts.specs.StateActs.{first_kept}
use Rattle.node_acts.specs.Stores.{StoreView, Holds, Continues, found_by}
use Rattle.node_body.specs.declared.who.Who.{Who}
use Rattle.node_device.specs.Telling.{Told, StoppedIn}

-- Acts were cut short: among these first ones, or among all, and then this holds.
abbrev pub StoppedWith : Type 0 → Option Told → Option Told → List Act → List Act → Type 0
StoppedWith P old new first acts = StoppedIn old new first ⊎ (P × StoppedIn old new acts)

-- the areas hold a state that this one continues
abbrev pub IsHeldBefore : {C : Type 0} → StackId → Format C → StoreView → KeptView C → Told → Type 0
IsHeldBefore {C} s f store kept told = (held : KeptView C) × Holds s f store held told.disk × Continues store held kept

-- At each moment of the acts that were added, a crash leaves the state that was held or the one that is saved.
pub record LeavesEither {C : Type 0} (s : StackId) (f : Format C) (store : StoreView) (kept : KeptView C) (old new : Told) : Type 0 where
  pub did : List Act
  pub acts : new.acts ≡ old.acts ++ did
  pub each : (held : KeptView C) (n : ℕ) (image : Image) → Holds s f store held old.disk → Continues store held kept →
      may_leave old.disk (take n did) image ≡ true → OpensAs (found_by s f store.who) held image ⊎ OpensAs (found_by s f store.who) kept image

-- whatever state was held, the acts of the save keep it or make it this one, and the areas are then as the node knows
abbrev pub Saves : {C : Type 0} → StackId → Format C → StoreView → KeptView C → Told → Type 0
Saves {C} s f store kept old =
    (held : KeptView C) → Holds s f store held old.disk → Continues store held kept → StateSaved s f store held kept old.disk

-- From the third sync on, at each moment of the acts that were added, a crash leaves what was found, or, where area 2 was empty, what is
-- fresh or opens as the first state.
pub record LeavesFound {C : Type 0} (s : StackId) (f : Format C) (who : Who) (old new : Told) : Type 0 where
  pub did : List Act
  pub acts : new.acts ≡ old.acts ++ did
  pub each : (n : ℕ) (image : Image) → may_leave old.disk (take n did) image ≡ true → take 3 (take n did) ≡ sync_acts →
      IsAsFound (found_by s f who) first_kept old.disk image
