-- The answers of an opening.
use Rattle.std.specs.Prelude.{◌≡◌, ℕ, List, [], ◌∷◌, length, Option, Some, None, Result, Ok, Err, ◌⊎◌}
use Rattle.outside.specs.Counting.{Rose}
use Rattle.disk.specs.Acts.{Act}
use Rattle.disk.specs.Areas.{area_at, each}
use Rattle.disk.specs.Disk.{Image, contents, settled}
use Rattle.raft_types.specs.Messages.{KeptView}
use Rattle.slots.specs.Opening.{Opening, Fresh, Held, BadSelector, named}
use Rattle.slots.specs.Opening as area
use Rattle.vst_base.specs.declared.stack.StackId.{StackId}
use Rattle.wire_fields.specs.Formats.{Format}
use Rattle.node_acts.specs.StateActs.{first_kept, acts_on_slot, opening_acts, store_at_base, store_found}
use Rattle.node_acts.specs.Stores.{StoreView, why_of}
use Rattle.node_body.specs.Bodies.{body, body_of}
use Rattle.node_body.specs.Slots.{slot_found}
use Rattle.node_body.specs.declared.slot.Held as held
use Rattle.node_body.specs.declared.version.Version.TheVariants.{One}
use Rattle.node_body.specs.declared.who.Who.{Who}
use Rattle.node_device.specs.Faults.{Faults, CountsStore}
use Rattle.node_device.specs.Telling.{Told}
use Rattle.node_state.specs.declared.opening.OpenFault.{OpenFault}
use Rattle.node_state.specs.declared.opening.OpenFault.TheVariants as fault
use Rattle.node_state.specs.declared.opening.Opened.{Opened}
use Rattle.node_state.specs.declared.opening.Opened.TheVariants as opened
use Rattle.node_state.specs.declared.opening.Refusal.{Refusal}
use Rattle.node_state.specs.declared.opening.Refusal.TheVariants as refusal
use Rattle.node_state.specs.declared.faults.StateFault.{StateFault}
use Rattle.node_state.specs.declared.faults.StateFault.TheVariants as state

abbrev pub fault_of : StateFault → OpenFault
fault_of state.Store = fault.Store
fault_of state.Memory = fault.Memory

abbrev pub refusal_of : Refusal → area.Why
refusal_of refusal.Selector = BadSelector
refusal_of (refusal.Slot why) = why_of why

-- A store call that failed was counted, and nothing else; no other answer goes with a fault.
abbrev pub CountsOpening : Faults → Faults → OpenFault → Type 0
CountsOpening old new fault.Store = CountsStore old new
CountsOpening old new fault.Memory = new ≡ old
CountsOpening old new (fault.Refused why) = new ≡ old

abbrev pub OpenCounts : {T : Type 0} → Faults → Faults → Result T OpenFault → Type 0
OpenCounts old new (Ok x) = new ≡ old
OpenCounts old new (Err e) = CountsOpening old new e

-- Want of memory is the device's, which counts it, or that of a growth; then the device wanted none, and this stands.
abbrev pub OpenGrowsFirst : {T : Type 0} → Type 0 → ℕ → ℕ → Result T OpenFault → Type 0
OpenGrowsFirst P old new (Ok x) = new ≡ old
OpenGrowsFirst P old new (Err fault.Store) = new ≡ old
OpenGrowsFirst P old new (Err fault.Memory) = Rose old new ⊎ ((new ≡ old) × P)
OpenGrowsFirst P old new (Err (fault.Refused why)) = new ≡ old

-- what the node knows after an opening, and the state that it goes on from
abbrev pub store_in : {C : Type 0} → Opened C → StoreView
store_in (opened.Fresh store) = store
store_in (opened.Held store kept) = store

abbrev pub kept_in : {C : Type 0} → Opened C → KeptView C
kept_in (opened.Fresh store) = first_kept
kept_in (opened.Held store kept) = kept

-- the answer to what the areas open as
abbrev pub Answers : {C : Type 0} → Opened C → Opening (KeptView C) → Type 0
Answers (opened.Fresh store) opening = opening ≡ Fresh
Answers (opened.Held store kept) opening = (selector : ℕ) × (opening ≡ Held kept selector)

-- where a fault refuses the areas, this holds of the why
abbrev pub IfRefused : OpenFault → (area.Why → Type 0) → Type 0
IfRefused fault.Store P = Unit {0}
IfRefused fault.Memory P = Unit {0}
IfRefused (fault.Refused why) P = P (refusal_of why)

-- the acts of an opening of the areas that are told
abbrev pub acts_told : {C : Type 0} → StackId → Format C → Who → Option Told → List Act
acts_told s f who None = []
acts_told s f who (Some told) = opening_acts s f who (contents told.disk)

abbrev pub slot_acts_told : {C : Type 0} → StackId → Format C → Who → ℕ → Option Told → List Act
slot_acts_told s f who selector None = []
slot_acts_told s f who selector (Some told) = acts_on_slot s f who selector (slot_found s f who (area_at told.disk (named selector)).bytes)

-- A slot was found under this selector, and this is known of it; one of version 1 has bytes of version 2.
pub record FoundSo {C : Type 0} (s : StackId) (f : Format C) (who : Who) (selector : ℕ) (store : StoreView) (kept : KeptView C) (told : Told) : Type 0 where
  pub slot : held.Held C
  pub found : slot_found s f who (area_at told.disk (named selector)).bytes ≡ Ok slot
  pub store_is : store ≡ store_found s f who selector (length (area_at told.disk (named selector)).bytes) slot.version slot
  pub kept_is : kept ≡ slot.journal.kept
  pub fits : slot.version ≡ One → (body s f).Fits (body_of who slot.journal.kept)

abbrev pub RenewedFits : {C : Type 0} → StackId → Format C → Who → ℕ → Told → Type 0
RenewedFits {C} s f who selector told =
    (slot : held.Held C) → slot_found s f who (area_at told.disk (named selector)).bytes ≡ Ok slot → slot.version ≡ One →
    (body s f).Fits (body_of who slot.journal.kept)

-- areas without a byte
abbrev pub no_bytes : Image
no_bytes = record { slot0 = []; slot1 = []; selector = [] }

-- areas with these bytes and nothing pending, on which nothing was done
abbrev pub rested : Image → Told
rested image = record { acts = []; disk = each settled image }

-- how areas were opened: as fresh ones, or with a slot that was found
abbrev pub OpenedSo : {C : Type 0} → StackId → Format C → Who → Opened C → Told → Type 0
OpenedSo {C} s f who (opened.Fresh store) told =
    (told.disk.selector.bytes ≡ []) × (store ≡ store_at_base s f who 0 (first_kept {C = C})) × (body s f).Fits (body_of who (first_kept {C = C}))
OpenedSo s f who (opened.Held store kept) told =
    (selector : ℕ) × (told.disk.selector.bytes ≡ selector ∷ []) × FoundSo s f who selector store kept told
