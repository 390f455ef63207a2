-- What a crash leaves at each moment of a save, and of an opening; and that the areas are then as the node knows.
use Rattle.std.specs.Prelude.{◌≡◌, ◌≢◌, ℕ, true, false, List, [], ◌∷◌, length, take, Ok, ◌⊎◌}
use Rattle.disk.specs.Acts.{Act}
use Rattle.disk.specs.Areas.{area_at}
use Rattle.disk.specs.Disk.{Disk, Image, contents, after}
use Rattle.disk.specs.Between.{Crash, leaves_by, may_become_between}
use Rattle.disk.specs.DiskLaws.{IsCutShort}
use Rattle.raft_types.specs.Messages.{KeptView}
use Rattle.slots.specs.Opening.{Found, Fresh, Held, named, opening, OpensAs}
use Rattle.slots.specs.Saving.{sync_acts}
use Rattle.slots.specs.SavingLaws.{Rests}
use Rattle.slots.specs.TurnLaws.{Keeps, KeepsBy}
use Rattle.vst_base.specs.declared.stack.StackId.{StackId}
use Rattle.wire_fields.specs.Formats.{Format}
use Rattle.wire_messages.specs.EntryBytes.{entry}
use Rattle.node_body.specs.Bodies.{body, body_of}
use Rattle.node_body.specs.Journals.{change}
use Rattle.node_body.specs.Slots.{slot_found}
use Rattle.node_body.specs.declared.slot.Held as slot
use Rattle.node_body.specs.declared.version.Version.TheVariants.{One}
use Rattle.node_body.specs.declared.who.Who.{Who}
use Rattle.node_acts.specs.Stores.{StoreView, Holds, Continues, found_by, is_held}
use Rattle.node_acts.specs.StateActs.{first_kept, record_to, state_acts, store_after, store_at_base, store_found, opening_acts}

-- What the node holds is what its areas open as, at rest.
abbrev pub HeldRests : {C : Type 0} → StackId → Format C → Type 0
HeldRests {C} s f =
    (store : StoreView) (kept : KeptView C) (disk : Disk) → Holds s f store kept disk → Rests (found_by s f store.who) kept store.selector disk

-- what a save writes has bytes: a base where no record may follow, else a record
pub record HasBytes {C : Type 0} (s : StackId) (f : Format C) (store : StoreView) (kept : KeptView C) : Type 0 where
  pub base : store.left ≡ 0 → (body s f).Fits (body_of store.who kept)
  pub added : store.left ≢ 0 → (change store.who.nodes (entry f)).Fits (record_to store kept)

-- After a save: at each moment of it the areas open as the state that was held or as the one that is saved, in the end as that one,
-- and the node knows how they are. So it is where a crash may leave lengths between, too.
pub record StateSaved {C : Type 0} (s : StackId) (f : Format C) (store : StoreView) (held kept : KeptView C) (disk : Disk) : Type 0 where
  pub keeps : Keeps (found_by s f store.who) held kept (store_after s f store kept).selector (state_acts s f store kept) disk
  pub between :
      KeepsBy may_become_between (found_by s f store.who) held kept (store_after s f store kept).selector
      (state_acts s f store kept) disk
  pub holds : Holds s f (store_after s f store kept) kept (after disk (state_acts s f store kept))

abbrev pub SaveKeepsState : {C : Type 0} → StackId → Format C → Type 0
SaveKeepsState {C} s f =
    (store : StoreView) (held kept : KeptView C) (disk : Disk) → Holds s f store held disk → Continues store held kept →
    (is_held store kept ≡ false → HasBytes s f store kept) → StateSaved s f store held kept disk

-- After an opening the node knows how the areas are: they hold the first state where area 2 was empty, else the state that was found.
abbrev pub FreshIsHeld : {C : Type 0} → StackId → Format C → Type 0
FreshIsHeld {C} s f =
    (who : Who) (disk : Disk) → disk.selector.bytes ≡ [] → (body s f).Fits (body_of who (first_kept {C = C})) →
    Holds s f (store_at_base s f who 0 first_kept) first_kept (after disk (opening_acts s f who (contents disk)))

abbrev pub FoundIsHeld : {C : Type 0} → StackId → Format C → Type 0
FoundIsHeld {C} s f =
    (who : Who) (disk : Disk) (selector : ℕ) (found : slot.Held C) → disk.selector.bytes ≡ selector ∷ [] →
    slot_found s f who (area_at disk (named selector)).bytes ≡ Ok found →
    (found.version ≡ One → (body s f).Fits (body_of who found.journal.kept)) →
    Holds s f (store_found s f who selector (length (area_at disk (named selector)).bytes) found.version found) found.journal.kept
    (after disk (opening_acts s f who (contents disk)))

-- An image after the third sync of an opening: what was read, or what opens as the state that was found, or, where area 2 was empty,
-- what is fresh or opens as the first state.
abbrev pub IsAsFound : {K : Type 0} → (List ℕ → Found K) → K → Disk → Image → Type 0
IsAsFound {K} found first disk image =
    (image ≡ contents disk)
    ⊎ (((kept : K) × (selector : ℕ) × (opening found (contents disk) ≡ Held kept selector) × OpensAs found kept image)
    ⊎ ((disk.selector.bytes ≡ []) × ((opening found image ≡ Fresh) ⊎ OpensAs found first image)))

-- the states that an opening writes have bytes
pub record OpeningFits {C : Type 0} (s : StackId) (f : Format C) (who : Who) (disk : Disk) : Type 0 where
  pub first : disk.selector.bytes ≡ [] → (body s f).Fits (body_of who (first_kept {C = C}))
  pub renewed : (selector : ℕ) (found : slot.Held C) → disk.selector.bytes ≡ selector ∷ [] →
      slot_found s f who (area_at disk (named selector)).bytes ≡ Ok found → found.version ≡ One → (body s f).Fits (body_of who found.journal.kept)

-- After three syncs and no more a crash leaves what was read.
abbrev pub SyncsLeave : Crash → Type 0
SyncsLeave crash =
    (disk : Disk) (did : List Act) (image : Image) → IsCutShort sync_acts did → leaves_by crash disk did image ≡ true →
    take 3 did ≡ sync_acts → image ≡ contents disk

-- At each moment of an opening, also where a fault cuts it short: from the third sync on a crash leaves the state that was found.
abbrev pub OpeningLeaves : Crash → {C : Type 0} → StackId → Format C → Type 0
OpeningLeaves crash {C} s f =
    (who : Who) (disk : Disk) (did : List Act) (image : Image) → IsCutShort (opening_acts s f who (contents disk)) did →
    OpeningFits s f who disk → leaves_by crash disk did image ≡ true → take 3 did ≡ sync_acts →
    IsAsFound (found_by s f who) first_kept disk image
