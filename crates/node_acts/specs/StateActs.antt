-- The acts that save a node's state, and those that open its areas.
use Rattle.std.specs.Prelude.{ℕ, suc, ◌+◌, ◌-◌, ◌==◌, List, [], ◌∷◌, ◌++◌, length, drop, None, Result, Ok, Err, if◌then◌else◌}
use Rattle.disk.specs.Acts.{Act}
use Rattle.disk.specs.Areas.{area_at}
use Rattle.disk.specs.Disk.{Image}
use Rattle.raft_types.specs.Messages.{KeptView}
use Rattle.slots.specs.Opening.{named}
use Rattle.slots.specs.PatchLaws.{patch_acts}
use Rattle.slots.specs.Saving.{next, save_acts, sync_acts, fresh_acts}
use Rattle.vst_base.specs.declared.stack.StackId.{StackId}
use Rattle.wire_fields.specs.Formats.{Format}
use Rattle.wire_messages.specs.EntryBytes.{entry}
use Rattle.node_body.specs.Bodies.{body, body_of, kept_as}
use Rattle.node_body.specs.Journals.{change_as, spell_change}
use Rattle.node_body.specs.Slots.{base_of, sized, slot_found}
use Rattle.node_body.specs.declared.journal.TheConstants.{MAX_RECORDS}
use Rattle.node_body.specs.declared.records.Record.{Record}
use Rattle.node_body.specs.declared.slot.Held.{Held}
use Rattle.node_body.specs.declared.version.Version.{Version}
use Rattle.node_body.specs.declared.version.Version.TheVariants.{One, Two}
use Rattle.node_body.specs.declared.who.Who.{Who}
use Rattle.node_body.specs.declared.why.Why.{Why}
use Rattle.node_acts.specs.Stores.{StoreView, store_of, stays, is_held}

-- The first state of a node.
abbrev pub first_kept : {C : Type 0} → KeptView C
first_kept = kept_as 0 None []

-- the record that makes this state of the one that is held, and its bytes with a closed gate after it
abbrev pub record_to : {C : Type 0} → StoreView → KeptView C → Record C
record_to store kept = change_as kept.term kept.voted (stays store kept) (drop (stays store kept) kept.log)

abbrev pub record_bytes : {C : Type 0} → Format C → StoreView → KeptView C → List ℕ
record_bytes f store kept = spell_change (entry f) (record_to store kept) ++ 0 ∷ []

-- a record after the last gate, and then this gate is opened
abbrev pub append_acts : ℕ → ℕ → List ℕ → List Act
append_acts slot gate bytes = patch_acts slot (suc gate) bytes ++ patch_acts slot gate (1 ∷ [])

-- Saving a state: nothing where it is held; a base in the other slot where no record may follow; else a record.
abbrev pub state_acts : {C : Type 0} → StackId → Format C → StoreView → KeptView C → List Act
state_acts s f store kept =
    if is_held store kept then []
    else if store.left == 0 then save_acts store.selector (base_of s f store.who kept)
    else append_acts (named store.selector) store.gate (record_bytes f store kept)

-- what the node knows after a base, and after a record
abbrev pub gate_of_base : {C : Type 0} → StackId → Format C → Who → KeptView C → ℕ
gate_of_base s f who kept = length (sized.spell ((body s f).spell (body_of who kept)))

abbrev pub store_at_base : {C : Type 0} → StackId → Format C → Who → ℕ → KeptView C → StoreView
store_at_base s f who selector kept = store_of who selector (gate_of_base s f who kept) MAX_RECORDS kept

abbrev pub store_after : {C : Type 0} → StackId → Format C → StoreView → KeptView C → StoreView
store_after s f store kept =
    if is_held store kept then store
    else if store.left == 0 then store_at_base s f store.who (next store.selector) kept
    else store_of store.who store.selector (store.gate + length (record_bytes f store kept)) (store.left - 1) kept

-- Opening: each area is synced; then both slots get the first state where area 2 is empty, and a slot of version 1 is saved anew.
abbrev pub renewing_acts : {C : Type 0} → StackId → Format C → Who → ℕ → Version → KeptView C → List Act
renewing_acts s f who selector One kept = save_acts selector (base_of s f who kept)
renewing_acts s f who selector Two kept = []

abbrev pub acts_on_slot : {C : Type 0} → StackId → Format C → Who → ℕ → Result (Held C) Why → List Act
acts_on_slot s f who selector (Ok slot) = renewing_acts s f who selector slot.version slot.journal.kept
acts_on_slot s f who selector (Err why) = []

abbrev pub acts_by_selector : {C : Type 0} → StackId → Format C → Who → Image → List ℕ → List Act
acts_by_selector s f who image [] = fresh_acts (base_of s f who first_kept)
acts_by_selector s f who image (selector ∷ []) = acts_on_slot s f who selector (slot_found s f who (area_at image (named selector)))
acts_by_selector s f who image (a ∷ b ∷ rest) = []

abbrev pub opening_acts : {C : Type 0} → StackId → Format C → Who → Image → List Act
opening_acts s f who image = sync_acts ++ acts_by_selector s f who image image.selector

-- what the node knows then of a slot of so many bytes that it found
abbrev pub store_found : {C : Type 0} → StackId → Format C → Who → ℕ → ℕ → Version → Held C → StoreView
store_found s f who selector len One slot = store_at_base s f who (next selector) slot.journal.kept
store_found s f who selector len Two slot = store_of who selector (len - suc slot.journal.hidden) slot.journal.left slot.journal.kept
