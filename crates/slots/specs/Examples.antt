-- Slots that are easily computed, for examples.
use Rattle.std.specs.Prelude.{ℕ, ◌%◌, ◌==◌, Bool, if◌then◌else◌, List, [], ◌∷◌, take, length}
use Rattle.outside.specs.declared.device.Address.{Address}
use Rattle.disk.specs.Acts.{Act, Wrote, Cut, Synced}
use Rattle.disk.specs.Disk.{Disk, Image, settled, may_leave}
use Rattle.disk.specs.Between.{may_leave_between}
use Rattle.slots.specs.Opening.{Found, Is, Not, BadSlot, BadJournal, Opening, opening}
use Rattle.slots.specs.Saving.{save_acts}

-- a slot is how many bytes its state has, these bytes, and nothing else
abbrev pub counted_found : List ℕ → Found (List ℕ)
counted_found [] = Not BadSlot
counted_found (n ∷ kept) = if length kept == n then Is kept else Not BadSlot

abbrev pub slot : List ℕ → List ℕ
slot kept = length kept ∷ kept

abbrev pub image_of : List ℕ → List ℕ → List ℕ → Image
image_of slot0 slot1 selector = record { slot0 = slot0; slot1 = slot1; selector = selector }

abbrev pub opened_as : List ℕ → List ℕ → List ℕ → Opening (List ℕ)
opened_as slot0 slot1 selector = opening counted_found (image_of slot0 slot1 selector)

-- slot 0 holds this, slot 1 the state 1, and the selector is 0
abbrev pub with_slot0 : List ℕ → Disk
with_slot0 first = record { slot0 = settled first; slot1 = settled (slot (1 ∷ [])); selector = settled (0 ∷ []) }

-- whether a crash after these acts may then leave this image, by the model and with lengths between
abbrev pub leaves : List ℕ → List Act → List ℕ → List ℕ → List ℕ → Bool
leaves first acts slot0 slot1 selector = may_leave (with_slot0 first) acts (image_of slot0 slot1 selector)

abbrev pub leaves_between : List ℕ → List Act → List ℕ → List ℕ → List ℕ → Bool
leaves_between first acts slot0 slot1 selector = may_leave_between (with_slot0 first) acts (image_of slot0 slot1 selector)

-- whether a crash after so many acts of saving the state 2, 2 may leave these in slot 1 and in the selector, and slot 0 as it was
abbrev pub save_leaves : ℕ → List ℕ → List ℕ → Bool
save_leaves n slot1 selector =
    leaves (slot (1 ∷ [])) (take n (save_acts 0 (slot (2 ∷ 2 ∷ [])))) (slot (1 ∷ [])) slot1 selector

-- at rest as the state 1, under the selector 0
abbrev pub at_rest : Disk
at_rest = with_slot0 (slot (1 ∷ []))

-- a save whose selector is written before its slot is synced
abbrev pub hasty_acts : List ℕ → List Act
hasty_acts bytes = Wrote 1 0 bytes ∷ Cut 1 (length bytes) ∷ Wrote 2 0 (1 ∷ []) ∷ Synced 1 ∷ Synced 2 ∷ []

-- A slot with a journal: a state of one byte, and then gates, each with a state after it. An even gate is closed, and what stands
-- after it does not count.
abbrev pub journal : ℕ → List ℕ → Found ℕ
journal kept [] = Is kept
journal kept (gate ∷ []) = if gate % 2 == 0 then Is kept else Not BadJournal
journal kept (gate ∷ next ∷ rest) = if gate % 2 == 0 then Is kept else journal next rest

abbrev pub gated_found : List ℕ → Found ℕ
gated_found [] = Not BadSlot
gated_found (kept ∷ rest) = journal kept rest

-- a node of this computer
abbrev pub node_at : ℕ → Address
node_at port = record { ip = 127 ∷ 0 ∷ 0 ∷ 1 ∷ []; port = port }
