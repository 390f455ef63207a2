-- When the front of a slot decides what the slot is, whatever stands after it.
use Rattle.std.specs.Prelude.{◌≡◌, ℕ, suc, ◌+◌, Bool, true, false, List, [], ◌∷◌, ◌++◌, length, Option, None, Some, Result, Ok, Err, if◌then◌else◌}
use Rattle.vst_base.specs.declared.stack.StackId.{StackId}
use Rattle.wire_fields.specs.Formats.{Format}
use Rattle.node_body.specs.Journals.{journal_as}
use Rattle.node_body.specs.Slots.{held_as, sized, slot_found}
use Rattle.node_body.specs.declared.slot.Held.{Held}
use Rattle.node_body.specs.declared.who.Who.{Who}
use Rattle.node_body.specs.declared.why.Why.{Why}
use Rattle.node_body.specs.declared.why.Why.TheVariants as why

-- whether a gate stands after the body
abbrev pub stands : List ℕ → Bool
stands [] = false
stands (gate ∷ bs) = true

abbrev pub gate_after : Option (List ℕ × List ℕ) → Bool
gate_after None = false
gate_after (Some p) = stands p.1

abbrev pub has_gate : List ℕ → Bool
has_gate bs = gate_after (sized.read bs)

-- What was found, where no bytes more can change it. What is no body stays so; a journal that is refused may only be cut short; and
-- one that is read from a gate on has come to a closed one.
abbrev pub if_decided : {C : Type 0} → Bool → Result (Held C) Why → Option (Result (Held C) Why)
if_decided gated (Err why.Body) = Some (Err why.Body)
if_decided gated (Err why.Journal) = None
if_decided gated found = if gated then Some found else None

-- What a front decides that a slot is, for a node of the stack s that asks.
abbrev pub found_in_front : {C : Type 0} → StackId → Format C → Who → List ℕ → Option (Result (Held C) Why)
found_in_front s f who front = if_decided (has_gate front) (slot_found s f who front)

-- what was found, with so many bytes more behind it: the closed gate hides them
abbrev pub hides_more : {C : Type 0} → ℕ → Held C → Held C
hides_more n h = held_as h.version h.owner (journal_as h.journal.kept h.journal.left (h.journal.hidden + n))

abbrev pub with_more : {C : Type 0} → ℕ → Result (Held C) Why → Result (Held C) Why
with_more n (Ok h) = Ok (hides_more n h)
with_more n (Err w) = Err w

-- What a front decides is what each slot is that begins with it.
abbrev pub FrontsDecide : {C : Type 0} → StackId → Format C → Type 0
FrontsDecide {C} s f =
    (who : Who) (front more : List ℕ) (found : Result (Held C) Why) → found_in_front s f who front ≡ Some found →
    slot_found s f who (front ++ more) ≡ with_more (length more) found

-- A longer front decides the same.
abbrev pub LongerFrontsDecide : {C : Type 0} → StackId → Format C → Type 0
LongerFrontsDecide {C} s f =
    (who : Who) (front more : List ℕ) (found : Result (Held C) Why) → found_in_front s f who front ≡ Some found →
    found_in_front s f who (front ++ more) ≡ Some (with_more (length more) found)

-- A front in which a slot to which a record may be added has its last gate decides it.
abbrev pub LastGateDecides : {C : Type 0} → StackId → Format C → Type 0
LastGateDecides {C} s f =
    (who : Who) (front : List ℕ) (h : Held C) (spare : ℕ) → slot_found s f who front ≡ Ok h → h.journal.left ≡ suc spare →
    found_in_front s f who front ≡ Some (Ok h)
