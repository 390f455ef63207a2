-- What is known of a slot of which the front was read.
use Rattle.std.specs.Prelude.{◌≡◌, ℕ, ◌+◌, ◌*◌, ◌≤◌, List, length, take, Some, Result, ◌⊎◌}
use Rattle.vst_base.specs.declared.stack.StackId.{StackId}
use Rattle.wire_fields.specs.Formats.{Format}
use Rattle.node_body.specs.Fronts.{found_in_front, with_more}
use Rattle.node_body.specs.Slots.{slot_found}
use Rattle.node_body.specs.declared.slot.Held.{Held}
use Rattle.node_body.specs.declared.who.Who.{Who}
use Rattle.node_body.specs.declared.why.Why.{Why}
use Rattle.node_state.specs.declared.reading.TheConstants.{PIECE}

-- So many of the bytes were read and found to be this, and all of them are found to be the same: a closed gate hides the others.
pub record FoundByFront {C : Type 0} (s : StackId) (f : Format C) (who : Who) (bytes : List ℕ) (len : ℕ) (found : Result (Held C) Why) : Type 0 where
  pub others : ℕ
  pub all : length bytes ≡ len + others
  pub slot : slot_found s f who bytes ≡ with_more others found

-- They are a piece at most, or at most twice as many as any front has that decides what the slot is.
abbrev pub IsByNeed : {C : Type 0} → StackId → Format C → Who → List ℕ → ℕ → Type 0
IsByNeed {C} s f who bytes len =
    (n : ℕ) (found : Result (Held C) Why) → found_in_front s f who (take n bytes) ≡ Some found → (len ≤ PIECE) ⊎ (len ≤ 2 * n)
