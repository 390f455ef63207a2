-- Node 0 of three on areas that were worked out by hand, and what is said of its openings and saves.
use Rattle.std.specs.Prelude.{ℕ, List, [], ◌∷◌, ◌++◌, take, Option, Some}
use Rattle.disk.specs.Acts.{Act}
use Rattle.disk.specs.Images.{image_by_word}
use Rattle.raft_types.specs.Messages.{KeptView}
use Rattle.vst_base.specs.declared.stack.StackId.TheVariants as stack
use Rattle.wire_messages.specs.KvBytes.{kv_command}
use Rattle.node_body.specs.Examples.{first_slot}
use Rattle.node_body.specs.declared.version.Version.{Version}
use Rattle.node_device.specs.Telling.{Told, told_after}
use Rattle.node_acts.specs.Examples.{Command, at_rest, knowing, state, who}
use Rattle.node_acts.specs.StateActs.{first_kept, state_acts}
use Rattle.node_acts.specs.Stores.{StoreView}
use Rattle.slots.specs.Opening.{Opening}
use Rattle.node_state.specs.Answers.{Answers, FoundSo, OpenedSo}
use Rattle.node_state.specs.Changes.{ChangeView, change_to}
use Rattle.node_state.specs.Crashes.{IsHeldBefore, LeavesEither, LeavesFound, Saves}
use Rattle.node_state.specs.Ends.{new_end, renewed_end}
use Rattle.node_state.specs.declared.opening.Opened.{Opened}
use Rattle.node_state.specs.declared.store.JournalEnd.{JournalEnd}

-- a device that has done nothing yet, with these areas at rest; empty ones, and the first state
abbrev pub told_at : List ℕ → List ℕ → List ℕ → Told
told_at slot0 slot1 selector = record { acts = []; disk = at_rest slot0 slot1 selector }

abbrev pub empty : Told
empty = told_at [] [] []

abbrev pub held : Told
held = told_at (first_slot ++ 0 ∷ []) [] (0 ∷ [])

-- what the node knows of it
abbrev pub known : StoreView
known = knowing 0 38 1000 (first_kept {C = Command})

abbrev pub end_at : ℕ → ℕ → ℕ → JournalEnd
end_at selector gate left = record { selector = selector; gate = gate; left = left }

abbrev pub goes_on : JournalEnd → ℕ → KeptView Command → JournalEnd
goes_on end keep kept = new_end stack.KvRaft kv_command who end keep kept

abbrev pub renewed : Version → JournalEnd → KeptView Command → JournalEnd
renewed version found kept = renewed_end stack.KvRaft kv_command who version found kept

-- what is known anew after the save of a state
abbrev pub changes : StoreView → KeptView Command → ChangeView
changes store kept = change_to stack.KvRaft kv_command store kept

abbrev pub change_of : JournalEnd → ℕ → Option ℕ → ℕ → List ℕ → ChangeView
change_of end term voted keep added = record { end = end; term = term; voted = voted; keep = keep; added = added }

-- what is answered to areas that open so
abbrev pub answers : Opened Command → Opening (KeptView Command) → Type 0
answers opened opening = Answers opened opening

abbrev pub found_so : ℕ → StoreView → KeptView Command → Told → Type 0
found_so selector store kept told = FoundSo stack.KvRaft kv_command who selector store kept told

abbrev pub opened_so : Opened Command → Told → Type 0
opened_so opened told = OpenedSo stack.KvRaft kv_command who opened told

-- what a crash leaves in these acts, of an opening and of a save of this state
abbrev pub leaves_found : Told → List Act → Type 0
leaves_found before acts = LeavesFound stack.KvRaft kv_command who before (told_after before acts)

abbrev pub leaves_either : KeptView Command → List Act → Type 0
leaves_either kept acts = LeavesEither stack.KvRaft kv_command known kept held (told_after held acts)

abbrev pub saves : KeptView Command → Type 0
saves kept = Saves stack.KvRaft kv_command known kept held

abbrev pub is_held_before : StoreView → KeptView Command → Type 0
is_held_before store kept = IsHeldBefore stack.KvRaft kv_command store kept held

-- the acts of the first save after an opening of empty areas: of a vote in term 1
abbrev pub first_save : List Act
first_save = state_acts stack.KvRaft kv_command known (state 1 (Some 1) [])

-- and those of the next one, of a no-op
abbrev pub next_save : List Act
next_save = state_acts stack.KvRaft kv_command (knowing 0 56 999 (state 1 (Some 1) [])) (state 1 (Some 1) (1 ∷ []))

-- what a stop leaves in slot 0 after so many acts of the first save, by a word
abbrev pub slot_left : ℕ → ℕ → List ℕ
slot_left n word = (image_by_word held.disk (take n first_save) word).slot0
