-- Where the journal of the named slot goes on after what makes a state durable.
use Rattle.std.specs.Prelude.{◌≡◌, ◌≢◌, ℕ, ◌+◌, ◌-◌, ◌==◌, List, [], ◌∷◌, ◌++◌, length, drop, if◌then◌else◌}
use Rattle.disk.specs.Acts.{Act}
use Rattle.raft_types.specs.Messages.{KeptView}
use Rattle.slots.specs.Opening.{named}
use Rattle.slots.specs.Saving.{next, save_acts}
use Rattle.vst_base.specs.declared.stack.StackId.{StackId}
use Rattle.wire_fields.specs.Formats.{Format}
use Rattle.wire_messages.specs.EntryBytes.{entry}
use Rattle.node_acts.specs.StateActs.{append_acts, gate_of_base}
use Rattle.node_acts.specs.Stores.{StoreView}
use Rattle.node_body.specs.Bodies.{body, body_of}
use Rattle.node_body.specs.Journals.{change, change_as, spell_change}
use Rattle.node_body.specs.Slots.{base_of}
use Rattle.node_body.specs.declared.journal.TheConstants.{MAX_RECORDS}
use Rattle.node_body.specs.declared.records.Record.{Record}
use Rattle.node_body.specs.declared.version.Version.{Version}
use Rattle.node_body.specs.declared.version.Version.TheVariants.{One, Two}
use Rattle.node_body.specs.declared.who.Who.{Who}
use Rattle.node_state.specs.declared.store.JournalEnd.{JournalEnd}

-- where it goes on, as the node knows
abbrev pub end_of : StoreView → JournalEnd
end_of store = record { selector = store.selector; gate = store.gate; left = store.left }

-- after a base
abbrev pub end_of_base : {C : Type 0} → StackId → Format C → Who → ℕ → KeptView C → JournalEnd
end_of_base s f who selector kept = record { selector = next selector; gate = gate_of_base s f who kept; left = MAX_RECORDS }

-- the record that keeps so many entries, and its bytes with a closed gate
abbrev pub record_keeping : {C : Type 0} → ℕ → KeptView C → Record C
record_keeping keep kept = change_as kept.term kept.voted keep (drop keep kept.log)

abbrev pub bytes_keeping : {C : Type 0} → Format C → ℕ → KeptView C → List ℕ
bytes_keeping f keep kept = spell_change (entry f) (record_keeping keep kept) ++ 0 ∷ []

-- a state that is new, as a base or as a record: the acts, which bytes they need, and where the journal goes on
abbrev pub new_acts : {C : Type 0} → StackId → Format C → Who → JournalEnd → ℕ → KeptView C → List Act
new_acts s f who end keep kept =
    if end.left == 0 then save_acts end.selector (base_of s f who kept) else append_acts (named end.selector) end.gate (bytes_keeping f keep kept)

pub record NewFits {C : Type 0} (s : StackId) (f : Format C) (who : Who) (end : JournalEnd) (keep : ℕ) (kept : KeptView C) : Type 0 where
  pub base : end.left ≡ 0 → (body s f).Fits (body_of who kept)
  pub added : end.left ≢ 0 → (change who.nodes (entry f)).Fits (record_keeping keep kept)

abbrev pub new_end : {C : Type 0} → StackId → Format C → Who → JournalEnd → ℕ → KeptView C → JournalEnd
new_end s f who end keep kept =
    if end.left == 0 then end_of_base s f who end.selector kept
    else record { selector = end.selector; gate = end.gate + length (bytes_keeping f keep kept); left = end.left - 1 }

-- what was found, or a base of it
abbrev pub renewed_end : {C : Type 0} → StackId → Format C → Who → Version → JournalEnd → KeptView C → JournalEnd
renewed_end s f who One found kept = end_of_base s f who found.selector kept
renewed_end s f who Two found kept = found
