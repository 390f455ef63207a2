-- A record that is new has bytes.
use Rattle.std.proofs.Common.{◌≡◌, ◌≢◌, ℕ, ◌≤◌, List, [], ◌∷◌, ◌++◌, drop, if◌then◌else◌, ◌∙◌, Result, Ok, Err, OnOk, sym, ap, subst}
use Rattle.std.proofs.lemmas.Bool.{ne_eqb}
use Rattle.disk.specs.Acts.{Act}
use Rattle.raft_types.specs.Messages.{KeptView}
use Rattle.slots.specs.Opening.{named}
use Rattle.slots.specs.Saving.{save_acts}
use Rattle.vst_base.specs.Entries.{EntryView}
use Rattle.vst_base.specs.declared.node.TheConstants.{MAX_NODES}
use Rattle.vst_base.specs.declared.stack.StackId.{StackId}
use Rattle.wire_fields.specs.Formats.{Format}
use Rattle.wire_messages.specs.EntryBytes.{entry}
use Rattle.node_acts.specs.StateActs.{append_acts}
use Rattle.node_body.specs.Bodies.{VoteAmong}
use Rattle.node_body.specs.Journals.{change, change_as, spell_change}
use Rattle.node_body.specs.Slots.{base_of}
use Rattle.node_body.specs.declared.who.Who.{Who}
use Rattle.node_state.specs.Ends.{NewFits, new_acts}
use Rattle.node_state.specs.declared.store.JournalEnd.{JournalEnd}

module _ {C : Type 0} (s : StackId) (f : Format C) (who : Who) (end : JournalEnd) (keep : ℕ) (kept : KeptView C) where
  abbrev pub EntriesFit : List (EntryView C) → Type 0
  EntriesFit entries = (nodes : ℕ) → nodes ≤ MAX_NODES → VoteAmong nodes kept.voted → (change nodes (entry f)).Fits (change_as kept.term kept.voted keep entries)

  added_fits : (entries : List (EntryView C)) → entries ≡ drop keep kept.log → end.left ≢ 0 → who.nodes ≤ MAX_NODES → VoteAmong who.nodes kept.voted → EntriesFit entries → NewFits s f who end keep kept
  added_fits entries is some few voted fits = record {
    base = λ none. absurd (some none);
    added = λ _. subst (λ (es : List (EntryView C)). (change who.nodes (entry f)).Fits (change_as kept.term kept.voted keep es)) is (fits who.nodes few voted);
  }

  pub added_any : {T E : Type 0} (r : Result T E) (entries : List (EntryView C)) → entries ≡ drop keep kept.log → end.left ≢ 0 → who.nodes ≤ MAX_NODES → VoteAmong who.nodes kept.voted →
      OnOk r (EntriesFit entries) → OnOk r (NewFits s f who end keep kept)
  added_any (Ok x) entries is some few voted fits = added_fits entries is some few voted fits
  added_any (Err x) entries is some few voted fits = tt

  abbrev pub acts_with : List (EntryView C) → List Act
  acts_with entries = append_acts (named end.selector) end.gate (spell_change (entry f) (change_as kept.term kept.voted keep entries) ++ 0 ∷ [])

  pub acts_are : (entries : List (EntryView C)) → entries ≡ drop keep kept.log → end.left ≢ 0 → acts_with entries ≡ new_acts s f who end keep kept
  acts_are entries is some =
      ap acts_with is ∙ ap (λ b. if b then save_acts end.selector (base_of s f who kept) else acts_with (drop keep kept.log)) (sym (ne_eqb end.left 0 some))
