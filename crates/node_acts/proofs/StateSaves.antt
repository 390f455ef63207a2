-- A save, by what it does: nothing, a base, or a record.
use Rattle.std.proofs.Common.{◌≡◌, ◌≢◌, ℕ, zero, suc, ◌+◌, ◌-◌, ◌≤◌, Bool, true, false, nat_eq, List, [], ◌∷◌, length, refl, sym, ap, subst, ◌∙◌, inr, arith, if◌then◌else◌, eqb-true, length-append}
use Rattle.std.proofs.lemmas.Bool.{eq-eqb, false≢true}
use Rattle.disk.specs.Acts.{Act}
use Rattle.disk.specs.Disk.{Disk, NothingPending, after, may_become}
use Rattle.disk.specs.Between.{Crash, may_become_between}
use Rattle.disk.proofs.Between.{IsCrash, by_model, by_between}
use Rattle.raft_types.specs.Messages.{KeptView}
use Rattle.slots.specs.Opening.{Is, named}
use Rattle.slots.specs.Saving.{next, save_acts}
use Rattle.slots.specs.TurnLaws.{KeepsBy}
use Rattle.slots.proofs.Turning.{keeps_save, keeps_nothing}
use Rattle.vst_base.specs.declared.stack.StackId.{StackId}
use Rattle.wire_fields.specs.Formats.{Format, IsFormat}
use Rattle.node_body.specs.BaseLaws.{base_is_found}
use Rattle.node_body.specs.Bodies.{body, body_of, owner_of}
use Rattle.node_body.specs.Journals.{journal_as}
use Rattle.node_body.specs.Slots.{base_of, held_as, sized, state_of}
use Rattle.node_body.specs.declared.commands.TheConstants.{MAX_COMMAND}
use Rattle.node_body.specs.declared.journal.TheConstants.{MAX_RECORDS}
use Rattle.node_body.specs.declared.version.Version.TheVariants.{Two}
use Rattle.node_body.specs.declared.who.Who.{Who}
use Rattle.node_acts.specs.Stores.{StoreView, store_of, Holds, Continues, found_of, found_by, is_held}
use Rattle.node_acts.specs.StateActs.{record_bytes, append_acts, store_at_base}
use Rattle.node_acts.specs.StateLaws.{HasBytes, StateSaved}
use Rattle.node_acts.proofs.Helds.{IsSlot, holds_rests, holds_slot, held_same}
use Rattle.node_acts.proofs.Recording.{keeps_append, holds_append}
use Rattle.node_acts.proofs.Resting.{after_save}

module _ {C : Type 0} (s : StackId) (f : Format C) (is_f : IsFormat f) (short : (c : C) → f.Fits c → length (f.spell c) ≤ MAX_COMMAND) where
  -- a base is found to be the state that it was made of, with room for all records
  pub base_found : (who : Who) (selector : ℕ) (kept : KeptView C) → (body s f).Fits (body_of who kept) → IsSlot s f (store_at_base s f who selector kept) kept (base_of s f who kept)
  base_found who selector kept fits =
      let long = length-append (sized.spell ((body s f).spell (body_of who kept))) (0 ∷ []) in
      record {
        slot = held_as Two (owner_of who) (journal_as kept MAX_RECORDS 0);
        found = base_is_found s f short is_f who kept fits;
        version = refl;
        kept_is = refl;
        left = refl;
        gate = inr (omega (arith, long));
      }

  pub base_is : (who : Who) (kept : KeptView C) → (body s f).Fits (body_of who kept) → found_by s f who (base_of s f who kept) ≡ Is kept
  base_is who kept fits = ap (λ r. found_of (state_of r)) (base_is_found s f short is_f who kept fits)

  -- after a save of a base
  pub holds_base : (who : Who) (selector : ℕ) (kept : KeptView C) (disk : Disk) → NothingPending disk → disk.selector.bytes ≡ selector ∷ [] → (body s f).Fits (body_of who kept) →
      Holds s f (store_at_base s f who (next selector) kept) kept (after disk (save_acts selector (base_of s f who kept)))
  holds_base who selector kept disk pending is fits =
      holds_slot s f (store_at_base s f who (next selector) kept) kept (base_of s f who kept) (after disk (save_acts selector (base_of s f who kept)))
      (after_save disk selector (base_of s f who kept) pending is) (base_found who (next selector) kept fits) (record { term = refl; voted = refl; terms = refl })

  abbrev acts_if : StoreView → KeptView C → Bool → Bool → List Act
  acts_if store kept same full =
      if same then [] else if full then save_acts store.selector (base_of s f store.who kept) else append_acts (named store.selector) store.gate (record_bytes f store kept)

  abbrev store_if : StoreView → KeptView C → Bool → Bool → StoreView
  store_if store kept same full =
      if same then store
      else if full then store_at_base s f store.who (next store.selector) kept
      else store_of store.who store.selector (store.gate + length (record_bytes f store kept)) (store.left - 1) kept

  record SavedBy (store : StoreView) (held kept : KeptView C) (disk : Disk) (same full : Bool) : Type 0 where
    pub keeps : (crash : Crash) → IsCrash crash → KeepsBy crash (found_by s f store.who) held kept (store_if store kept same full).selector (acts_if store kept same full) disk
    pub holds : Holds s f (store_if store kept same full) kept (after disk (acts_if store kept same full))

  positive : (n : ℕ) → n ≢ 0 → (m : ℕ) × (n ≡ suc m)
  positive zero ne = absurd (ne refl)
  positive (suc m) ne = (m, refl)

  not_zero : (n : ℕ) → nat_eq n 0 ≡ false → n ≢ 0
  not_zero n e = λ is. false≢true (sym e ∙ eq-eqb n 0 is)

  saved_by : (store : StoreView) (held kept : KeptView C) (disk : Disk) → Holds s f store held disk → Continues store held kept → (is_held store kept ≡ false → HasBytes s f store kept) →
      (same full : Bool) → is_held store kept ≡ same → nat_eq store.left 0 ≡ full → SavedBy store held kept disk same full
  saved_by store held kept disk h continues has true full same none =
      let is : held ≡ kept = held_same store held kept h.knows continues same in
      record {
        keeps = λ crash is_crash.
            subst (λ k. KeepsBy crash (found_by s f store.who) held k store.selector [] disk) is
            (keeps_nothing crash is_crash (found_by s f store.who) disk store.selector held (holds_rests s f store held disk h));
        holds = subst (λ k. Holds s f store k disk) is h;
      }
  saved_by store held kept disk h continues has false true same none =
      let fits = (has same).base (eqb-true store.left 0 none) in
      record {
        keeps = λ crash is_crash.
            keeps_save crash is_crash (found_by s f store.who) disk store.selector held kept (base_of s f store.who kept) (holds_rests s f store held disk h) (base_is store.who kept fits);
        holds = holds_base store.who store.selector kept disk h.pending h.selector fits;
      }
  saved_by store held kept disk h continues has false false same none =
      let room = positive store.left (not_zero store.left none) in
      let fits = (has same).added (not_zero store.left none) in
      record {
        keeps = keeps_append s f is_f store held kept disk room.0 h room.1 continues fits;
        holds = holds_append s f is_f store held kept disk room.0 h room.1 continues fits;
      }

  pub save_keeps_state : (store : StoreView) (held kept : KeptView C) (disk : Disk) → Holds s f store held disk → Continues store held kept →
      (is_held store kept ≡ false → HasBytes s f store kept) → StateSaved s f store held kept disk
  save_keeps_state store held kept disk h continues has =
      let saved = saved_by store held kept disk h continues has (is_held store kept) (nat_eq store.left 0) refl refl in
      record { keeps = saved.keeps may_become by_model; between = saved.keeps may_become_between by_between; holds = saved.holds }
