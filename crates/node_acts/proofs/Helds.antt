-- What a node holds, from what the bytes of its slot are.
use Rattle.std.proofs.Common.{◌≡◌, ℕ, suc, ◌+◌, ◌≤◌, Bool, true, false, nat_eq, List, [], ◌∷◌, length, Option, None, Some, Ok, refl, sym, ap, subst, ◌∙◌, ◌⊎◌, arith, eqb-true, if◌then◌else◌}
use Rattle.std.proofs.lemmas.Bool.{and_parts, false≢true}
use Rattle.std.proofs.lemmas.List.{take_all}
use Rattle.disk.specs.Areas.{area_at}
use Rattle.disk.specs.Disk.{Disk, contents}
use Rattle.raft_types.specs.Messages.{KeptView}
use Rattle.slots.specs.Opening.{Is, named}
use Rattle.slots.specs.SavingLaws.{Rests}
use Rattle.slots.proofs.Images.{held_from, contents_at}
use Rattle.vst_base.specs.Entries.{EntryView}
use Rattle.vst_base.specs.declared.stack.StackId.{StackId}
use Rattle.wire_fields.specs.Formats.{Format}
use Rattle.node_body.specs.Slots.{slot_found, state_of}
use Rattle.node_body.specs.declared.slot.Held.{Held}
use Rattle.node_body.specs.declared.version.Version.TheVariants.{Two}
use Rattle.node_acts.specs.Stores.{StoreView, Holds, Knows, Continues, found_of, found_by, terms_of, common, stays, same_vote, is_held}
use Rattle.node_acts.proofs.Resting.{as_bytes, resting_bytes, resting_selector}

module _ {C : Type 0} (s : StackId) (f : Format C) where
  pub holds_is : (store : StoreView) (kept : KeptView C) (disk : Disk) → (h : Holds s f store kept disk) →
      found_by s f store.who (area_at disk (named store.selector)).bytes ≡ Is kept
  holds_is store kept disk h = ap (λ r. found_of (state_of r)) h.found ∙ ap Is h.kept_is

  pub holds_rests : (store : StoreView) (kept : KeptView C) (disk : Disk) → Holds s f store kept disk → Rests (found_by s f store.who) kept store.selector disk
  holds_rests store kept disk h = record {
    pending = h.pending;
    opens = held_from (found_by s f store.who) (contents disk) kept store.selector h.selector
        (ap (found_by s f store.who) (contents_at disk (named store.selector)) ∙ holds_is store kept disk h);
  }

  -- these bytes are found to be a slot of version 2, whose last gate stands there
  pub record IsSlot (store : StoreView) (kept : KeptView C) (bytes : List ℕ) : Type 0 where
    pub slot : Held C
    pub found : slot_found s f store.who bytes ≡ Ok slot
    pub version : slot.version ≡ Two
    pub kept_is : slot.journal.kept ≡ kept
    pub left : slot.journal.left ≡ store.left
    pub gate : (store.left ≡ 0) ⊎ (length bytes ≡ suc (store.gate + slot.journal.hidden))

  pub holds_slot : (store : StoreView) (kept : KeptView C) (bytes : List ℕ) (disk : Disk) → Rests as_bytes bytes store.selector disk → IsSlot store kept bytes → Knows store kept →
      Holds s f store kept disk
  holds_slot store kept bytes disk r is knows =
      let same : bytes ≡ (area_at disk (named store.selector)).bytes = sym (resting_bytes bytes store.selector disk r) in
      record {
        pending = r.pending;
        selector = resting_selector bytes store.selector disk r;
        slot = is.slot;
        found = subst (λ x. slot_found s f store.who x ≡ Ok is.slot) same is.found;
        version = is.version;
        kept_is = is.kept_is;
        left = is.left;
        gate = subst (λ x. (store.left ≡ 0) ⊎ (length x ≡ suc (store.gate + is.slot.journal.hidden))) same is.gate;
        knows = knows;
      }

-- the state that is held already

pub length_terms : {C : Type 0} (entries : List (EntryView C)) → length (terms_of entries) ≡ length entries
length_terms [] = refl
length_terms (e ∷ entries) = ap suc (length_terms entries)

common_few : {C : Type 0} (ts : List ℕ) (es : List (EntryView C)) → common ts es ≤ length ts
common_few [] es = omega arith
common_few (t ∷ ts) [] = omega arith
common_few (t ∷ ts) (e ∷ es) = by (nat_eq t e.term) (common_few ts es)
  where
    by : (b : Bool) → common ts es ≤ length ts → (if b then suc (common ts es) else 0) ≤ suc (length ts)
    by true rest = omega (arith, rest)
    by false rest = omega arith

pub stays_few : {C : Type 0} (store : StoreView) (held kept : KeptView C) → Knows store held → stays store kept ≤ length held.log
stays_few store held kept knows =
    let few = common_few store.terms kept.log in
    let all : length store.terms ≡ length held.log = ap length knows.terms ∙ length_terms held.log in
    omega (arith, few, all)

pub votes_same : (a b : Option ℕ) → same_vote a b ≡ true → a ≡ b
votes_same None None e = refl
votes_same None (Some b) e = absurd (false≢true e)
votes_same (Some a) None e = absurd (false≢true e)
votes_same (Some a) (Some b) e = ap (λ n. let some : Option ℕ = Some n in some) (eqb-true a b e)

pub kept_same : {C : Type 0} (a b : KeptView C) → a.term ≡ b.term → a.voted ≡ b.voted → a.log ≡ b.log → a ≡ b
kept_same a b p q r = λ i. record { term = p i; voted = q i; log = r i }

pub held_same : {C : Type 0} (store : StoreView) (held kept : KeptView C) → Knows store held → Continues store held kept → is_held store kept ≡ true → held ≡ kept
held_same store held kept knows continues e =
    let parts = and_parts _ _ e in
    let numbers = and_parts _ _ parts.0 in
    let logs = and_parts _ _ parts.1 in
    let old : stays store kept ≡ length held.log = eqb-true _ _ logs.0 ∙ (ap length knows.terms ∙ length_terms held.log) in
    let new : stays store kept ≡ length kept.log = eqb-true _ _ logs.1 in
    kept_same held kept (sym (eqb-true _ _ numbers.0 ∙ knows.term)) (sym (votes_same _ _ numbers.1 ∙ knows.voted))
    (sym (take_all (stays store kept) held.log (omega (arith, old))) ∙ (continues ∙ take_all (stays store kept) kept.log (omega (arith, new))))
