-- After a save the store knows the state.
use Rattle.std.proofs.Common.{◌≡◌, ℕ, suc, ◌+◌, ◌-◌, ◌%◌, Bool, true, false, nat_eq, List, [], ◌∷◌, length, Result, Ok, Err, OnOk, refl, sym, subst, if◌then◌else◌, eqb-true, arith}
use Rattle.std.proofs.lemmas.Bool.{and_parts}
use Rattle.raft_types.specs.Messages.{KeptView}
use Rattle.vst_base.specs.Entries.{EntryView}
use Rattle.vst_base.specs.declared.stack.StackId.{StackId}
use Rattle.wire_fields.specs.Formats.{Format}
use Rattle.node_acts.specs.StateActs.{store_after, store_at_base, record_bytes}
use Rattle.node_acts.specs.Stores.{StoreView, Knows, common, is_held, store_of, terms_of}
use Rattle.node_acts.proofs.Helds.{votes_same}

-- where all the terms of a log are those, they are its terms
all_common : {C : Type 0} (ts : List ℕ) (es : List (EntryView C)) → common ts es ≡ length ts → common ts es ≡ length es → ts ≡ terms_of es
all_common [] [] some all = refl
all_common [] (e ∷ es) some all = absurd (omega (arith, all))
all_common (t ∷ ts) [] some all = absurd (omega (arith, some))
all_common (t ∷ ts) (e ∷ es) some all = by (nat_eq t e.term) refl some all (λ h k. all_common ts es h k)
  where
    by : (b : Bool) → nat_eq t e.term ≡ b → (if b then suc (common ts es) else 0) ≡ suc (length ts) → (if b then suc (common ts es) else 0) ≡ suc (length es) →
        (common ts es ≡ length ts → common ts es ≡ length es → ts ≡ terms_of es) → t ∷ ts ≡ e.term ∷ terms_of es
    by true same some all rest =
        let terms = rest (omega (arith, some)) (omega (arith, all)) in
        λ i. eqb-true t e.term same i ∷ terms i
    by false same some all rest = absurd (omega (arith, some))

module _ {C : Type 0} (s : StackId) (f : Format C) (store : StoreView) (kept : KeptView C) where
  held_known : is_held store kept ≡ true → Knows store kept
  held_known e =
      let parts = and_parts _ _ e in
      let numbers = and_parts _ _ parts.0 in
      let logs = and_parts _ _ parts.1 in
      record {
        term = sym (eqb-true _ _ numbers.0);
        voted = sym (votes_same _ _ numbers.1);
        terms = all_common store.terms kept.log (eqb-true _ _ logs.0) (eqb-true _ _ logs.1);
      }

  abbrev new_store : Bool → StoreView
  new_store full =
      if full then store_at_base s f store.who ((store.selector + 1) % 256) kept
      else store_of store.who store.selector (store.gate + length (record_bytes f store kept)) (store.left - 1) kept

  new_known : (full : Bool) → Knows (new_store full) kept
  new_known true = record { term = refl; voted = refl; terms = refl }
  new_known false = record { term = refl; voted = refl; terms = refl }

  known : (b : Bool) → is_held store kept ≡ b → Knows (if b then store else new_store (nat_eq store.left 0)) kept
  known true e = held_known e
  known false e = new_known (nat_eq store.left 0)

  pub after_known : Knows (store_after s f store kept) kept
  after_known = known (is_held store kept) refl

  pub remembers_any : {T E : Type 0} (r : Result T E) (new : StoreView) → OnOk r (new ≡ store_after s f store kept) → OnOk r (Knows new kept)
  remembers_any (Ok x) new e = subst (λ (v : StoreView). Knows v kept) (sym e) after_known
  remembers_any (Err x) new e = tt
