-- What a save of a change comes to, by how many entries stay.
use Rattle.std.proofs.Common.{◌≡◌, ℕ, suc, ◌+◌, ◌-◌, Bool, true, false, ◌&&◌, ◌==◌, nat_eq, List, [], ◌∷◌, ◌++◌, length, take, drop, Option, Result, Ok, Err, IfOk, refl, sym, ap, subst, ◌∙◌, if◌then◌else◌, eqb-true, take-append-drop}
use Rattle.std.proofs.lemmas.List.{append-nil}
use Rattle.disk.specs.Acts.{Act}
use Rattle.raft_types.specs.Messages.{KeptView}
use Rattle.vst_base.specs.Entries.{EntryView}
use Rattle.vst_base.specs.declared.stack.StackId.{StackId}
use Rattle.wire_fields.specs.Formats.{Format}
use Rattle.node_acts.specs.StateActs.{state_acts, store_after, store_at_base}
use Rattle.node_acts.specs.StateLaws.{HasBytes}
use Rattle.node_acts.specs.Stores.{Knows, StoreView, store_of, common, is_held, same_vote, stays, terms_of}
use Rattle.node_body.specs.declared.who.Who.{Who}
use Rattle.node_state.specs.Changes.{ChangeView, change_to, changed_by, no_change}
use Rattle.node_state.specs.Ends.{NewFits, bytes_keeping, end_of, end_of_base, new_acts, new_end}
use Rattle.node_state.specs.declared.store.JournalEnd.{JournalEnd}
use Rattle.node_state.proofs.Remembering.{after_known}

-- the terms of the entries that stay, and of those that are new

common_front : {C : Type 0} (ts : List ℕ) (es : List (EntryView C)) → take (common ts es) ts ≡ terms_of (take (common ts es) es)
common_front [] es = refl
common_front (t ∷ ts) [] = refl
common_front (t ∷ ts) (e ∷ es) = by (nat_eq t e.term) refl (common_front ts es)
  where
    by : (b : Bool) → nat_eq t e.term ≡ b → take (common ts es) ts ≡ terms_of (take (common ts es) es) →
        take (if b then suc (common ts es) else 0) (t ∷ ts) ≡ terms_of (take (if b then suc (common ts es) else 0) (e ∷ es))
    by true same rest = λ i. eqb-true t e.term same i ∷ rest i
    by false same rest = refl

terms_append : {C : Type 0} (xs ys : List (EntryView C)) → terms_of (xs ++ ys) ≡ terms_of xs ++ terms_of ys
terms_append [] ys = refl
terms_append (x ∷ xs) ys = ap (λ ts. x.term ∷ ts) (terms_append xs ys)

terms_stay : {C : Type 0} (ts : List ℕ) (log : List (EntryView C)) → take (common ts log) ts ++ terms_of (drop (common ts log) log) ≡ terms_of log
terms_stay ts log =
    ap (λ front. front ++ terms_of (drop (common ts log) log)) (common_front ts log)
    ∙ (sym (terms_append (take (common ts log) log) (drop (common ts log) log)) ∙ ap (λ es. terms_of es) (take-append-drop (common ts log) log))

take_length : (ts : List ℕ) → take (length ts) ts ≡ ts
take_length [] = refl
take_length (t ∷ ts) = ap (λ more. t ∷ more) (take_length ts)

-- what is known after a change, part by part
pub changed_parts : (store : StoreView) (change : ChangeView) (who : Who) (end : JournalEnd) (term : ℕ) (voted : Option ℕ) (keep : ℕ) (items front added held : List ℕ) → who ≡ store.who →
    end ≡ change.end → term ≡ change.term → voted ≡ change.voted → keep ≡ change.keep → added ≡ change.added → held ≡ store.terms → front ≡ take keep held → items ≡ front ++ added →
    record { who = who; selector = end.selector; gate = end.gate; left = end.left; term = term; voted = voted; terms = items } ≡ changed_by store change
changed_parts store change who end term voted keep items front added held w e t v k a h f is = λ i. record {
  who = w i;
  selector = (e i).selector;
  gate = (e i).gate;
  left = (e i).left;
  term = t i;
  voted = v i;
  terms = (is ∙ λ j. (f ∙ λ m. take (k m) (h m)) j ++ a j) i;
}

-- a change to this state, and that of a save of it where it is not held
abbrev change_at : {C : Type 0} → KeptView C → ℕ → JournalEnd → List ℕ → ChangeView
change_at kept keep end added = record { end = end; term = kept.term; voted = kept.voted; keep = keep; added = added }

abbrev change_anew : {C : Type 0} → StackId → Format C → StoreView → KeptView C → ChangeView
change_anew s f store kept =
    change_at kept (stays store kept) (new_end s f store.who (end_of store) (stays store kept) kept) (terms_of (drop (stays store kept) kept.log))

module _ {C : Type 0} (s : StackId) (f : Format C) (store : StoreView) (kept : KeptView C) (keep : ℕ) (same : keep ≡ stays store kept) where
  pub not_held : ((kept.term == store.term && same_vote kept.voted store.voted) && (keep == length store.terms && keep == length kept.log)) ≡ false → is_held store kept ≡ false
  not_held e = subst (λ n. ((kept.term == store.term && same_vote kept.voted store.voted) && (n == length store.terms && n == length kept.log)) ≡ false) same e

  pub acts_new : is_held store kept ≡ false → new_acts s f store.who (end_of store) keep kept ≡ state_acts s f store kept
  acts_new new =
      ap (λ n. new_acts s f store.who (end_of store) n kept) same
      ∙ ap (λ b. if b then (let none : List Act = [] in none) else new_acts s f store.who (end_of store) (stays store kept) kept) (sym new)

  pub fits_new : NewFits s f store.who (end_of store) keep kept → HasBytes s f store kept
  fits_new fits =
      let is = subst (λ n. NewFits s f store.who (end_of store) n kept) same fits in
      record { base = is.base; added = is.added }

  pub change_new : (end : JournalEnd) (added : List ℕ) (entries : List (EntryView C)) → is_held store kept ≡ false →
      end ≡ new_end s f store.who (end_of store) keep kept → added ≡ terms_of entries → entries ≡ drop keep kept.log →
      record { end = end; term = kept.term; voted = kept.voted; keep = keep; added = added } ≡ change_to s f store kept
  change_new end added entries new is terms from =
      (λ i. change_at kept keep (is i) ((terms ∙ ap (λ es. terms_of es) from) i))
      ∙ (ap (λ n. change_at kept n (new_end s f store.who (end_of store) n kept) (terms_of (drop n kept.log))) same
      ∙ ap (λ b. if b then no_change store else change_anew s f store kept) (sym new))

module _ {C : Type 0} (s : StackId) (f : Format C) (store : StoreView) (kept : KeptView C) where
  pub change_held : is_held store kept ≡ true → no_change store ≡ change_to s f store kept
  change_held held = ap (λ b. if b then no_change store else change_anew s f store kept) (sym held)

  abbrev store_with : JournalEnd → StoreView
  store_with end = store_of store.who end.selector end.gate end.left kept

  abbrev end_with : Bool → JournalEnd
  end_with full =
      if full then end_of_base s f store.who store.selector kept
      else record { selector = store.selector; gate = store.gate + length (bytes_keeping f (stays store kept) kept); left = store.left - 1 }

  abbrev store_new : Bool → StoreView
  store_new full =
      if full then store_at_base s f store.who (end_of_base s f store.who store.selector kept).selector kept
      else store_with (record { selector = store.selector; gate = store.gate + length (bytes_keeping f (stays store kept) kept); left = store.left - 1 })

  by_left : (full : Bool) → store_with (end_with full) ≡ store_new full
  by_left true = refl
  by_left false = refl

  leads : (held : Bool) → changed_by store (if held then no_change store else change_anew s f store kept) ≡ (if held then store else store_new (nat_eq store.left 0))
  leads true = λ i. record store { terms = (append-nil (take (length store.terms) store.terms) ∙ take_length store.terms) i }
  leads false =
      (λ i. record (store_with (end_with (nat_eq store.left 0))) { terms = terms_stay store.terms kept.log i })
      ∙ by_left (nat_eq store.left 0)

  -- what the change leads to is what is known after the save
  pub change_leads : changed_by store (change_to s f store kept) ≡ store_after s f store kept
  change_leads = leads (is_held store kept)

  pub leads_any : {T E : Type 0} (r : Result T E) (change : T → ChangeView) → IfOk r (λ x. change x ≡ change_to s f store kept) →
      IfOk r (λ x. changed_by store (change x) ≡ store_after s f store kept)
  leads_any (Ok x) change is = ap (λ c. changed_by store c) is ∙ change_leads
  leads_any (Err e) change is = tt

  pub leads_known : {T E : Type 0} (r : Result T E) (change : T → ChangeView) → IfOk r (λ x. change x ≡ change_to s f store kept) →
      IfOk r (λ x. Knows (changed_by store (change x)) kept)
  leads_known (Ok x) change is =
      subst (λ (v : StoreView). Knows v kept) (sym (ap (λ c. changed_by store c) is ∙ change_leads)) (after_known s f store kept)
  leads_known (Err e) change is = tt
