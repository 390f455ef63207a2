-- What a slot is found to be for a node that asks, from its last gate on.
use Rattle.std.proofs.Common.{◌≡◌, ℕ, nat_le, Bool, true, false, List, [], ◌∷◌, ◌++◌, length, take, drop, Option, None, Some, Result, Ok, Err, refl, sym, ap, subst, ◌∙◌, append_assoc, ◌⊎◌, inl, inr}
use Rattle.std.proofs.lemmas.List.{take-append-drop}
use Rattle.vst_base.specs.declared.stack.StackId.{StackId}
use Rattle.wire_fields.specs.Formats.{Format, IsFormat}
use Rattle.node_body.specs.Journals.{is_closed, patched}
use Rattle.node_body.specs.SlotLaws.{EndsAtGate, change_in, gate_hides, gate_opens, held_with, reads_on}
use Rattle.node_body.specs.Slots.{read_slot, difference, unless_differs, of_other, of_own, slot_found, stack_of_slot, state_of}
use Rattle.node_body.specs.declared.records.Record.{Record}
use Rattle.node_body.specs.declared.slot.Held.{Held}
use Rattle.node_body.specs.declared.who.Who.{Who}
use Rattle.node_body.specs.declared.why.Why.{Why}
use Rattle.node_body.specs.declared.why.Why.TheVariants as why

-- These bytes are a slot up to its last gate, after which one more record may follow, and so many after that.
pub record StandsAtGate {C : Type 0} (s : StackId) (f : Format C) (who : Who) (front : List ℕ) (gate : ℕ) (h : Held C) (spare : ℕ) : Type 0 where
  pub found : slot_found s f who (front ++ gate ∷ []) ≡ Ok h
  pub ends : EndsAtGate h spare

-- A record of the slot that keeps no more entries than the log has, and that has bytes.
pub record Follows {C : Type 0} (f : Format C) (h : Held C) (r : Record C) : Type 0 where
  pub fits : (change_in f h).Fits r
  pub keeps : nat_le r.keep (length h.journal.kept.log) ≡ true

-- An even gate hides what stands after it, whatever that is.
abbrev pub ClosedGateHides : {C : Type 0} → StackId → Format C → Type 0
ClosedGateHides {C} s f =
    (who : Who) (front : List ℕ) (gate : ℕ) (h : Held C) (spare : ℕ) → StandsAtGate s f who front gate h spare → (v : ℕ) (more : List ℕ) → is_closed v ≡ true →
    slot_found s f who (front ++ v ∷ more) ≡ Ok (held_with h h.journal.kept h.journal.left (length more))

-- An odd gate adds the record that stands after it, where a closed gate stands after that.
abbrev pub OpenGateAdds : {C : Type 0} → StackId → Format C → Type 0
OpenGateAdds {C} s f =
    (who : Who) (front : List ℕ) (gate : ℕ) (h : Held C) (spare : ℕ) → StandsAtGate s f who front gate h spare → (r : Record C) → Follows f h r →
    (v even : ℕ) (rest : List ℕ) → is_closed v ≡ false → is_closed even ≡ true →
    slot_found s f who (front ++ v ∷ ((change_in f h).spell r ++ even ∷ rest)) ≡ Ok (held_with h (patched r h.journal.kept) spare (length rest))

-- While a record is written after the last gate, whatever a crash makes of it: the state is as it was, where the bytes up to the gate are.
abbrev pub RecordIsHarmless : {C : Type 0} → StackId → Format C → Type 0
RecordIsHarmless {C} s f =
    (who : Who) (front : List ℕ) (gate : ℕ) (h : Held C) (spare : ℕ) → StandsAtGate s f who front gate h spare →
    (n : ℕ) (torn : List ℕ) → take n torn ≡ front ++ gate ∷ [] → state_of (slot_found s f who torn) ≡ Ok h.journal.kept

-- While the gate before a whole record is written, whatever a crash makes of that byte: the state is as it was, or as the record makes it.
abbrev pub GateIsEither : {C : Type 0} → StackId → Format C → Type 0
GateIsEither {C} s f =
    (who : Who) (front : List ℕ) (gate : ℕ) (h : Held C) (spare : ℕ) → StandsAtGate s f who front gate h spare → (r : Record C) → Follows f h r →
    (even : ℕ) (rest : List ℕ) → is_closed even ≡ true → (v : ℕ) →
    (state_of (slot_found s f who (front ++ v ∷ ((change_in f h).spell r ++ even ∷ rest))) ≡ Ok h.journal.kept)
    ⊎ (state_of (slot_found s f who (front ++ v ∷ ((change_in f h).spell r ++ even ∷ rest))) ≡ Ok (patched r h.journal.kept))

-- for a node that asks
module _ {C : Type 0} (s : StackId) (f : Format C) (who : Who) where
  pub record Agrees (bs : List ℕ) (h : Held C) : Type 0 where
    pub read : read_slot s f bs ≡ Ok h
    pub same : difference who h.owner ≡ None

  agrees_by : (bs : List ℕ) (h k : Held C) (o : Option Why) → read_slot s f bs ≡ Ok k → difference who k.owner ≡ o → unless_differs k o ≡ Ok h → Agrees bs h
  agrees_by bs h k None read same e =
      let is : k ≡ h = cc in
      subst (λ h. Agrees bs h) is (record { read = read; same = same })
  agrees_by bs h k (Some w) read same e = cc

  never_other : (h : Held C) (b : ℕ) (any : Result ℕ Why) → ◌≡◌ {A = Result (Held C) Why} (of_other b any) (Ok h) → ⊥
  never_other h b (Ok k) e = cc
  never_other h b (Err w) e = cc

  agrees_of : (bs : List ℕ) (h : Held C) (r : Result (Held C) Why) (any : Result ℕ Why) → read_slot s f bs ≡ r → of_own s who r any ≡ Ok h → Agrees bs h
  agrees_of bs h (Ok k) any read e = agrees_by bs h k (difference who k.owner) read refl e
  agrees_of bs h (Err why.Slot) any read e = cc
  agrees_of bs h (Err why.Body) any read e = absurd (never_other h _ any e)
  agrees_of bs h (Err why.Journal) any read e = cc
  agrees_of bs h (Err (why.Stack a b)) any read e = cc
  agrees_of bs h (Err (why.Node a b)) any read e = cc
  agrees_of bs h (Err (why.Cluster a b)) any read e = cc
  agrees_of bs h (Err (why.Name a b)) any read e = cc

  pub agrees : (bs : List ℕ) (h : Held C) → slot_found s f who bs ≡ Ok h → Agrees bs h
  agrees bs h e = agrees_of bs h (read_slot s f bs) (stack_of_slot bs) refl e

  pub agreed : (bs : List ℕ) (h : Held C) → read_slot s f bs ≡ Ok h → difference who h.owner ≡ None → slot_found s f who bs ≡ Ok h
  agreed bs h read same = ap (λ r. of_own s who r (stack_of_slot bs)) read ∙ ap (λ o. unless_differs h o) same

module _ {C : Type 0} (s : StackId) (f : Format C) (is_f : IsFormat f) where
  pub closed_hides : ClosedGateHides s f
  closed_hides who front gate h spare at v more even =
      let is = agrees s f who (front ++ gate ∷ []) h at.found in
      agreed s f who (front ++ v ∷ more) (held_with h h.journal.kept h.journal.left (length more)) (gate_hides s f is_f front gate h spare is.read at.ends v more even) is.same

  pub open_adds : OpenGateAdds s f
  open_adds who front gate h spare at r follows v even rest is_odd is_even =
      let is = agrees s f who (front ++ gate ∷ []) h at.found in
      agreed s f who (front ++ v ∷ ((change_in f h).spell r ++ even ∷ rest)) (held_with h (patched r h.journal.kept) spare (length rest))
      (gate_opens s f is_f front gate h spare is.read at.ends r v even rest follows.fits follows.keeps is_odd is_even) is.same

  pub harmless : RecordIsHarmless s f
  harmless who front gate h spare at n torn stays =
      let is = agrees s f who (front ++ gate ∷ []) h at.found in
      let bytes : torn ≡ front ++ gate ∷ drop n torn =
      sym (take-append-drop n torn) ∙ ap (λ bs. bs ++ drop n torn) stays ∙ append_assoc front (gate ∷ []) (drop n torn) in
      ap (λ bs. state_of (slot_found s f who bs)) bytes
      ∙ ap state_of (closed_hides who front gate h spare at gate (drop n torn) (reads_on s f is_f front gate h spare is.read at.ends).closed)

  either_by : (who : Who) (front : List ℕ) (gate : ℕ) (h : Held C) (spare : ℕ) → StandsAtGate s f who front gate h spare → (r : Record C) → Follows f h r → (even : ℕ) (rest : List ℕ) → is_closed even ≡ true
      → (v : ℕ) (b : Bool) → is_closed v ≡ b
      → (state_of (slot_found s f who (front ++ v ∷ ((change_in f h).spell r ++ even ∷ rest))) ≡ Ok h.journal.kept)
      ⊎ (state_of (slot_found s f who (front ++ v ∷ ((change_in f h).spell r ++ even ∷ rest))) ≡ Ok (patched r h.journal.kept))
  either_by who front gate h spare at r follows even rest is_even v true is = inl (ap state_of (closed_hides who front gate h spare at v ((change_in f h).spell r ++ even ∷ rest) is))
  either_by who front gate h spare at r follows even rest is_even v false is = inr (ap state_of (open_adds who front gate h spare at r follows v even rest is is_even))

  pub either : GateIsEither s f
  either who front gate h spare at r follows even rest is_even v = either_by who front gate h spare at r follows even rest is_even v (is_closed v) refl
