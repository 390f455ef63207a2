-- Where a record may follow, the last gate stands: the bytes up to it are found to be the same state.
use Rattle.std.proofs.Common.{◌≡◌, ℕ, zero, suc, Bool, true, false, List, [], ◌∷◌, ◌++◌, length, Option, None, Some, Ok, refl, sym, ap, subst, ◌∙◌, append_assoc}
use Rattle.raft_types.specs.Messages.{KeptView}
use Rattle.vst_base.specs.declared.stack.StackId.{StackId}
use Rattle.wire_fields.specs.Formats.{Format, IsFormat}
use Rattle.wire_messages.specs.Wires.{read_whole}
use Rattle.node_body.specs.Bodies.{body, entry_in}
use Rattle.node_body.specs.BodyLaws.{entry_in_is_format}
use Rattle.node_body.specs.FoundLaws.{StandsAtGate, agreed, agrees}
use Rattle.node_body.specs.JournalLaws.{Front, change_is_format, format_front, gate_closed, gate_missing, gate_open, gate_past, journal_there, next_front}
use Rattle.node_body.specs.Journals.{change, from_gate, go_on, is_closed, journal_as, next_state, read_journal}
use Rattle.node_body.specs.SlotLaws.{held_with, sized_is_format}
use Rattle.node_body.specs.Slots.{held_as, of_body, of_parts, read_slot, sized, slot_found, with_journal}
use Rattle.node_body.specs.declared.body.Body.{Body}
use Rattle.node_body.specs.declared.journal.Journal.{Journal}
use Rattle.node_body.specs.declared.journal.TheConstants.{MAX_RECORDS}
use Rattle.node_body.specs.declared.records.Record.{Record}
use Rattle.node_body.specs.declared.slot.Held.{Held}
use Rattle.node_body.specs.declared.who.Who.{Who}

-- the bytes up to the last gate, the gate, and what it hides
pub record GateParts {C : Type 0} (f : Format (Record C)) (n : ℕ) (k : KeptView C) (bs : List ℕ) (j : Journal C) : Type 0 where
  pub front : List ℕ
  pub gate : ℕ
  pub more : List ℕ
  pub bytes : bs ≡ front ++ gate ∷ more
  pub size : length more ≡ j.hidden
  pub alone : from_gate f n k (front ++ gate ∷ []) ≡ Some (journal_as j.kept j.left 0)

-- the same of a slot
pub record SlotGate {C : Type 0} (s : StackId) (f : Format C) (bs : List ℕ) (h : Held C) : Type 0 where
  pub front : List ℕ
  pub gate : ℕ
  pub more : List ℕ
  pub bytes : bs ≡ front ++ gate ∷ more
  pub size : length more ≡ h.journal.hidden
  pub alone : read_slot s f (front ++ gate ∷ []) ≡ Ok (held_with h h.journal.kept h.journal.left 0)

-- and for a node that asks
pub record GateStands {C : Type 0} (s : StackId) (f : Format C) (who : Who) (bs : List ℕ) (h : Held C) (spare : ℕ) : Type 0 where
  pub front : List ℕ
  pub gate : ℕ
  pub more : List ℕ
  pub bytes : bs ≡ front ++ gate ∷ more
  pub size : length more ≡ h.journal.hidden
  pub at : StandsAtGate s f who front gate (held_with h h.journal.kept h.journal.left 0) spare

abbrev pub LastGateStands : {C : Type 0} → StackId → Format C → Type 0
LastGateStands {C} s f =
    (who : Who) (bs : List ℕ) (h : Held C) (spare : ℕ) → slot_found s f who bs ≡ Ok h → h.journal.left ≡ suc spare → GateStands s f who bs h spare

module _ {C : Type 0} (f : Format (Record C)) (is_f : IsFormat f) where
  -- the gate that stands first is the last one
  here : (n : ℕ) (k : KeptView C) (x : ℕ) (xs : List ℕ) (j : Journal C) → is_closed x ≡ true → from_gate f n k (x ∷ xs) ≡ Some j → GateParts f n k (x ∷ xs) j
  here n k x xs j is e =
      let found : ◌≡◌ {A = Option (Journal C)} (Some (journal_as k n (length xs))) (Some j) = sym (gate_closed f n k x xs is) ∙ e in
      let same : journal_as k n (length xs) ≡ j = cc in
      record {
        front = [];
        gate = x;
        more = xs;
        bytes = refl;
        size = ap (λ (j : Journal C). j.hidden) same;
        alone = gate_closed f n k x [] is ∙ ap (λ (j : Journal C). let found : Option (Journal C) = Some (journal_as j.kept j.left 0) in found) same;
      }

  -- or stands after a record
  after : (m : ℕ) (k : KeptView C) (x : ℕ) (xs : List ℕ) (j : Journal C) → is_closed x ≡ false → (next : KeptView C) (rest : List ℕ) → Front (next_state f k) xs next rest → GateParts f m next rest j
      → GateParts f (suc m) k (x ∷ xs) j
  after m k x xs j odd next rest there inner =
      let bytes : xs ≡ (there.front ++ inner.front) ++ inner.gate ∷ inner.more =
      there.bytes ∙ ap (λ rest. there.front ++ rest) inner.bytes ∙ sym (append_assoc there.front inner.front (inner.gate ∷ inner.more)) in
      record {
        front = x ∷ (there.front ++ inner.front);
        gate = inner.gate;
        more = inner.more;
        bytes = ap (λ xs. x ∷ xs) bytes;
        size = inner.size;
        alone =
            gate_open f m k x ((there.front ++ inner.front) ++ inner.gate ∷ []) odd
            ∙ ap (λ bs. go_on (next_state f k bs) (λ next more. from_gate f m next more)) (append_assoc there.front inner.front (inner.gate ∷ []))
            ∙ ap (λ o. go_on o (λ next more. from_gate f m next more)) (there.again (inner.front ++ inner.gate ∷ []))
            ∙ inner.alone;
      }

  beyond : (m : ℕ) (k : KeptView C) (x : ℕ) (xs : List ℕ) (j : Journal C) → is_closed x ≡ false → ((next : KeptView C) (rest : List ℕ) → from_gate f m next rest ≡ Some j → GateParts f m next rest j)
      → (o : Option (KeptView C × List ℕ)) → next_state f k xs ≡ o → go_on o (λ next more. from_gate f m next more) ≡ Some j → GateParts f (suc m) k (x ∷ xs) j
  beyond m k x xs j odd more None is e = cc
  beyond m k x xs j odd more (Some p) is e = after m k x xs j odd p.0 p.1 (next_front f is_f k xs p.0 p.1 is) (more p.0 p.1 e)

  at_none : (k : KeptView C) (x : ℕ) (xs : List ℕ) (j : Journal C) (b : Bool) → is_closed x ≡ b → from_gate f zero k (x ∷ xs) ≡ Some j → GateParts f zero k (x ∷ xs) j
  at_none k x xs j true is e = here zero k x xs j is e
  at_none k x xs j false is e = let no : ◌≡◌ {A = Option (Journal C)} None (Some j) = sym (gate_past f k x xs is) ∙ e in cc

  at_more : (m : ℕ) (k : KeptView C) (x : ℕ) (xs : List ℕ) (j : Journal C) → ((next : KeptView C) (rest : List ℕ) → from_gate f m next rest ≡ Some j → GateParts f m next rest j)
      → (b : Bool) → is_closed x ≡ b → from_gate f (suc m) k (x ∷ xs) ≡ Some j → GateParts f (suc m) k (x ∷ xs) j
  at_more m k x xs j more true is e = here (suc m) k x xs j is e
  at_more m k x xs j more false is e = beyond m k x xs j is more (next_state f k xs) refl (sym (gate_open f m k x xs is) ∙ e)

  pub gate_parts : (n : ℕ) (k : KeptView C) (bs : List ℕ) (j : Journal C) → from_gate f n k bs ≡ Some j → GateParts f n k bs j
  gate_parts n k [] j e = let no : ◌≡◌ {A = Option (Journal C)} None (Some j) = sym (gate_missing f n k) ∙ e in cc
  gate_parts zero k (x ∷ xs) j e = at_none k x xs j (is_closed x) refl e
  gate_parts (suc m) k (x ∷ xs) j e = at_more m k x xs j (λ next rest found. gate_parts m next rest j found) (is_closed x) refl e

module _ {C : Type 0} (s : StackId) (f : Format C) (is_f : IsFormat f) where
  in_journal : (bs : List ℕ) (bytes : List ℕ) (b : Body C) (j : Journal C) (spare : ℕ) (rest : List ℕ) → Front sized.read bs bytes rest → read_whole (body s f) bytes ≡ Some b
      → read_journal (change b.owner.nodes (entry_in b.version f)) b.kept rest ≡ Some j → j.left ≡ suc spare → SlotGate s f bs (held_as b.version b.owner j)
  in_journal bs bytes b j spare [] there is_body e room =
      let same : journal_as b.kept 0 0 ≡ j = cc in
      let no : ◌≡◌ {A = ℕ} 0 (suc spare) = ap (λ (j : Journal C). j.left) same ∙ room in cc
  in_journal bs bytes b j spare (y ∷ ys) there is_body e room =
      let records = change b.owner.nodes (entry_in b.version f) in
      let is_format = change_is_format b.owner.nodes (entry_in b.version f) (entry_in_is_format b.version f is_f) in
      let parts = gate_parts records is_format MAX_RECORDS b.kept (y ∷ ys) j e in
      record {
        front = there.front ++ parts.front;
        gate = parts.gate;
        more = parts.more;
        bytes = there.bytes ∙ ap (λ rest. there.front ++ rest) parts.bytes ∙ sym (append_assoc there.front parts.front (parts.gate ∷ parts.more));
        size = parts.size;
        alone =
            ap (λ bs. of_parts s f (sized.read bs)) (append_assoc there.front parts.front (parts.gate ∷ []))
            ∙ ap (λ o. of_parts s f o) (there.again (parts.front ++ parts.gate ∷ []))
            ∙ ap (λ o. of_body f o (parts.front ++ parts.gate ∷ [])) is_body
            ∙ ap (λ o. with_journal b.version b.owner o) (journal_there records is_format b.kept parts.front parts.gate [] ∙ parts.alone);
      }

  of_found : (bs : List ℕ) (h : Held C) (spare : ℕ) (p : List ℕ × List ℕ) (b : Body C) (o : Option (Journal C)) → sized.read bs ≡ Some p → read_whole (body s f) p.0 ≡ Some b
      → read_journal (change b.owner.nodes (entry_in b.version f)) b.kept p.1 ≡ o → with_journal b.version b.owner o ≡ Ok h → h.journal.left ≡ suc spare → SlotGate s f bs h
  of_found bs h spare p b None parts is_body is_journal e room = cc
  of_found bs h spare p b (Some j) parts is_body is_journal e room =
      let same : held_as b.version b.owner j ≡ h = cc in
      subst (λ h. SlotGate s f bs h) same
      (in_journal bs p.0 b j spare p.1 (format_front sized sized_is_format bs p.0 p.1 parts) is_body is_journal (ap (λ (h : Held C). h.journal.left) same ∙ room))

  of_whole : (bs : List ℕ) (h : Held C) (spare : ℕ) (p : List ℕ × List ℕ) (o : Option (Body C)) → sized.read bs ≡ Some p → read_whole (body s f) p.0 ≡ o → of_body f o p.1 ≡ Ok h
      → h.journal.left ≡ suc spare → SlotGate s f bs h
  of_whole bs h spare p None parts is_body e room = cc
  of_whole bs h spare p (Some b) parts is_body e room = of_found bs h spare p b (read_journal (change b.owner.nodes (entry_in b.version f)) b.kept p.1) parts is_body refl e room

  of_sized : (bs : List ℕ) (h : Held C) (spare : ℕ) (o : Option (List ℕ × List ℕ)) → sized.read bs ≡ o → of_parts s f o ≡ Ok h → h.journal.left ≡ suc spare → SlotGate s f bs h
  of_sized bs h spare None parts e room = cc
  of_sized bs h spare (Some p) parts e room = of_whole bs h spare p (read_whole (body s f) p.0) parts refl e room

  pub slot_gate : (bs : List ℕ) (h : Held C) (spare : ℕ) → read_slot s f bs ≡ Ok h → h.journal.left ≡ suc spare → SlotGate s f bs h
  slot_gate bs h spare e room = of_sized bs h spare (sized.read bs) refl e room

module _ {C : Type 0} (s : StackId) (f : Format C) (is_f : IsFormat f) where
  pub gate_stands : LastGateStands s f
  gate_stands who bs h spare e room =
      let is = agrees s f who bs h e in
      let there = slot_gate s f is_f bs h spare is.read room in
      record {
        front = there.front;
        gate = there.gate;
        more = there.more;
        bytes = there.bytes;
        size = there.size;
        at = record {
          found = agreed s f who (there.front ++ there.gate ∷ []) (held_with h h.journal.kept h.journal.left 0) there.alone is.same;
          ends = record { hidden = refl; room = room };
        };
      }
