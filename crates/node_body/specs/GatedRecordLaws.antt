-- What following the gates finds, by the list of the records.
use Rattle.std.proofs.Common.{◌≡◌, ℕ, zero, suc, ◌-◌, ◌≤◌, nat_le, Bool, true, false, List, [], ◌∷◌, ◌++◌, length, Option, None, Some, if◌then◌else◌, refl, sym, ap, subst, ◌∙◌, arith, append_assoc}
use Rattle.raft_types.specs.Messages.{KeptView}
use Rattle.wire_fields.specs.FormatLaws.{both_read, same_answer}
use Rattle.wire_fields.specs.Formats.{Format, IsFormat, and_then}
use Rattle.node_body.specs.GatedRecords.{AreGated, HoldsRecords, RecordsAlone, RecordsAreFound, patched_by, spell_gated}
use Rattle.node_body.specs.JournalLaws.{gate_closed, gate_missing, gate_open, gate_past}
use Rattle.node_body.specs.Journals.{from_gate, go_on, is_closed, journal_as, next_state, patched}
use Rattle.node_body.specs.declared.journal.Journal.{Journal}
use Rattle.node_body.specs.declared.records.Record.{Record}

module _ {C : Type 0} (f : Format (Record C)) (is_f : IsFormat f) where
  -- a record that stands in front
  next_is : (k : KeptView C) (r : Record C) (rest : List ℕ) → f.Fits r → nat_le r.keep (length k.log) ≡ true → next_state f k (f.spell r ++ rest) ≡ Some (patched r k, rest)
  next_is k r rest fits keeps =
      let keep : Record C → List ℕ → Option (KeptView C × List ℕ) = λ r rest. if nat_le r.keep (length k.log) then Some (patched r k, rest) else None in
      ap (λ o. and_then o keep) (is_f.reads_back r rest fits)
      ∙ ap (λ b. let found : Option (KeptView C × List ℕ) = Some (patched r k, rest) in if b then found else None) keeps

  records_lead : (n : ℕ) (k : KeptView C) (gated : List (ℕ × Record C)) (last : ℕ) (hidden : List ℕ) → AreGated f k gated → length gated ≤ n → is_closed last ≡ true
      → from_gate f n k (spell_gated f gated ++ last ∷ hidden) ≡ Some (journal_as (patched_by k gated) (n - length gated) (length hidden))
  records_lead n k [] last hidden are few closed =
      let all : n ≡ n - 0 = omega arith in
      gate_closed f n k last hidden closed ∙ ap (λ (n : ℕ). let found : Option (Journal C) = Some (journal_as k n (length hidden)) in found) all
  records_lead zero k (p ∷ ps) last hidden are few closed = let no : ⊥ = omega (arith, few) in absurd no
  records_lead (suc m) k (p ∷ ps) last hidden are few closed =
      let less : m - length ps ≡ suc m - suc (length ps) = omega arith in
      gate_open f m k p.0 ((f.spell p.1 ++ spell_gated f ps) ++ last ∷ hidden) are.0.odd
      ∙ ap (λ bs. go_on (next_state f k bs) (λ next more. from_gate f m next more)) (append_assoc (f.spell p.1) (spell_gated f ps) (last ∷ hidden))
      ∙ ap (λ o. go_on o (λ next more. from_gate f m next more)) (next_is k p.1 (spell_gated f ps ++ last ∷ hidden) are.0.fits are.0.keeps)
      ∙ records_lead m (patched p.1 k) ps last hidden are.1 (omega (arith, few)) closed
      ∙ ap (λ (n : ℕ). let found : Option (Journal C) = Some (journal_as (patched_by (patched p.1 k) ps) n (length hidden)) in found) less

  pub records_are_found : RecordsAreFound f
  records_are_found n k bs j holds =
      ap (λ bs. from_gate f n k bs) holds.bytes
      ∙ records_lead n k holds.gated holds.last holds.hidden holds.are holds.few holds.closed
      ∙ ap (λ (j : Journal C). let found : Option (Journal C) = Some j in found) (sym holds.found)

  -- the record that was read to a state
  record IsNext (k : KeptView C) (bs : List ℕ) (next : KeptView C) (rest : List ℕ) : Type 0 where
    pub r : Record C
    pub read : f.read bs ≡ Some (r, rest)
    pub keeps : nat_le r.keep (length k.log) ≡ true
    pub makes : patched r k ≡ next

  next_by : (k : KeptView C) (bs : List ℕ) (r : Record C) (between rest : List ℕ) (next : KeptView C) (b : Bool) → nat_le r.keep (length k.log) ≡ b → f.read bs ≡ Some (r, between)
      → ◌≡◌ {A = Option (KeptView C × List ℕ)} (if b then Some (patched r k, between) else None) (Some (next, rest)) → IsNext k bs next rest
  next_by k bs r between rest next true passes read e =
      let same = same_answer (patched r k) next between rest e in
      record {
        r = r;
        read = read ∙ ap (λ rest. let found : Option (Record C × List ℕ) = Some (r, rest) in found) same.1;
        keeps = passes;
        makes = same.0;
      }
  next_by k bs r between rest next false passes read e = cc

  next_of : (k : KeptView C) (bs : List ℕ) (next : KeptView C) (rest : List ℕ) → next_state f k bs ≡ Some (next, rest) → IsNext k bs next rest
  next_of k bs next rest e =
      let read = both_read (f.read bs) (λ r rest. if nat_le r.keep (length k.log) then Some (patched r k, rest) else None) next rest e in
      next_by k bs read.value read.between rest next (nat_le read.value.keep (length k.log)) refl read.first_is read.next_is

  -- the gate that stands first is closed
  here : (n : ℕ) (k : KeptView C) (x : ℕ) (xs : List ℕ) (j : Journal C) → is_closed x ≡ true → from_gate f n k (x ∷ xs) ≡ Some j → HoldsRecords f n k (x ∷ xs) j
  here n k x xs j is e =
      let found : ◌≡◌ {A = Option (Journal C)} (Some (journal_as k n (length xs))) (Some j) = sym (gate_closed f n k x xs is) ∙ e in
      let same : j ≡ journal_as k n (length xs) = cc in
      let all : n ≡ n - 0 = omega arith in
      record {
        gated = [];
        last = x;
        hidden = xs;
        are = tt;
        few = omega arith;
        closed = is;
        bytes = refl;
        found = same ∙ ap (λ (n : ℕ). journal_as k n (length xs)) all;
      }

  -- or a record stands after it
  after : (m : ℕ) (k : KeptView C) (x : ℕ) (xs : List ℕ) (j : Journal C) → is_closed x ≡ false → (next : KeptView C) (rest : List ℕ) → IsNext k xs next rest → HoldsRecords f m next rest j
      → HoldsRecords f (suc m) k (x ∷ xs) j
  after m k x xs j odd next rest there more =
      let spelled = is_f.one_spelling xs there.r rest there.read in
      let less : m - length more.gated ≡ suc m - suc (length more.gated) = omega arith in
      let bytes : xs ≡ (f.spell there.r ++ spell_gated f more.gated) ++ more.last ∷ more.hidden =
      spelled.bytes ∙ ap (λ rest. f.spell there.r ++ rest) more.bytes ∙ sym (append_assoc (f.spell there.r) (spell_gated f more.gated) (more.last ∷ more.hidden)) in
      record {
        gated = (x, there.r) ∷ more.gated;
        last = more.last;
        hidden = more.hidden;
        are = (record { odd = odd; fits = spelled.fits; keeps = there.keeps }, subst (λ (k : KeptView C). AreGated f k more.gated) (sym there.makes) more.are);
        few = omega (arith, more.few);
        closed = more.closed;
        bytes = ap (λ xs. x ∷ xs) bytes;
        found =
            more.found
            ∙ ap (λ (k : KeptView C). journal_as (patched_by k more.gated) (m - length more.gated) (length more.hidden)) (sym there.makes)
            ∙ ap (λ (n : ℕ). journal_as (patched_by (patched there.r k) more.gated) n (length more.hidden)) less;
      }

  beyond : (m : ℕ) (k : KeptView C) (x : ℕ) (xs : List ℕ) (j : Journal C) → is_closed x ≡ false → ((next : KeptView C) (rest : List ℕ) → from_gate f m next rest ≡ Some j → HoldsRecords f m next rest j)
      → (o : Option (KeptView C × List ℕ)) → next_state f k xs ≡ o → go_on o (λ next more. from_gate f m next more) ≡ Some j → HoldsRecords f (suc m) k (x ∷ xs) j
  beyond m k x xs j odd more None is e = cc
  beyond m k x xs j odd more (Some p) is e = after m k x xs j odd p.0 p.1 (next_of k xs p.0 p.1 is) (more p.0 p.1 e)

  at_none : (k : KeptView C) (x : ℕ) (xs : List ℕ) (j : Journal C) (b : Bool) → is_closed x ≡ b → from_gate f zero k (x ∷ xs) ≡ Some j → HoldsRecords f zero k (x ∷ xs) j
  at_none k x xs j true is e = here zero k x xs j is e
  at_none k x xs j false is e = let no : ◌≡◌ {A = Option (Journal C)} None (Some j) = sym (gate_past f k x xs is) ∙ e in cc

  at_more : (m : ℕ) (k : KeptView C) (x : ℕ) (xs : List ℕ) (j : Journal C) → ((next : KeptView C) (rest : List ℕ) → from_gate f m next rest ≡ Some j → HoldsRecords f m next rest j)
      → (b : Bool) → is_closed x ≡ b → from_gate f (suc m) k (x ∷ xs) ≡ Some j → HoldsRecords f (suc m) k (x ∷ xs) j
  at_more m k x xs j more true is e = here (suc m) k x xs j is e
  at_more m k x xs j more false is e = beyond m k x xs j is more (next_state f k xs) refl (sym (gate_open f m k x xs is) ∙ e)

  pub records_alone : RecordsAlone f
  records_alone n k [] j e = let no : ◌≡◌ {A = Option (Journal C)} None (Some j) = sym (gate_missing f n k) ∙ e in cc
  records_alone zero k (x ∷ xs) j e = at_none k x xs j (is_closed x) refl e
  records_alone (suc m) k (x ∷ xs) j e = at_more m k x xs j (λ next rest found. records_alone m next rest j found) (is_closed x) refl e
