-- Each record has one spelling, and what stands from a closed gate on changes nothing of what stands before it.
use Rattle.std.proofs.Common.{◌≡◌, ◌≤◌, ℕ, zero, suc, ◌+◌, nat_le, Bool, true, false, List, [], ◌∷◌, ◌++◌, length, Option, None, Some, if◌then◌else◌, refl, sym, ap, subst, ◌∙◌, arith, append_assoc, length-append}
use Rattle.std.proofs.lemmas.Bool.{le-leb}
use Rattle.raft_types.specs.Messages.{KeptView}
use Rattle.raft_types.specs.declared.limits.TheConstants.{MAX_INDEX}
use Rattle.vst_base.specs.Entries.{EntryView}
use Rattle.vst_base.specs.declared.entry.TheConstants.{MAX_TERM}
use Rattle.vst_base.specs.declared.node.TheConstants.{MAX_NODES}
use Rattle.wire_fields.specs.FormatLaws.{both_read, mapped_is_format, pair_is_format, same_answer, tested_is_format}
use Rattle.wire_fields.specs.Formats.{Format, IsFormat, and_then, mapped, pair}
use Rattle.wire_messages.specs.RaftByteLaws.{any_term_is_format, log_index_is_format}
use Rattle.wire_messages.specs.RaftBytes.{any_term, log_index}
use Rattle.node_body.specs.Bodies.{VoteAmong, log, vote}
use Rattle.node_body.specs.BodyLaws.{log_is_format, vote_fits, vote_is_format}
use Rattle.node_body.specs.Journals.{change_as, change, patched, next_state, is_closed, journal_as, go_on, from_gate, read_journal}
use Rattle.node_body.specs.declared.journal.Journal.{Journal}
use Rattle.node_body.specs.declared.journal.TheConstants.{MAX_RECORDS}
use Rattle.node_body.specs.declared.records.Record.{Record}

pub change_is_format : {C : Type 0} (nodes : ℕ) (e : Format (EntryView C)) → IsFormat e → IsFormat (change nodes e)
change_is_format nodes e is_e =
    let parts = pair any_term (pair (vote nodes) (pair log_index (log e))) in
    let are_parts : IsFormat parts =
    pair_is_format any_term (pair (vote nodes) (pair log_index (log e))) any_term_is_format
    (pair_is_format (vote nodes) (pair log_index (log e)) (vote_is_format nodes) (pair_is_format log_index (log e) log_index_is_format (log_is_format e is_e))) in
    tested_is_format (λ r. nat_le (r.keep + length r.entries) MAX_INDEX)
    (mapped (λ p. change_as p.0 p.1.0 p.1.1.0 p.1.1.1) (λ r. (r.term, (r.voted, (r.keep, r.entries)))) parts)
    (mapped_is_format (λ p. change_as p.0 p.1.0 p.1.1.0 p.1.1.1) (λ r. (r.term, (r.voted, (r.keep, r.entries)))) parts (λ r. refl) (λ p. refl) are_parts)

-- what has a record: numbers in their ranges
pub change_fits : {C : Type 0} (e : Format (EntryView C)) (term : ℕ) (voted : Option ℕ) (keep : ℕ) (entries : List (EntryView C)) (nodes : ℕ) → term ≤ MAX_TERM → nodes ≤ MAX_NODES → VoteAmong nodes voted
    → keep + length entries ≤ MAX_INDEX → (log e).Fits entries → (change nodes e).Fits (change_as term voted keep entries)
change_fits e term voted keep entries nodes in_range few among index fits =
    (((omega arith, in_range), (vote_fits nodes voted few among, ((omega arith, omega (arith, index)), fits))), le-leb (keep + length entries) MAX_INDEX index)

-- A reader answers this of the front of the bytes alone: so it does where others stand after it.
pub record Front {A : Type 0} (read : List ℕ → Option (A × List ℕ)) (bs : List ℕ) (v : A) (rest : List ℕ) : Type 0 where
  pub front : List ℕ
  pub bytes : bs ≡ front ++ rest
  pub again : (other : List ℕ) → read (front ++ other) ≡ Some (v, other)

pub format_front : {A : Type 0} (f : Format A) → IsFormat f → (bs : List ℕ) (v : A) (rest : List ℕ) → f.read bs ≡ Some (v, rest) → Front f.read bs v rest
format_front f is_f bs v rest e =
    let spelled = is_f.one_spelling bs v rest e in
    record { front = f.spell v; bytes = spelled.bytes; again = λ other. is_f.reads_back v other spelled.fits }

-- what stands after other bytes ends as all of them do
pub record EndsAlike (a rest c : List ℕ) (g : ℕ) : Type 0 where
  pub before : List ℕ
  pub rest_is : rest ≡ before ++ g ∷ []
  pub all_is : c ≡ a ++ before

pub ends_alike : (a c : List ℕ) (y : ℕ) (ys : List ℕ) (g : ℕ) → a ++ y ∷ ys ≡ c ++ g ∷ [] → EndsAlike a (y ∷ ys) c g
ends_alike [] c y ys g e = record { before = c; rest_is = e; all_is = refl }
ends_alike (x ∷ a) [] y ys g e = let no : ⊥ = omega (arith, ap length e, length-append a (y ∷ ys)) in absurd no
ends_alike (x ∷ a) (z ∷ c) y ys g e =
    let first : x ≡ z = cc in
    let tail : a ++ y ∷ ys ≡ c ++ g ∷ [] = cc in
    let more = ends_alike a c y ys g tail in
    record { before = more.before; rest_is = more.rest_is; all_is = λ i. sym first i ∷ more.all_is i }

module _ {C : Type 0} (f : Format (Record C)) where
  pub gate_missing : (n : ℕ) (k : KeptView C) → from_gate f n k [] ≡ None
  unfolding from_gate
  gate_missing zero k = refl
  gate_missing (suc n) k = refl

  pub gate_closed : (n : ℕ) (k : KeptView C) (g : ℕ) (bs : List ℕ) → is_closed g ≡ true → from_gate f n k (g ∷ bs) ≡ Some (journal_as k n (length bs))
  unfolding from_gate
  gate_closed zero k g bs is = ap (λ b. let found : Option (Journal C) = Some (journal_as k 0 (length bs)) in if b then found else None) is
  gate_closed (suc n) k g bs is =
      let other : Option (Journal C) = go_on (next_state f k bs) (λ next more. from_gate f n next more) in
      ap (λ b. let found : Option (Journal C) = Some (journal_as k (suc n) (length bs)) in if b then found else other) is

  pub gate_past : (k : KeptView C) (g : ℕ) (bs : List ℕ) → is_closed g ≡ false → from_gate f zero k (g ∷ bs) ≡ None
  unfolding from_gate
  gate_past k g bs is = ap (λ b. let found : Option (Journal C) = Some (journal_as k 0 (length bs)) in if b then found else None) is

  pub gate_open : (n : ℕ) (k : KeptView C) (g : ℕ) (bs : List ℕ) → is_closed g ≡ false → from_gate f (suc n) k (g ∷ bs) ≡ go_on (next_state f k bs) (λ next more. from_gate f n next more)
  unfolding from_gate
  gate_open n k g bs is =
      let other : Option (Journal C) = go_on (next_state f k bs) (λ next more. from_gate f n next more) in
      ap (λ b. let found : Option (Journal C) = Some (journal_as k (suc n) (length bs)) in if b then found else other) is

-- What is read up to a last gate that hides nothing: it is closed, and other bytes from it on are read from the state there.
pub record Resumes {C : Type 0} (f : Format (Record C)) (n : ℕ) (k : KeptView C) (front : List ℕ) (g : ℕ) (j : Journal C) : Type 0 where
  pub closed : is_closed g ≡ true
  pub again : (tail : List ℕ) → from_gate f n k (front ++ tail) ≡ from_gate f j.left j.kept tail

module _ {C : Type 0} (f : Format (Record C)) (is_f : IsFormat f) where
  next_by : (k : KeptView C) (bs : List ℕ) (r : Record C) (between rest : List ℕ) (next : KeptView C) (b : Bool) → nat_le r.keep (length k.log) ≡ b → f.read bs ≡ Some (r, between)
      → ◌≡◌ {A = Option (KeptView C × List ℕ)} (if b then Some (patched r k, between) else None) (Some (next, rest)) → Front (next_state f k) bs next rest
  next_by k bs r between rest next true passes read e =
      let same = same_answer (patched r k) next between rest e in
      let there = format_front f is_f bs r between read in
      let keep : Record C → List ℕ → Option (KeptView C × List ℕ) = λ r rest. if nat_le r.keep (length k.log) then Some (patched r k, rest) else None in
      record {
        front = there.front;
        bytes = there.bytes ∙ ap (λ rest. there.front ++ rest) same.1;
        again = λ other.
            ap (λ o. and_then o keep) (there.again other)
            ∙ ap (λ b. let found : Option (KeptView C × List ℕ) = Some (patched r k, other) in if b then found else None) passes
            ∙ ap (λ k. let found : Option (KeptView C × List ℕ) = Some (k, other) in found) same.0;
      }
  next_by k bs r between rest next false passes read e = cc

  pub next_front : (k : KeptView C) (bs : List ℕ) (next : KeptView C) (rest : List ℕ) → next_state f k bs ≡ Some (next, rest) → Front (next_state f k) bs next rest
  next_front k bs next rest e =
      let read = both_read (f.read bs) (λ r rest. if nat_le r.keep (length k.log) then Some (patched r k, rest) else None) next rest e in
      next_by k bs read.value read.between rest next (nat_le read.value.keep (length k.log)) refl read.first_is read.next_is

  last_gate : (n : ℕ) (k : KeptView C) (g : ℕ) (j : Journal C) (b : Bool) → is_closed g ≡ b → (is_closed g ≡ false → ⊥) → from_gate f n k (g ∷ []) ≡ Some j → Resumes f n k [] g j
  last_gate n k g j true is never e =
      let found : ◌≡◌ {A = Option (Journal C)} (Some (journal_as k n 0)) (Some j) = sym (gate_closed f n k g [] is) ∙ e in
      let same : journal_as k n 0 ≡ j = cc in
      record { closed = is; again = λ tail. ap (λ (j : Journal C). from_gate f j.left j.kept tail) same }
  last_gate n k g j false is never e = absurd (never is)

  hidden_gate : (n : ℕ) (k : KeptView C) (x : ℕ) (xs : List ℕ) (g : ℕ) (j : Journal C) → is_closed x ≡ true → from_gate f n k (x ∷ (xs ++ g ∷ [])) ≡ Some j → j.hidden ≡ 0 → ⊥
  hidden_gate n k x xs g j is e hidden =
      let found : ◌≡◌ {A = Option (Journal C)} (Some (journal_as k n (length (xs ++ g ∷ [])))) (Some j) = sym (gate_closed f n k x (xs ++ g ∷ []) is) ∙ e in
      let same : journal_as k n (length (xs ++ g ∷ [])) ≡ j = cc in
      let size : length (xs ++ g ∷ []) ≡ 0 = ap (λ (j : Journal C). j.hidden) same ∙ hidden in
      omega (arith, size, length-append xs (g ∷ []))

  -- no record stands in no bytes
  past_the_end : (n : ℕ) (j : Journal C) (k next : KeptView C) (rest : List ℕ) → Front (next_state f k) [] next rest → from_gate f n next rest ≡ Some j → ⊥
  past_the_end n j k next [] there e = let no : ◌≡◌ {A = Option (Journal C)} None (Some j) = sym (gate_missing f n next) ∙ e in cc
  past_the_end n j k next (y ∷ ys) there e = omega (arith, ap length there.bytes, length-append there.front (y ∷ ys))

  no_record : (n : ℕ) (j : Journal C) (k : KeptView C) (o : Option (KeptView C × List ℕ)) → next_state f k [] ≡ o → go_on o (λ next more. from_gate f n next more) ≡ Some j → ⊥
  no_record n j k None is e = cc
  no_record n j k (Some p) is e = past_the_end n j k p.0 p.1 (next_front k [] p.0 p.1 is) e

  -- the records before the last gate, of which one is passed over
  through_record : (m : ℕ) (k : KeptView C) (x : ℕ) (xs : List ℕ) (g : ℕ) (j : Journal C) → ((k : KeptView C) (front : List ℕ) → from_gate f m k (front ++ g ∷ []) ≡ Some j → Resumes f m k front g j)
      → is_closed x ≡ false → (next : KeptView C) (rest : List ℕ) → Front (next_state f k) (xs ++ g ∷ []) next rest → from_gate f m next rest ≡ Some j → Resumes f (suc m) k (x ∷ xs) g j
  through_record m k x xs g j more odd next [] there e = let no : ◌≡◌ {A = Option (Journal C)} None (Some j) = sym (gate_missing f m next) ∙ e in cc
  through_record m k x xs g j more odd next (y ∷ ys) there e =
      let end = ends_alike there.front xs y ys g (sym there.bytes) in
      let inner = more next end.before (subst (λ rest. from_gate f m next rest ≡ Some j) end.rest_is e) in
      record {
        closed = inner.closed;
        again = λ tail.
            gate_open f m k x (xs ++ tail) odd
            ∙ ap (λ bs. go_on (next_state f k bs) (λ next more. from_gate f m next more)) (ap (λ front. front ++ tail) end.all_is ∙ append_assoc there.front end.before tail)
            ∙ ap (λ o. go_on o (λ next more. from_gate f m next more)) (there.again (end.before ++ tail))
            ∙ inner.again tail;
      }

  through : (m : ℕ) (k : KeptView C) (x : ℕ) (xs : List ℕ) (g : ℕ) (j : Journal C) → ((k : KeptView C) (front : List ℕ) → from_gate f m k (front ++ g ∷ []) ≡ Some j → Resumes f m k front g j)
      → is_closed x ≡ false → (o : Option (KeptView C × List ℕ)) → next_state f k (xs ++ g ∷ []) ≡ o → go_on o (λ next more. from_gate f m next more) ≡ Some j → Resumes f (suc m) k (x ∷ xs) g j
  through m k x xs g j more odd None is e = cc
  through m k x xs g j more odd (Some p) is e = through_record m k x xs g j more odd p.0 p.1 (next_front k (xs ++ g ∷ []) p.0 p.1 is) e

  first_of_none : (k : KeptView C) (x : ℕ) (xs : List ℕ) (g : ℕ) (j : Journal C) (b : Bool) → is_closed x ≡ b → from_gate f zero k (x ∷ (xs ++ g ∷ [])) ≡ Some j → j.hidden ≡ 0 → Resumes f zero k (x ∷ xs) g j
  first_of_none k x xs g j true is e hidden = absurd (hidden_gate zero k x xs g j is e hidden)
  first_of_none k x xs g j false is e hidden = let no : ◌≡◌ {A = Option (Journal C)} None (Some j) = sym (gate_past f k x (xs ++ g ∷ []) is) ∙ e in cc

  first_of_more : (m : ℕ) (k : KeptView C) (x : ℕ) (xs : List ℕ) (g : ℕ) (j : Journal C) → ((k : KeptView C) (front : List ℕ) → from_gate f m k (front ++ g ∷ []) ≡ Some j → Resumes f m k front g j)
      → (b : Bool) → is_closed x ≡ b → from_gate f (suc m) k (x ∷ (xs ++ g ∷ [])) ≡ Some j → j.hidden ≡ 0 → Resumes f (suc m) k (x ∷ xs) g j
  first_of_more m k x xs g j more true is e hidden = absurd (hidden_gate (suc m) k x xs g j is e hidden)
  first_of_more m k x xs g j more false is e hidden = through m k x xs g j more is (next_state f k (xs ++ g ∷ [])) refl (sym (gate_open f m k x (xs ++ g ∷ []) is) ∙ e)

  alone : (n : ℕ) (k : KeptView C) (g : ℕ) (j : Journal C) → from_gate f n k (g ∷ []) ≡ Some j → is_closed g ≡ false → ⊥
  alone zero k g j e odd = let no : ◌≡◌ {A = Option (Journal C)} None (Some j) = sym (gate_past f k g [] odd) ∙ e in cc
  alone (suc n) k g j e odd = no_record n j k (next_state f k []) refl (sym (gate_open f n k g [] odd) ∙ e)

  pub resumes : (n : ℕ) (k : KeptView C) (front : List ℕ) (g : ℕ) (j : Journal C) → from_gate f n k (front ++ g ∷ []) ≡ Some j → j.hidden ≡ 0 → Resumes f n k front g j
  resumes n k [] g j e hidden = last_gate n k g j (is_closed g) refl (alone n k g j e) e
  resumes zero k (x ∷ xs) g j e hidden = first_of_none k x xs g j (is_closed x) refl e hidden
  resumes (suc m) k (x ∷ xs) g j e hidden = first_of_more m k x xs g j (λ k front found. resumes m k front g j found hidden) (is_closed x) refl e hidden

  -- the record that stands after an open gate, and a closed gate after it
  pub one_record : (n : ℕ) (k : KeptView C) (r : Record C) (odd even : ℕ) (rest : List ℕ) → f.Fits r → nat_le r.keep (length k.log) ≡ true → is_closed odd ≡ false → is_closed even ≡ true
      → from_gate f (suc n) k (odd ∷ (f.spell r ++ even ∷ rest)) ≡ Some (journal_as (patched r k) n (length rest))
  one_record n k r odd even rest fits keeps is_odd is_even =
      let keep : Record C → List ℕ → Option (KeptView C × List ℕ) = λ r rest. if nat_le r.keep (length k.log) then Some (patched r k, rest) else None in
      let next : next_state f k (f.spell r ++ even ∷ rest) ≡ Some (patched r k, even ∷ rest) =
      ap (λ o. and_then o keep) (is_f.reads_back r (even ∷ rest) fits)
      ∙ ap (λ b. let found : Option (KeptView C × List ℕ) = Some (patched r k, even ∷ rest) in if b then found else None) keeps in
      gate_open f n k odd (f.spell r ++ even ∷ rest) is_odd
      ∙ ap (λ o. go_on o (λ next more. from_gate f n next more)) next
      ∙ gate_closed f n (patched r k) even rest is_even

  -- a journal that does not end where it begins has a gate
  pub journal_there : (k : KeptView C) (front : List ℕ) (v : ℕ) (more : List ℕ) → read_journal f k (front ++ v ∷ more) ≡ from_gate f MAX_RECORDS k (front ++ v ∷ more)
  journal_there k [] v more = refl
  journal_there k (x ∷ front) v more = refl
