-- A slot from its last gate on: what stands there changes the state that is found as a whole record, or not at all.
use Rattle.std.proofs.Common.{◌≡◌, ℕ, suc, nat_le, Bool, true, false, List, [], ◌∷◌, ◌++◌, length, take, drop, Option, None, Some, Ok, if◌then◌else◌, refl, sym, ap, subst, ◌∙◌, arith, append_assoc, length-append, lit<}
use Rattle.std.proofs.Math.Seq.{take-append_seam, drop-append_seam}
use Rattle.std.proofs.lemmas.Bool.{leb-true, le-leb}
use Rattle.std.proofs.lemmas.List.{length-take-le, take-append-drop}
use Rattle.raft_types.specs.Messages.{KeptView}
use Rattle.vst_base.specs.declared.stack.StackId.{StackId}
use Rattle.wire_fields.specs.FieldLaws.{number_is_format}
use Rattle.wire_fields.specs.Fields.{number}
use Rattle.wire_fields.specs.FormatLaws.{keyed_is_format, same_answer}
use Rattle.wire_fields.specs.Formats.{Format, IsFormat, IsSpelled}
use Rattle.wire_messages.specs.Wires.{read_whole}
use Rattle.node_body.specs.Bodies.{body, entry_in}
use Rattle.node_body.specs.BodyLaws.{entry_in_is_format}
use Rattle.node_body.specs.JournalLaws.{Front, change_is_format, ends_alike, format_front, gate_closed, journal_there, one_record, resumes}
use Rattle.node_body.specs.Journals.{change, from_gate, is_closed, journal_as, patched, read_journal}
use Rattle.node_body.specs.Slots.{part, sized, held_as, with_journal, of_body, of_parts, read_slot}
use Rattle.node_body.specs.declared.body.Body.{Body}
use Rattle.node_body.specs.declared.journal.Journal.{Journal}
use Rattle.node_body.specs.declared.journal.TheConstants.{MAX_RECORDS}
use Rattle.node_body.specs.declared.records.Record.{Record}
use Rattle.node_body.specs.declared.slot.Held.{Held}

part_at : (v rest : List ℕ) → (part (length v)).read (v ++ rest) ≡ Some (v, rest)
part_at v rest =
    let front = take-append_seam v rest in
    let end = drop-append_seam v rest in
    ap (λ b. let found : Option (List ℕ × List ℕ) = Some (take (length v) (v ++ rest), drop (length v) (v ++ rest)) in if b then found else None)
    (le-leb (length v) (length (v ++ rest)) (omega (arith, length-append v rest)))
    ∙ (λ i. let found : Option (List ℕ × List ℕ) = Some (front i, end i) in found)

part_one : (n : ℕ) (bs v rest : List ℕ) (b : Bool) → nat_le n (length bs) ≡ b → ◌≡◌ {A = Option (List ℕ × List ℕ)} (if b then Some (take n bs, drop n bs) else None) (Some (v, rest)) → IsSpelled (part n) bs v rest
part_one n bs v rest true long e =
    let same = same_answer (take n bs) v (drop n bs) rest e in
    let spelled : IsSpelled (part n) bs (take n bs) (drop n bs) = record { fits = length-take-le n bs (leb-true n _ long); bytes = sym (take-append-drop n bs) } in
    subst (λ r. IsSpelled (part n) bs v r) same.1 (subst (λ u. IsSpelled (part n) bs u (drop n bs)) same.0 spelled)
part_one n bs v rest false long e = cc

part_is_format : (n : ℕ) → IsFormat (part n)
part_is_format n = record {
  reads_back = λ v rest fits. subst (λ (k : ℕ). (part k).read (v ++ rest) ≡ Some (v, rest)) fits (part_at v rest);
  one_spelling = λ bs v rest e. part_one n bs v rest (nat_le n (length bs)) refl e;
}

pub sized_is_format : IsFormat sized
sized_is_format = keyed_is_format length (number 4 0 4294967295) (λ n. part n) (λ n v fits. fits) (number_is_format 4 0 4294967295 (lit< tt)) part_is_format

-- the records of the slot that holds this
abbrev pub change_in : {C : Type 0} → Format C → Held C → Format (Record C)
change_in f h = change h.owner.nodes (entry_in h.version f)

-- the same slot with another journal
abbrev pub held_with : {C : Type 0} → Held C → KeptView C → ℕ → ℕ → Held C
held_with h kept left hidden = held_as h.version h.owner (journal_as kept left hidden)

-- The slot ends with its last gate, and so many records may follow after one more.
pub record EndsAtGate {C : Type 0} (h : Held C) (spare : ℕ) : Type 0 where
  pub hidden : h.journal.hidden ≡ 0
  pub room : h.journal.left ≡ suc spare

-- the gate is closed, and other bytes from it on are read from the state there
pub record ReadsOn {C : Type 0} (s : StackId) (f : Format C) (front : List ℕ) (gate : ℕ) (h : Held C) : Type 0 where
  pub closed : is_closed gate ≡ true
  pub again : (v : ℕ) (more : List ℕ) →
      read_slot s f (front ++ v ∷ more) ≡ with_journal h.version h.owner (from_gate (change_in f h) h.journal.left h.journal.kept (v ∷ more))

module _ {C : Type 0} (s : StackId) (f : Format C) (is_f : IsFormat f) where
  on_by_journal : (front : List ℕ) (gate : ℕ) (spare : ℕ) (p : List ℕ × List ℕ) (b : Body C) (j : Journal C) (rest : List ℕ) → Front sized.read (front ++ gate ∷ []) p.0 rest
      → read_whole (body s f) p.0 ≡ Some b → read_journal (change b.owner.nodes (entry_in b.version f)) b.kept rest ≡ Some j → EndsAtGate (held_as b.version b.owner j) spare
      → ReadsOn s f front gate (held_as b.version b.owner j)
  on_by_journal front gate spare p b j [] there is_body is_journal ends =
      let same : journal_as b.kept 0 0 ≡ j = cc in
      let no : ◌≡◌ {A = ℕ} 0 (suc spare) = ap (λ (j : Journal C). j.left) same ∙ ends.room in cc
  on_by_journal front gate spare p b j (y ∷ ys) there is_body is_journal ends =
      let records = change b.owner.nodes (entry_in b.version f) in
      let end = ends_alike there.front front y ys gate (sym there.bytes) in
      let found : from_gate records MAX_RECORDS b.kept (end.before ++ gate ∷ []) ≡ Some j =
      ap (λ rest. from_gate records MAX_RECORDS b.kept rest) (sym end.rest_is) ∙ is_journal in
      let on = resumes records (change_is_format b.owner.nodes (entry_in b.version f) (entry_in_is_format b.version f is_f)) MAX_RECORDS b.kept end.before gate j found ends.hidden in
      record {
        closed = on.closed;
        again = λ v more.
            ap (λ bs. of_parts s f (sized.read bs)) (ap (λ front. front ++ v ∷ more) end.all_is ∙ append_assoc there.front end.before (v ∷ more))
            ∙ ap (λ o. of_parts s f o) (there.again (end.before ++ v ∷ more))
            ∙ ap (λ o. of_body f o (end.before ++ v ∷ more)) is_body
            ∙ ap (λ o. with_journal b.version b.owner o) (journal_there records (change_is_format b.owner.nodes (entry_in b.version f) (entry_in_is_format b.version f is_f)) b.kept end.before v more ∙ on.again (v ∷ more));
      }

  on_by_body : (front : List ℕ) (gate : ℕ) (h : Held C) (spare : ℕ) (p : List ℕ × List ℕ) (b : Body C) (o : Option (Journal C)) → sized.read (front ++ gate ∷ []) ≡ Some p
      → read_whole (body s f) p.0 ≡ Some b → read_journal (change b.owner.nodes (entry_in b.version f)) b.kept p.1 ≡ o → with_journal b.version b.owner o ≡ Ok h → EndsAtGate h spare
      → ReadsOn s f front gate h
  on_by_body front gate h spare p b None parts is_body is_journal e ends = cc
  on_by_body front gate h spare p b (Some j) parts is_body is_journal e ends =
      let same : held_as b.version b.owner j ≡ h = cc in
      subst (λ h. ReadsOn s f front gate h) same
      (on_by_journal front gate spare p b j p.1 (format_front sized sized_is_format (front ++ gate ∷ []) p.0 p.1 parts) is_body is_journal (subst (λ h. EndsAtGate h spare) (sym same) ends))

  on_by_whole : (front : List ℕ) (gate : ℕ) (h : Held C) (spare : ℕ) (p : List ℕ × List ℕ) (o : Option (Body C)) → sized.read (front ++ gate ∷ []) ≡ Some p
      → read_whole (body s f) p.0 ≡ o → of_body f o p.1 ≡ Ok h → EndsAtGate h spare → ReadsOn s f front gate h
  on_by_whole front gate h spare p None parts is_body e ends = cc
  on_by_whole front gate h spare p (Some b) parts is_body e ends =
      on_by_body front gate h spare p b (read_journal (change b.owner.nodes (entry_in b.version f)) b.kept p.1) parts is_body refl e ends

  on_by_parts : (front : List ℕ) (gate : ℕ) (h : Held C) (spare : ℕ) (o : Option (List ℕ × List ℕ)) → sized.read (front ++ gate ∷ []) ≡ o → of_parts s f o ≡ Ok h → EndsAtGate h spare → ReadsOn s f front gate h
  on_by_parts front gate h spare None parts e ends = cc
  on_by_parts front gate h spare (Some p) parts e ends = on_by_whole front gate h spare p (read_whole (body s f) p.0) parts refl e ends

  pub reads_on : (front : List ℕ) (gate : ℕ) (h : Held C) (spare : ℕ) → read_slot s f (front ++ gate ∷ []) ≡ Ok h → EndsAtGate h spare → ReadsOn s f front gate h
  reads_on front gate h spare e ends = on_by_parts front gate h spare (sized.read (front ++ gate ∷ [])) refl e ends

  -- what an even gate hides is not read, whatever it is
  pub gate_hides : (front : List ℕ) (gate : ℕ) (h : Held C) (spare : ℕ) → read_slot s f (front ++ gate ∷ []) ≡ Ok h → EndsAtGate h spare → (v : ℕ) (more : List ℕ) → is_closed v ≡ true
      → read_slot s f (front ++ v ∷ more) ≡ Ok (held_with h h.journal.kept h.journal.left (length more))
  gate_hides front gate h spare e ends v more even =
      (reads_on front gate h spare e ends).again v more
      ∙ ap (λ o. with_journal h.version h.owner o) (gate_closed (change_in f h) h.journal.left h.journal.kept v more even)

  -- an odd gate adds the record that stands after it
  pub gate_opens : (front : List ℕ) (gate : ℕ) (h : Held C) (spare : ℕ) → read_slot s f (front ++ gate ∷ []) ≡ Ok h → EndsAtGate h spare
      → (r : Record C) (v even : ℕ) (rest : List ℕ) → (change_in f h).Fits r → nat_le r.keep (length h.journal.kept.log) ≡ true → is_closed v ≡ false → is_closed even ≡ true
      → read_slot s f (front ++ v ∷ ((change_in f h).spell r ++ even ∷ rest)) ≡ Ok (held_with h (patched r h.journal.kept) spare (length rest))
  gate_opens front gate h spare e ends r v even rest fits keeps is_odd is_even =
      let records = change_in f h in
      let is_format = change_is_format h.owner.nodes (entry_in h.version f) (entry_in_is_format h.version f is_f) in
      (reads_on front gate h spare e ends).again v (records.spell r ++ even ∷ rest)
      ∙ ap (λ n. with_journal h.version h.owner (from_gate records n h.journal.kept (v ∷ (records.spell r ++ even ∷ rest)))) ends.room
      ∙ ap (λ o. with_journal h.version h.owner o) (one_record records is_format spare h.journal.kept r v even rest fits keeps is_odd is_even)
