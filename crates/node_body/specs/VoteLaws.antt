-- A state that is found was kept by a node of a cluster, whose vote is for one of its nodes.
use Rattle.std.proofs.Common.{◌≡◌, ◌<◌, ℕ, zero, suc, Bool, true, false, IsTrue, nat_eq, nat_le, List, [], ◌∷◌, length, Option, None, Some, Result, Ok, Err, IfOk, IfSome, if◌then◌else◌, refl, sym, subst, ◌∙◌}
use Rattle.std.proofs.lemmas.Bool.{eqb-true, ltb-true}
use Rattle.raft_types.specs.Messages.{KeptView, IsClusterSize}
use Rattle.vst_base.specs.Entries.{EntryView}
use Rattle.vst_base.specs.declared.stack.StackId.{StackId}
use Rattle.wire_fields.specs.FormatLaws.{both_read, same_answer}
use Rattle.wire_fields.specs.Formats.{Format, IsFormat}
use Rattle.wire_messages.specs.Wires.{read_whole}
use Rattle.node_body.specs.Bodies.{VoteAmong, body, body_of, entry_in, is_among, read_body}
use Rattle.node_body.specs.BodyLaws.{body_is_format, body_one, entry_in_is_format, whole_one}
use Rattle.node_body.specs.FoundLaws.{agrees}
use Rattle.node_body.specs.JournalLaws.{change_is_format, gate_closed, gate_missing, gate_open, gate_past}
use Rattle.node_body.specs.Journals.{change, from_gate, go_on, is_closed, journal_as, next_state, patched, read_journal}
use Rattle.node_body.specs.Slots.{held_as, of_body, of_parts, other_name, read_slot, sized, slot_found, with_journal}
use Rattle.node_body.specs.declared.body.Body.{Body}
use Rattle.node_body.specs.declared.journal.Journal.{Journal}
use Rattle.node_body.specs.declared.journal.TheConstants.{MAX_RECORDS}
use Rattle.node_body.specs.declared.records.Record.{Record}
use Rattle.node_body.specs.declared.slot.Held.{Held}
use Rattle.node_body.specs.declared.who.Owner.{Owner}
use Rattle.node_body.specs.declared.who.Who.{Who}
use Rattle.node_body.specs.declared.why.Why.{Why}
use Rattle.node_body.specs.declared.why.Why.TheVariants as why

-- a node of a cluster of the stack, which may keep this: its vote is for a node of the cluster
pub record MayKeep {C : Type 0} (s : StackId) (who : Who) (kept : KeptView C) : Type 0 where
  pub stack : who.stack ≡ s
  pub nodes : IsClusterSize who.nodes
  pub me : who.me < who.nodes
  pub voted : VoteAmong who.nodes kept.voted

among : (nodes : ℕ) (v : Option ℕ) → IsTrue (is_among nodes v) → VoteAmong nodes v
among nodes None is = tt
among nodes (Some n) is = ltb-true n nodes is

pub body_keeps : {C : Type 0} (s : StackId) (f : Format C) (who : Who) (k : KeptView C) → (body s f).Fits (body_of who k) → MayKeep s who k
body_keeps s f who k fits = record {
  stack = fits.1.0.0.0;
  nodes = fits.1.0.0.1.1.0;
  me = ltb-true who.me who.nodes fits.1.0.1;
  voted = among who.nodes k.voted fits.1.1.1.0.1;
}

module _ {C : Type 0} (nodes : ℕ) (e : Format (EntryView C)) (is_e : IsFormat e) where
  next_by : (k : KeptView C) (bs : List ℕ) (r : Record C) (between rest : List ℕ) (next : KeptView C) (b : Bool) → (change nodes e).read bs ≡ Some (r, between)
      → ◌≡◌ {A = Option (KeptView C × List ℕ)} (if b then Some (patched r k, between) else None) (Some (next, rest)) → VoteAmong nodes next.voted
  next_by k bs r between rest next true read is =
      let same = same_answer (patched r k) next between rest is in
      let spelled = (change_is_format nodes e is_e).one_spelling bs r between read in
      subst (λ (k : KeptView C). VoteAmong nodes k.voted) same.0 (among nodes r.voted spelled.fits.0.1.0.1)
  next_by k bs r between rest next false read is = cc

  next_vote : (k : KeptView C) (bs : List ℕ) (next : KeptView C) (rest : List ℕ) → next_state (change nodes e) k bs ≡ Some (next, rest) → VoteAmong nodes next.voted
  next_vote k bs next rest is =
      let read = both_read ((change nodes e).read bs) (λ r rest. if nat_le r.keep (length k.log) then Some (patched r k, rest) else None) next rest is in
      next_by k bs read.value read.between rest next (nat_le read.value.keep (length k.log)) read.first_is read.next_is

  closed_vote : (n : ℕ) (k : KeptView C) (x : ℕ) (xs : List ℕ) (j : Journal C) → VoteAmong nodes k.voted → is_closed x ≡ true → from_gate (change nodes e) n k (x ∷ xs) ≡ Some j → VoteAmong nodes j.kept.voted
  closed_vote n k x xs j voted is found =
      let there : ◌≡◌ {A = Option (Journal C)} (Some (journal_as k n (length xs))) (Some j) = sym (gate_closed (change nodes e) n k x xs is) ∙ found in
      let same : journal_as k n (length xs) ≡ j = cc in
      subst (λ (j : Journal C). VoteAmong nodes j.kept.voted) same voted

  beyond : (m : ℕ) (k : KeptView C) (xs : List ℕ) (j : Journal C) → ((next : KeptView C) (rest : List ℕ) → VoteAmong nodes next.voted → from_gate (change nodes e) m next rest ≡ Some j → VoteAmong nodes j.kept.voted)
      → (o : Option (KeptView C × List ℕ)) → next_state (change nodes e) k xs ≡ o → go_on o (λ next more. from_gate (change nodes e) m next more) ≡ Some j → VoteAmong nodes j.kept.voted
  beyond m k xs j more None is found = cc
  beyond m k xs j more (Some p) is found = more p.0 p.1 (next_vote k xs p.0 p.1 is) found

  at_none : (k : KeptView C) (x : ℕ) (xs : List ℕ) (j : Journal C) (b : Bool) → VoteAmong nodes k.voted → is_closed x ≡ b → from_gate (change nodes e) zero k (x ∷ xs) ≡ Some j → VoteAmong nodes j.kept.voted
  at_none k x xs j true voted is found = closed_vote zero k x xs j voted is found
  at_none k x xs j false voted is found = let no : ◌≡◌ {A = Option (Journal C)} None (Some j) = sym (gate_past (change nodes e) k x xs is) ∙ found in cc

  at_more : (m : ℕ) (k : KeptView C) (x : ℕ) (xs : List ℕ) (j : Journal C) → ((next : KeptView C) (rest : List ℕ) → VoteAmong nodes next.voted → from_gate (change nodes e) m next rest ≡ Some j → VoteAmong nodes j.kept.voted)
      → (b : Bool) → VoteAmong nodes k.voted → is_closed x ≡ b → from_gate (change nodes e) (suc m) k (x ∷ xs) ≡ Some j → VoteAmong nodes j.kept.voted
  at_more m k x xs j more true voted is found = closed_vote (suc m) k x xs j voted is found
  at_more m k x xs j more false voted is found = beyond m k xs j more (next_state (change nodes e) k xs) refl (sym (gate_open (change nodes e) m k x xs is) ∙ found)

  pub gate_vote : (n : ℕ) (k : KeptView C) (bs : List ℕ) (j : Journal C) → VoteAmong nodes k.voted → from_gate (change nodes e) n k bs ≡ Some j → VoteAmong nodes j.kept.voted
  gate_vote n k [] j voted found = let no : ◌≡◌ {A = Option (Journal C)} None (Some j) = sym (gate_missing (change nodes e) n k) ∙ found in cc
  gate_vote zero k (x ∷ xs) j voted found = at_none k x xs j (is_closed x) voted refl found
  gate_vote (suc m) k (x ∷ xs) j voted found = at_more m k x xs j (λ next rest voted found. gate_vote m next rest j voted found) (is_closed x) voted refl found

  pub journal_vote : (k : KeptView C) (bs : List ℕ) (j : Journal C) → VoteAmong nodes k.voted → read_journal (change nodes e) k bs ≡ Some j → VoteAmong nodes j.kept.voted
  journal_vote k [] j voted found =
      let same : journal_as k 0 0 ≡ j = cc in
      subst (λ (j : Journal C). VoteAmong nodes j.kept.voted) same voted
  journal_vote k (x ∷ xs) j voted found = gate_vote MAX_RECORDS k (x ∷ xs) j voted found

module _ {C : Type 0} (s : StackId) (f : Format C) (is_f : IsFormat f) where
  of_found : (bytes : List ℕ) (h : Held C) (rest : List ℕ) (b : Body C) (o : Option (Journal C)) → read_whole (body s f) bytes ≡ Some b
      → read_journal (change b.owner.nodes (entry_in b.version f)) b.kept rest ≡ o → with_journal b.version b.owner o ≡ Ok h → VoteAmong h.owner.nodes h.journal.kept.voted
  of_found bytes h rest b None is_body is_journal e = cc
  of_found bytes h rest b (Some j) is_body is_journal e =
      let same : held_as b.version b.owner j ≡ h = cc in
      let spelled = whole_one (body s f) (body_is_format s f is_f) bytes b is_body in
      subst (λ (h : Held C). VoteAmong h.owner.nodes h.journal.kept.voted) same
      (journal_vote b.owner.nodes (entry_in b.version f) (entry_in_is_format b.version f is_f) b.kept rest j (among b.owner.nodes b.kept.voted spelled.fits.1.1.1.0.1) is_journal)

  of_whole : (bytes : List ℕ) (h : Held C) (rest : List ℕ) (o : Option (Body C)) → read_whole (body s f) bytes ≡ o → of_body f o rest ≡ Ok h → VoteAmong h.owner.nodes h.journal.kept.voted
  of_whole bytes h rest None is_body e = cc
  of_whole bytes h rest (Some b) is_body e = of_found bytes h rest b (read_journal (change b.owner.nodes (entry_in b.version f)) b.kept rest) is_body refl e

  of_sized : (h : Held C) (o : Option (List ℕ × List ℕ)) → of_parts s f o ≡ Ok h → VoteAmong h.owner.nodes h.journal.kept.voted
  of_sized h None e = cc
  of_sized h (Some p) e = of_whole p.0 h p.1 (read_whole (body s f) p.0) refl e

  pub slot_vote : (bs : List ℕ) (h : Held C) → read_slot s f bs ≡ Ok h → VoteAmong h.owner.nodes h.journal.kept.voted
  slot_vote bs h e = of_sized h (sized.read bs) e

same_size : (who : Who) (o : Owner) (me nodes : Bool) → nat_eq o.nodes who.nodes ≡ nodes
    → ◌≡◌ {A = Option Why} (if me then (if nodes then other_name o.name who.name else Some (why.Cluster o.nodes who.nodes)) else Some (why.Node o.me who.me)) None → o.nodes ≡ who.nodes
same_size who o true true is e = eqb-true o.nodes who.nodes is
same_size who o true false is e = cc
same_size who o false nodes is e = cc

-- a slot that a node takes is of a cluster of as many nodes
pub owner_nodes : {C : Type 0} (s : StackId) (f : Format C) (who : Who) (bs : List ℕ) (h : Held C) → slot_found s f who bs ≡ Ok h → h.owner.nodes ≡ who.nodes
owner_nodes s f who bs h e = same_size who h.owner (nat_eq h.owner.me who.me) (nat_eq h.owner.nodes who.nodes) refl (agrees s f who bs h e).same

module _ {C : Type 0} (s : StackId) (f : Format C) (is_f : IsFormat f) where
  pub found_vote : (who : Who) (bs : List ℕ) (h : Held C) → slot_found s f who bs ≡ Ok h → VoteAmong who.nodes h.journal.kept.voted
  found_vote who bs h e =
      subst (λ (n : ℕ). VoteAmong n h.journal.kept.voted) (owner_nodes s f who bs h e) (slot_vote s f is_f bs h (agrees s f who bs h e).read)

  -- so of an answer that says what the slot is
  found_votes : (who : Who) (bs : List ℕ) (slot : Result (Held C) Why) → slot ≡ slot_found s f who bs → IfOk slot (λ h. VoteAmong who.nodes h.journal.kept.voted)
  found_votes who bs (Ok h) is = found_vote who bs h (sym is)
  found_votes who bs (Err w) is = tt

  pub answer_votes : {E : Type 0} (who : Who) (bs : List ℕ) (r : Result (Result (Held C) Why) E) → IfOk r (λ slot. slot ≡ slot_found s f who bs) → IfOk r (λ slot. IfOk slot (λ h. VoteAmong who.nodes h.journal.kept.voted))
  answer_votes who bs (Ok slot) is = found_votes who bs slot is
  answer_votes who bs (Err e) is = tt

module _ {C : Type 0} (s : StackId) (f : Format C) (is_f : IsFormat f) where
  body_keeps_found : (bs : List ℕ) (found : Option (Who × KeptView C)) → found ≡ read_body s f bs → IfSome found (λ p. MayKeep s p.0 p.1)
  body_keeps_found bs None is = tt
  body_keeps_found bs (Some p) is = body_keeps s f p.0 p.1 (body_one s f is_f bs p.0 p.1 (sym is)).fits

  pub answer_keeps : {E : Type 0} (bs : List ℕ) (r : Result (Option (Who × KeptView C)) E) → IfOk r (λ found. found ≡ read_body s f bs) → IfOk r (λ found. IfSome found (λ p. MayKeep s p.0 p.1))
  answer_keeps bs (Ok found) is = body_keeps_found bs found is
  answer_keeps bs (Err e) is = tt
