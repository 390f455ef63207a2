-- What is found in a slot of version 1 has bytes of version 2.
use Rattle.std.proofs.Common.{◌≡◌, ℕ, zero, suc, ◌+◌, ◌<◌, ◌≤◌, nat_lt, nat_le, Bool, true, false, List, [], ◌∷◌, ◌++◌, length, take, All, Option, None, Some, Ok, refl, sym, subst, ◌∙◌, arith, if◌then◌else◌, nat_eq, eqb-true}
use Rattle.std.proofs.lemmas.Bool.{lt-ltb, ltb-true, leb-true}
use Rattle.std.proofs.lemmas.List.{length-append}
use Rattle.std.proofs.lemmas.List.Elements.{All-append, All-take, All-weaker}
use Rattle.raft_types.specs.Messages.{IsClusterSize, KeptView}
use Rattle.raft_types.specs.declared.limits.TheConstants.{MAX_INDEX}
use Rattle.vst_base.specs.Entries.{EntryView}
use Rattle.vst_base.specs.declared.stack.StackId.{StackId}
use Rattle.vst_base.specs.declared.what.What.{What}
use Rattle.vst_base.specs.declared.what.What.TheVariants.{Noop, Request}
use Rattle.wire_fields.specs.FormatLaws.{same_answer}
use Rattle.wire_fields.specs.Formats.{Format, IsFormat}
use Rattle.wire_messages.specs.EntryBytes.{entry, held, old_entry, old_held}
use Rattle.wire_messages.specs.Wires.{read_whole}
use Rattle.node_body.specs.Bodies.{body, body_of, entry_in, kept}
use Rattle.node_body.specs.BodyLaws.{body_is_format, entry_in_is_format, whole_one}
use Rattle.node_body.specs.FoundLaws.{agrees}
use Rattle.node_body.specs.JournalLaws.{change_is_format, gate_closed, gate_missing, gate_open, gate_past}
use Rattle.node_body.specs.Journals.{change, from_gate, go_on, is_closed, journal_as, next_state, patched, read_journal}
use Rattle.node_body.specs.Slots.{held_as, of_body, of_parts, other_name, sized, with_journal}
use Rattle.node_body.specs.declared.body.Body.{Body}
use Rattle.node_body.specs.declared.journal.Journal.{Journal}
use Rattle.node_body.specs.declared.journal.TheConstants.{MAX_RECORDS}
use Rattle.node_body.specs.declared.records.Record.{Record}
use Rattle.node_body.specs.declared.slot.Held.{Held}
use Rattle.node_body.specs.declared.version.Version.{Version}
use Rattle.node_body.specs.declared.version.Version.TheVariants.{One, Two}
use Rattle.node_body.specs.declared.who.Owner.{Owner}
use Rattle.node_body.specs.declared.who.Who.{Who}
use Rattle.node_body.specs.declared.why.Why.{Why}
use Rattle.node_body.specs.declared.why.Why.TheVariants as why
use Rattle.act_disks.specs.NodeStores.{FoundFits}
use Rattle.node_disks.specs.Names.{IsName, who_in}

-- a state whose entries have bytes goes on to one by a record
module _ {C : Type 0} (nodes : ℕ) (e : Format (EntryView C)) (is_e : IsFormat e) where
  abbrev KeptFits : KeptView C → Type 0
  KeptFits k = (kept nodes e).Fits k

  take_short : (n : ℕ) (entries : List (EntryView C)) → length (take n entries) ≤ n
  take_short zero entries = omega arith
  take_short (suc n) [] = omega arith
  take_short (suc n) (x ∷ entries) = let rest = take_short n entries in omega (arith, rest)

  patched_fits : (r : Record C) (k : KeptView C) → (change nodes e).Fits r → KeptFits k → KeptFits (patched r k)
  patched_fits r k fits old =
      let size : length (take r.keep k.log ++ r.entries) ≡ length (take r.keep k.log) + length r.entries = length-append (take r.keep k.log) r.entries in
      let short = take_short r.keep k.log in
      let few : r.keep + length r.entries ≤ MAX_INDEX = leb-true (r.keep + length r.entries) MAX_INDEX fits.1 in (
        fits.0.0,
        (
          fits.0.1.0,
          (
            (omega arith, omega (arith, size, short, few)),
            (refl, All-append e.Fits (take r.keep k.log) r.entries (All-take e.Fits r.keep k.log old.1.1.1.1) fits.0.1.1.1.1.1),
          ),
        ),
      )

  by_keep : (k : KeptView C) (r : Record C) (between rest : List ℕ) (next : KeptView C) (b : Bool) → (change nodes e).Fits r → KeptFits k →
      ◌≡◌ {A = Option (KeptView C × List ℕ)} (if b then Some (patched r k, between) else None) (Some (next, rest)) → KeptFits next
  by_keep k r between rest next true fits old is = subst KeptFits (same_answer (patched r k) next between rest is).0 (patched_fits r k fits old)
  by_keep k r between rest next false fits old is = cc

  next_by : (k : KeptView C) (bs rest : List ℕ) (next : KeptView C) (o : Option (Record C × List ℕ)) → (change nodes e).read bs ≡ o → KeptFits k →
      next_state (change nodes e) k bs ≡ Some (next, rest) → KeptFits next
  next_by k bs rest next None read old is = let no : ◌≡◌ {A = Option (KeptView C × List ℕ)} None (Some (next, rest)) = rw read at is in cc
  next_by k bs rest next (Some p) read old is =
      by_keep k p.0 p.1 rest next (nat_le p.0.keep (length k.log)) ((change_is_format nodes e is_e).one_spelling bs p.0 p.1 read).fits old (rw read at is)

  -- the gates from one on, where fewer records follow
  abbrev GatesFit : ℕ → Journal C → Type 0
  GatesFit n j = (k : KeptView C) (bs : List ℕ) → KeptFits k → from_gate (change nodes e) n k bs ≡ Some j → KeptFits j.kept

  records_fit : (n : ℕ) (j : Journal C) → GatesFit n j → (k : KeptView C) (bs : List ℕ) (o : Option (KeptView C × List ℕ)) → next_state (change nodes e) k bs ≡ o → KeptFits k →
      go_on o (λ next more. from_gate (change nodes e) n next more) ≡ Some j → KeptFits j.kept
  records_fit n j later k bs None is old found = cc
  records_fit n j later k bs (Some p) is old found = later p.0 p.1 (next_by k bs p.1 p.0 ((change nodes e).read bs) refl old is) found

  closed_fits : (n : ℕ) (j : Journal C) (k : KeptView C) (g : ℕ) (bs : List ℕ) → is_closed g ≡ true → KeptFits k → from_gate (change nodes e) n k (g ∷ bs) ≡ Some j → KeptFits j.kept
  closed_fits n j k g bs closed old found =
      let there : ◌≡◌ {A = Option (Journal C)} (Some (journal_as k n (length bs))) (Some j) = sym (gate_closed (change nodes e) n k g bs closed) ∙ found in
      let same : journal_as k n (length bs) ≡ j = cc in
      subst (λ (i : Journal C). KeptFits i.kept) same old

  last_fits : (j : Journal C) (k : KeptView C) (g : ℕ) (bs : List ℕ) (b : Bool) → is_closed g ≡ b → KeptFits k → from_gate (change nodes e) zero k (g ∷ bs) ≡ Some j → KeptFits j.kept
  last_fits j k g bs true closed old found = closed_fits zero j k g bs closed old found
  last_fits j k g bs false odd old found = let no : ◌≡◌ {A = Option (Journal C)} None (Some j) = sym (gate_past (change nodes e) k g bs odd) ∙ found in cc

  more_fit : (n : ℕ) (j : Journal C) → GatesFit n j → (k : KeptView C) (g : ℕ) (bs : List ℕ) (b : Bool) → is_closed g ≡ b → KeptFits k → from_gate (change nodes e) (suc n) k (g ∷ bs) ≡ Some j → KeptFits j.kept
  more_fit n j later k g bs true closed old found = closed_fits (suc n) j k g bs closed old found
  more_fit n j later k g bs false odd old found =
      records_fit n j later k bs (next_state (change nodes e) k bs) refl old (sym (gate_open (change nodes e) n k g bs odd) ∙ found)

  gates_fit : (n : ℕ) (j : Journal C) → GatesFit n j
  gates_fit n j k [] old found = let no : ◌≡◌ {A = Option (Journal C)} None (Some j) = sym (gate_missing (change nodes e) n k) ∙ found in cc
  gates_fit zero j k (g ∷ bs) old found = last_fits j k g bs (is_closed g) refl old found
  gates_fit (suc n) j k (g ∷ bs) old found = more_fit n j (λ k bs old found. gates_fit n j k bs old found) k g bs (is_closed g) refl old found

  pub journal_fits : (k : KeptView C) (bs : List ℕ) (j : Journal C) → KeptFits k → read_journal (change nodes e) k bs ≡ Some j → KeptFits j.kept
  journal_fits k [] j old found = let same : journal_as k 0 0 ≡ j = cc in subst (λ (i : Journal C). KeptFits i.kept) same old
  journal_fits k (g ∷ bs) j old found = gates_fit MAX_RECORDS j k (g ∷ bs) old found

-- an entry as version 1 had it is one
what_now : {C : Type 0} (f : Format C) (what : What C) → (old_held f).Fits what → (held f).Fits what
what_now f Noop fits = absurd fits
what_now f (Request client request origin cmd) fits = fits

entry_now : {C : Type 0} (f : Format C) (e : EntryView C) → (old_entry f).Fits e → (entry f).Fits e
entry_now f e fits = (fits.0, what_now f e.what fits.1)

entries_now : {C : Type 0} (f : Format C) (v : Version) (entries : List (EntryView C)) → v ≡ One → All (entry_in v f).Fits entries → All (entry f).Fits entries
entries_now f One entries is fits = All-weaker (old_entry f).Fits (entry f).Fits (entry_now f) entries fits
entries_now f Two entries is fits = cc

module _ {C : Type 0} (s : StackId) (f : Format C) (is_f : IsFormat f) where
  -- what a slot holds has bytes in its version
  abbrev HeldFits : Held C → Type 0
  HeldFits h = (kept h.owner.nodes (entry_in h.version f)).Fits h.journal.kept

  journal_held : (b : Body C) (rest : List ℕ) (h : Held C) (o : Option (Journal C)) → (kept b.owner.nodes (entry_in b.version f)).Fits b.kept →
      read_journal (change b.owner.nodes (entry_in b.version f)) b.kept rest ≡ o → with_journal b.version b.owner o ≡ Ok h → HeldFits h
  journal_held b rest h None fits is found = cc
  journal_held b rest h (Some j) fits is found =
      let same : held_as b.version b.owner j ≡ h = cc in
      subst HeldFits same (journal_fits b.owner.nodes (entry_in b.version f) (entry_in_is_format b.version f is_f) b.kept rest j fits is)

  body_held : (p : List ℕ × List ℕ) (h : Held C) (o : Option (Body C)) → read_whole (body s f) p.0 ≡ o → of_body f o p.1 ≡ Ok h → HeldFits h
  body_held p h None is found = cc
  body_held p h (Some b) is found =
      let fits = (whole_one (body s f) (body_is_format s f is_f) p.0 b is).fits in
      journal_held b p.1 h (read_journal (change b.owner.nodes (entry_in b.version f)) b.kept p.1) fits.1.1 refl found

  slot_held : (h : Held C) (o : Option (List ℕ × List ℕ)) → of_parts s f o ≡ Ok h → HeldFits h
  slot_held h None found = cc
  slot_held h (Some p) found = body_held p h (read_whole (body s f) p.0) refl found

-- who agrees with an owner has as many nodes
same_nodes : (w : Who) (o : Owner) (a b : Bool) → nat_eq o.me w.me ≡ a → nat_eq o.nodes w.nodes ≡ b →
    ◌≡◌ {A = Option Why} (if a then (if b then other_name o.name w.name else Some (why.Cluster o.nodes w.nodes)) else Some (why.Node o.me w.me)) None → o.nodes ≡ w.nodes
same_nodes w o true true me nodes e = eqb-true o.nodes w.nodes nodes
same_nodes w o true false me nodes e = cc
same_nodes w o false b me nodes e = cc

node_below : (nodes n : ℕ) (b : Bool) → 1 ≤ nodes → nat_lt n nodes ≡ b → (if b then n else 0) < nodes
node_below nodes n true some is = ltb-true n nodes is
node_below nodes n false some is = omega (arith, some)

module _ {C : Type 0} (s : StackId) (f : Format C) (is_f : IsFormat f) (nodes : ℕ) (name : List ℕ) (size : IsClusterSize nodes) (named : IsName name) where
  -- a node's body has bytes where what it keeps has
  pub whole_fits : (n : ℕ) (k : KeptView C) → (kept nodes (entry f)).Fits k → (body s f).Fits (body_of (who_in s nodes name n) k)
  whole_fits n k fits =
      let me : (who_in s nodes name n).me < nodes = node_below nodes n (nat_lt n nodes) size.0 refl in
      let below : nat_lt (who_in s nodes name n).me nodes ≡ true = lt-ltb (who_in s nodes name n).me nodes me in
      (tt, (((refl, ((omega arith, omega (arith, me, size.1)), (size, named))), rw below refl), fits))

  pub found_fits : FoundFits s f (who_in s nodes name)
  found_fits n bytes h found version =
      let is = agrees s f (who_in s nodes name n) bytes h found in
      let fits = slot_held s f is_f h (sized.read bytes) is.read in
      let same : h.owner.nodes ≡ nodes =
      same_nodes (who_in s nodes name n) h.owner (nat_eq h.owner.me (who_in s nodes name n).me) (nat_eq h.owner.nodes nodes) refl refl is.same in
      let there = subst (λ (m : ℕ). (kept m (entry_in h.version f)).Fits h.journal.kept) same fits in
      whole_fits n h.journal.kept (there.0, (there.1.0, (there.1.1.0, (refl, entries_now f h.version h.journal.kept.log version there.1.1.1.1))))
