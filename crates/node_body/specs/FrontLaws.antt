-- A front that decides what a slot is has its first closed gate, or a body that is none.
use Rattle.std.proofs.Common.{◌≡◌, ℕ, suc, ◌+◌, ◌-◌, Bool, true, false, List, [], ◌∷◌, ◌++◌, length, Option, None, Some, Result, Ok, Err, if◌then◌else◌, refl, sym, ap, subst, ◌∙◌, append_assoc, length-append, ◌⊎◌, inl, inr}
use Rattle.raft_types.specs.Messages.{KeptView}
use Rattle.vst_base.specs.declared.stack.StackId.{StackId}
use Rattle.wire_codec.specs.Headings.{stack_byte}
use Rattle.wire_fields.specs.Formats.{Format, IsFormat}
use Rattle.wire_messages.specs.Wires.{read_whole}
use Rattle.node_body.specs.Bodies.{body, entry_in}
use Rattle.node_body.specs.BodyLaws.{entry_in_is_format}
use Rattle.node_body.specs.FoundLaws.{agrees}
use Rattle.node_body.specs.Fronts.{FrontsDecide, LastGateDecides, LongerFrontsDecide, found_in_front, gate_after, has_gate, hides_more, if_decided, stands, with_more}
use Rattle.node_body.specs.GatedRecordLaws.{records_alone, records_are_found}
use Rattle.node_body.specs.GatedRecords.{patched_by, spell_gated}
use Rattle.node_body.specs.JournalLaws.{change_is_format, format_front}
use Rattle.node_body.specs.Journals.{change, from_gate, journal_as, read_journal}
use Rattle.node_body.specs.Logged.{Logged, logged_stacks}
use Rattle.node_body.specs.LoggedLaws.{AreFormats, logged_are_formats}
use Rattle.node_body.specs.SlotLaws.{sized_is_format}
use Rattle.node_body.specs.Slots.{byte_where, difference, found_among, held_as, of_body, of_other, of_own, of_parts, or_next, read_slot, sized, slot_byte, slot_found, stack_of_slot, unless_differs, with_journal}
use Rattle.node_body.specs.WhyLaws.{body_why, no_body}
use Rattle.node_body.specs.declared.body.Body.{Body}
use Rattle.node_body.specs.declared.journal.Journal.{Journal}
use Rattle.node_body.specs.declared.journal.TheConstants.{MAX_RECORDS}
use Rattle.node_body.specs.declared.records.Record.{Record}
use Rattle.node_body.specs.declared.slot.Held.{Held}
use Rattle.node_body.specs.declared.who.Who.{Who}
use Rattle.node_body.specs.declared.why.Why.{Why}
use Rattle.node_body.specs.declared.why.Why.TheVariants as why

-- the records up to a closed gate are the same, which hides what stands after it
gate_more : {C : Type 0} (f : Format (Record C)) (is_f : IsFormat f) (n : ℕ) (k : KeptView C) (bs more : List ℕ) (j : Journal C) → from_gate f n k bs ≡ Some j
    → from_gate f n k (bs ++ more) ≡ Some (journal_as j.kept j.left (j.hidden + length more))
gate_more {C} f is_f n k bs more j e =
    let holds = records_alone f is_f n k bs j e in
    let size : length holds.hidden + length more ≡ length (holds.hidden ++ more) = sym (length-append holds.hidden more) in
    records_are_found f is_f n k (bs ++ more) (journal_as j.kept j.left (j.hidden + length more))
    (record {
      gated = holds.gated;
      last = holds.last;
      hidden = holds.hidden ++ more;
      are = holds.are;
      few = holds.few;
      closed = holds.closed;
      bytes = ap (λ bs. bs ++ more) holds.bytes ∙ append_assoc (spell_gated f holds.gated) (holds.last ∷ holds.hidden) more;
      found =
          ap (λ (j : Journal C). journal_as j.kept j.left (j.hidden + length more)) holds.found
          ∙ ap (λ (h : ℕ). journal_as (patched_by k holds.gated) (n - length holds.gated) h) size;
    })

-- What was found is refused as a journal, or is so too with so many bytes more.
abbrev Grows : {C : Type 0} → ℕ → Result (Held C) Why → Result (Held C) Why → Type 0
Grows {C} n found longer = (◌≡◌ {A = Result (Held C) Why} found (Err why.Journal)) ⊎ (longer ≡ with_more n found)

journal_grows : {C : Type 0} (f : Format C) (is_f : IsFormat f) (b : Body C) (y : ℕ) (ys more : List ℕ) (o : Option (Journal C))
    → read_journal (change b.owner.nodes (entry_in b.version f)) b.kept (y ∷ ys) ≡ o → Grows (length more) (of_body f (Some b) (y ∷ ys)) (of_body f (Some b) (y ∷ (ys ++ more)))
journal_grows f is_f b y ys more None is = inl (ap (λ o. with_journal b.version b.owner o) is)
journal_grows f is_f b y ys more (Some j) is =
    let records = change b.owner.nodes (entry_in b.version f) in
    let longer = gate_more records (change_is_format b.owner.nodes (entry_in b.version f) (entry_in_is_format b.version f is_f)) MAX_RECORDS b.kept (y ∷ ys) more j is in
    inr (ap (λ o. with_journal b.version b.owner o) longer ∙ ap (λ o. with_more (length more) (with_journal b.version b.owner o)) (sym is))

body_grows : {C : Type 0} (f : Format C) (is_f : IsFormat f) (o : Option (Body C)) (y : ℕ) (ys more : List ℕ) → Grows (length more) (of_body f o (y ∷ ys)) (of_body f o (y ∷ (ys ++ more)))
body_grows f is_f None y ys more = inr refl
body_grows f is_f (Some b) y ys more = journal_grows f is_f b y ys more (read_journal (change b.owner.nodes (entry_in b.version f)) b.kept (y ∷ ys)) refl

differs_alike : {C : Type 0} (n : ℕ) (h : Held C) (o : Option Why) → unless_differs (hides_more n h) o ≡ with_more n (unless_differs h o)
differs_alike n h None = refl
differs_alike n h (Some w) = refl

-- the same of the stack that a slot is of, which bytes more do not change
abbrev Stays : Result ℕ Why → Result ℕ Why → Type 0
Stays found longer = (◌≡◌ {A = Result ℕ Why} found (Err why.Journal)) ⊎ (longer ≡ found)

byte_alike : {C : Type 0} (s : StackId) (n : ℕ) (r : Result (Held C) Why) → byte_where s (with_more n r) ≡ byte_where s r
byte_alike s n (Ok h) = refl
byte_alike s n (Err w) = refl

byte_stays : {C : Type 0} (s : StackId) (n : ℕ) (r r' : Result (Held C) Why) → Grows n r r' → Stays (byte_where s r) (byte_where s r')
byte_stays s n r r' (inl is) = inl (ap (λ r. byte_where s r) is)
byte_stays s n r r' (inr is) = inr (ap (λ r. byte_where s r) is ∙ byte_alike s n r)

same_next : (a a' b b' : Result ℕ Why) → a' ≡ a → Stays b b' → Stays (or_next a b) (or_next a' b')
same_next (Ok k) a' b b' e next = inr (ap (λ a. or_next a b') e)
same_next (Err why.Body) a' b b' e (inl is) = inl is
same_next (Err why.Body) a' b b' e (inr is) = inr (ap (λ a. or_next a b') e ∙ is)
same_next (Err why.Slot) a' b b' e next = inr (ap (λ a. or_next a b') e)
same_next (Err why.Journal) a' b b' e next = inr (ap (λ a. or_next a b') e)
same_next (Err (why.Stack x y)) a' b b' e next = inr (ap (λ a. or_next a b') e)
same_next (Err (why.Node x y)) a' b b' e next = inr (ap (λ a. or_next a b') e)
same_next (Err (why.Cluster x y)) a' b b' e next = inr (ap (λ a. or_next a b') e)
same_next (Err (why.Name x y)) a' b b' e next = inr (ap (λ a. or_next a b') e)

next_stays : (a a' b b' : Result ℕ Why) → Stays a a' → Stays b b' → Stays (or_next a b) (or_next a' b')
next_stays a a' b b' (inl is) next = inl (ap (λ a. or_next a b) is)
next_stays a a' b b' (inr is) next = same_next a a' b b' is next

other_grows : {C : Type 0} (n b : ℕ) (any : Result ℕ Why) → ◌≡◌ {A = Result (Held C) Why} (of_other b any) (with_more n (of_other b any))
other_grows n b (Ok k) = refl
other_grows n b (Err w) = refl

module _ {C : Type 0} (s : StackId) (who : Who) (n : ℕ) where
  -- for a node that asks
  own_grows : (r r' : Result (Held C) Why) (q q' : Result ℕ Why) → r' ≡ with_more n r → Stays q q' → Grows n (of_own s who r q) (of_own s who r' q')
  own_grows (Ok h) r' q q' e any = inr (ap (λ r. of_own s who r q') e ∙ differs_alike n h (difference who h.owner))
  own_grows (Err why.Body) r' q q' e (inl is) = inl (ap (λ q. let found : Result (Held C) Why = of_other (stack_byte s) q in found) is)
  own_grows (Err why.Body) r' q q' e (inr is) =
      inr (ap (λ r. of_own s who r q') e ∙ ap (λ q. let found : Result (Held C) Why = of_other (stack_byte s) q in found) is ∙ other_grows n (stack_byte s) q)
  own_grows (Err why.Slot) r' q q' e any = inr (ap (λ r. of_own s who r q') e)
  own_grows (Err why.Journal) r' q q' e any = inr (ap (λ r. of_own s who r q') e)
  own_grows (Err (why.Stack a b)) r' q q' e any = inr (ap (λ r. of_own s who r q') e)
  own_grows (Err (why.Node a b)) r' q q' e any = inr (ap (λ r. of_own s who r q') e)
  own_grows (Err (why.Cluster a b)) r' q q' e any = inr (ap (λ r. of_own s who r q') e)
  own_grows (Err (why.Name a b)) r' q q' e any = inr (ap (λ r. of_own s who r q') e)

  both_grow : (r r' : Result (Held C) Why) (q q' : Result ℕ Why) → Grows n r r' → Stays q q' → Grows n (of_own s who r q) (of_own s who r' q')
  both_grow r r' q q' (inl is) any = inl (ap (λ r. of_own s who r q) is)
  both_grow r r' q q' (inr is) any = own_grows r r' q q' is any

-- a slot whose body is followed by a gate, and so it is with bytes more
record Gated (bs more : List ℕ) : Type 0 where
  pub bytes : List ℕ
  pub gate : ℕ
  pub rest : List ℕ
  pub parts : sized.read bs ≡ Some (bytes, gate ∷ rest)
  pub longer : sized.read (bs ++ more) ≡ Some (bytes, gate ∷ (rest ++ more))

longer_parts : (bs more bytes rest : List ℕ) → sized.read bs ≡ Some (bytes, rest) → sized.read (bs ++ more) ≡ Some (bytes, rest ++ more)
longer_parts bs more bytes rest e =
    let there = format_front sized sized_is_format bs bytes rest e in
    ap sized.read (ap (λ bs. bs ++ more) there.bytes ∙ append_assoc there.front rest more) ∙ there.again (rest ++ more)

gated_by : (bs more bytes rest : List ℕ) → sized.read bs ≡ Some (bytes, rest) → stands rest ≡ true → Gated bs more
gated_by bs more bytes [] parts is = cc
gated_by bs more bytes (y ∷ ys) parts is = record { bytes = bytes; gate = y; rest = ys; parts = parts; longer = longer_parts bs more bytes (y ∷ ys) parts }

gated_of : (bs more : List ℕ) (o : Option (List ℕ × List ℕ)) → sized.read bs ≡ o → gate_after o ≡ true → Gated bs more
gated_of bs more None parts is = cc
gated_of bs more (Some p) parts is = gated_by bs more p.0 p.1 parts is

gated : (bs more : List ℕ) → has_gate bs ≡ true → Gated bs more
gated bs more is = gated_of bs more (sized.read bs) refl is

-- what was found and decided: it is no body, or a gate stands and the journal is not refused
record Decided {C : Type 0} (gate : Bool) (found decided : Result (Held C) Why) : Type 0 where
  pub same : found ≡ decided
  pub by : (found ≡ Err why.Body) ⊎ ((gate ≡ true) × (found ≡ Err why.Journal → ⊥))

by_gate : {C : Type 0} (gate : Bool) (found decided : Result (Held C) Why) → (found ≡ Err why.Journal → ⊥)
    → ◌≡◌ {A = Option (Result (Held C) Why)} (if gate then Some found else None) (Some decided) → Decided gate found decided
by_gate true found decided never e = record { same = cc; by = inr (refl, never) }
by_gate false found decided never e = cc

decided_by : {C : Type 0} (gate : Bool) (found decided : Result (Held C) Why) → if_decided gate found ≡ Some decided → Decided gate found decided
decided_by gate (Ok h) decided e = by_gate gate (Ok h) decided (λ no. cc) e
decided_by gate (Err why.Body) decided e = record { same = cc; by = inl refl }
decided_by gate (Err why.Journal) decided e = cc
decided_by gate (Err why.Slot) decided e = by_gate gate (Err why.Slot) decided (λ no. cc) e
decided_by gate (Err (why.Stack a b)) decided e = by_gate gate (Err (why.Stack a b)) decided (λ no. cc) e
decided_by gate (Err (why.Node a b)) decided e = by_gate gate (Err (why.Node a b)) decided (λ no. cc) e
decided_by gate (Err (why.Cluster a b)) decided e = by_gate gate (Err (why.Cluster a b)) decided (λ no. cc) e
decided_by gate (Err (why.Name a b)) decided e = by_gate gate (Err (why.Name a b)) decided (λ no. cc) e

decides_more : {C : Type 0} (n : ℕ) (found : Result (Held C) Why) → (found ≡ Err why.Journal → ⊥) → if_decided true (with_more n found) ≡ Some (with_more n found)
decides_more n (Ok h) never = refl
decides_more n (Err why.Body) never = refl
decides_more n (Err why.Journal) never = absurd (never refl)
decides_more n (Err why.Slot) never = refl
decides_more n (Err (why.Stack a b)) never = refl
decides_more n (Err (why.Node a b)) never = refl
decides_more n (Err (why.Cluster a b)) never = refl
decides_more n (Err (why.Name a b)) never = refl

slot_grows : {C : Type 0} (s : StackId) (f : Format C) → IsFormat f → (front more : List ℕ) → Gated front more → Grows (length more) (read_slot s f front) (read_slot s f (front ++ more))
slot_grows s f is_f front more is =
    let own = body_grows f is_f (read_whole (body s f) is.bytes) is.gate is.rest more in
    subst (λ o. Grows (length more) (read_slot s f front) (of_parts s f o)) (sym is.longer)
    (subst (λ o. Grows (length more) (of_parts s f o) (of_parts s f (Some (is.bytes, is.gate ∷ (is.rest ++ more))))) (sym is.parts) own)

among_stays : (ls : List Logged) (front more : List ℕ) (found longer : Result ℕ Why) → AreFormats ls → Gated front more → Stays found longer → Stays (found_among ls front found) (found_among ls (front ++ more) longer)
among_stays [] front more found longer are is stays = stays
among_stays (l ∷ ls) front more found longer are is stays =
    let one = byte_stays l.stack (length more) (read_slot l.stack l.format front) (read_slot l.stack l.format (front ++ more)) (slot_grows l.stack l.format are.0 front more is) in
    among_stays ls front more (or_next found (slot_byte l.stack l.format front)) (or_next longer (slot_byte l.stack l.format (front ++ more))) are.1 is
    (next_stays found longer (slot_byte l.stack l.format front) (slot_byte l.stack l.format (front ++ more)) stays one)

module _ {C : Type 0} (s : StackId) (f : Format C) (is_f : IsFormat f) where
  found_grows : (who : Who) (front more : List ℕ) → Gated front more → Grows (length more) (slot_found s f who front) (slot_found s f who (front ++ more))
  found_grows who front more is =
      both_grow s who (length more) (read_slot s f front) (read_slot s f (front ++ more)) (stack_of_slot front) (stack_of_slot (front ++ more))
      (slot_grows s f is_f front more is)
      (among_stays logged_stacks front more (Err why.Body) (Err why.Body) logged_are_formats is (inr refl))

  -- what is no body stays so
  no_body_yet : (who : Who) (front more : List ℕ) → slot_found s f who front ≡ Err why.Body → slot_found s f who (front ++ more) ≡ Err why.Body
  no_body_yet who front more e =
      let none = body_why s f who front e in
      no_body s f who (front ++ more)
      (record { bytes = none.bytes; rest = none.rest ++ more; parts = longer_parts front more none.bytes none.rest none.parts; own = none.own; logged = none.logged })

  -- what a longer slot is found to be, and decided
  record Decides (who : Who) (front more : List ℕ) (found : Result (Held C) Why) : Type 0 where
    pub slot : slot_found s f who (front ++ more) ≡ with_more (length more) found
    pub decides : found_in_front s f who (front ++ more) ≡ Some (with_more (length more) found)

  stays_grown : (who : Who) (front more : List ℕ) (found : Result (Held C) Why) → Gated front more → slot_found s f who front ≡ found → (found ≡ Err why.Journal → ⊥)
      → Grows (length more) (slot_found s f who front) (slot_found s f who (front ++ more)) → Decides who front more found
  stays_grown who front more found is there never (inl refused) = absurd (never (sym there ∙ refused))
  stays_grown who front more found is there never (inr longer) =
      let slot : slot_found s f who (front ++ more) ≡ with_more (length more) found = longer ∙ ap (with_more (length more)) there in
      record {
        slot = slot;
        decides =
            ap (λ o. if_decided (gate_after o) (slot_found s f who (front ++ more))) is.longer
            ∙ ap (if_decided true) slot ∙ decides_more (length more) found never;
      }

  stays_no_body : (who : Who) (front more : List ℕ) → slot_found s f who front ≡ Err why.Body → Decides who front more (Err why.Body)
  stays_no_body who front more none =
      let slot = no_body_yet who front more none in
      record { slot = slot; decides = ap (if_decided (has_gate (front ++ more))) slot }

  stays_by : (who : Who) (front more : List ℕ) (found : Result (Held C) Why) → slot_found s f who front ≡ found
      → (slot_found s f who front ≡ Err why.Body) ⊎ ((has_gate front ≡ true) × (slot_found s f who front ≡ Err why.Journal → ⊥)) → Decides who front more found
  stays_by who front more found there (inl none) = subst (λ found. Decides who front more found) (sym none ∙ there) (stays_no_body who front more none)
  stays_by who front more found there (inr is) =
      stays_grown who front more found (gated front more is.0) there (λ no. is.1 (there ∙ no)) (found_grows who front more (gated front more is.0))

  stays : (who : Who) (front more : List ℕ) (found : Result (Held C) Why) → found_in_front s f who front ≡ Some found → Decides who front more found
  stays who front more found e =
      let is = decided_by (has_gate front) (slot_found s f who front) found e in
      stays_by who front more found is.same is.by

  pub fronts_decide : FrontsDecide s f
  fronts_decide who front more found e = (stays who front more found e).slot

  pub longer_fronts_decide : LongerFrontsDecide s f
  longer_fronts_decide who front more found e = (stays who front more found e).decides

module _ {C : Type 0} (s : StackId) (f : Format C) where
  no_room : (b : Body C) (h : Held C) (spare : ℕ) → of_body f (Some b) [] ≡ Ok h → h.journal.left ≡ suc spare → ⊥
  no_room b h spare e room =
      let same : held_as b.version b.owner (journal_as b.kept 0 0) ≡ h = cc in
      let no : ◌≡◌ {A = ℕ} 0 (suc spare) = ap (λ (h : Held C). h.journal.left) same ∙ room in cc

  gate_by_body : (o : Option (Body C)) (rest : List ℕ) (h : Held C) (spare : ℕ) → of_body f o rest ≡ Ok h → h.journal.left ≡ suc spare → stands rest ≡ true
  gate_by_body None rest h spare e room = cc
  gate_by_body (Some b) [] h spare e room = absurd (no_room b h spare e room)
  gate_by_body (Some b) (y ∷ ys) h spare e room = refl

  gate_by_parts : (o : Option (List ℕ × List ℕ)) (h : Held C) (spare : ℕ) → of_parts s f o ≡ Ok h → h.journal.left ≡ suc spare → gate_after o ≡ true
  gate_by_parts None h spare e room = cc
  gate_by_parts (Some p) h spare e room = gate_by_body (read_whole (body s f) p.0) p.1 h spare e room

module _ {C : Type 0} (s : StackId) (f : Format C) where
  pub last_gate_decides : LastGateDecides s f
  last_gate_decides who front h spare e room =
      let gate = gate_by_parts s f (sized.read front) h spare (agrees s f who front h e).read room in
      ap (if_decided (has_gate front)) e ∙ ap (λ b. let found : Option (Result (Held C) Why) = Some (Ok h) in if b then found else None) gate
