-- A record is written after the last gate, and then the gate is opened.
use Rattle.std.proofs.Common.{◌≡◌, ℕ, suc, ◌+◌, ◌-◌, ◌<◌, List, [], ◌∷◌, ◌++◌, length, take, drop, Ok, refl, sym, ap, subst, ◌∙◌, ◌⊎◌, inl, inr, arith, append_assoc, length-append, take-append-drop}
use Rattle.std.proofs.lemmas.Bool.{le-leb}
use Rattle.disk.specs.Acts.{Act}
use Rattle.disk.specs.Areas.{area_at}
use Rattle.disk.specs.Disk.{Disk, overwritten, after}
use Rattle.disk.specs.Between.{Crash}
use Rattle.disk.proofs.Between.{IsCrash}
use Rattle.raft_types.specs.Messages.{KeptView}
use Rattle.slots.specs.Opening.{Is, named}
use Rattle.slots.specs.SavingLaws.{Rests}
use Rattle.slots.specs.PatchLaws.{patch_acts, TornIsEither}
use Rattle.slots.specs.TurnLaws.{KeepsBy}
use Rattle.slots.proofs.Elsewhere.{after_append}
use Rattle.slots.proofs.Patching.{record_is_harmless, gate_is_either, patch_is_such}
use Rattle.slots.proofs.Turning.{keeps_both}
use Rattle.vst_base.specs.declared.stack.StackId.{StackId}
use Rattle.wire_fields.specs.Formats.{Format, IsFormat}
use Rattle.wire_messages.specs.EntryBytes.{entry}
use Rattle.node_body.specs.Bodies.{entry_in}
use Rattle.node_body.specs.FoundLaws.{Follows, harmless, either, open_adds}
use Rattle.node_body.specs.GateLaws.{GateStands, gate_stands}
use Rattle.node_body.specs.Journals.{change, patched, spell_change}
use Rattle.node_body.specs.SlotLaws.{change_in, held_with}
use Rattle.node_body.specs.Slots.{slot_found, state_of}
use Rattle.node_body.specs.VoteLaws.{owner_nodes}
use Rattle.node_body.specs.declared.records.Record.{Record}
use Rattle.node_body.specs.declared.slot.Held.{Held}
use Rattle.node_acts.specs.Stores.{StoreView, store_of, Holds, Continues, found_of, found_by, stays}
use Rattle.node_acts.specs.StateActs.{record_to, record_bytes, append_acts}
use Rattle.node_acts.proofs.Helds.{IsSlot, holds_rests, holds_slot, kept_same, stays_few}
use Rattle.node_acts.proofs.Overs.{over_front, over_all, take_front, take_before, drop_front}
use Rattle.node_acts.proofs.Resting.{as_bytes, bytes_rest, resting_bytes, after_patch}

module _ {C : Type 0} (s : StackId) (f : Format C) (is_f : IsFormat f) (store : StoreView) (held kept : KeptView C) (disk : Disk) (spare : ℕ)
    (h : Holds s f store held disk) (room : store.left ≡ suc spare) (continues : Continues store held kept) (fits : (change store.who.nodes (entry f)).Fits (record_to store kept)) where
  abbrev bytes : List ℕ
  bytes = (area_at disk (named store.selector)).bytes

  abbrev stands : GateStands s f store.who bytes h.slot spare
  stands = gate_stands s f is_f store.who bytes h.slot spare h.found (h.left ∙ room)

  abbrev front : List ℕ
  front = stands.front

  -- the slot up to its last gate
  abbrev upto : Held C
  upto = held_with h.slot h.slot.journal.kept h.slot.journal.left 0

  size : length bytes ≡ length front + suc (length stands.more)
  size = ap length stands.bytes ∙ length-append front (stands.gate ∷ stands.more)

  place : store.gate ≡ length front
  place = at h.gate
    where
      at : (store.left ≡ 0) ⊎ (length bytes ≡ suc (store.gate + h.slot.journal.hidden)) → store.gate ≡ length front
      at (inl none) = let no : ⊥ = omega (arith, none, room) in absurd no
      at (inr long) = omega (arith, long, size, stands.size)

  abbrev added : Record C
  added = record_to store kept

  abbrev spelled : List ℕ
  spelled = spell_change (entry f) added

  abbrev rest : List ℕ
  rest = drop (length (record_bytes f store kept)) stands.more

  -- what stands after the gate then
  abbrev after_gate : List ℕ
  after_gate = record_bytes f store kept ++ rest

  in_version : (change_in f upto).spell added ≡ spelled
  in_version = ap (λ v. spell_change (entry_in v f) added) h.version

  as_record : after_gate ≡ (change_in f upto).spell added ++ 0 ∷ rest
  as_record = append_assoc spelled (0 ∷ []) rest ∙ ap (λ xs. xs ++ 0 ∷ rest) (sym in_version)

  follows : Follows f upto added
  follows =
      let nodes = owner_nodes s f store.who bytes h.slot h.found in
      let few = stays_few store held kept h.knows in
      let log = ap (λ (k : KeptView C). length k.log) h.kept_is in
      record {
        fits = subst (λ v. (change h.slot.owner.nodes (entry_in v f)).Fits added) (sym h.version)
            (subst (λ n. (change n (entry f)).Fits added) (sym nodes) fits);
        keeps = le-leb (stays store kept) (length h.slot.journal.kept.log) (omega (arith, few, log));
      }

  -- the bytes up to the gate alone say that the state is held
  stays_held : (torn : List ℕ) → take (suc (length front)) torn ≡ front ++ stands.gate ∷ [] → found_by s f store.who torn ≡ Is held
  stays_held torn e =
      ap found_of (harmless s f is_f store.who front stands.gate upto spare stands.at (suc (length front)) torn e) ∙ ap Is h.kept_is

  -- the record is written
  recorded : overwritten bytes (suc store.gate) (record_bytes f store kept) ≡ front ++ stands.gate ∷ after_gate
  recorded =
      let parts : bytes ≡ (front ++ stands.gate ∷ []) ++ stands.more = stands.bytes ∙ sym (append_assoc front (stands.gate ∷ []) stands.more) in
      let long = length-append front (stands.gate ∷ []) in
      let at : suc store.gate ≡ length (front ++ stands.gate ∷ []) = omega (arith, long, place) in
      (λ i. overwritten (parts i) (at i) (record_bytes f store kept))
      ∙ (over_front (front ++ stands.gate ∷ []) (record_bytes f store kept) stands.more
      ∙ (ap (λ xs. (front ++ stands.gate ∷ []) ++ xs) (over_all (record_bytes f store kept) stands.more)
      ∙ append_assoc front (stands.gate ∷ []) after_gate))

  torn_record : (crash : Crash) → IsCrash crash → TornIsEither crash (found_by s f store.who) held held bytes (suc store.gate) (record_bytes f store kept)
  torn_record crash is_crash =
      record_is_harmless crash is_crash (found_by s f store.who) held bytes (suc store.gate) (record_bytes f store kept) (suc (length front)) (omega (arith, place)) (omega (arith, size))
      (λ other e. stays_held other (e ∙ (ap (λ xs. take (suc (length front)) xs) stands.bytes ∙ take_front front stands.gate stands.more)))

  abbrev first : List Act
  first = patch_acts (named store.selector) (suc store.gate) (record_bytes f store kept)

  abbrev second : List Act
  second = patch_acts (named store.selector) store.gate (1 ∷ [])

  abbrev mid : Disk
  mid = after disk first

  keeps_record : (crash : Crash) → IsCrash crash → KeepsBy crash (found_by s f store.who) held held store.selector first disk
  keeps_record crash is_crash =
      patch_is_such crash is_crash (found_by s f store.who) disk store.selector held held (suc store.gate) (record_bytes f store kept) (holds_rests s f store held disk h)
      (torn_record crash is_crash)
      (stays_held (overwritten bytes (suc store.gate) (record_bytes f store kept)) (ap (λ xs. take (suc (length front)) xs) recorded ∙ take_front front stands.gate after_gate))

  mid_rests : Rests as_bytes (front ++ stands.gate ∷ after_gate) store.selector mid
  mid_rests =
      subst (λ xs. Rests as_bytes xs store.selector mid) recorded
      (after_patch disk store.selector bytes (suc store.gate) (record_bytes f store kept) (bytes_rest disk store.selector h.pending h.selector))

  mid_bytes : (area_at mid (named store.selector)).bytes ≡ front ++ stands.gate ∷ after_gate
  mid_bytes = resting_bytes (front ++ stands.gate ∷ after_gate) store.selector mid mid_rests

  -- the state that the record makes is the one that is saved
  patched_is : patched added h.slot.journal.kept ≡ kept
  patched_is =
      kept_same (patched added h.slot.journal.kept) kept refl refl
      (ap (λ (k : KeptView C). take (stays store kept) k.log ++ drop (stays store kept) kept.log) h.kept_is
      ∙ (ap (λ xs. xs ++ drop (stays store kept) kept.log) continues ∙ take-append-drop (stays store kept) kept.log))

  -- whatever the gate's byte is
  at_gate : (v : ℕ) → (found_by s f store.who (front ++ v ∷ after_gate) ≡ Is held) ⊎ (found_by s f store.who (front ++ v ∷ after_gate) ≡ Is kept)
  at_gate v = by (either s f is_f store.who front stands.gate upto spare stands.at added follows 0 rest refl v)
    where
      same : front ++ v ∷ after_gate ≡ front ++ v ∷ ((change_in f upto).spell added ++ 0 ∷ rest)
      same = ap (λ xs. front ++ v ∷ xs) as_record

      by : (state_of (slot_found s f store.who (front ++ v ∷ ((change_in f upto).spell added ++ 0 ∷ rest))) ≡ Ok h.slot.journal.kept)
          ⊎ (state_of (slot_found s f store.who (front ++ v ∷ ((change_in f upto).spell added ++ 0 ∷ rest))) ≡ Ok (patched added h.slot.journal.kept))
          → (found_by s f store.who (front ++ v ∷ after_gate) ≡ Is held) ⊎ (found_by s f store.who (front ++ v ∷ after_gate) ≡ Is kept)
      by (inl e) = inl (ap (found_by s f store.who) same ∙ (ap found_of e ∙ ap Is h.kept_is))
      by (inr e) = inr (ap (found_by s f store.who) same ∙ (ap found_of e ∙ ap Is patched_is))

  torn_gate : (crash : Crash) → IsCrash crash → TornIsEither crash (found_by s f store.who) held kept (area_at mid (named store.selector)).bytes store.gate (1 ∷ [])
  torn_gate crash is_crash =
      subst (λ xs. TornIsEither crash (found_by s f store.who) held kept xs store.gate (1 ∷ [])) (sym mid_bytes)
      (subst (λ n. TornIsEither crash (found_by s f store.who) held kept (front ++ stands.gate ∷ after_gate) n (1 ∷ [])) (sym place)
      (gate_is_either crash is_crash (found_by s f store.who) held kept (front ++ stands.gate ∷ after_gate) (length front) 1 there
      (λ v. subst (λ xs. (found_by s f store.who xs ≡ Is held) ⊎ (found_by s f store.who xs ≡ Is kept)) (sym (around v)) (at_gate v))))
    where
      there : length front < length (front ++ stands.gate ∷ after_gate)
      there = let long = length-append front (stands.gate ∷ after_gate) in omega (arith, long)

      around : (v : ℕ) → take (length front) (front ++ stands.gate ∷ after_gate) ++ v ∷ drop (suc (length front)) (front ++ stands.gate ∷ after_gate) ≡ front ++ v ∷ after_gate
      around v = λ i. take_before front (stands.gate ∷ after_gate) i ++ v ∷ drop_front front stands.gate after_gate i

  -- the gate is open
  opened : overwritten (front ++ stands.gate ∷ after_gate) store.gate (1 ∷ []) ≡ front ++ 1 ∷ after_gate
  opened = ap (λ n. overwritten (front ++ stands.gate ∷ after_gate) n (1 ∷ [])) place ∙ over_front front (1 ∷ []) (stands.gate ∷ after_gate)

  abbrev slot_then : Held C
  slot_then = held_with upto (patched added h.slot.journal.kept) spare (length rest)

  found_then : slot_found s f store.who (front ++ 1 ∷ after_gate) ≡ Ok slot_then
  found_then =
      ap (λ xs. slot_found s f store.who (front ++ 1 ∷ xs)) as_record
      ∙ open_adds s f is_f store.who front stands.gate upto spare stands.at added follows 1 0 rest refl refl

  is_then : found_by s f store.who (front ++ 1 ∷ after_gate) ≡ Is kept
  is_then = ap (λ r. found_of (state_of r)) found_then ∙ ap Is patched_is

  keeps_gate : (crash : Crash) → IsCrash crash → KeepsBy crash (found_by s f store.who) held kept store.selector second mid
  keeps_gate crash is_crash =
      patch_is_such crash is_crash (found_by s f store.who) mid store.selector held kept store.gate (1 ∷ []) (keeps_record crash is_crash).done (torn_gate crash is_crash)
      (ap (λ xs. found_by s f store.who (overwritten xs store.gate (1 ∷ []))) mid_bytes ∙ (ap (found_by s f store.who) opened ∙ is_then))

  pub keeps_append : (crash : Crash) → IsCrash crash → KeepsBy crash (found_by s f store.who) held kept store.selector (append_acts (named store.selector) store.gate (record_bytes f store kept)) disk
  keeps_append crash is_crash =
      keeps_both crash is_crash (found_by s f store.who) disk store.selector store.selector held kept first second (keeps_record crash is_crash) (keeps_gate crash is_crash)

  abbrev store_then : StoreView
  store_then = store_of store.who store.selector (store.gate + length (record_bytes f store kept)) (store.left - 1) kept

  slot_is : IsSlot s f store_then kept (front ++ 1 ∷ after_gate)
  slot_is =
      let long = length-append front (1 ∷ after_gate) in
      let both = length-append (record_bytes f store kept) rest in
      record {
        slot = slot_then;
        found = found_then;
        version = h.version;
        kept_is = patched_is;
        left = omega (arith, room);
        gate = inr (omega (arith, long, both, place));
      }

  then_rests : Rests as_bytes (front ++ 1 ∷ after_gate) store.selector (after disk (append_acts (named store.selector) store.gate (record_bytes f store kept)))
  then_rests =
      subst (λ d. Rests as_bytes (front ++ 1 ∷ after_gate) store.selector d) (sym (after_append disk first second))
      (subst (λ xs. Rests as_bytes xs store.selector (after mid second)) opened
      (after_patch mid store.selector (front ++ stands.gate ∷ after_gate) store.gate (1 ∷ []) mid_rests))

  pub holds_append : Holds s f store_then kept (after disk (append_acts (named store.selector) store.gate (record_bytes f store kept)))
  holds_append =
      holds_slot s f store_then kept (front ++ 1 ∷ after_gate) (after disk (append_acts (named store.selector) store.gate (record_bytes f store kept))) then_rests slot_is
      (record { term = refl; voted = refl; terms = refl })
