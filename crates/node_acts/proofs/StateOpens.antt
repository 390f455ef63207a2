-- An opening, by what it finds.
use Rattle.std.proofs.Common.{◌≡◌, ℕ, zero, suc, ◌+◌, ◌-◌, ◌<◌, ◌≤◌, true, List, [], ◌∷◌, ◌++◌, length, take, Result, Ok, Err, refl, sym, ap, subst, ◌∙◌, ◌⊎◌, inl, inr, arith, length-append}
use Rattle.std.proofs.lemmas.Bool.{cases_lt}
use Rattle.std.proofs.lemmas.List.{take_all}
use Rattle.disk.specs.Acts.{Act}
use Rattle.disk.specs.Areas.{area_at, each}
use Rattle.disk.specs.Disk.{Disk, Image, contents, synced, after, may_become, may_leave}
use Rattle.disk.specs.Between.{Crash, leaves_by}
use Rattle.disk.specs.DiskLaws.{IsCutShort}
use Rattle.disk.proofs.Between.{IsCrash, by_model}
use Rattle.disk.proofs.CutShort.{faults_add_nothing_by}
use Rattle.disk.proofs.Disks.{settled_stays}
use Rattle.raft_types.specs.Messages.{KeptView}
use Rattle.slots.specs.Opening.{Held, named, opening}
use Rattle.slots.specs.Saving.{sync_acts, fresh_acts, open_acts}
use Rattle.slots.specs.SavingLaws.{Rests}
use Rattle.slots.proofs.Images.{held_from, contents_at}
use Rattle.slots.proofs.Opens.{calm, opens, moves}
use Rattle.vst_base.specs.declared.stack.StackId.{StackId}
use Rattle.wire_fields.specs.Formats.{Format, IsFormat}
use Rattle.node_body.specs.Bodies.{body, body_of}
use Rattle.node_body.specs.GateLaws.{gate_stands}
use Rattle.node_body.specs.Slots.{base_of, slot_found, state_of}
use Rattle.node_body.specs.declared.commands.TheConstants.{MAX_COMMAND}
use Rattle.node_body.specs.declared.slot.Held as slot
use Rattle.node_body.specs.declared.version.Version.{Version}
use Rattle.node_body.specs.declared.version.Version.TheVariants.{One, Two}
use Rattle.node_body.specs.declared.who.Who.{Who}
use Rattle.node_body.specs.declared.why.Why.{Why}
use Rattle.node_acts.specs.Stores.{store_of, Holds, found_of, found_by}
use Rattle.node_acts.specs.StateActs.{first_kept, store_at_base, store_found, renewing_acts, acts_on_slot, acts_by_selector, opening_acts}
use Rattle.node_acts.specs.StateLaws.{IsAsFound, OpeningFits}
use Rattle.node_acts.proofs.Helds.{IsSlot, holds_slot}
use Rattle.node_acts.proofs.Resting.{as_bytes, bytes_rest}
use Rattle.node_acts.proofs.StateSaves.{base_found, base_is, holds_base}

-- after three syncs each area is as it reads
pub calm_at : (disk : Disk) (n : ℕ) → (area_at (each synced disk) n).bytes ≡ (area_at disk n).bytes
calm_at disk zero = refl
calm_at disk (suc zero) = refl
calm_at disk (suc (suc n)) = refl

-- three syncs, and no more
synced_front : (n : ℕ) → 3 ≤ n → take n sync_acts ≡ sync_acts
synced_front zero l = absurd (omega (arith, l))
synced_front (suc zero) l = absurd (omega (arith, l))
synced_front (suc (suc zero)) l = absurd (omega (arith, l))
synced_front (suc (suc (suc zero))) l = refl
synced_front (suc (suc (suc (suc n)))) l = refl

-- after three acts of those that were cut short, three of them at least were done
three_done : (n l : ℕ) → (n ≡ l) ⊎ (suc n ≡ l) → 3 < l → 3 ≤ n
three_done n l (inl e) h = omega (arith, e, h)
three_done n l (inr e) h = omega (arith, e, h)

pub syncs_leave_by : (crash : Crash) → IsCrash crash → (disk : Disk) (did : List Act) (image : Image) → IsCutShort sync_acts did → leaves_by crash disk did image ≡ true →
    take 3 did ≡ sync_acts → image ≡ contents disk
syncs_leave_by crash is_crash disk did image short_of m third = by (cases_lt 3 (length did))
  where
    by : (3 < length did) ⊎ (length did ≤ 3) → image ≡ contents disk
    by (inl l) =
        let w = faults_add_nothing_by crash disk sync_acts did image short_of m in
        settled_stays crash is_crash (each synced disk) image (calm disk)
        (subst (λ acts. leaves_by crash disk acts image ≡ true) (synced_front w.0 (three_done w.0 (length did) w.1 l)) w.2)
    by (inr l) =
        let all : did ≡ sync_acts = sym (take_all 3 did l) ∙ third in
        settled_stays crash is_crash (each synced disk) image (calm disk) (subst (λ acts. leaves_by crash disk acts image ≡ true) all m)

pub syncs_leave : (disk : Disk) (did : List Act) (image : Image) → IsCutShort sync_acts did → may_leave disk did image ≡ true → take 3 did ≡ sync_acts → image ≡ contents disk
syncs_leave = syncs_leave_by may_become by_model

module _ {C : Type 0} (s : StackId) (f : Format C) (is_f : IsFormat f) (short : (c : C) → f.Fits c → length (f.spell c) ≤ MAX_COMMAND) where
  abbrev first : KeptView C
  first = first_kept

  -- area 2 was empty
  pub fresh_is_held : (who : Who) (disk : Disk) → disk.selector.bytes ≡ [] → (body s f).Fits (body_of who first) →
      Holds s f (store_at_base s f who 0 first) first (after disk (opening_acts s f who (contents disk)))
  fresh_is_held who disk none fits =
      let base = base_of s f who first in
      let done : Rests as_bytes base 0 (after disk (open_acts disk.selector.bytes base)) = (opens may_become by_model as_bytes disk base base (λ e. refl)).fresh_done none in
      let fresh : Rests as_bytes base 0 (after disk (sync_acts ++ fresh_acts base)) = subst (λ bytes. Rests as_bytes base 0 (after disk (open_acts bytes base))) none done in
      let same : sync_acts ++ fresh_acts base ≡ opening_acts s f who (contents disk) = ap (λ bytes. sync_acts ++ acts_by_selector s f who (contents disk) bytes) (sym none) in
      holds_slot s f (store_at_base s f who 0 first) first base (after disk (opening_acts s f who (contents disk)))
      (subst (λ acts. Rests as_bytes base 0 (after disk acts)) same fresh) (base_found s f is_f short who 0 first fits)
      (record { term = refl; voted = refl; terms = refl })

  -- a slot was found
  acts_found : (who : Who) (disk : Disk) (selector : ℕ) (found : slot.Held C) → disk.selector.bytes ≡ selector ∷ [] → slot_found s f who (area_at disk (named selector)).bytes ≡ Ok found →
      opening_acts s f who (contents disk) ≡ sync_acts ++ renewing_acts s f who selector found.version found.journal.kept
  acts_found who disk selector found is e =
      ap (λ bytes. sync_acts ++ acts_by_selector s f who (contents disk) bytes) is
      ∙ ap (λ r. sync_acts ++ acts_on_slot s f who selector r) (ap (slot_found s f who) (contents_at disk (named selector)) ∙ e)

  -- where its last gate stands
  gate_there : (who : Who) (bytes : List ℕ) (found : slot.Held C) → slot_found s f who bytes ≡ Ok found → (left : ℕ) → found.journal.left ≡ left →
      (left ≡ 0) ⊎ (length bytes ≡ suc ((length bytes - suc found.journal.hidden) + found.journal.hidden))
  gate_there who bytes found e zero is = inl refl
  gate_there who bytes found e (suc spare) is =
      let stands = gate_stands s f is_f who bytes found spare e is in
      let size = ap length stands.bytes in
      let both = length-append stands.front (stands.gate ∷ stands.more) in
      inr (omega (arith, size, both, stands.size))

  slot_is : (who : Who) (bytes : List ℕ) (selector : ℕ) (found : slot.Held C) → slot_found s f who bytes ≡ Ok found → found.version ≡ Two →
      IsSlot s f (store_of who selector (length bytes - suc found.journal.hidden) found.journal.left found.journal.kept) found.journal.kept bytes
  slot_is who bytes selector found e two = record {
    slot = found;
    found = e;
    version = two;
    kept_is = refl;
    left = refl;
    gate = gate_there who bytes found e found.journal.left refl;
  }

  held_by_version : (who : Who) (disk : Disk) (selector : ℕ) (found : slot.Held C) (v : Version) → found.version ≡ v → disk.selector.bytes ≡ selector ∷ [] →
      slot_found s f who (area_at disk (named selector)).bytes ≡ Ok found → (found.version ≡ One → (body s f).Fits (body_of who found.journal.kept)) →
      Holds s f (store_found s f who selector (length (area_at disk (named selector)).bytes) v found) found.journal.kept
      (after disk (sync_acts ++ renewing_acts s f who selector v found.journal.kept))
  held_by_version who disk selector found One version is e fits =
      holds_base s f is_f short who selector found.journal.kept (each synced disk) (calm disk) is (fits version)
  held_by_version who disk selector found Two version is e fits =
      let bytes = (area_at disk (named selector)).bytes in
      let rests : Rests as_bytes bytes selector (each synced disk) =
      subst (λ xs. Rests as_bytes xs selector (each synced disk)) (calm_at disk (named selector)) (bytes_rest (each synced disk) selector (calm disk) is) in
      holds_slot s f (store_found s f who selector (length bytes) Two found) found.journal.kept bytes (each synced disk) rests (slot_is who bytes selector found e version)
      (record { term = refl; voted = refl; terms = refl })

  pub found_is_held : (who : Who) (disk : Disk) (selector : ℕ) (found : slot.Held C) → disk.selector.bytes ≡ selector ∷ [] →
      slot_found s f who (area_at disk (named selector)).bytes ≡ Ok found → (found.version ≡ One → (body s f).Fits (body_of who found.journal.kept)) →
      Holds s f (store_found s f who selector (length (area_at disk (named selector)).bytes) found.version found) found.journal.kept
      (after disk (opening_acts s f who (contents disk)))
  found_is_held who disk selector found is e fits =
      subst (λ acts. Holds s f (store_found s f who selector (length (area_at disk (named selector)).bytes) found.version found) found.journal.kept (after disk acts))
      (sym (acts_found who disk selector found is e)) (held_by_version who disk selector found found.version refl is e fits)

  -- what a crash leaves, at each moment from the third sync on

  pub opens_found : (who : Who) (disk : Disk) (selector : ℕ) (found : slot.Held C) → disk.selector.bytes ≡ selector ∷ [] → slot_found s f who (area_at disk (named selector)).bytes ≡ Ok found →
      opening (found_by s f who) (contents disk) ≡ Held found.journal.kept selector
  opens_found who disk selector found is e =
      held_from (found_by s f who) (contents disk) found.journal.kept selector is
      (ap (found_by s f who) (contents_at disk (named selector)) ∙ ap (λ r. found_of (state_of r)) e)

  module _ (crash : Crash) (is_crash : IsCrash crash) where
    -- nothing is written
    as_read : (who : Who) (disk : Disk) (n : ℕ) (image : Image) (selector : ℕ) (rest : List ℕ) → disk.selector.bytes ≡ selector ∷ rest → 3 ≤ n → leaves_by crash disk (take n sync_acts) image ≡ true →
        IsAsFound (found_by s f who) first disk image
    as_read who disk n image selector rest is l m =
        inl
        ((opens crash is_crash as_bytes disk [] [] (λ e. refl)).found_stays (λ e. cc (sym is ∙ e)) n image l
        (subst (λ bytes. leaves_by crash disk (take n (open_acts bytes [])) image ≡ true) (sym is) m))

    moment_on_slot : (who : Who) (disk : Disk) (n : ℕ) (image : Image) (selector : ℕ) (found : slot.Held C) (v : Version) → found.version ≡ v → OpeningFits s f who disk →
        disk.selector.bytes ≡ selector ∷ [] → slot_found s f who (area_at disk (named selector)).bytes ≡ Ok found → 3 ≤ n →
        leaves_by crash disk (take n (sync_acts ++ renewing_acts s f who selector v found.journal.kept)) image ≡ true → IsAsFound (found_by s f who) first disk image
    moment_on_slot who disk n image selector found One version fits is e l m =
        let opens_so = opens_found who disk selector found is e in
        inr
        (inl (
          found.journal.kept,
          selector,
          opens_so,
          (moves crash is_crash (found_by s f who) disk selector found.journal.kept (base_of s f who found.journal.kept) opens_so
              (base_is s f is_f short who found.journal.kept (fits.renewed selector found is e version))).stays n image l m,
        ))
    moment_on_slot who disk n image selector found Two version fits is e l m = as_read who disk n image selector [] is l m

    moment_by_slot : (who : Who) (disk : Disk) (n : ℕ) (image : Image) (selector : ℕ) (r : Result (slot.Held C) Why) → OpeningFits s f who disk →
        disk.selector.bytes ≡ selector ∷ [] → slot_found s f who (area_at disk (named selector)).bytes ≡ r → 3 ≤ n →
        leaves_by crash disk (take n (sync_acts ++ acts_on_slot s f who selector r)) image ≡ true → IsAsFound (found_by s f who) first disk image
    moment_by_slot who disk n image selector (Ok found) fits is e l m = moment_on_slot who disk n image selector found found.version refl fits is e l m
    moment_by_slot who disk n image selector (Err why) fits is e l m = as_read who disk n image selector [] is l m

    moment : (who : Who) (disk : Disk) (n : ℕ) (image : Image) (bytes : List ℕ) → OpeningFits s f who disk → disk.selector.bytes ≡ bytes → 3 ≤ n →
        leaves_by crash disk (take n (sync_acts ++ acts_by_selector s f who (contents disk) bytes)) image ≡ true → IsAsFound (found_by s f who) first disk image
    moment who disk n image [] fits is l m =
        let base = base_of s f who first in
        inr
        (inr (
          is,
          (opens crash is_crash (found_by s f who) disk first base (λ e. base_is s f is_f short who first (fits.first e))).fresh is n image l
              (subst (λ xs. leaves_by crash disk (take n (open_acts xs base)) image ≡ true) (sym is) m),
        ))
    moment who disk n image (selector ∷ []) fits is l m =
        moment_by_slot who disk n image selector (slot_found s f who (area_at disk (named selector)).bytes) fits is refl l
        (subst (λ xs. leaves_by crash disk (take n (sync_acts ++ acts_on_slot s f who selector (slot_found s f who xs))) image ≡ true) (contents_at disk (named selector)) m)
    moment who disk n image (a ∷ b ∷ rest) fits is l m = as_read who disk n image a (b ∷ rest) is l m

    pub opening_leaves_by : (who : Who) (disk : Disk) (did : List Act) (image : Image) → IsCutShort (opening_acts s f who (contents disk)) did → OpeningFits s f who disk →
        leaves_by crash disk did image ≡ true → take 3 did ≡ sync_acts → IsAsFound (found_by s f who) first disk image
    opening_leaves_by who disk did image short_of fits m third = by (cases_lt 3 (length did))
      where
        by : (3 < length did) ⊎ (length did ≤ 3) → IsAsFound (found_by s f who) first disk image
        by (inl l) =
            let w = faults_add_nothing_by crash disk (opening_acts s f who (contents disk)) did image short_of m in
            moment who disk w.0 image disk.selector.bytes fits refl (three_done w.0 (length did) w.1 l) w.2
        by (inr l) =
            let all : did ≡ sync_acts = sym (take_all 3 did l) ∙ third in
            moment who disk 3 image disk.selector.bytes fits refl (omega arith) (subst (λ acts. leaves_by crash disk acts image ≡ true) all m)

  pub opening_leaves : (who : Who) (disk : Disk) (did : List Act) (image : Image) → IsCutShort (opening_acts s f who (contents disk)) did → OpeningFits s f who disk →
      may_leave disk did image ≡ true → take 3 did ≡ sync_acts → IsAsFound (found_by s f who) first disk image
  opening_leaves = opening_leaves_by may_become by_model
