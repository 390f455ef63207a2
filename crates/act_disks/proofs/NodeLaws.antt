-- The laws of node_acts are what single acts ask of a disk.
use Rattle.std.proofs.Common.{◌≡◌, ℕ, zero, suc, Bool, true, false, List, [], ◌∷◌, length, Option, Some, None, Result, Ok, Err, refl, ap, sym, subst, ◌∙◌, eqb}
use Rattle.std.specs.Prelude.{cond, ◌-◌, ◌+◌, ◌==◌}
use Rattle.std.proofs.lemmas.Bool.{eq-eqb}
use Rattle.disk.specs.Acts.{Act}
use Rattle.disk.specs.Areas.{area_at, each}
use Rattle.disk.specs.Between.{Crash}
use Rattle.disk.specs.Disk.{Disk, Image, after, settled}
use Rattle.node_acts.proofs.Helds.{held_same, length_terms}
use Rattle.node_acts.specs.StateActs.{append_acts, opening_acts, record_bytes, state_acts, store_after, store_at_base, store_found}
use Rattle.node_acts.specs.StateLaws.{FoundIsHeld, HeldRests, SaveKeepsState, StateSaved}
use Rattle.node_acts.specs.Stores.{Holds, Knows, StoreView, common, found_by, found_of, is_held, same_vote, store_of, stays, terms_of}
use Rattle.node_body.specs.Slots.{base_of, slot_found, state_of}
use Rattle.node_body.specs.declared.slot.Held as slot
use Rattle.node_body.specs.declared.version.Version.{Version}
use Rattle.node_body.specs.declared.version.Version.TheVariants.{One, Two}
use Rattle.node_body.specs.declared.who.Who.{Who}
use Rattle.node_body.specs.declared.why.Why.{Why}
use Rattle.raft_types.specs.Messages.{KeptView}
use Rattle.slots.specs.Opening.{Held, by_selector, named, opened}
use Rattle.slots.specs.Saving.{next, save_acts}
use Rattle.slots.specs.SavingLaws.{Rests}
use Rattle.slots.specs.TurnLaws.{KeepsBy}
use Rattle.vst_base.specs.Entries.{EntryView}
use Rattle.vst_base.specs.declared.stack.StackId.{StackId}
use Rattle.wire_fields.specs.Formats.{Format}
use Rattle.act_disks.specs.NodeStores.{CanSave, FoundFits, NodeHolds, node_stores, of_areas, of_slot}
use Rattle.act_disks.specs.Stores.{StoreLaws}

same-votes : (v : Option ℕ) → same_vote v v ≡ true
same-votes None = refl
same-votes (Some a) = eq-eqb a a refl

common-self : {C : Type 0} (entries : List (EntryView C)) → common (terms_of entries) entries ≡ length entries
common-self [] = refl
common-self (e ∷ entries) = let t : eqb e.term e.term ≡ true = eq-eqb e.term e.term refl in rw t (ap suc (common-self entries))

-- the state that is held is held
pub held-is : {C : Type 0} (store : StoreView) (kept : KeptView C) → Knows store kept → is_held store kept ≡ true
held-is store kept knows =
    let stay : stays store kept ≡ length kept.log = ap (λ (ts : List ℕ). common ts kept.log) knows.terms ∙ common-self kept.log in
    let terms : length store.terms ≡ length kept.log = ap (λ (ts : List ℕ). length ts) knows.terms ∙ length_terms kept.log in
    let a : eqb kept.term store.term ≡ true = eq-eqb kept.term store.term (sym knows.term) in
    let b : same_vote kept.voted store.voted ≡ true = subst (λ (v : Option ℕ). same_vote kept.voted v ≡ true) (sym knows.voted) (same-votes kept.voted) in
    let c : eqb (stays store kept) (length store.terms) ≡ true = eq-eqb (stays store kept) (length store.terms) (stay ∙ sym terms) in
    let e : eqb (stays store kept) (length kept.log) ≡ true = eq-eqb (stays store kept) (length kept.log) stay in
    rw (a, b, c, e) refl

pub told-new : (b : Bool) (xs : List Act) (act : Act) (acts : List Act) → cond b [] xs ≡ act ∷ acts → b ≡ false
told-new true xs act acts e = cc
told-new false xs act acts e = refl

area-settled : (image : Image) (n : ℕ) → (area_at (each settled image) n).bytes ≡ area_at image n
area-settled image zero = refl
area-settled image (suc zero) = refl
area-settled image (suc (suc n)) = refl

module _ {C : Type 0} (s : StackId) (f : Format C) (who : ℕ → Who) where
  pub who-after : (store : StoreView) (kept : KeptView C) → (store_after s f store kept).who ≡ store.who
  who-after store kept = by (is_held store kept) (store.left == 0)
    where
      by : (a b : Bool) → (cond a store (cond b (store_at_base s f store.who (next store.selector) kept)
          (store_of store.who store.selector (store.gate + length (record_bytes f store kept)) (store.left - 1) kept))).who ≡ store.who
      by true b = refl
      by false true = refl
      by false false = refl

  pub none-held : (store : StoreView) (kept : KeptView C) → state_acts s f store kept ≡ [] → is_held store kept ≡ true
  none-held store kept e = by (is_held store kept) (store.left == 0) e
    where
      by : (a b : Bool) → cond a [] (cond b (save_acts store.selector (base_of s f store.who kept)) (append_acts (named store.selector) store.gate (record_bytes f store kept))) ≡ [] → a ≡ true
      by true b e = refl
      by false true e = cc
      by false false e = cc

  pub who-found : (w : Who) (selector len : ℕ) (version : Version) (found : slot.Held C) → (store_found s f w selector len version found).who ≡ w
  who-found w selector len One found = refl
  who-found w selector len Two found = refl

  abbrev pub KeepsNew : Crash → ℕ → StoreView → KeptView C → KeptView C → Disk → Type 0
  KeepsNew crash n v old new disk = (selector : ℕ) × KeepsBy crash (found_by s f (who n)) old new selector (state_acts s f v new) disk

  pub keeps-by : (crash : Crash) (n : ℕ) (v : StoreView) (old new : KeptView C) (disk : Disk) → v.who ≡ who n →
      KeepsBy crash (found_by s f v.who) old new (store_after s f v new).selector (state_acts s f v new) disk → KeepsNew crash n v old new disk
  keeps-by crash n v old new disk who_is keeps =
      ((store_after s f v new).selector, subst (λ (w : Who). KeepsBy crash (found_by s f w) old new (store_after s f v new).selector (state_acts s f v new) disk) who_is keeps)

  module _ (rests : HeldRests s f) (saves : SaveKeepsState s f) (found_held : FoundIsHeld s f) (fits : FoundFits s f who) where
    pub saved : (n : ℕ) (v : StoreView) (old new : KeptView C) (disk : Disk) → NodeHolds s f who n v old disk → CanSave s f who n old new → StateSaved s f v old new disk
    saved n v old new disk h can = saves v old new disk h.holds (can.continues v h.holds.knows) (can.has v h.who_is h.holds.knows)

    pub reopens-slot : (n : ℕ) (image : Image) (k : KeptView C) (sel selector : ℕ) → image.selector ≡ selector ∷ [] → (r : Result (slot.Held C) Why) →
        slot_found s f (who n) (area_at image (named selector)) ≡ r → opened (found_of (state_of r)) selector ≡ Held k sel →
        NodeHolds s f who n (of_slot s f (who n) image selector r) k (after (each settled image) (opening_acts s f (who n) image))
    reopens-slot n image k sel selector is (Err why) e opens = cc
    reopens-slot n image k sel selector is (Ok found) e opens =
        let kept : found.journal.kept ≡ k = cc in
        let bytes = area-settled image (named selector) in
        let e2 : slot_found s f (who n) (area_at (each settled image) (named selector)).bytes ≡ Ok found = ap (λ (bs : List ℕ). slot_found s f (who n) bs) bytes ∙ e in
        let held = found_held (who n) (each settled image) selector found is e2 (λ version. fits n (area_at image (named selector)) found e version) in
        let here = subst (λ (bs : List ℕ). Holds s f (store_found s f (who n) selector (length bs) found.version found) found.journal.kept
        (after (each settled image) (opening_acts s f (who n) image))) bytes held in
        record {
          who_is = who-found (who n) selector (length (area_at image (named selector))) found.version found;
          holds = subst (λ (x : KeptView C). Holds s f (store_found s f (who n) selector (length (area_at image (named selector))) found.version found) x
              (after (each settled image) (opening_acts s f (who n) image))) kept here;
        }

    pub reopens-by : (n : ℕ) (image : Image) (k : KeptView C) (sel : ℕ) (bytes : List ℕ) → image.selector ≡ bytes → by_selector (found_by s f (who n)) image bytes ≡ Held k sel →
        NodeHolds s f who n (of_areas s f (who n) image bytes) k (after (each settled image) (opening_acts s f (who n) image))
    reopens-by n image k sel [] is opens = cc
    reopens-by n image k sel (selector ∷ []) is opens = reopens-slot n image k sel selector is (slot_found s f (who n) (area_at image (named selector))) refl opens
    reopens-by n image k sel (a ∷ b ∷ rest) is opens = cc

    -- by either test of what a crash may make of an area, where a save keeps by it
    unfoldable pub node_laws : (crash : Crash) → ((n : ℕ) (v : StoreView) (old new : KeptView C) (disk : Disk) → NodeHolds s f who n v old disk →
        StateSaved s f v old new disk → KeepsNew crash n v old new disk) → StoreLaws crash (node_stores s f who) (CanSave s f who)
    node_laws crash keeps = record {
      Holds = NodeHolds s f who;
      rests = λ n v k disk h. (v.selector, subst (λ (w : Who). Rests (found_by s f w) k v.selector disk) h.who_is (rests v k disk h.holds));
      keeps = λ n v old new disk h can. keeps n v old new disk h (saved n v old new disk h can);
      holds = λ n v old new disk h can. record { who_is = who-after v new ∙ h.who_is; holds = (saved n v old new disk h can).holds };
      nothing = λ n v old new disk h can none. held_same v old new h.holds.knows (can.continues v h.holds.knows) (none-held v new none);
      tells_old = λ n v k disk h. held-is v k h.holds.knows;
      tells_new = λ v k act acts e. told-new (is_held v k) (cond (v.left == 0) (save_acts v.selector (base_of s f v.who k)) (append_acts (named v.selector) v.gate (record_bytes f v k))) act acts e;
      reopens = λ n image k sel opens. reopens-by n image k sel image.selector refl opens;
    }
