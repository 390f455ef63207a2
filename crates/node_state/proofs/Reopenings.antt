-- What areas in memory open as, by the bytes of area 2.
use Rattle.std.proofs.Common.{◌≡◌, ℕ, ◌<◌, ◌≤◌, List, [], ◌∷◌, length, slice_index_or, Ok, refl, sym, ap, ◌∙◌, arith}
use Rattle.disk.specs.Areas.{area_at, each}
use Rattle.disk.specs.Disk.{Image, settled}
use Rattle.raft_types.specs.Messages.{KeptView}
use Rattle.slots.specs.Opening.{BadSelector, Not, Refused, by_selector, named, opening}
use Rattle.slots.specs.Opening.{opened as slots_opened}
use Rattle.slots.specs.Opening as area
use Rattle.slots.specs.Saving.{fresh_acts}
use Rattle.slots.proofs.Images.{contents_at}
use Rattle.vst_base.specs.declared.stack.StackId.{StackId}
use Rattle.wire_fields.specs.Formats.{Format}
use Rattle.node_acts.specs.StateActs.{acts_by_selector, acts_on_slot, first_kept, store_found}
use Rattle.node_acts.specs.Stores.{StoreView, found_by}
use Rattle.node_body.specs.Bodies.{body, body_of}
use Rattle.node_body.specs.Slots.{base_of, slot_found}
use Rattle.node_body.specs.declared.slot.Held as slot
use Rattle.node_body.specs.declared.version.Version.TheVariants.{One}
use Rattle.node_body.specs.declared.who.Who.{Who}
use Rattle.node_device.specs.Telling.{Told}
use Rattle.node_state.specs.Answers.{FoundSo, OpenedSo, rested}
use Rattle.node_state.specs.declared.opening.Opened.TheVariants as opened

-- the bytes of area 2 as a slice of none, of one, and of more
pub none_of : (items slice : List ℕ) → slice ≡ items → length slice < 1 → items ≡ []
none_of items [] e few = sym e
none_of items (b ∷ slice) e few = absurd (omega (arith, few))

pub one_of : (items slice : List ℕ) → slice ≡ items → 1 ≤ length slice → length slice < 2 → items ≡ slice_index_or slice 0 0 ∷ []
one_of items [] e some few = absurd (omega (arith, some))
one_of items (b ∷ []) e some few = sym e
one_of items (b ∷ c ∷ slice) e some few = absurd (omega (arith, few))

module _ {C : Type 0} (s : StackId) (f : Format C) (who : Who) where
  pub found_so : (selector : ℕ) (bytes : List ℕ) (held : slot.Held C) (store : StoreView) (kept : KeptView C) → slot_found s f who bytes ≡ Ok held →
      store ≡ store_found s f who selector (length bytes) held.version held → kept ≡ held.journal.kept →
      (held.version ≡ One → (body s f).Fits (body_of who held.journal.kept)) → (told : Told) → (area_at told.disk (named selector)).bytes ≡ bytes →
      FoundSo s f who selector store kept told
  found_so selector bytes held store kept found knows is fits told there = record {
    slot = held;
    found = ap (slot_found s f who) there ∙ found;
    store_is = knows ∙ ap (λ (bytes : List ℕ). store_found s f who selector (length bytes) held.version held) (sym there);
    kept_is = is;
    fits = fits;
  }

  module _ (image : Image) where
    pub acts_of_none : image.selector ≡ [] → acts_by_selector s f who image image.selector ≡ fresh_acts (base_of s f who (first_kept {C = C}))
    acts_of_none e = ap (acts_by_selector s f who image) e

    pub acts_of_one : (n : ℕ) (bytes : List ℕ) → image.selector ≡ n ∷ [] → bytes ≡ area_at image (named n) →
        acts_by_selector s f who image image.selector ≡ acts_on_slot s f who n (slot_found s f who bytes)
    acts_of_one n bytes e is = ap (acts_by_selector s f who image) e ∙ ap (λ (xs : List ℕ). acts_on_slot s f who n (slot_found s f who xs)) (sym is)

    pub opened_one : (n : ℕ) (bytes : List ℕ) (store : StoreView) (kept : KeptView C) → image.selector ≡ n ∷ [] → bytes ≡ area_at image (named n) →
        ((told : Told) → (area_at told.disk (named n)).bytes ≡ bytes → FoundSo s f who n store kept told) →
        OpenedSo s f who (opened.Held store kept) (rested image)
    opened_one n bytes store kept e is so = (n, e, so (rested image) (sym (contents_at (each settled image) (named n)) ∙ sym is))

    pub refused_one : (n : ℕ) (bytes : List ℕ) (why : area.Why) → image.selector ≡ n ∷ [] → bytes ≡ area_at image (named n) → found_by s f who bytes ≡ Not why →
        opening (found_by s f who) image ≡ Refused why
    refused_one n bytes why e is not =
        ap (by_selector (found_by s f who) image) e ∙ ap (λ x. slots_opened x n) (ap (found_by s f who) (sym is) ∙ not)

    pub refused_more : (slice : List ℕ) → slice ≡ image.selector → 2 ≤ length slice → opening (found_by s f who) image ≡ Refused BadSelector
    refused_more slice e some = ap (by_selector (found_by s f who) image) (sym e) ∙ by slice some
      where
        by : (xs : List ℕ) → 2 ≤ length xs → by_selector (found_by s f who) image xs ≡ Refused BadSelector
        by [] some = absurd (omega (arith, some))
        by (a ∷ []) some = absurd (omega (arith, some))
        by (a ∷ b ∷ xs) some = refl
