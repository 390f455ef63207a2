-- What the front of a slot says of the whole, and which of its fronts decide.
use Rattle.std.proofs.Common.{◌≡◌, ℕ, Bool, true, false, nat_le, ◌+◌, ◌-◌, ◌*◌, ◌<◌, ◌≤◌, List, ◌++◌, length, take, drop, Option, Some, None, IfSome, Result, Ok, Err, refl, sym, ap, subst, ◌∙◌, arith, take-append-drop, length-append, ◌⊎◌, inl, inr}
use Rattle.std.proofs.Math.Seq.{take-add}
use Rattle.std.proofs.lemmas.Bool.{leb-true, leb-false}
use Rattle.disk.specs.Areas.{area_at}
use Rattle.vst_base.specs.declared.stack.StackId.{StackId}
use Rattle.wire_fields.specs.Formats.{Format, IsFormat}
use Rattle.node_body.specs.FrontLaws.{fronts_decide, longer_fronts_decide}
use Rattle.node_body.specs.Fronts.{found_in_front, with_more}
use Rattle.node_body.specs.Journals.{journal_as}
use Rattle.node_body.specs.Slots.{held_as, slot_found}
use Rattle.node_body.specs.declared.slot.Held.{Held}
use Rattle.node_body.specs.declared.who.Who.{Who}
use Rattle.node_body.specs.declared.why.Why.{Why}
use Rattle.node_device.specs.Telling.{Told}
use Rattle.node_state.specs.Fronts.{FoundByFront, IsByNeed}
use Rattle.node_state.specs.declared.reading.TheConstants.{PIECE}
use Rattle.node_state.proofs.Fronts.{all_read}

-- no bytes more change nothing
with_none : {C : Type 0} (found : Result (Held C) Why) → with_more 0 found ≡ found
with_none {C} (Ok h) =
    let same : h.journal.hidden + 0 ≡ h.journal.hidden = omega arith in
    ap (λ (n : ℕ). let found : Result (Held C) Why = Ok (held_as h.version h.owner (journal_as h.journal.kept h.journal.left n)) in found) same
with_none (Err w) = refl

module _ {C : Type 0} (s : StackId) (f : Format C) (who : Who) where
  -- the whole slot was read
  whole : (all bytes : List ℕ) (found : Result (Held C) Why) → found ≡ slot_found s f who bytes → bytes ≡ all → FoundByFront s f who all (length bytes) found
  whole all bytes found is e = record {
    others = 0;
    all = omega (arith, ap length e);
    slot = ap (slot_found s f who) (sym e) ∙ (sym is ∙ sym (with_none found));
  }

  pub found_whole : (told : Option Told) (area most len : ℕ) (bytes slice : List ℕ) (found : Result (Held C) Why) → len ≡ length bytes → length bytes < most →
      IfSome told (λ told. bytes ≡ take most (area_at told.disk area).bytes) → slice ≡ bytes → found ≡ slot_found s f who slice →
      IfSome told (λ told. FoundByFront s f who (area_at told.disk area).bytes len found)
  found_whole None area most len bytes slice found size less read same is = tt
  found_whole (Some told) area most len bytes slice found size less read same is =
      subst (λ (n : ℕ). FoundByFront s f who (area_at told.disk area).bytes n found) (sym size)
      (whole (area_at told.disk area).bytes bytes found (is ∙ ap (slot_found s f who) same) (all_read (Some told) area most bytes less read))

  pub need_whole : (told : Option Told) (area most len : ℕ) → len ≤ most → IfSome told (λ told. IsByNeed s f who (area_at told.disk area).bytes most) →
      IfSome told (λ told. IsByNeed s f who (area_at told.disk area).bytes len)
  need_whole None area most len few need = tt
  need_whole (Some told) area most len few need = λ n found e. fewer n (need n found e) where
    fewer : (n : ℕ) → (most ≤ PIECE) ⊎ (most ≤ 2 * n) → (len ≤ PIECE) ⊎ (len ≤ 2 * n)
    fewer n (inl a) = inl (omega (arith, a, few))
    fewer n (inr a) = inr (omega (arith, a, few))

module _ {C : Type 0} (s : StackId) (f : Format C) (is_f : IsFormat f) (who : Who) where
  -- a front of it decides
  decided : (all bytes : List ℕ) (found : Result (Held C) Why) → Some found ≡ found_in_front s f who bytes → bytes ≡ take (length bytes) all →
      FoundByFront s f who all (length bytes) found
  decided all bytes found is e =
      let parts : bytes ++ drop (length bytes) all ≡ all = ap (λ xs. xs ++ drop (length bytes) all) e ∙ take-append-drop (length bytes) all in
      record {
        others = length (drop (length bytes) all);
        all = ap length (sym parts) ∙ length-append bytes (drop (length bytes) all);
        slot = ap (slot_found s f who) (sym parts) ∙ fronts_decide s f is_f who bytes (drop (length bytes) all) found (sym is);
      }

  pub found_decided : (told : Option Told) (area most len : ℕ) (bytes slice : List ℕ) (found : Result (Held C) Why) (o : Option (Result (Held C) Why)) → len ≡ length bytes → length bytes ≡ most →
      IfSome told (λ told. bytes ≡ take most (area_at told.disk area).bytes) → slice ≡ bytes → o ≡ found_in_front s f who slice → o ≡ Some found →
      IfSome told (λ told. FoundByFront s f who (area_at told.disk area).bytes len found)
  found_decided None area most len bytes slice found o size full read same is there = tt
  found_decided (Some told) area most len bytes slice found o size full read same is there =
      subst (λ (n : ℕ). FoundByFront s f who (area_at told.disk area).bytes n found) (sym size)
      (decided (area_at told.disk area).bytes bytes found (sym there ∙ (is ∙ ap (found_in_front s f who) same))
      (read ∙ ap (λ n. take n (area_at told.disk area).bytes) (sym full)))

  -- and where it does not, no shorter one does
  none_shorter : (all : List ℕ) (most n : ℕ) (found : Result (Held C) Why) → found_in_front s f who (take most all) ≡ None → n ≤ most → found_in_front s f who (take n all) ≡ Some found → ⊥
  none_shorter all most n found none short e =
      let rest : List ℕ = take (most - n) (drop n all) in
      let size : most ≡ n + (most - n) = omega (arith, short) in
      let parts : take most all ≡ take n all ++ rest = ap (λ n. take n all) size ∙ take-add n (most - n) all in
      let longer = longer_fronts_decide s f is_f who (take n all) rest found e in
      let no : ◌≡◌ {A = Option (Result (Held C) Why)} None (Some (with_more (length rest) found)) = sym none ∙ (ap (found_in_front s f who) parts ∙ longer) in
      cc

  twice : (all : List ℕ) (most : ℕ) → found_in_front s f who (take most all) ≡ None → IsByNeed s f who all (most * 2)
  twice all most none n found e = by (nat_le n most) refl where
    by : (b : Bool) → nat_le n most ≡ b → (most * 2 ≤ PIECE) ⊎ (most * 2 ≤ 2 * n)
    by true short = absurd (none_shorter all most n found none (leb-true n most short) e)
    by false long = inr (omega (arith, leb-false n most long))

  pub need_twice : (told : Option Told) (area most : ℕ) (bytes slice : List ℕ) (o : Option (Result (Held C) Why)) → IfSome told (λ told. bytes ≡ take most (area_at told.disk area).bytes) →
      slice ≡ bytes → o ≡ found_in_front s f who slice → o ≡ None → IfSome told (λ told. IsByNeed s f who (area_at told.disk area).bytes (most * 2))
  need_twice None area most bytes slice o read same is none = tt
  need_twice (Some told) area most bytes slice o read same is none =
      twice (area_at told.disk area).bytes most (ap (found_in_front s f who) (sym (same ∙ read)) ∙ (sym is ∙ none))
