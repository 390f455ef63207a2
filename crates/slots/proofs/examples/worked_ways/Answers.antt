use Rattle.std.proofs.Common.{◌≡◌, [], ◌∷◌, refl, ap, arith, inl, inr}
use Rattle.slots.specs.Opening.{BadSlot}
use Rattle.slots.specs.Examples.{counted_found, slot, image_of, at_rest}
use Rattle.slots.proofs.Turning.{nothing_is_such}
use Rattle.slots.proofs.Worked.{state_of, not_held, rests, first_save}
use Rattle.slots.proofs.examples.worked_ways.Goals as goal
use Rattle.lists.specs.Places.{not_empty}

pub returns : goal.returns
returns c = record {
  a_save = first_save;
  nothing = nothing_is_such counted_found at_rest 0 (1 ∷ []) rests;
  nothing_for_another = λ w. let e : 1 ≡ 2 = ap state_of w.done.opens in omega arith;
  hasty = λ w.
      elim (w.each 3 (image_of (slot (1 ∷ [])) (9 ∷ 9 ∷ 9 ∷ []) (1 ∷ [])) refl) [
        | inl o ↦ not_held BadSlot (1 ∷ []) (o.0) (o.1)
        | inr o ↦ not_held BadSlot (2 ∷ 2 ∷ []) (o.0) (o.1)
      ];
  not_synced = λ w. not_empty (0, 1) [] w.done.pending.selector.ranges;
  elsewhere = λ w. w.only.0;
}
