use Rattle.std.proofs.Common.{◌≡◌, [], ◌∷◌, refl, ap, arith}
use Rattle.slots.specs.Examples.{slot}
use Rattle.slots.proofs.Worked.{first_of, calm}
use Rattle.slots.proofs.examples.worked_starts.Goals as goal
use Rattle.lists.specs.Places.{not_empty}

pub returns : goal.returns
returns c = record {
  ready = record { pending = calm (slot (1 ∷ [])) (slot (1 ∷ [])) (0 ∷ []); selector = refl };
  ready_again = record { pending = calm (slot (1 ∷ [])) (9 ∷ 1 ∷ []) (0 ∷ []); selector = refl };
  ready_while_pending = λ r. not_empty (0, 1) [] r.pending.slot1.ranges;
  ready_under_another = λ r. let e : 0 ≡ 1 = ap first_of r.selector in omega arith;
}
