-- The numbers that digits spell.
use Rattle.std.specs.Prelude.{◌≡◌, ℕ, ◌+◌, ◌-◌, ◌*◌, ◌<◌, ◌≤◌, List, [], ◌∷◌, length, drop, refl}
use Rattle.std.proofs.Common.{ap, ◌∙◌, get_or, arith, add-one}
use Rattle.std.proofs.Math.Seq.{drop-cons}
use Rattle.schedule_text.specs.Words.{value_from}

-- further digits make no number less
pub value_from-grows : (n : ℕ) (bs : List ℕ) → n ≤ value_from n bs
value_from-grows n [] = omega arith
value_from-grows n (b ∷ bs) = omega (arith, value_from-grows (10 * n + (b - 48)) bs)

-- one more digit
pub value_from-next : (n i : ℕ) (bs : List ℕ) → i < length bs → value_from n (drop i bs) ≡ value_from (10 * n + (get_or bs i 0 - 48)) (drop (i + 1) bs)
value_from-next n i bs below = ap (value_from n) (drop-cons bs i 0 below) ∙ rw add-one refl

-- where the number is small enough, so is what its digits up to one more spell
pub value_from-within : (n i most : ℕ) (bs : List ℕ) → i < length bs → value_from n (drop i bs) ≡ value_from 0 bs → value_from 0 bs ≤ most
    → 10 * n + (get_or bs i 0 - 48) ≤ most
value_from-within n i most bs below rest small =
    omega (arith, value_from-grows (10 * n + (get_or bs i 0 - 48)) (drop (i + 1) bs), value_from-next n i bs below, rest, small)
