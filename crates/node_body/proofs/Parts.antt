-- What the code finds of so many bytes in front of others.
use Rattle.std.proofs.Common.{◌≡◌, ◌≤◌, ◌<◌, ◌-◌, ℕ, List, length, take, drop, Option, None, Some, if◌then◌else◌, sym, ap, ◌∙◌}
use Rattle.std.proofs.lemmas.Bool.{le-leb, lt-leb}
use Rattle.node_body.specs.Slots.{part}
use Rattle.lists.specs.Places.{take_rest}

pub part_there : (n : ℕ) (bs : List ℕ) → n ≤ length bs → (part n).read bs ≡ Some (take n bs, take (length bs - n) (drop n bs))
part_there n bs long =
    ap (λ b. let found : Option (List ℕ × List ℕ) = Some (take n bs, drop n bs) in if b then found else None) (le-leb n (length bs) long)
    ∙ ap (λ rest. let found : Option (List ℕ × List ℕ) = Some (take n bs, rest) in found) (sym (take_rest n bs))

pub part_short : (n : ℕ) (bs : List ℕ) → length bs < n → (part n).read bs ≡ None
part_short n bs less = ap (λ b. let found : Option (List ℕ × List ℕ) = Some (take n bs, drop n bs) in if b then found else None) (lt-leb n (length bs) less)
