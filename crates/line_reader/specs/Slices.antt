-- What slices hold.
use Rattle.std.specs.Prelude.{ℕ, List, Option, option_map}
use Rattle.std.specs.Borrow.{Bor}

-- what two slices hold, if they are there
abbrev pub both : Option (Bor (List ℕ) × Bor (List ℕ)) → Option (List ℕ × List ℕ)
both r = option_map (λ p. (p.0.now, p.1.now)) r

-- what a slice holds, if it is there
abbrev pub one : Option (Bor (List ℕ)) → Option (List ℕ)
one r = option_map (λ x. x.now) r
