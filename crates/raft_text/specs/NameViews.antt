-- What the code's numbers before a text show.
use Rattle.std.specs.Prelude.{ℕ, List, Option, option_map}
use Rattle.std.specs.Borrow.{Bor}

abbrev pub front_view : Option (ℕ × Bor (List ℕ)) → Option (ℕ × List ℕ)
front_view o = option_map (λ p. (p.0, p.1.now)) o

abbrev pub named_view : Option (ℕ × ℕ × Bor (List ℕ)) → Option (ℕ × ℕ × List ℕ)
named_view o = option_map (λ p. (p.0, p.1, p.2.now)) o
