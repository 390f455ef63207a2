-- Bytes of the worked rows.
use Rattle.std.specs.Prelude.{ℕ, List, [], ◌∷◌, ◌++◌}

abbrev pub zero_of_four : List ℕ
zero_of_four = 0 ∷ 0 ∷ 0 ∷ 0 ∷ []

abbrev pub zero_of_eight : List ℕ
zero_of_eight = zero_of_four ++ zero_of_four

-- the number 1 in eight bytes
abbrev pub one : List ℕ
one = zero_of_four ++ (0 ∷ 0 ∷ 0 ∷ 1 ∷ [])

-- client 7 asks for its request 1 of node 0: put a x
abbrev pub put_asked : List ℕ
put_asked = zero_of_four ++ (0 ∷ 0 ∷ 0 ∷ 7 ∷ (one ++ (0 ∷ 2 ∷ 1 ∷ 97 ∷ 0 ∷ 1 ∷ 120 ∷ [])))

-- the greatest round, 2^62, and the number after it
abbrev pub greatest : List ℕ
greatest = 64 ∷ 0 ∷ 0 ∷ 0 ∷ zero_of_four

abbrev pub past_greatest : List ℕ
past_greatest = 64 ∷ 0 ∷ 0 ∷ 0 ∷ (0 ∷ 0 ∷ 0 ∷ 1 ∷ [])
