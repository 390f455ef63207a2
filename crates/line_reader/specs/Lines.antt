-- Bytes as lines, each ended by a newline but perhaps the last.
use Rattle.std.specs.Prelude.{ℕ, zero, suc, ◌==◌, ◌+◌, ◌-◌, min, List, [], ◌∷◌, ◌++◌, length, drop, if◌then◌else◌, ◌≡◌, Bool, nat_lt, Option, Some, None, is_some}

abbrev pub onto_cut : ℕ → Option (List ℕ × List ℕ) → Option (List ℕ × List ℕ)
onto_cut b None = None
onto_cut b (Some p) = Some (b ∷ p.0, p.1)

-- what stands before the first of these bytes and after it, if there is one
abbrev pub cut_at : ℕ → List ℕ → Option (List ℕ × List ℕ)
cut_at at [] = None
cut_at at (b ∷ bs) = if b == at then Some ([], bs) else onto_cut b (cut_at at bs)

-- whether there is one
abbrev pub has_cut : ℕ → List ℕ → Bool
has_cut at bs = is_some (cut_at at bs)

-- the last one ends at this place, or the place is 0 and there is none: one stands at or after each place before it, and at
-- or after no other
abbrev pub LastEnds : ℕ → List ℕ → ℕ → Type 0
LastEnds at bs end = (place : ℕ) → has_cut at (drop place bs) ≡ nat_lt place end

abbrev pub onto_first : ℕ → List (List ℕ) × List ℕ → List (List ℕ) × List ℕ
onto_first b ([], rest) = ([], b ∷ rest)
onto_first b (l ∷ ls, rest) = ((b ∷ l) ∷ ls, rest)

-- the whole lines, without their newlines, and what stands after the last newline
abbrev pub split_lines : List ℕ → List (List ℕ) × List ℕ
split_lines [] = ([], [])
split_lines (b ∷ bs) = if b == 10 then ([] ∷ (split_lines bs).0, (split_lines bs).1) else onto_first b (split_lines bs)

-- the lines that a newline ends
abbrev pub whole_lines : List ℕ → List (List ℕ)
whole_lines bs = (split_lines bs).0

-- what is left is a line too, if it is not empty
abbrev pub last_line : List ℕ → List (List ℕ)
last_line [] = []
last_line (b ∷ bs) = (b ∷ bs) ∷ []

-- all the lines
abbrev pub lines_of : List ℕ → List (List ℕ)
lines_of bs = whole_lines bs ++ last_line (split_lines bs).1

-- how many bytes the first line has, with its newline
abbrev pub first_size : List ℕ → ℕ
first_size [] = 0
first_size (b ∷ bs) = if b == 10 then 1 else 1 + first_size bs

-- what stands after so many lines
abbrev pub after_lines : ℕ → List ℕ → List ℕ
after_lines zero bs = bs
after_lines (suc n) bs = after_lines n (drop (first_size bs) bs)

-- how many bytes decide the line of this number, from 1: those of the lines before it, and its own up to its newline or,
-- where that comes first, its 4,097th byte or the end
abbrev pub decided : ℕ → List ℕ → ℕ
decided number bs =
    let line = after_lines (number - 1) bs in
    (length bs - length line) + min 4097 (first_size line)
