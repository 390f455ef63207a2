-- The first place, from 0, at which something is not as it should be, and the verdict by several such places.
use Rattle.std.specs.Prelude.{ℕ, suc, Bool, ◌+◌, List, [], ◌∷◌, ◌++◌, length, Option, Some, None, option_map, if◌then◌else◌}
use Rattle.schedule_text.specs.Words.{is_text}
use Rattle.claim_verdicts.specs.declared.verdict.Verdict.{Verdict}
use Rattle.claim_verdicts.specs.declared.verdict.Verdict.TheVariants.{Yes, No}

-- the first element that is wrong by those before it and those after it; some already stand before these
abbrev pub first_wrong : {A : Type 0} → (List A → A → List A → Bool) → List A → List A → Option ℕ
first_wrong wrong before [] = None
first_wrong wrong before (x ∷ after) = if wrong before x after then Some (length before) else first_wrong wrong (before ++ x ∷ []) after

-- the first line, from this place on, in which two texts differ; where one is longer, its first line after the other's last
abbrev pub first_difference : ℕ → List (List ℕ) → List (List ℕ) → Option ℕ
first_difference place [] [] = None
first_difference place [] (m ∷ ms) = Some place
first_difference place (l ∷ ls) [] = Some place
first_difference place (l ∷ ls) (m ∷ ms) = if is_text l m then first_difference (place + 1) ls ms else Some place

-- the first element that passes a test
abbrev pub place_of : {A : Type 0} → (A → Bool) → List A → Option ℕ
place_of test [] = None
place_of test (x ∷ xs) = if test x then Some 0 else option_map suc (place_of test xs)

-- the first of numbered conditions that is false, each with the line at which it is false, if it is
abbrev pub false_at : ℕ → Option ℕ → Verdict → Verdict
false_at condition None later = later
false_at condition (Some line) later = No condition line

abbrev pub verdict_by : List (ℕ × Option ℕ) → Verdict
verdict_by [] = Yes
verdict_by (c ∷ cs) = false_at c.0 c.1 (verdict_by cs)
