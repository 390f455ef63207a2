use Rattle.std.proofs.Common.{◌≡◌, ℕ, zero, suc, false, [], ◌∷◌, drop, refl, sym, ◌∙◌, arith}
use Rattle.std.proofs.lemmas.Bool.{le-ltb}
use Rattle.line_reader.specs.Lines.{has_cut, LastEnds}
use Rattle.line_reader.proofs.examples.worked_ends.Goals as goal

-- past the last byte there is none
none_past : (at place : ℕ) → has_cut at (drop place []) ≡ false
none_past at zero = refl
none_past at (suc place) = refl

last_of_two : LastEnds 10 (97 ∷ 10 ∷ 98 ∷ 10 ∷ 99 ∷ []) 4
last_of_two zero = refl
last_of_two (suc zero) = refl
last_of_two (suc (suc zero)) = refl
last_of_two (suc (suc (suc zero))) = refl
last_of_two (suc (suc (suc (suc zero)))) = refl
last_of_two (suc (suc (suc (suc (suc place))))) = none_past 10 place ∙ sym (le-ltb (suc (suc (suc (suc (suc place))))) 4 (omega arith))

at_the_end : LastEnds 10 (10 ∷ []) 1
at_the_end zero = refl
at_the_end (suc place) = none_past 10 place ∙ sym (le-ltb (suc place) 1 (omega arith))

of_none : LastEnds 10 (97 ∷ 98 ∷ []) 0
of_none zero = refl
of_none (suc zero) = refl
of_none (suc (suc place)) = none_past 10 place ∙ sym (le-ltb (suc (suc place)) 0 (omega arith))

pub returns-clause-last_of_two : goal.returns-clause-last_of_two
returns-clause-last_of_two c = last_of_two

pub returns-clause-at_the_end : goal.returns-clause-at_the_end
returns-clause-at_the_end c = at_the_end

pub returns-clause-of_none : goal.returns-clause-of_none
returns-clause-of_none c = of_none

pub returns-clause-not_the_first_of_two : goal.returns-clause-not_the_first_of_two
returns-clause-not_the_first_of_two c = λ h. cc (h 2)

pub returns-clause-not_before_it_ends : goal.returns-clause-not_before_it_ends
returns-clause-not_before_it_ends c = λ h. cc (h 1)

pub returns-clause-not_where_there_is_none : goal.returns-clause-not_where_there_is_none
returns-clause-not_where_there_is_none c = λ h. cc (h 0)
