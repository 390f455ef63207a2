-- The words and numbers of a line.
use Rattle.std.specs.Prelude.{ℕ, Bool, false, ◌&&◌, ◌+◌, ◌-◌, ◌*◌, nat_le, List, [], ◌∷◌, Option, Some, None, if◌then◌else◌, codes}
use Rattle.std.specs.List.{list_all}
use Rattle.std.specs.Str.{bytes_eq}
use Rattle.line_reader.specs.Lines.{cut_at}
use Rattle.vst_base.specs.declared.step.StepKind.{StepKind}
use Rattle.vst_base.specs.declared.step.StepKind.TheVariants as kind
use Rattle.schedule_text.specs.declared.line_word.LineWord.{LineWord}
use Rattle.schedule_text.specs.declared.line_word.LineWord.TheVariants as word

-- what stands before the first space and after it, if there is one
abbrev pub cut : List ℕ → Option (List ℕ × List ℕ)
cut bs = cut_at 32 bs

abbrev pub is_digit : ℕ → Bool
is_digit b = nat_le 48 b && nat_le b 57

-- digits, and no leading zero
abbrev pub is_numeral : List ℕ → Bool
is_numeral [] = false
is_numeral (b ∷ []) = is_digit b
is_numeral (b ∷ c ∷ bs) = nat_le 49 b && is_digit b && list_all is_digit (c ∷ bs)

-- the number that digits spell after those of n
abbrev pub value_from : ℕ → List ℕ → ℕ
value_from n [] = n
value_from n (b ∷ bs) = value_from (10 * n + (b - 48)) bs

-- the number of a numeral, at most this one
abbrev pub number_up_to : ℕ → List ℕ → Option ℕ
number_up_to most bs = if is_numeral bs && nat_le (value_from 0 bs) most then Some (value_from 0 bs) else None

-- the word of each kind of step
abbrev pub word_of : StepKind → List ℕ
word_of kind.In = codes "in"
word_of kind.Deliver = codes "deliver"
word_of kind.Tick = codes "tick"
word_of kind.Dup = codes "dup"
word_of kind.Lose = codes "lose"
word_of kind.Crash = codes "crash"
word_of kind.Reboot = codes "reboot"

abbrev pub is_text : List ℕ → List ℕ → Bool
is_text a b = bytes_eq a b

-- the words of step lines: those of the kinds of step, and of acts of a device and of stops
abbrev pub line_word : LineWord → List ℕ
line_word (word.Step k) = word_of k
line_word word.Act = codes "act"
line_word word.Stop = codes "stop"

abbrev pub line_words : List LineWord
line_words =
    word.Step kind.In ∷ word.Step kind.Deliver ∷ word.Step kind.Tick ∷ word.Step kind.Dup ∷ word.Step kind.Lose
    ∷ word.Step kind.Crash ∷ word.Step kind.Reboot ∷ word.Act ∷ word.Stop ∷ []

-- what has this word, if something has it
abbrev pub word_among : List LineWord → List ℕ → Option LineWord
word_among [] bs = None
word_among (w ∷ ws) bs = if is_text bs (line_word w) then Some w else word_among ws bs

abbrev pub word_named : List ℕ → Option LineWord
word_named bs = word_among line_words bs
