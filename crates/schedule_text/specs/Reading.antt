-- What a line of a schedule after its header says, if anything, and why it may be refused.
use Rattle.std.specs.Prelude.{ℕ, nat_le, List, Option, Some, None, ok_or, Result, Ok, Err, if◌then◌else◌, Bool, true, false, not, ◌==◌, [], ◌∷◌}
use Rattle.std.specs.Result.{result_ok}
use Rattle.vst_base.specs.Firsts.{first_of}
use Rattle.vst_base.specs.declared.step.Step.{Step}
use Rattle.vst_base.specs.declared.step.Step.TheVariants as step
use Rattle.vst_base.specs.declared.step.StepKind.TheVariants as kind
use Rattle.line_reader.specs.declared.why.Why.{Why}
use Rattle.line_reader.specs.declared.why.Why.TheVariants as why
use Rattle.schedule_text.specs.declared.line.Line.{Line}
use Rattle.schedule_text.specs.declared.line.Line.TheVariants.{Skipped, IsStep, Refused}
use Rattle.schedule_text.specs.declared.line_word.LineWord.{LineWord}
use Rattle.schedule_text.specs.declared.line_word.LineWord.TheVariants as word
use Rattle.schedule_text.specs.declared.said.Said.{Said}
use Rattle.schedule_text.specs.declared.said.Said.TheVariants as said
use Rattle.line_reader.specs.Whys.{line_refusals}
use Rattle.schedule_text.specs.Words.{cut, number_up_to, word_named}
use Rattle.vst_base.specs.declared.step.TheConstants.{MAX_STEPS}
use Rattle.line_reader.specs.Lines.{cut_at}

-- an empty line and one that begins with # are skipped
abbrev pub is_skipped : List ℕ → Bool
is_skipped [] = true
is_skipped (b ∷ bs) = b == 35

-- a first line that a newline ends stands before the rest, and is not skipped
abbrev pub is_told : Option (List ℕ × List ℕ) → Bool
is_told None = false
is_told (Some p) = not (is_skipped p.0)

abbrev pub tells_next : List ℕ → Bool
tells_next bs = is_told (cut_at 10 bs)

-- the numbers of nodes and packets
abbrev pub number_of : List ℕ → Option ℕ
number_of bs = number_up_to 4294967295 bs

-- what follows, unless it is refused before
abbrev pub and_then : {A B : Type 0} → Result A Why → (A → Result B Why) → Result B Why
and_then (Err w) next = Err w
and_then (Ok a) next = next a

-- what a number says
abbrev pub numbered : List ℕ → (ℕ → Said (List ℕ)) → Result (Said (List ℕ)) Why
numbered bs says = and_then (ok_or (number_of bs) why.Number) (λ n. Ok (says n))

-- what a line says after its word: an input has a number, a space and the text, a stop two numbers and a space between them, and
-- any other line a number alone
abbrev pub said_after : LineWord → List ℕ → Result (Said (List ℕ)) Why
said_after (word.Step kind.In) bs = and_then (ok_or (cut bs) why.UnknownWord) (λ p. numbered p.0 (λ n. said.Step (step.In n p.1)))
said_after (word.Step kind.Deliver) bs = numbered bs (λ k. said.Step (step.Deliver k))
said_after (word.Step kind.Tick) bs = numbered bs (λ n. said.Step (step.Tick n))
said_after (word.Step kind.Dup) bs = numbered bs (λ k. said.Step (step.Dup k))
said_after (word.Step kind.Lose) bs = numbered bs (λ k. said.Step (step.Lose k))
said_after (word.Step kind.Crash) bs = numbered bs (λ n. said.Step (step.Crash n))
said_after (word.Step kind.Reboot) bs = numbered bs (λ n. said.Step (step.Reboot n))
said_after word.Act bs = numbered bs (λ n. said.Act n)
said_after word.Stop bs =
    and_then (ok_or (cut bs) why.UnknownWord) (λ p. and_then (ok_or (number_of p.0) why.Number) (λ n. numbered p.1 (λ c. said.Stop n c)))

-- what a line says whose inputs' texts are not read yet
abbrev pub said_of : List ℕ → Result (Said (List ℕ)) Why
said_of line = and_then (ok_or (cut line) why.UnknownWord) (λ p. and_then (ok_or (word_named p.0) why.UnknownWord) (λ w. said_after w p.1))

-- a step by the text of its input
abbrev pub step_with : {I : Type 0} → (List ℕ → Option I) → Step (List ℕ) → Result (Step I) Why
step_with input_of (step.In n text) = and_then (ok_or (input_of text) why.Text) (λ i. Ok (step.In n i))
step_with input_of (step.Deliver k) = Ok (step.Deliver k)
step_with input_of (step.Tick n) = Ok (step.Tick n)
step_with input_of (step.Dup k) = Ok (step.Dup k)
step_with input_of (step.Lose k) = Ok (step.Lose k)
step_with input_of (step.Crash n) = Ok (step.Crash n)
step_with input_of (step.Reboot n) = Ok (step.Reboot n)

-- the step that is said. Acts and stops are no steps of a network that has a stack
abbrev pub step_said : {I : Type 0} → (List ℕ → Option I) → Said (List ℕ) → Result (Step I) Why
step_said input_of (said.Step s) = step_with input_of s
step_said input_of (said.Act n) = Err why.NotThisNet
step_said input_of (said.Stop n c) = Err why.NotThisNet

-- the step of a line that is not skipped, after so many events, or why the line is refused. In the order in which they are tried:
-- its word or a space, its numbers, the events before it, its text, and its network
abbrev pub step_or_refusal : {I : Type 0} → (List ℕ → Option I) → ℕ → List ℕ → Result (Step I) Why
step_or_refusal input_of events line =
    and_then (said_of line) (λ x. if nat_le MAX_STEPS events then Err why.TooManyEvents else step_said input_of x)

-- the step that a line says, if it says one
abbrev pub step_of : {I : Type 0} → (List ℕ → Option I) → List ℕ → Option (Step I)
step_of input_of line = result_ok (step_or_refusal input_of 0 line)

-- what a line is: refused, or skipped, or a step
abbrev pub line_of : {I : Type 0} → Result (Step I) Why → Line I
line_of (Ok s) = IsStep s
line_of (Err w) = Refused w

abbrev pub line_unless : {I : Type 0} → Option Why → Line I → Line I
line_unless (Some w) l = Refused w
line_unless None l = l

-- what a line says that is neither too long nor one too many
abbrev pub line_says : {I : Type 0} → (List ℕ → Option I) → ℕ → List ℕ → Line I
line_says input_of events line = if is_skipped line then Skipped else line_of (step_or_refusal input_of events line)

-- what the line of this number is, where lines have at most that many
abbrev pub read_line : {I : Type 0} → ℕ → (List ℕ → Option I) → ℕ → ℕ → List ℕ → Line I
read_line most input_of number events line =
    line_unless (first_of (line_refusals most number line)) (line_says input_of events line)
