-- A step that a line says is spellable: it has a line.
use Rattle.std.specs.Prelude.{◌≡◌, ℕ, Bool, true, false, cond, ◌<◌, nat_le, List, Option, Some, None, ok_or, Result, Ok, Err, IfOk, if◌then◌else◌, refl}
use Rattle.std.proofs.Common.{arith}
use Rattle.line_reader.specs.declared.why.Why.{Why}
use Rattle.line_reader.specs.declared.why.Why.TheVariants as why
use Rattle.vst_base.specs.declared.step.Step.{Step}
use Rattle.vst_base.specs.declared.step.Step.TheVariants as step
use Rattle.vst_base.specs.declared.step.StepKind.TheVariants as kind
use Rattle.vst_base.specs.declared.step.TheConstants.{MAX_STEPS}
use Rattle.schedule_text.specs.declared.line_word.LineWord.{LineWord}
use Rattle.schedule_text.specs.declared.line_word.LineWord.TheVariants as word
use Rattle.schedule_text.specs.declared.said.Said.{Said}
use Rattle.schedule_text.specs.declared.said.Said.TheVariants as said
use Rattle.schedule_text.specs.Reading.{and_then, number_of, numbered, said_after, said_of, step_or_refusal, step_said}
use Rattle.schedule_text.specs.Spellable.{IsSpellable}
use Rattle.schedule_text.specs.Words.{cut, word_named}
use Rattle.schedule_text.proofs.NumeralLaws.{numeral_read}

-- the number of a step that is said is below 2^32
abbrev IsLow : Said (List ℕ) → Type 0
IsLow (said.Step (step.In n text)) = n < 4294967296
IsLow (said.Step (step.Deliver k)) = k < 4294967296
IsLow (said.Step (step.Tick n)) = n < 4294967296
IsLow (said.Step (step.Dup k)) = k < 4294967296
IsLow (said.Step (step.Lose k)) = k < 4294967296
IsLow (said.Step (step.Crash n)) = n < 4294967296
IsLow (said.Step (step.Reboot n)) = n < 4294967296
IsLow (said.Act n) = Unit {0}
IsLow (said.Stop n c) = Unit {0}

numbered-low : (bs : List ℕ) (o : Option ℕ) → number_of bs ≡ o → (says : ℕ → Said (List ℕ)) → ((n : ℕ) → n < 4294967296 → IsLow (says n)) → IfOk (and_then (ok_or o why.Number) (λ n. Ok (says n))) IsLow
numbered-low bs None is says low = tt
numbered-low bs (Some n) is says low = let read = (numeral_read 4294967295 bs n (omega arith) is).fits in low n (omega (arith, read))

input-low : (o : Option (List ℕ × List ℕ)) → IfOk (and_then (ok_or o why.UnknownWord) (λ p. numbered p.0 (λ n. said.Step (step.In n p.1)))) IsLow
input-low None = tt
input-low (Some p) = numbered-low p.0 (number_of p.0) refl (λ n. said.Step (step.In n p.1)) (λ n low. low)

second-low : (bs : List ℕ) (o : Option ℕ) → IfOk (and_then (ok_or o why.Number) (λ n. numbered bs (λ c. said.Stop n c))) IsLow
second-low bs None = tt
second-low bs (Some n) = numbered-low bs (number_of bs) refl (λ c. said.Stop n c) (λ c low. tt)

stop-low : (o : Option (List ℕ × List ℕ)) → IfOk (and_then (ok_or o why.UnknownWord) (λ p. and_then (ok_or (number_of p.0) why.Number) (λ n. numbered p.1 (λ c. said.Stop n c)))) IsLow
stop-low None = tt
stop-low (Some p) = second-low p.1 (number_of p.0)

after-low : (w : LineWord) (bs : List ℕ) → IfOk (said_after w bs) IsLow
after-low (word.Step kind.In) bs = input-low (cut bs)
after-low (word.Step kind.Deliver) bs = numbered-low bs (number_of bs) refl (λ k. said.Step (step.Deliver k)) (λ k low. low)
after-low (word.Step kind.Tick) bs = numbered-low bs (number_of bs) refl (λ n. said.Step (step.Tick n)) (λ n low. low)
after-low (word.Step kind.Dup) bs = numbered-low bs (number_of bs) refl (λ k. said.Step (step.Dup k)) (λ k low. low)
after-low (word.Step kind.Lose) bs = numbered-low bs (number_of bs) refl (λ k. said.Step (step.Lose k)) (λ k low. low)
after-low (word.Step kind.Crash) bs = numbered-low bs (number_of bs) refl (λ n. said.Step (step.Crash n)) (λ n low. low)
after-low (word.Step kind.Reboot) bs = numbered-low bs (number_of bs) refl (λ n. said.Step (step.Reboot n)) (λ n low. low)
after-low word.Act bs = numbered-low bs (number_of bs) refl (λ n. said.Act n) (λ n low. tt)
after-low word.Stop bs = stop-low (cut bs)

named-low : (bs : List ℕ) (o : Option LineWord) → IfOk (and_then (ok_or o why.UnknownWord) (λ w. said_after w bs)) IsLow
named-low bs None = tt
named-low bs (Some w) = after-low w bs

word-low : (o : Option (List ℕ × List ℕ)) → IfOk (and_then (ok_or o why.UnknownWord) (λ p. and_then (ok_or (word_named p.0) why.UnknownWord) (λ w. said_after w p.1))) IsLow
word-low None = tt
word-low (Some p) = named-low p.1 (word_named p.0)

said-low : (l : List ℕ) → IfOk (said_of l) IsLow
said-low l = word-low (cut l)

module _ {I : Type 0} (f : List ℕ → Option I) (HasIn : I → Type 0) (has_text : (bs : List ℕ) (i : I) → f bs ≡ Some i → HasIn i) where
  with-input : (n : ℕ) (bs : List ℕ) (o : Option I) → n < 4294967296 → f bs ≡ o → IfOk (and_then (ok_or o why.Text) (λ i. Ok (step.In n i))) (IsSpellable HasIn)
  with-input n bs None low is = tt
  with-input n bs (Some i) low is = (low, has_text bs i is)

  said-spellable : (x : Said (List ℕ)) → IsLow x → IfOk (step_said f x) (IsSpellable HasIn)
  said-spellable (said.Step (step.In n text)) low = with-input n text (f text) low refl
  said-spellable (said.Step (step.Deliver k)) low = low
  said-spellable (said.Step (step.Tick n)) low = low
  said-spellable (said.Step (step.Dup k)) low = low
  said-spellable (said.Step (step.Lose k)) low = low
  said-spellable (said.Step (step.Crash n)) low = low
  said-spellable (said.Step (step.Reboot n)) low = low
  said-spellable (said.Act n) low = tt
  said-spellable (said.Stop n c) low = tt

  unless-many : (b : Bool) (r : Result (Step I) Why) → IfOk r (IsSpellable HasIn) → IfOk (cond b (Err why.TooManyEvents) r) (IsSpellable HasIn)
  unless-many true r has = tt
  unless-many false r has = has

  by-said : (events : ℕ) (r : Result (Said (List ℕ)) Why) → IfOk r IsLow → IfOk (and_then r (λ x. if nat_le MAX_STEPS events then Err why.TooManyEvents else step_said f x)) (IsSpellable HasIn)
  by-said events (Err w) low = tt
  by-said events (Ok x) low = unless-many (nat_le MAX_STEPS events) (step_said f x) (said-spellable x low)

  -- a step that a line is read as, after so many events
  pub step-spellable : (events : ℕ) (l : List ℕ) → IfOk (step_or_refusal f events l) (IsSpellable HasIn)
  step-spellable events l = by-said events (said_of l) (said-low l)
