-- How many steps a script has, and how many inputs and lines of an image they come to.
use Rattle.std.specs.Prelude.{◌≡◌, ℕ, zero, suc, ◌+◌, ◌<◌, ◌≤◌, Bool, true, false, ◌==◌, nat_le, List, [], ◌∷◌, ◌++◌, length, map, take, count_by, Option, Some, None, Result, Ok, Err, IfOk, cond, refl}
use Rattle.std.proofs.Common.{arith}
use Rattle.std.proofs.lemmas.Bool.Decides.{nat_tests}
use Rattle.std.proofs.lemmas.List.Sums.{sum_by-append, sum_by-cons}
use Rattle.vst_base.specs.Firsts.{first_of}
use Rattle.vst_base.specs.declared.pb_out.PbOut.{PbOut}
use Rattle.vst_base.specs.declared.step.Item.{Item}
use Rattle.vst_base.specs.declared.step.Item.TheVariants as item
use Rattle.vst_base.specs.declared.step.Step.{Step}
use Rattle.vst_base.specs.declared.step.Step.TheVariants as step
use Rattle.handler_trait.specs.Handling.{Meaning, Recovery}
use Rattle.line_reader.specs.declared.why.Why.{Why}
use Rattle.line_reader.specs.declared.why.Why.TheVariants as why
use Rattle.line_reader.specs.Whys.{line_refusals}
use Rattle.net_semantics.specs.BelowPb.{below_pb, inputs_at, outputs_at, replies_in}
use Rattle.net_semantics.specs.Once.{delivered_after, is_repeat, once_from}
use Rattle.net_semantics.specs.Runs.{trace_from}
use Rattle.net_semantics.specs.Steps.{Event, event_of, input_item, items_of, items_of_event, next}
use Rattle.net_semantics.specs.Worlds.{World}
use Rattle.schedule_text.specs.declared.line.Line.{Line}
use Rattle.schedule_text.specs.declared.line.Line.TheVariants.{Skipped, IsStep, Refused}
use Rattle.schedule_text.specs.Reading.{is_skipped, and_then, line_of, line_unless, read_line, said_of, step_or_refusal, step_said}
use Rattle.schedule_text.specs.Schedules.{Script, script, script_line}
use Rattle.schedule_replay.specs.Replaying.{is_input}
use Rattle.schedule_replay.specs.Explained.{steps_of}
use Rattle.trace_check.specs.Spelled.{event_count, events_in}
use Rattle.trace_check.proofs.Eaches.{either}

-- a script has a million steps at most
module _ {I : Type 0} (f : List ℕ → Option I) where
  abbrev IsFewLine : ℕ → Line I → Type 0
  IsFewLine events Skipped = Unit {0}
  IsFewLine events (IsStep s) = events < 1000000
  IsFewLine events (Refused w) = Unit {0}

  few-read : (events : ℕ) (r : Result (Step I) Why) → IfOk r (λ s. events < 1000000) → IsFewLine events (line_of r)
  few-read events (Err w) few = tt
  few-read events (Ok s) few = few

  few-unless : (events : ℕ) (o : Option Why) (l : Line I) → IsFewLine events l → IsFewLine events (line_unless o l)
  few-unless events (Some w) l few = tt
  few-unless events None l few = few

  below-million : (events : ℕ) → nat_le 1000000 events ≡ false → events < 1000000
  below-million events e = grind (arith, nat_tests)

  few-room : (events : ℕ) (b : Bool) → nat_le 1000000 events ≡ b → (r : Result (Step I) Why) → IfOk (cond b (Err why.TooManyEvents) r) (λ s. events < 1000000)
  few-room events true is r = tt
  few-room events false is (Err w) = tt
  few-room events false is (Ok s) = below-million events is

  few-said : {X : Type 0} (says : X → Result (Step I) Why) (events : ℕ) (r : Result X Why) → IfOk (and_then r (λ x. cond (nat_le 1000000 events) (Err why.TooManyEvents) (says x))) (λ s. events < 1000000)
  few-said says events (Err w) = tt
  few-said says events (Ok x) = few-room events (nat_le 1000000 events) refl (says x)

  few-line : (most number events : ℕ) (l : List ℕ) → IsFewLine events (read_line most f number events l)
  few-line most number events l =
      let says = line_of (step_or_refusal f events l) in
      few-unless events (first_of (line_refusals most number l)) (cond (is_skipped l) Skipped says)
      (either (IsFewLine events) (is_skipped l) Skipped says tt (few-read events (step_or_refusal f events l) (few-said (step_said f) events (said_of l))))

  line-count : (l : Line I) (number events : ℕ) (rest : ℕ → Script I) → IsFewLine events l → events ≤ 1000000 → ((e : ℕ) → e ≤ 1000000 → e + length (steps_of (rest e)) ≤ 1000000)
      → events + length (steps_of (script_line l number events rest)) ≤ 1000000
  line-count Skipped number events rest few within more = more events within
  line-count (IsStep s) number events rest few within more = let behind = more (events + 1) (omega (arith, few)) in omega (arith, behind)
  line-count (Refused w) number events rest few within more = omega (arith, within)

  script-count : (most number events : ℕ) (ls : List (List ℕ)) → events ≤ 1000000 → events + length (steps_of (script most f number events ls)) ≤ 1000000
  script-count most number events [] within = omega (arith, within)
  script-count most number events (l ∷ ls) within =
      line-count (read_line most f number events l) number events (λ e. script most f (number + 1) e ls) (few-line most number events l) within (λ e low. script-count most (number + 1) e ls low)

  pub steps-few : (most number : ℕ) (ls : List (List ℕ)) → length (steps_of (script most f number 0 ls)) ≤ 1000000
  steps-few most number ls = let all = script-count most number 0 ls (omega arith) in omega (arith, all)

-- an event takes one input at most
pub counted-first : {I O : Type 0} (x : Item I O) (xs : List (Item I O)) → count_by is_input (x ∷ xs) ≡ cond (is_input x) 1 0 + count_by is_input xs
counted-first x xs = sum_by-cons (λ y. cond (is_input y) 1 0) x xs

counted-both : {I O : Type 0} (xs ys : List (Item I O)) → count_by is_input (xs ++ ys) ≡ count_by is_input xs + count_by is_input ys
counted-both xs ys = sum_by-append (λ y. cond (is_input y) 1 0) xs ys

no-inputs : {O : Type 0} (I : Type 0) (n : ℕ) (os : List O) → count_by (is_input {I = I} {O = O}) (map (λ o. item.Output n o) os) ≤ 0
no-inputs I n [] = omega arith
no-inputs I n (o ∷ os) = let rest = no-inputs I n os in omega (arith, rest, counted-first {I = I} (item.Output n o) (map (λ o. item.Output n o) os))

one-input : {I : Type 0} (O : Type 0) (n : ℕ) (i : Option I) → count_by (is_input {I = I} {O = O}) (input_item n i) ≤ 1
one-input O n None = omega arith
one-input O n (Some i) = omega (arith, counted-first {O = O} (item.Input n i) [])

module _ {I O : Type 0} where
  event-inputs : {S M : Type 0} (e : Option (Event S I O M)) → count_by is_input (items_of_event e) ≤ 1
  event-inputs None = omega arith
  event-inputs (Some e) =
      let first = one-input O e.node e.input in
      let second = no-inputs I e.node e.effect.outputs in
      omega (arith, first, second, counted-both (input_item e.node e.input) (map (λ o. item.Output e.node o) e.effect.outputs))

  -- a step that is no event takes none
  step-inputs : {S K M : Type 0} (m : Meaning S I O M) (w : World S K M) (s : Step I) → count_by is_input (items_of m w s) ≤ event_count s
  step-inputs m w (step.In n i) = event-inputs (event_of m w (step.In n i))
  step-inputs m w (step.Deliver k) = event-inputs (event_of m w (step.Deliver k))
  step-inputs m w (step.Tick n) = event-inputs (event_of m w (step.Tick n))
  step-inputs m w (step.Dup k) = omega arith
  step-inputs m w (step.Lose k) = omega arith
  step-inputs m w (step.Crash n) = omega arith
  step-inputs m w (step.Reboot n) = omega arith

  pub trace-inputs : {S K M : Type 0} (m : Meaning S I O M) (r : Recovery S K) (w : World S K M) (ss : List (Step I)) → count_by is_input (trace_from m r w ss) ≤ events_in ss
  trace-inputs m r w [] = omega arith
  trace-inputs m r w (s ∷ ss) =
      let first = step-inputs m w s in
      let rest = trace-inputs m r (next m r w s) ss in
      omega (arith, first, rest, counted-both (items_of m w s) (trace_from m r (next m r w s) ss))

-- no image has more lines than the steps have inputs, or than there are steps
pub once-few : {I : Type 0} (delivered : ℕ → Bool) (ss : List (Step I)) → length (once_from delivered ss) ≤ length ss
once-few delivered [] = omega arith
once-few delivered (s ∷ ss) =
    let rest = once-few (delivered_after delivered s) ss in
    let left = once_from (delivered_after delivered s) ss in
    either (λ ts. length ts ≤ suc (length ss)) (is_repeat delivered s) left (s ∷ left) (omega (arith, rest)) (omega (arith, rest))

take-few : {A : Type 0} (n : ℕ) (xs : List A) → length (take n xs) ≤ length xs
take-few zero [] = omega arith
take-few zero (x ∷ xs) = omega arith
take-few (suc n) [] = omega arith
take-few (suc n) (x ∷ xs) = let rest = take-few n xs in omega (arith, rest)

inputs-few : {C O : Type 0} (n : ℕ) (items : List (Item C (PbOut O))) → length (inputs_at n items) ≤ count_by is_input items
inputs-few n [] = omega arith
inputs-few n (item.Input k c ∷ items) =
    let behind = inputs-few n items in
    let rest = either (λ cs. length cs ≤ suc (count_by is_input items)) (k == n) (c ∷ inputs_at n items) (inputs_at n items) (omega (arith, behind)) (omega (arith, behind)) in
    omega (arith, rest, counted-first (item.Input k c) items)
inputs-few n (item.Output k o ∷ items) = let rest = inputs-few n items in omega (arith, rest, counted-first (item.Output k o) items)

pub below-few : {C O : Type 0} (items : List (Item C (PbOut O))) → length (below_pb items) ≤ count_by is_input items
below-few items =
    let first = take-few (replies_in (outputs_at 0 items)) (inputs_at 0 items) in
    let second = inputs-few 0 items in
    omega (arith, first, second)
