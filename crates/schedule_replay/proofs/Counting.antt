-- The counts of a trace never pass 64 bits: a step adds at most what clients see of one event.
use Rattle.std.specs.Prelude.{◌≡◌, ◌⊎◌, ℕ, ◌+◌, ◌≤◌, Bool, true, List, [], length, Option}
use Rattle.std.proofs.Common.{inl, inr, ap, arith}
use Rattle.std.proofs.lemmas.List.Sums.{count_by-le-length}
use Rattle.net_semantics.specs.Taking.{GrowsBy}
use Rattle.vst_base.specs.declared.step.Item.{Item}
use Rattle.vst_base.specs.declared.step.Step.{Step}
use Rattle.vst_base.specs.declared.step.TheConstants.{MAX_STEPS}
use Rattle.line_reader.specs.Readers.{ReaderView}
use Rattle.schedule_text.specs.Reading.{tells_next}
use Rattle.xform_stack.specs.Running.{Progress}
use Rattle.stacks.specs.Plays.{Texts}
use Rattle.schedule_replay.specs.declared.tally.Tally.{Tally}
use Rattle.schedule_replay.specs.Playing.{Waits, Writes}
use Rattle.schedule_replay.specs.Replaying.{is_input, is_output, is_reply_by}
use Rattle.schedule_replay.specs.Tallying.{HasRoom, IsOfSteps, tallied}

-- what was not counted yet has room
pub has-room : {n more : ℕ} {tally : Tally} → IsOfSteps n more tally → n ≤ MAX_STEPS → HasRoom tally more
has-room of few = record {
  inputs = omega (arith, of.inputs, few);
  outputs = omega (arith, of.outputs, few);
  replies = omega (arith, of.replies, few);
}

-- one more step was taken
pub of-step : {n m more more' : ℕ} {tally : Tally} → IsOfSteps n more tally → m ≡ n + 1 → GrowsBy more more' → IsOfSteps m more' tally
of-step of next grows = record {
  inputs = omega (arith, of.inputs, next, grows.most);
  outputs = omega (arith, of.outputs, next, grows.most);
  replies = omega (arith, of.replies, next, grows.most);
}

-- all items were counted
of-counted : {I O : Type 0} (is_reply : O → Bool) {n : ℕ} (items : List (Item I O)) {tally tally' : Tally}
    → IsOfSteps n (length items) tally → tally' ≡ tallied is_reply tally items → IsOfSteps n 0 tally'
of-counted is_reply items of is = rw is (record {
  inputs = omega (arith, of.inputs, count_by-le-length is_input items);
  outputs = omega (arith, of.outputs, count_by-le-length is_output items);
  replies = omega (arith, of.replies, count_by-le-length (is_reply_by is_reply) items);
})

-- whether what clients saw was written or waits
module _ {R I O : Type 0} {follows : R → List (Step I) → Type 0} {progress : R → Progress I O} {t : Texts I O} {reader : ReaderView}
    {v u : R} {tally tally' : Tally} {out out' : Option (List ℕ)}
    (before : Waits reader v u tally tally' out out' ⊎ Writes follows progress t v u tally tally' out out') where
  pub as-many : (progress u).taken ≡ (progress v).taken
  as-many = elim before [
    | inl w ↦ ap (λ x. (progress x).taken) w.same
    | inr w ↦ ap (λ (p : Progress I O). p.taken) w.forgets
  ]

  pub of-before-reading : IsOfSteps (progress v).taken (length (progress v).trace) tally
      → IsOfSteps (progress u).taken (length (progress u).trace) tally'
  of-before-reading of = elim before [
    | inl w ↦ rw (w.same, w.counts) of
    | inr w ↦ rw w.forgets (of-counted t.is_reply (progress v).trace of w.counted)
  ]

  -- where no line was read ahead all was written
  pub all-written : (tells_next reader.ahead ≡ true → ⊥) → (progress u).trace ≡ []
  all-written no-line = elim before [
    | inl w ↦ absurd (no-line w.told)
    | inr w ↦ ap (λ (p : Progress I O). p.trace) w.forgets
  ]
