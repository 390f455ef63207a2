-- The steps of a script have lines: each was read from one.
use Rattle.std.specs.Prelude.{◌≡◌, ℕ, Bool, ◌+◌, ◌≤◌, List, [], ◌∷◌, length, Option, Some, None, Result, Ok, Err, IfOk, cond}
use Rattle.std.proofs.Common.{arith, subst}
use Rattle.vst_base.specs.Firsts.{first_of}
use Rattle.vst_base.specs.declared.step.Step.{Step}
use Rattle.line_reader.specs.declared.why.Why.{Why}
use Rattle.line_reader.specs.Whys.{line_refusals}
use Rattle.net_semantics.specs.Once.{delivered_after, is_repeat, once_from}
use Rattle.schedule_text.specs.declared.line.Line.{Line}
use Rattle.schedule_text.specs.declared.line.Line.TheVariants.{Skipped, IsStep, Refused}
use Rattle.schedule_text.specs.Reading.{is_skipped, line_of, line_unless, read_line, step_or_refusal}
use Rattle.schedule_text.specs.Schedules.{Script, script, script_line}
use Rattle.schedule_text.specs.Spellable.{IsSpellable}
use Rattle.schedule_replay.specs.Explained.{most_lines, steps_of}
use Rattle.trace_check.specs.Spelled.{events_in}
use Rattle.trace_check.proofs.Counts.{steps-few}
use Rattle.trace_check.proofs.Eaches.{either}
use Rattle.trace_check.proofs.Events.{events-few}
use Rattle.schedule_text.proofs.SpellableLaws.{step-spellable}
use Rattle.lists.specs.Each.{Each}

module _ {I : Type 0} (f : List ℕ → Option I) (HasIn : I → Type 0) (has_text : (bs : List ℕ) (i : I) → f bs ≡ Some i → HasIn i) where
  abbrev IsReadLine : Line I → Type 0
  IsReadLine Skipped = Unit {0}
  IsReadLine (IsStep s) = IsSpellable HasIn s
  IsReadLine (Refused w) = Unit {0}

  step-line : (r : Result (Step I) Why) → IfOk r (IsSpellable HasIn) → IsReadLine (line_of r)
  step-line (Err w) has = tt
  step-line (Ok s) has = has

  unless-line : (w : Option Why) (l : Line I) → IsReadLine l → IsReadLine (line_unless w l)
  unless-line (Some w) l has = tt
  unless-line None l has = has

  line-spellable : (most number events : ℕ) (l : List ℕ) → IsReadLine (read_line most f number events l)
  line-spellable most number events l =
      let says = line_of (step_or_refusal f events l) in
      unless-line (first_of (line_refusals most number l)) (cond (is_skipped l) Skipped says)
      (either IsReadLine (is_skipped l) Skipped says tt (step-line (step_or_refusal f events l) (step-spellable f HasIn has_text events l)))

  line-steps : (l : Line I) (number events : ℕ) (rest : ℕ → Script I) → IsReadLine l → ((e : ℕ) → Each (IsSpellable HasIn) (steps_of (rest e))) → Each (IsSpellable HasIn) (steps_of (script_line l number events rest))
  line-steps Skipped number events rest has more = more events
  line-steps (IsStep s) number events rest has more = (has, more (events + 1))
  line-steps (Refused w) number events rest has more = tt

  script-spellable : (most number events : ℕ) (ls : List (List ℕ)) → Each (IsSpellable HasIn) (steps_of (script most f number events ls))
  script-spellable most number events [] = tt
  script-spellable most number events (l ∷ ls) =
      line-steps (read_line most f number events l) number events (λ e. script most f (number + 1) e ls) (line-spellable most number events l) (λ e. script-spellable most (number + 1) e ls)

-- steps that have texts, a million events at most among them
pub record AreReadSteps {I : Type 0} (HasIn : I → Type 0) (ss : List (Step I)) : Type 0 where
  pub texts : Each (IsSpellable HasIn) ss
  pub few : events_in ss ≤ 1000000

-- so it is of steps that lines say, of which there are a million at most
module _ {I : Type 0} (f : List ℕ → Option I) (number : ℕ) (ls : List (List ℕ)) (ss : List (Step I)) (says : steps_of (script most_lines f number 0 ls) ≡ ss) where
  pub million-read : length ss ≤ 1000000
  million-read = subst (λ ts. length ts ≤ 1000000) says (steps-few f most_lines number ls)

  pub steps-read : (HasIn : I → Type 0) → ((bs : List ℕ) (i : I) → f bs ≡ Some i → HasIn i) → AreReadSteps HasIn ss
  steps-read HasIn has_text = record {
    texts = subst (Each (IsSpellable HasIn)) says (script-spellable f HasIn has_text most_lines number 0 ls);
    few = let all = million-read in omega (arith, all, events-few ss);
  }

-- a schedule without its repeats has no other steps
pub once-each : {I : Type 0} (P : Step I → Type 0) (delivered : ℕ → Bool) (ss : List (Step I)) → Each P ss → Each P (once_from delivered ss)
once-each P delivered [] all = tt
once-each P delivered (s ∷ ss) all =
    let rest = once-each P (delivered_after delivered s) ss all.1 in
    either (Each P) (is_repeat delivered s) (once_from (delivered_after delivered s) ss) (s ∷ once_from (delivered_after delivered s) ss) rest (all.0, rest)
