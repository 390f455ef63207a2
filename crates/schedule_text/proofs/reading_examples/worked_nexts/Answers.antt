-- The next step of a text.
use Rattle.std.proofs.Common.{◌≡◌, ℕ, List, [], ◌∷◌, ◌++◌, codes, length, Option, Some, refl, sym, ap, ◌∙◌, arith}
use Rattle.std.proofs.lemmas.List.{append-nil}
use Rattle.app_text.specs.LockTexts.{input_of}
use Rattle.line_reader.specs.Lines.{lines_of}
use Rattle.schedule_text.specs.Schedules.{script}
use Rattle.vst_base.specs.declared.lock.LockInput.{LockInput}
use Rattle.vst_base.specs.declared.step.Step.{Step}
use Rattle.vst_base.specs.declared.step.Step.TheVariants as step
use Rattle.schedule_text.proofs.reading_examples.worked_nexts.Goals as goal

pub returns-clause-a_step : goal.returns-clause-a_step
returns-clause-a_step c = (
  codes "tick 0\n",
  record {
    rest' = [];
    left = record { unread = []; left_is = refl; rest_is = refl; at_end = λ e. refl };
    whole = refl;
    lines = refl;
    closed = λ e. refl;
    advanced = refl;
    number = refl;
    stays = λ e. absurd (cc e);
  },
  record {
    rest' = [];
    left = record { unread = []; left_is = refl; rest_is = refl; at_end = λ e. refl };
    used = codes "tick 0\n";
    whole = refl;
    later = omega arith;
    decides = refl;
    few = omega arith;
  },
  refl,
)

pub returns-clause-after_a_comment : goal.returns-clause-after_a_comment
returns-clause-after_a_comment c = (
  codes "#\ntick 0\n",
  record {
    rest' = [];
    left = record { unread = []; left_is = refl; rest_is = refl; at_end = λ e. refl };
    whole = refl;
    lines = refl;
    closed = λ e. refl;
    advanced = refl;
    number = refl;
    stays = λ e. absurd (cc e);
  },
  record {
    rest' = [];
    left = record { unread = []; left_is = refl; rest_is = refl; at_end = λ e. refl };
    used = codes "#\ntick 0\n";
    whole = refl;
    later = omega arith;
    decides = refl;
    few = omega arith;
  },
  refl,
)

none_left : (unread : List ℕ) → ◌≡◌ {A = Option (List ℕ)} (Some []) (Some unread) → unread ≡ []
none_left unread e = cc e

-- where nothing is left, all was used
all_used : (text used rest : List ℕ) → text ≡ used ++ rest → rest ≡ [] → used ≡ text
all_used text used rest whole is = sym (append-nil used) ∙ (ap (λ xs. used ++ xs) (sym is) ∙ sym whole)

pub returns-clause-uncounted : goal.returns-clause-uncounted
returns-clause-uncounted c = λ x.
    let used : x.0 ≡ codes "#\ntick 0\n" =
    all_used (codes "#\ntick 0\n") x.0 x.1.rest' x.1.whole (x.1.left.rest_is ∙ none_left x.1.left.unread x.1.left.left_is) in
    let size : length (lines_of x.0) ≡ 2 = ap (λ xs. length (lines_of xs)) used in
    omega (arith, x.1.number, size)

-- whether the first step is a tick
abbrev ticks : List (ℕ × Step LockInput) → ℕ
ticks ((number, step.Tick node) ∷ ss) = 1
ticks ss = 0

pub returns-clause-another : goal.returns-clause-another
returns-clause-another c = λ x.
    let used : x.0 ≡ codes "tick 0\n" =
    all_used (codes "tick 0\n") x.0 x.1.rest' x.1.whole (x.1.left.rest_is ∙ none_left x.1.left.unread x.1.left.left_is) in
    let first : ◌≡◌ {A = ℕ} 1 0 =
    ap (λ s. ticks s.steps) (sym (ap (λ xs. script 2000000 input_of 2 0 (lines_of xs)) used) ∙ x.3) in
    omega (arith, first)

pub returns-clause-broke_off : goal.returns-clause-broke_off
returns-clause-broke_off c =
    (codes "tick", record { rest' = codes " 0\n"; left_is = refl; whole = refl; short = omega arith }, refl)
