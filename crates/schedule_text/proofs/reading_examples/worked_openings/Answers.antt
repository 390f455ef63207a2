-- The header of a text.
use Rattle.std.proofs.Common.{◌≡◌, ℕ, List, [], ◌++◌, codes, length, Option, Some, refl, sym, ap, ◌∙◌, arith}
use Rattle.std.proofs.lemmas.List.{append-nil}
use Rattle.line_reader.specs.Lines.{lines_of}
use Rattle.schedule_text.specs.Headers as headers
use Rattle.schedule_text.proofs.reading_examples.worked_openings.Goals as goal

pub returns-clause-opens : goal.returns-clause-opens
unfolding headers.header_of
returns-clause-opens c = (
  codes "#\nschedule 1 bag lock 2\n",
  record {
    rest' = [];
    left = record { unread = []; left_is = refl; rest_is = refl; at_end = λ e. refl };
    whole = refl;
    lines = refl;
    closed = λ e. refl;
    advanced = refl;
    number = refl;
    stays = λ e. absurd (cc e);
  },
  record {
    rest' = [];
    left = record { unread = []; left_is = refl; rest_is = refl; at_end = λ e. refl };
    used = codes "#\nschedule 1 bag lock 2\n";
    whole = refl;
    later = omega arith;
    decides = refl;
    few = omega arith;
  },
  refl,
)

none_left : (unread : List ℕ) → ◌≡◌ {A = Option (List ℕ)} (Some []) (Some unread) → unread ≡ []
none_left unread e = cc e

-- nothing is left, so both lines were used
pub returns-clause-uncounted : goal.returns-clause-uncounted
returns-clause-uncounted c = λ x.
    let text : List ℕ = codes "#\nschedule 1 bag lock 2\n" in
    let is : x.1.rest' ≡ [] = x.1.left.rest_is ∙ none_left x.1.left.unread x.1.left.left_is in
    let used : x.0 ≡ text = sym (append-nil x.0) ∙ (ap (λ xs. x.0 ++ xs) (sym is) ∙ sym x.1.whole) in
    let size : length (lines_of x.0) ≡ 2 = ap (λ xs. length (lines_of xs)) used in
    omega (arith, x.1.number, size)

pub returns-clause-ends_before_it : goal.returns-clause-ends_before_it
returns-clause-ends_before_it c = (
  record {
    rest' = [];
    left = record { unread = []; left_is = refl; rest_is = refl; at_end = λ e. refl };
    used = [];
    whole = refl;
    later = omega arith;
    decides = refl;
    few = omega arith;
  },
  refl,
)

pub returns-clause-broke_off : goal.returns-clause-broke_off
returns-clause-broke_off c =
    (codes "#\ns", record { rest' = codes "ched"; left_is = refl; whole = refl; short = omega arith }, 2, refl)
