-- The first line of a text.
use Rattle.std.proofs.Common.{◌≡◌, ℕ, List, [], ◌∷◌, ◌++◌, codes, length, Option, Some, refl, sym, ap, ◌∙◌, arith}
use Rattle.std.proofs.lemmas.List.{append_cancel_right}
use Rattle.line_reader.specs.Lines.{lines_of, whole_lines}
use Rattle.line_reader.proofs.reading_examples.worked_reading.Goals as goal

pub returns-clause-a_line : goal.returns-clause-a_line
returns-clause-a_line c = (
  codes "ab\n",
  record {
    rest' = codes "c";
    left = record { unread = []; left_is = refl; rest_is = refl; at_end = λ e. absurd (cc e) };
    whole = refl;
    lines = refl;
    closed = λ e. refl;
    advanced = refl;
    number = refl;
    stays = λ e. absurd (cc e);
  },
  record {
    rest' = codes "c";
    left = record { unread = []; left_is = refl; rest_is = refl; at_end = λ e. absurd (cc e) };
    used = codes "ab\n";
    whole = refl;
    later = omega arith;
    decides = refl;
    few = omega arith;
  },
  refl,
  refl,
)

pub returns-clause-a_line_of_the_source : goal.returns-clause-a_line_of_the_source
returns-clause-a_line_of_the_source c = (
  codes "ab\n",
  record {
    rest' = codes "c";
    left = record { unread = codes "c"; left_is = refl; rest_is = refl; at_end = λ e. absurd (cc e) };
    whole = refl;
    lines = refl;
    closed = λ e. refl;
    advanced = refl;
    number = refl;
    stays = λ e. absurd (cc e);
  },
  record {
    rest' = codes "c";
    left = record { unread = codes "c"; left_is = refl; rest_is = refl; at_end = λ e. absurd (cc e) };
    used = codes "ab\n";
    whole = refl;
    later = omega arith;
    decides = refl;
    few = omega arith;
  },
  refl,
  refl,
)

-- the bytes that were used, where this is left
used_is : (text rest rest' used front : List ℕ) → text ≡ used ++ rest' → rest' ≡ rest → text ≡ front ++ rest → used ≡ front
used_is text rest rest' used front whole is e =
    append_cancel_right used front rest (ap (λ xs. used ++ xs) (sym is) ∙ (sym whole ∙ e))

-- nothing is left with a source that tells that it has none
none_left : (unread : List ℕ) → ◌≡◌ {A = Option (List ℕ)} (Some []) (Some unread) → unread ≡ []
none_left unread e = cc e

abbrev first_length : List (List ℕ) → ℕ
first_length [] = 0
first_length (l ∷ ls) = length l

pub returns-clause-another_line : goal.returns-clause-another_line
returns-clause-another_line c = λ x.
    let is : x.1.rest' ≡ codes "c" = x.1.left.rest_is ∙ ap (λ xs. codes "c" ++ xs) (none_left x.1.left.unread x.1.left.left_is) in
    let used : x.0 ≡ codes "ab\n" = used_is (codes "ab\nc") (codes "c") x.1.rest' x.0 (codes "ab\n") x.1.whole is refl in
    let size : ◌≡◌ {A = ℕ} 2 1 =
    ap (λ ls. first_length ls) (sym (ap (λ xs. lines_of xs) used) ∙ x.3) in
    omega (arith, size)

pub returns-clause-a_byte_lost : goal.returns-clause-a_byte_lost
returns-clause-a_byte_lost c = λ x.
    let is : x.1.rest' ≡ [] = x.1.left.rest_is ∙ none_left x.1.left.unread x.1.left.left_is in
    let used : x.0 ≡ codes "ab\nc" = used_is (codes "ab\nc") [] x.1.rest' x.0 (codes "ab\nc") x.1.whole is refl in
    let size : ◌≡◌ {A = ℕ} 2 1 = ap (λ ls. length ls) (sym (ap (λ xs. lines_of xs) used) ∙ x.3) in
    omega (arith, size)

pub returns-clause-uncounted : goal.returns-clause-uncounted
returns-clause-uncounted c = λ x.
    let size : length (lines_of x.0) ≡ 1 = ap (λ ls. length ls) x.3 in
    omega (arith, x.1.number, size)

pub returns-clause-broke_off : goal.returns-clause-broke_off
returns-clause-broke_off c = (codes "ab", record { rest' = codes "c"; left_is = refl; whole = refl; short = omega arith }, refl)

pub returns-clause-broke_off_after_it : goal.returns-clause-broke_off_after_it
returns-clause-broke_off_after_it c = λ x.
    let is : x.1.rest' ≡ codes "c" = cc x.1.left_is in
    let part : x.0 ≡ codes "a\n" = used_is (codes "a\nc") (codes "c") x.1.rest' x.0 (codes "a\n") x.1.whole is refl in
    let size : ◌≡◌ {A = ℕ} 1 0 = ap (λ ls. length ls) (sym (ap (λ xs. whole_lines xs) part) ∙ x.2) in
    omega (arith, size)
