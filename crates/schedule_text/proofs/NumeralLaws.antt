-- Each number has one numeral, its decimal digits.
use Rattle.std.specs.Prelude.{◌≡◌, ℕ, Bool, true, false, ◌&&◌, ◌+◌, ◌^◌, ◌<◌, ◌≤◌, nat_le, List, [], ◌∷◌, length, Some, None, cond, refl}
use Rattle.std.specs.Fmt.{decimal}
use Rattle.std.specs.List.{list_all}
use Rattle.std.proofs.Common.{inl, inr, ap, subst, ◌∙◌, sym, rules, arith, get_or}
use Rattle.std.proofs.lemmas.Bool.{and_parts, and_from, le-leb, leb-true, cases_lt}
use Rattle.std.proofs.lemmas.Fmt.{decimal_digit, first_decimal, digits_decimal, digits_value-decimal, decimal-digits_value}
use Rattle.std.proofs.lemmas.Str.Parse.{IsNumeralModel, numerals_by_fold}
use Rattle.schedule_text.specs.Reading.{number_of}
use Rattle.schedule_text.specs.Words.{is_digit, is_numeral, number_up_to, value_from}

-- the library's laws of digits hold of these
pub own : IsNumeralModel (λ ds. list_all is_digit ds ≡ true) (value_from 0)
own = numerals_by_fold _ (search rules) value_from (search rules)

numeral_of_digits : (ds : List ℕ) → list_all is_digit ds ≡ true → 48 < get_or ds 0 0 → is_numeral ds ≡ true
numeral_of_digits [] all high = absurd (omega arith)
numeral_of_digits (b ∷ []) all high = (and_parts (is_digit b) true all).0
numeral_of_digits (b ∷ c ∷ bs) all high =
    let digits : (is_digit b ≡ true) × (list_all is_digit (c ∷ bs) ≡ true) = and_parts (is_digit b) (list_all is_digit (c ∷ bs)) all in
    and_from (nat_le 49 b && is_digit b) (list_all is_digit (c ∷ bs)) (and_from (nat_le 49 b) (is_digit b) (le-leb 49 b (omega arith)) digits.0) digits.1

digit_is_numeral : (n : ℕ) → n < 10 → is_numeral ((48 + n) ∷ []) ≡ true
digit_is_numeral n small = and_from (nat_le 48 (48 + n)) (nat_le (48 + n) 57) (le-leb 48 (48 + n) (omega arith)) (le-leb (48 + n) 57 (omega arith))

decimal_is_numeral : (n : ℕ) → n < 2 ^ 64 → is_numeral (decimal n) ≡ true
decimal_is_numeral n fits = elim (cases_lt n 10) [
  | inl small ↦ rw (decimal_digit n small) (digit_is_numeral n small)
  | inr large ↦ numeral_of_digits (decimal n) (digits_decimal own n (omega arith)) (first_decimal n (omega arith) (omega arith))
]

number_by : (t : Bool) (v n most : ℕ) → t ≡ true → v ≡ n → n ≤ most → cond (t && nat_le v most) (Some v) None ≡ Some n
number_by t v n most is same fits = rw (is, same, le-leb n most fits) refl

pub number_up_to-decimal : (most n : ℕ) → n ≤ most → most < 2 ^ 64 → number_up_to most (decimal n) ≡ Some n
number_up_to-decimal most n fits low =
    let small : n < 2 ^ 64 = omega (arith, fits, low) in
    number_by (is_numeral (decimal n)) (value_from 0 (decimal n)) n most (decimal_is_numeral n small) (digits_value-decimal own n small) fits

pub number_of-decimal : (n : ℕ) → n < 4294967296 → number_of (decimal n) ≡ Some n
number_of-decimal n fits = number_up_to-decimal 4294967295 n (omega arith) (omega arith)

-- what a numeral is made of
record NumeralParts (ds : List ℕ) : Type 0 where
  all : list_all is_digit ds ≡ true
  some : 0 < length ds
  no_zero : get_or ds 0 0 ≡ 48 → length ds ≡ 1

numeral_parts : (ds : List ℕ) → is_numeral ds ≡ true → NumeralParts ds
numeral_parts [] is = cc
numeral_parts (b ∷ []) is = record { all = and_from (is_digit b) true is refl; some = omega arith; no_zero = λ e. refl }
numeral_parts (b ∷ c ∷ bs) is =
    let parts : ((nat_le 49 b && is_digit b) ≡ true) × (list_all is_digit (c ∷ bs) ≡ true) = and_parts (nat_le 49 b && is_digit b) (list_all is_digit (c ∷ bs)) is in
    let first : (nat_le 49 b ≡ true) × (is_digit b ≡ true) = and_parts (nat_le 49 b) (is_digit b) parts.0 in
    record { all = and_from (is_digit b) (list_all is_digit (c ∷ bs)) first.1 parts.1; some = omega arith; no_zero = λ e. absurd (omega (arith, leb-true 49 b first.0)) }

some_by : (t : Bool) (v n most : ℕ) → cond (t && nat_le v most) (Some v) None ≡ Some n → (t ≡ true) × (v ≡ n) × (v ≤ most)
some_by true v n most e = some_within (nat_le v most) v n most (leb-true v most) e where
  some_within : (u : Bool) (v n most : ℕ) → (u ≡ true → v ≤ most) → cond u (Some v) None ≡ Some n → (◌≡◌ {A = Bool} true true) × (v ≡ n) × (v ≤ most)
  some_within true v n most low e = (refl, cc, low refl)
  some_within false v n most low e = cc
some_by false v n most e = cc

-- a numeral of at most this number is its decimal digits
pub record IsNumeralOf (most : ℕ) (bs : List ℕ) (n : ℕ) : Type 0 where
  pub digits : bs ≡ decimal n
  pub fits : n ≤ most

decimal_of_value : (most : ℕ) (ds : List ℕ) (n : ℕ) → NumeralParts ds → value_from 0 ds ≡ n → value_from 0 ds ≤ most → most < 2 ^ 64 → ds ≡ decimal n
decimal_of_value most ds n parts same fits low = sym (decimal-digits_value own ds parts.all parts.some parts.no_zero (omega (arith, fits, low))) ∙ ap decimal same

pub numeral_read : (most : ℕ) (bs : List ℕ) (n : ℕ) → most < 2 ^ 64 → number_up_to most bs ≡ Some n → IsNumeralOf most bs n
numeral_read most bs n low e =
    let parts : (is_numeral bs ≡ true) × (value_from 0 bs ≡ n) × (value_from 0 bs ≤ most) = some_by (is_numeral bs) (value_from 0 bs) n most e in
    record { digits = decimal_of_value most bs n (numeral_parts bs parts.0) parts.1 parts.2 low; fits = subst (λ v. v ≤ most) parts.1 parts.2 }

pub decimal_of_number : (bs : List ℕ) (n : ℕ) → number_of bs ≡ Some n → bs ≡ decimal n
decimal_of_number bs n e = (numeral_read 4294967295 bs n (omega arith) e).digits
