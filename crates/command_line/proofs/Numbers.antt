-- What the getters of clap read: numbers of 8 and of 32 bits, and whether a flag is there.
use Rattle.std.proofs.Common.{◌≡◌, ◌∙◌, ◌<◌, ◌≤◌, ◌^◌, ◌-◌, ℕ, Bool, true, false, refl, sym, ap, arith, Option, Some, None, Result, Ok, Err, if◌then◌else◌, true≢false, codes}
use Rattle.std.specs.Prelude.{option_and_then, pos, unwrap_or}
use Rattle.std.specs.Option.{option_map_or}
use Rattle.std.specs.Str.{bytes_eq}
use Rattle.std.specs.Str.Parse.{IsNumeral, ParsesBool, ParsesUnsigned, digits_value, without_leading_plus}
use Rattle.std.proofs.lemmas.Slice.Eq.{bytes_eq-Decides}
use Rattle.clap.specs.Lexer.{without_minus}
use Rattle.clap.specs.Matches.{ReadsOne}
use Rattle.clap.specs.Values.{IsUnsignedIn}
use Rattle.clap.specs.ValueTests.{accepts, is_unsigned_in}
use Rattle.clap.specs.Walk.{Text}
use Rattle.clap.specs.declared.builder.value_parser.ValueParser.TheVariants.{Signed, Unsigned}
use Rattle.clap.proofs.CallerReads.{signed_reads}
use Rattle.clap.proofs.ValueTestLemmas.{Accepts-accepts, accepts-Accepts}
use Rattle.command_line.specs.CommandSet.{number_of_bits}

-- the text writes a number of so many bits
abbrev Writes : ℕ → Text → Type 0
Writes bits t = IsNumeral 10 (without_leading_plus t) × (digits_value 10 (without_leading_plus t) < 2 ^ bits)

-- so many bits are some, and not more than clap reads
abbrev pub IsWidth : ℕ → Type 0
IsWidth bits = (1 ≤ 2 ^ bits) × (2 ^ bits ≤ 2 ^ 64)

written : (bits : ℕ) (t : Text) → IsWidth bits → is_unsigned_in 0 (2 ^ bits - 1) t ≡ true → Writes bits t
written bits t width e =
    let is : IsUnsignedIn 0 (2 ^ bits - 1) t = accepts-Accepts false (Unsigned 0 (2 ^ bits - 1)) t e in
    (is.0, omega (arith, width.0))

written_back : (bits : ℕ) (t : Text) → IsWidth bits → Writes bits t → is_unsigned_in 0 (2 ^ bits - 1) t ≡ true
written_back bits t width is = Accepts-accepts false (Unsigned 0 (2 ^ bits - 1)) t (is.0, omega (arith, width.1), omega arith, omega arith)

-- what an unsigned type reads from a text is the number of the text
number_is : {E : Type 0} (gives : Text → Result ℕ E → Type 0) (bits : ℕ) (t : Text) (o : Option ℕ) → IsWidth bits → ((u : Text) (r : Result ℕ E) → gives u r → ParsesUnsigned bits 10 u r)
    → ReadsOne gives t o → o ≡ number_of_bits bits t
number_is gives bits t (Some n) width parses h =
    let parsed = parses t (Ok n) h in
    ap Some parsed.1 ∙ ap (λ b. if b then Some (digits_value 10 (without_leading_plus t)) else None) (sym (written_back bits t width parsed.0))
number_is gives bits t None width parses h = ap (λ b. if b then Some (digits_value 10 (without_leading_plus t)) else None) (sym (none (is_unsigned_in 0 (2 ^ bits - 1) t) refl))
  where
    none : (b : Bool) → is_unsigned_in 0 (2 ^ bits - 1) t ≡ b → is_unsigned_in 0 (2 ^ bits - 1) t ≡ false
    none false e = e
    none true e = absurd (parses t (Err h.0) h.1 (written bits t width e))

-- and so of the text of an option, if it has one
pub option_number_is : {E : Type 0} (gives : Text → Result ℕ E → Type 0) (bits : ℕ) (text : Option Text) (o : Option ℕ) → IsWidth bits → (text ≡ None → o ≡ None)
    → ((t : Text) → text ≡ Some t → ReadsOne gives t o) → ((u : Text) (r : Result ℕ E) → gives u r → ParsesUnsigned bits 10 u r) → o ≡ option_and_then (number_of_bits bits) text
option_number_is gives bits None o width none value parses = none refl
option_number_is gives bits (Some t) o width none value parses = number_is gives bits t o width parses (value t refl)

-- and the number of a text is what the type reads from it
number_reads : (bits : ℕ) (t : Text) → IsWidth bits → ReadsOne (ParsesUnsigned {E = Unit {0}} bits 10) t (number_of_bits bits t)
number_reads bits t width = by_test (is_unsigned_in 0 (2 ^ bits - 1) t) refl
  where
    by_test : (b : Bool) → is_unsigned_in 0 (2 ^ bits - 1) t ≡ b → ReadsOne (ParsesUnsigned {E = Unit {0}} bits 10) t (if b then Some (digits_value 10 (without_leading_plus t)) else None)
    by_test true e = (written bits t width e, refl)
    by_test false e = (tt, λ is. absurd (true≢false (sym (written_back bits t width is) ∙ e)))

-- a text that passed a range of numbers is read as one of them
pub number_in_range : (bits least most : ℕ) (t : Text) → IsWidth bits → most < 2 ^ bits → accepts false (Signed (pos least) (pos most)) t ≡ true
    → (n : ℕ) × (number_of_bits bits (without_minus t) ≡ Some n) × (least ≤ n) × (n ≤ most)
number_in_range bits least most t width fits e =
    signed_reads (Unit {0}) (ParsesUnsigned bits 10) bits least most t (number_of_bits bits (without_minus t)) (number_reads bits (without_minus t) width) (λ u x h. h) fits
    (accepts-Accepts false (Signed (pos least) (pos most)) t e)

-- what `bool` reads from a text is whether it is `true`
flag_is : (E : Type 0) (t : Text) (o : Option Bool) → ReadsOne (ParsesBool {E = E}) t o → unwrap_or o false ≡ bytes_eq t (codes "true")
flag_is E t (Some true) h = sym ((bytes_eq-Decides t (codes "true")).1 h)
flag_is E t (Some false) h = ap (λ u. bytes_eq u (codes "true")) (sym h)
flag_is E t None h = by_test (bytes_eq t (codes "true")) refl
  where
    by_test : (b : Bool) → bytes_eq t (codes "true") ≡ b → false ≡ bytes_eq t (codes "true")
    by_test false e = sym e
    by_test true e = absurd (h.1.0 ((bytes_eq-Decides t (codes "true")).0 e))

pub option_flag_is : (E : Type 0) (text : Option Text) (o : Option Bool) → (text ≡ None → o ≡ None) → ((t : Text) → text ≡ Some t → ReadsOne (ParsesBool {E = E}) t o)
    → unwrap_or o false ≡ option_map_or (λ t. bytes_eq t (codes "true")) text false
option_flag_is E None o none value = ap (λ o. unwrap_or o false) (none refl)
option_flag_is E (Some t) o none value = flag_is E t o (value t refl)
