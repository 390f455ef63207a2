-- Each field is a format.
use Rattle.std.proofs.Common.{◌≡◌, ℕ, Bool, true, false, ◌&&◌, IsTrue, nat_le, nat_lt, List, [], ◌∷◌, ◌++◌, length, take, drop, ◌≤◌, ◌<◌, ◌^◌, Option, Some, None, if◌then◌else◌, refl, sym, ap, subst, ◌∙◌, arith, length-append, lit<}
use Rattle.std.proofs.Math.Seq.{take-append_seam, drop-append_seam}
use Rattle.std.proofs.lemmas.Bool.{and_parts, and_from, leb-true, le-leb}
use Rattle.std.proofs.lemmas.List.{length-take-le, take-append-drop}
use Rattle.std.specs.List.{list_all}
use Rattle.vst_base.specs.Tokens.{is_token}
use Rattle.vst_base.specs.declared.token.TheConstants.{MAX_KEY, MAX_VALUE}
use Rattle.wire_fields.specs.ByteLaws.{number_back, number_one}
use Rattle.wire_fields.specs.Bytes.{has_bytes}
use Rattle.wire_fields.specs.Fields.{number, token_of_length, token, flag_byte, read_flag, flag, option_kinds, option_part, optional, raw, key, value}
use Rattle.wire_fields.specs.FormatLaws.{keyed_is_format, nothing_is_format, same_answer}
use Rattle.wire_fields.specs.Formats.{Format, IsFormat, IsSpelled}
pub use Rattle.wire_fields.specs.KindLaws.{by_byte}
use Rattle.wire_fields.specs.KindLaws.{make_of, one_of_is_format}

pub number_is_format : (n low high : ℕ) → high < 256 ^ n → IsFormat (number n low high)
number_is_format n low high fits = record {
  reads_back = λ x rest range. number_back n low high x rest fits range.0 range.1;
  one_spelling = λ bs x rest e. let is = number_one n low high x bs rest e in record { fits = is.0; bytes = is.1 };
}

token_here : (most n : ℕ) (bs : List ℕ) (token rest : List ℕ) (b : Bool) → (nat_le n (length bs) && is_token most (take n bs)) ≡ b
    → ◌≡◌ {A = Option (List ℕ × List ℕ)} (if b then Some (take n bs, drop n bs) else None) (Some (token, rest)) → IsSpelled (token_of_length most n) bs token rest
token_here most n bs token rest true passes e =
    let parts = and_parts _ _ passes in
    let same = same_answer (take n bs) token (drop n bs) rest e in
    let long : n ≤ length bs = leb-true n _ parts.0 in
    let spelled : IsSpelled (token_of_length most n) bs (take n bs) (drop n bs) = record { fits = (length-take-le n bs long, parts.1); bytes = sym (take-append-drop n bs) } in
    subst (λ r. IsSpelled (token_of_length most n) bs token r) same.1 (subst (λ t. IsSpelled (token_of_length most n) bs t (drop n bs)) same.0 spelled)
token_here most n bs token rest false passes e = cc

token_of_length_is_format : (most n : ℕ) → IsFormat (token_of_length most n)
token_of_length_is_format most n = record { reads_back = back; one_spelling = λ bs v rest e. token_here most n bs v rest (nat_le n (length bs) && is_token most (take n bs)) refl e }
  where
    answer : Bool → List ℕ → List ℕ → Option (List ℕ × List ℕ)
    answer b t r = if b then Some (t, r) else None

    at_length : (v rest : List ℕ) → is_token most v ≡ true → (token_of_length most (length v)).read (v ++ rest) ≡ Some (v, rest)
    at_length v rest is =
        let front = take-append_seam v rest in
        let end = drop-append_seam v rest in
        let long : length v ≤ length (v ++ rest) = omega (arith, length-append v rest) in
        let passes : (nat_le (length v) (length (v ++ rest)) && is_token most (take (length v) (v ++ rest))) ≡ true = and_from _ _ (le-leb _ _ long) (ap (is_token most) front ∙ is) in
        ap (λ b. let found : Option (List ℕ × List ℕ) = Some (take (length v) (v ++ rest), drop (length v) (v ++ rest)) in if b then found else None) passes
        ∙ (λ i. let found : Option (List ℕ × List ℕ) = Some (front i, end i) in found)

    back : (v rest : List ℕ) → (length v ≡ n) × IsTrue (is_token most v) → (token_of_length most n).read (v ++ rest) ≡ Some (v, rest)
    back v rest fits = subst (λ (k : ℕ). (token_of_length most k).read (v ++ rest) ≡ Some (v, rest)) fits.0 (at_length v rest fits.1)

pub token_is_format : (width most : ℕ) → most < 256 ^ width → IsFormat (token width most)
token_is_format width most fits =
    keyed_is_format length (number width 1 most) (token_of_length most) (λ n v fits. fits.0) (number_is_format width 1 most fits) (λ n. token_of_length_is_format most n)

flag_one : (bs : List ℕ) (v : Bool) (rest : List ℕ) → read_flag bs ≡ Some (v, rest) → IsSpelled flag bs v rest
flag_one [] v rest e = cc
flag_one (b ∷ bs) v rest e =
    by_byte b 0 _ _ (v, rest)
    (λ is found. let same = same_answer false v bs rest found in
    subst (λ r. IsSpelled flag (b ∷ bs) v r) same.1 (subst (λ u. IsSpelled flag (b ∷ bs) u bs) same.0 (record { fits = tt; bytes = ap (λ c. c ∷ bs) is })))
    (by_byte b 1 _ _ (v, rest)
    (λ is found. let same = same_answer true v bs rest found in
    subst (λ r. IsSpelled flag (b ∷ bs) v r) same.1 (subst (λ u. IsSpelled flag (b ∷ bs) u bs) same.0 (record { fits = tt; bytes = ap (λ c. c ∷ bs) is })))
    (λ none. cc)) e

flag_back : (v : Bool) (rest : List ℕ) → read_flag (flag_byte v ∷ [] ++ rest) ≡ Some (v, rest)
flag_back false rest = refl
flag_back true rest = refl

pub flag_is_format : IsFormat flag
flag_is_format = record { reads_back = λ v rest fits. flag_back v rest; one_spelling = flag_one }

pub optional_is_format : {A : Type 0} (f : Format A) → IsFormat f → IsFormat (optional f)
optional_is_format {A} f is_f =
    one_of_is_format (option_kinds f) (option_part f) made ((λ _. refl), ((λ a. refl), tt)) refl (nothing_is_format, (is_f, tt))
  where
    made : (v : Option A) → make_of (option_kinds f) (option_part f v) ≡ v
    made None = refl
    made (Some a) = refl

pub raw_there : (n : ℕ) (v rest : List ℕ) → length v ≡ n → list_all (λ b. nat_lt b 256) v ≡ true → (raw n).read (v ++ rest) ≡ Some (v, rest)
unfolding has_bytes
raw_there n v rest size small =
    let front : take n (v ++ rest) ≡ v = subst (λ (k : ℕ). take k (v ++ rest) ≡ v) size (take-append_seam v rest) in
    let end : drop n (v ++ rest) ≡ rest = subst (λ (k : ℕ). drop k (v ++ rest) ≡ rest) size (drop-append_seam v rest) in
    let long : n ≤ length (v ++ rest) = omega (arith, length-append v rest, size) in
    let passes : has_bytes n (v ++ rest) ≡ true = and_from _ _ (le-leb n _ long) (ap (list_all (λ b. nat_lt b 256)) front ∙ small) in
    ap (λ b. let found : Option (List ℕ × List ℕ) = Some (take n (v ++ rest), drop n (v ++ rest)) in if b then found else None) passes
    ∙ (λ i. let found : Option (List ℕ × List ℕ) = Some (front i, end i) in found)

raw_one : (n : ℕ) (bs v rest : List ℕ) (b : Bool) → has_bytes n bs ≡ b → ◌≡◌ {A = Option (List ℕ × List ℕ)} (if b then Some (take n bs, drop n bs) else None) (Some (v, rest)) → IsSpelled (raw n) bs v rest
unfolding has_bytes
raw_one n bs v rest true passes e =
    let parts = and_parts _ _ passes in
    let same = same_answer (take n bs) v (drop n bs) rest e in
    let spelled : IsSpelled (raw n) bs (take n bs) (drop n bs) = record { fits = (length-take-le n bs (leb-true n _ parts.0), parts.1); bytes = sym (take-append-drop n bs) } in
    subst (λ r. IsSpelled (raw n) bs v r) same.1 (subst (λ u. IsSpelled (raw n) bs u (drop n bs)) same.0 spelled)
raw_one n bs v rest false passes e = cc

pub raw_is_format : (n : ℕ) → IsFormat (raw n)
raw_is_format n = record { reads_back = λ v rest fits. raw_there n v rest fits.0 fits.1; one_spelling = λ bs v rest e. raw_one n bs v rest (has_bytes n bs) refl e }

pub key_is_format : IsFormat key
key_is_format = token_is_format 1 MAX_KEY (lit< tt)

pub value_is_format : IsFormat value
value_is_format = token_is_format 2 MAX_VALUE (lit< tt)
