-- A number in range has so many bytes, reads back from them, and is read of no others.
use Rattle.std.proofs.Common.{◌≡◌, ◌/◌, ◌%◌, ℕ, zero, suc, ◌+◌, ◌*◌, ◌^◌, ◌<◌, ◌≤◌, ◌&&◌, Bool, true, false, List, [], ◌∷◌, ◌++◌, length, take, drop, slice_index, refl, sym, ap, subst, ◌∙◌, arith, Option, Some, None, if◌then◌else◌, nat_le, nat_lt, length-append, lit<}
use Rattle.std.specs.Int.{byte_at, bytes_high_first}
use Rattle.std.specs.List.{list_all}
use Rattle.std.proofs.Math.Nat.{div-one, mod-eq_of_lt, mod-lt, mul-add-div_right, mul-add-mod_self_right, one-le-pow, pow-suc}
use Rattle.std.proofs.lemmas.Nat.{div-mul-add, pow-add}
use Rattle.std.proofs.lemmas.List.{length-take-le, take_all, take-append-drop}
use Rattle.std.proofs.Math.Seq.{take-append_seam, drop-append_seam, drop-cons}
use Rattle.std.proofs.lemmas.Bool.{and_parts, and_from, leb-true, le-leb, ltb-true, lt-ltb}
use Rattle.byteorder.specs.Endian.{big_from}
use Rattle.byteorder.specs.Numbers.{big_from-lt, big_from-take, big_number-reads_back, length-bytes_high_first}
use Rattle.wire_fields.specs.Bytes.{number_bytes, number_in, has_bytes, read_number}
use Rattle.wire_fields.specs.FormatLaws.{same_answer}

pub length-number_bytes : (n x : ℕ) → length (number_bytes n x) ≡ n
unfolding number_bytes
length-number_bytes n x = length-bytes_high_first n x

byte_at-div : (k x : ℕ) → byte_at k x ≡ x / 256 ^ k % 256
byte_at-div zero x = ap (λ (y : ℕ). y % 256) (sym (div-one x))
byte_at-div (suc k) x = refl

pow_pos : (k : ℕ) → 0 < 256 ^ k
pow_pos k = let h = one-le-pow k 256 (omega arith) in omega arith

-- a byte of a number does not depend on what stands above
byte_below : (k d a r : ℕ) → byte_at k (a * 256 ^ (suc d + k) + r) ≡ byte_at k r
byte_below k d a r =
    let split : a * 256 ^ (suc d + k) ≡ (a * 256 ^ d * 256) * 256 ^ k = rw (pow-add 256 (suc d) k, pow-suc 256 d) (grind arith) in
    byte_at-div k (a * 256 ^ (suc d + k) + r)
    ∙ ap (λ (x : ℕ). (x + r) / 256 ^ k % 256) split
    ∙ ap (λ (x : ℕ). x % 256) (mul-add-div_right (pow_pos k) (a * 256 ^ d * 256) r)
    ∙ mul-add-mod_self_right (a * 256 ^ d) 256 (r / 256 ^ k)
    ∙ sym (byte_at-div k r)

bytes_below : (k d a r : ℕ) → bytes_high_first k (a * 256 ^ (d + k) + r) ≡ bytes_high_first k r
bytes_below zero d a r = refl
bytes_below (suc k) d a r =
    let same : d + suc k ≡ suc d + k = omega arith in
    let more = bytes_below k (suc d) a r in
    let first = byte_below k d a r in
    subst (λ (n : ℕ). bytes_high_first (suc k) (a * 256 ^ n + r) ≡ bytes_high_first (suc k) r) (sym same)
    (λ i. first i ∷ more i)

byte_above : (n a r : ℕ) → a < 256 → r < 256 ^ n → byte_at n (a * 256 ^ n + r) ≡ a
byte_above n a r small fits =
    byte_at-div n (a * 256 ^ n + r) ∙ ap (λ (x : ℕ). x % 256) (div-mul-add a (256 ^ n) r fits) ∙ mod-eq_of_lt small

-- the bytes of the number that bytes are, are those bytes
bytes_of_number : (i n : ℕ) (xs : List ℕ) → ((k : ℕ) → slice_index xs k < 256) → i + n ≤ length xs → bytes_high_first n (big_from i n xs) ≡ take n (drop i xs)
bytes_of_number i zero xs small h = refl
bytes_of_number i (suc n) xs small h =
    let a = slice_index xs i in
    let r = big_from (suc i) n xs in
    let below : i < length xs = omega arith in
    let first : byte_at n (a * 256 ^ n + r) ≡ a = byte_above n a r (small i) (big_from-lt (suc i) n xs small) in
    let zero_n : 0 + n ≡ n = omega arith in
    let more : bytes_high_first n (a * 256 ^ n + r) ≡ bytes_high_first n r =
    subst (λ (m : ℕ). bytes_high_first n (a * 256 ^ m + r) ≡ bytes_high_first n r) zero_n (bytes_below n 0 a r) in
    let there = bytes_of_number (suc i) n xs small (omega arith) in
    let cut = drop-cons xs i 0 below in
    let made : ◌≡◌ {A = List ℕ} (byte_at n (a * 256 ^ n + r) ∷ bytes_high_first n (a * 256 ^ n + r)) (a ∷ take n (drop (suc i) xs)) =
    λ j. first j ∷ (more ∙ there) j in
    made ∙ ap (take (suc n)) (sym cut)

-- bytes are below 256, at each place
small_bytes : (xs : List ℕ) → list_all (λ b. nat_lt b 256) xs ≡ true → (k : ℕ) → slice_index xs k < 256
small_bytes [] pass k = lit< tt
small_bytes (x ∷ xs) pass zero = ltb-true x 256 (and_parts _ _ pass).0
small_bytes (x ∷ xs) pass (suc k) = small_bytes xs (and_parts _ _ pass).1 k

bytes_small : (n x : ℕ) → list_all (λ b. nat_lt b 256) (bytes_high_first n x) ≡ true
bytes_small zero x = refl
bytes_small (suc n) x =
    let below : byte_at n x < 256 = subst (λ (b : ℕ). b < 256) (sym (byte_at-div n x)) (mod-lt (x / 256 ^ n) (lit< tt)) in
    and_from _ _ (lt-ltb (byte_at n x) 256 below) (bytes_small n x)

-- where a number is read, by its parts
pub number_read : (n low high x : ℕ) (bs : List ℕ) → has_bytes n bs ≡ true → number_in n bs ≡ x → low ≤ x → x ≤ high → read_number n low high bs ≡ Some (x, drop n bs)
unfolding read_number
number_read n low high x bs has is at_least at_most =
    let within = λ (y : ℕ). has_bytes n bs && (nat_le low y && nat_le y high) in
    let passes : within x ≡ true = and_from _ _ has (and_from _ _ (le-leb low x at_least) (le-leb x high at_most)) in
    let answer : Bool → ℕ → Option (ℕ × List ℕ) = λ b y. let found : Option (ℕ × List ℕ) = Some (y, drop n bs) in if b then found else None in
    ap (λ (y : ℕ). answer (within y) y) is ∙ ap (λ b. answer b x) passes

-- where none is
pub no_number : (n low high : ℕ) (bs : List ℕ) → (has_bytes n bs && (nat_le low (number_in n bs) && nat_le (number_in n bs) high)) ≡ false → read_number n low high bs ≡ None
unfolding read_number
no_number n low high bs fails = ap (λ b. let found : Option (ℕ × List ℕ) = Some (number_in n bs, drop n bs) in if b then found else None) fails

take_bytes : (n x : ℕ) (rest : List ℕ) → take n (number_bytes n x ++ rest) ≡ number_bytes n x
take_bytes n x rest = subst (λ (k : ℕ). take k (number_bytes n x ++ rest) ≡ number_bytes n x) (length-number_bytes n x) (take-append_seam (number_bytes n x) rest)

drop_bytes : (n x : ℕ) (rest : List ℕ) → drop n (number_bytes n x ++ rest) ≡ rest
drop_bytes n x rest = subst (λ (k : ℕ). drop k (number_bytes n x ++ rest) ≡ rest) (length-number_bytes n x) (drop-append_seam (number_bytes n x) rest)

all_small : (n x : ℕ) → list_all (λ b. nat_lt b 256) (number_bytes n x) ≡ true
unfolding number_bytes
all_small n x = bytes_small n x

has_number_bytes : (n x : ℕ) (rest : List ℕ) → has_bytes n (number_bytes n x ++ rest) ≡ true
unfolding has_bytes
has_number_bytes n x rest =
    let long : n ≤ length (number_bytes n x ++ rest) = omega (arith, length-append (number_bytes n x) rest, length-number_bytes n x) in
    and_from _ _ (le-leb n _ long) (ap (list_all (λ b. nat_lt b 256)) (take_bytes n x rest) ∙ all_small n x)

number_in_bytes : (n x : ℕ) (rest : List ℕ) → x < 256 ^ n → number_in n (number_bytes n x ++ rest) ≡ x
unfolding number_bytes number_in
number_in_bytes n x rest fits = big_number-reads_back n x rest fits

pub number_back : (n low high x : ℕ) (rest : List ℕ) → high < 256 ^ n → low ≤ x → x ≤ high → read_number n low high (number_bytes n x ++ rest) ≡ Some (x, rest)
number_back n low high x rest fits at_least at_most =
    let below : x < 256 ^ n = omega arith in
    number_read n low high x (number_bytes n x ++ rest) (has_number_bytes n x rest) (number_in_bytes n x rest below) at_least at_most
    ∙ ap (λ r. let found : Option (ℕ × List ℕ) = Some (x, r) in found) (drop_bytes n x rest)

-- the first n bytes are those of the number that they are
bytes_in : (n : ℕ) (bs : List ℕ) → has_bytes n bs ≡ true → number_bytes n (number_in n bs) ≡ take n bs
unfolding number_bytes number_in has_bytes
bytes_in n bs has =
    let parts = and_parts _ _ has in
    let long : n ≤ length bs = leb-true n _ parts.0 in
    let front = take n bs in
    let size : length front ≡ n = length-take-le n bs long in
    let within : 0 + n ≤ length front = omega (arith, size) in
    let same : big_from 0 n front ≡ big_from 0 n bs = big_from-take 0 n n bs (omega arith) in
    ap (bytes_high_first n) (sym same) ∙ bytes_of_number 0 n front (small_bytes front parts.1) within ∙ take_all n front (omega (arith, size))

number_one_by : (n low high x : ℕ) (bs rest : List ℕ) (b : Bool) → (has_bytes n bs && (nat_le low (number_in n bs) && nat_le (number_in n bs) high)) ≡ b
    → ◌≡◌ {A = Option (ℕ × List ℕ)} (if b then Some (number_in n bs, drop n bs) else None) (Some (x, rest)) → ((low ≤ x) × (x ≤ high)) × (bs ≡ number_bytes n x ++ rest)
number_one_by n low high x bs rest true passes e =
    let parts = and_parts _ _ passes in
    let range = and_parts _ _ parts.1 in
    let same = same_answer (number_in n bs) x (drop n bs) rest e in
    let y = number_in n bs in
    let spelled : ((low ≤ y) × (y ≤ high)) × (bs ≡ number_bytes n y ++ drop n bs) =
    ((leb-true low y range.0, leb-true y high range.1), sym (take-append-drop n bs) ∙ ap (λ front. front ++ drop n bs) (sym (bytes_in n bs parts.0))) in
    subst (λ r. ((low ≤ x) × (x ≤ high)) × (bs ≡ number_bytes n x ++ r)) same.1 (subst (λ (u : ℕ). ((low ≤ u) × (u ≤ high)) × (bs ≡ number_bytes n u ++ drop n bs)) same.0 spelled)
number_one_by n low high x bs rest false passes e = cc

pub number_one : (n low high x : ℕ) (bs rest : List ℕ) → read_number n low high bs ≡ Some (x, rest) → ((low ≤ x) × (x ≤ high)) × (bs ≡ number_bytes n x ++ rest)
unfolding read_number
number_one n low high x bs rest e = number_one_by n low high x bs rest (has_bytes n bs && (nat_le low (number_in n bs) && nat_le (number_in n bs) high)) refl e
