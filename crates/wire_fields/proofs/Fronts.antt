-- What the code finds in front of bytes is the number that is read there.
use Rattle.std.proofs.Common.{◌≡◌, ℕ, zero, suc, ◌<◌, ◌≤◌, true, false, nat_lt, List, [], ◌∷◌, length, take, drop, ◌-◌, slice_index, Option, Some, None, refl, sym, ap, subst, ◌∙◌, arith, Fits, w8, get_or, if◌then◌else◌, Result, Ok, Err, OnOk}
use Rattle.std.specs.List.{list_all}
use Rattle.std.proofs.lemmas.Bool.{and_from, and_left, and_right, le-leb, lt-leb, lt-ltb}
use Rattle.byteorder.specs.Endian.{big_from}
use Rattle.wire_fields.specs.ByteLaws.{no_number, number_read}
use Rattle.wire_fields.specs.Fields.{raw}
use Rattle.wire_fields.specs.Bytes.{has_bytes, number_in, read_number}
use Rattle.lists.specs.Places.{take_rest}

small_front : (n : ℕ) (bs : List ℕ) → ((k : ℕ) → slice_index bs k < 256) → list_all (λ b. nat_lt b 256) (take n bs) ≡ true
small_front zero bs small = refl
small_front (suc n) [] small = refl
small_front (suc n) (b ∷ bs) small = and_from _ _ (lt-ltb b 256 (small 0)) (small_front n bs (λ k. small (suc k)))

short : (n : ℕ) (bs : List ℕ) → length bs < n → has_bytes n bs ≡ false
unfolding has_bytes
short n bs less = and_left _ _ (lt-leb n (length bs) less)

pub number_short : (n low high : ℕ) (bs : List ℕ) → length bs < n → read_number n low high bs ≡ None
number_short n low high bs less = no_number n low high bs (and_left _ _ (short n bs less))

pub number_below : (n low high x : ℕ) (bs : List ℕ) → x ≡ big_from 0 n bs → x < low → read_number n low high bs ≡ None
unfolding number_in
number_below n low high x bs is below =
    no_number n low high bs (and_right _ _ (and_left _ _ (lt-leb low _ (subst (λ (y : ℕ). y < low) is below))))

pub number_above : (n low high x : ℕ) (bs : List ℕ) → x ≡ big_from 0 n bs → high < x → read_number n low high bs ≡ None
unfolding number_in
number_above n low high x bs is above =
    no_number n low high bs (and_right _ _ (and_right _ _ (lt-leb _ high (subst (λ (y : ℕ). high < y) is above))))

pub number_there : (n low high x : ℕ) (bs : List ℕ) → n ≤ length bs → ((k : ℕ) → Fits w8 (get_or bs k 0)) → x ≡ big_from 0 n bs → low ≤ x → x ≤ high
    → read_number n low high bs ≡ Some (x, take (length bs - n) (drop n bs))
unfolding number_in has_bytes
number_there n low high x bs long small is at_least at_most =
    number_read n low high x bs (and_from _ _ (le-leb n _ long) (small_front n bs (λ k. omega (arith, small k)))) (sym is) at_least at_most
    ∙ ap (λ rest. let found : Option (ℕ × List ℕ) = Some (x, rest) in found) (sym (take_rest n bs))

has_front : (n : ℕ) (bs : List ℕ) → n ≤ length bs → ((k : ℕ) → Fits w8 (get_or bs k 0)) → has_bytes n bs ≡ true
unfolding has_bytes
has_front n bs long small = and_from _ _ (le-leb n _ long) (small_front n bs (λ k. omega (arith, small k)))

-- so many bytes are there, or fewer are
pub raw_there : (n : ℕ) (bs : List ℕ) → n ≤ length bs → ((k : ℕ) → Fits w8 (get_or bs k 0)) → (raw n).read bs ≡ Some (take n bs, take (length bs - n) (drop n bs))
raw_there n bs long small =
    ap (λ b. let found : Option (List ℕ × List ℕ) = Some (take n bs, drop n bs) in if b then found else None) (has_front n bs long small)
    ∙ ap (λ rest. let found : Option (List ℕ × List ℕ) = Some (take n bs, rest) in found) (sym (take_rest n bs))

pub raw_short : (n : ℕ) (bs : List ℕ) → length bs < n → (raw n).read bs ≡ None
raw_short n bs less = ap (λ b. let found : Option (List ℕ × List ℕ) = Some (take n bs, drop n bs) in if b then found else None) (short n bs less)

-- each byte of bytes is below 256
all_small : (bs : List ℕ) → ((k : ℕ) → Fits w8 (get_or bs k 0)) → list_all (λ b. nat_lt b 256) bs ≡ true
all_small [] small = refl
all_small (b ∷ bs) small = and_from _ _ (lt-ltb b 256 (omega (arith, small 0))) (all_small bs (λ k. small (suc k)))

pub raw_fits : {T E : Type 0} (r : Result T E) (bs : List ℕ) → ((k : ℕ) → Fits w8 (get_or bs k 0)) → OnOk r ((raw (length bs)).Fits bs)
raw_fits (Ok x) bs small = (refl, all_small bs small)
raw_fits (Err e) bs small = tt
