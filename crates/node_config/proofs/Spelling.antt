-- Each address has one text.
use Rattle.std.specs.Prelude.{◌≡◌, ℕ, zero, suc, ◌<◌, ◌≤◌, ◌==◌, ◌⊎◌, nat_le, true, false, List, [], ◌∷◌, ◌++◌, length, Option, Some, None, option_map, option_and_then, refl}
use Rattle.std.specs.Fmt.{decimal}
use Rattle.std.specs.List.{list_all}
use Rattle.std.proofs.Common.{inl, inr, ap, sym, ◌∙◌, subst, append_assoc, arith, eq-eqb}
use Rattle.std.proofs.lemmas.Bool.{and_parts, and_from, leb-true, le-leb}
use Rattle.std.proofs.lemmas.Bool.Decides.{nat_tests}
use Rattle.std.proofs.lemmas.Fmt.{digits_decimal}
use Rattle.std.proofs.lemmas.Option.{option_and_then_some, same_Some}
use Rattle.line_reader.specs.Lines.{cut_at}
use Rattle.line_reader.proofs.Cutting.{cut-here, cut-parts, none-from}
use Rattle.outside.specs.declared.device.Address.{Address}
use Rattle.schedule_text.specs.Words.{is_digit, number_up_to}
use Rattle.schedule_text.proofs.NumeralLaws.{numeral_read, number_up_to-decimal, own}
use Rattle.node_config.specs.Addresses.{IsAddress, address_of, address_text, ends, is_byte, number_before, numbers_before, numbers_text, port_of, positive}

-- no digit is a byte that ends a number
abbrev IsEnd : ℕ → Type 0
IsEnd end = (end < 48) ⊎ (57 < end)

abbrev AreEnds : List ℕ → Type 0
AreEnds [] = Unit {0}
AreEnds (end ∷ others) = IsEnd end × AreEnds others

differs : (d end : ℕ) → 48 ≤ d → d ≤ 57 → IsEnd end → (d == end) ≡ false
differs d end low high h = grind (arith, nat_tests)

no-end : (end : ℕ) (ds : List ℕ) → IsEnd end → list_all is_digit ds ≡ true → cut_at end ds ≡ None
no-end end [] h all = refl
no-end end (d ∷ ds) h all =
    let parts = and_parts (is_digit d) (list_all is_digit ds) all in
    let digit = and_parts (nat_le 48 d) (nat_le d 57) parts.0 in
    none-from end d ds (differs d end (leb-true 48 d digit.0) (leb-true d 57 digit.1) h) (no-end end ds h parts.1)

-- a number before its byte
before-read : (end n : ℕ) (rest : List ℕ) → IsEnd end → n ≤ 255 → number_before end (decimal n ++ end ∷ rest) ≡ Some (n, rest)
unfolding number_before
before-read end n rest h fits =
    let cut = cut-here end (decimal n) rest (no-end end (decimal n) h (digits_decimal own n (omega arith))) (eq-eqb end end refl) in
    ap (λ o. option_and_then (λ (p : List ℕ × List ℕ). option_and_then (λ m. Some (m, p.1)) (number_up_to 255 p.0)) o) cut
    ∙ ap (λ o. option_and_then (λ m. Some (m, rest)) o) (number_up_to-decimal 255 n fits (omega arith))

record IsBefore (end : ℕ) (text : List ℕ) (p : ℕ × List ℕ) : Type 0 where
  whole : text ≡ decimal p.0 ++ end ∷ p.1
  small : p.0 ≤ 255

before-parts : (end : ℕ) (text : List ℕ) (p : ℕ × List ℕ) → number_before end text ≡ Some p → IsBefore end text p
unfolding number_before
before-parts end text p e =
    option_and_then_some _ (cut_at end text) p e (λ q q_is e1.
    option_and_then_some _ (number_up_to 255 q.0) p e1 (λ m m_is e2.
    let cut = cut-parts end text q q_is in
    let number = numeral_read 255 q.0 m (omega arith) m_is in
    subst (IsBefore end text) (same_Some _ _ e2) (record {
      whole = cut.whole ∙ ap (λ xs. xs ++ end ∷ q.1) number.digits;
      small = number.fits;
    })))

-- numbers before their bytes
numbers-read : (es ns rest : List ℕ) → AreEnds es → length ns ≡ length es → list_all is_byte ns ≡ true → numbers_before es (numbers_text es ns ++ rest) ≡ Some (ns, rest)
numbers-read [] [] rest h same all = refl
numbers-read [] (n ∷ ns) rest h same all = absurd (omega (arith, same))
numbers-read (end ∷ es) [] rest h same all = absurd (omega (arith, same))
numbers-read (end ∷ es) (n ∷ ns) rest h same all =
    let parts = and_parts (is_byte n) (list_all is_byte ns) all in
    let later = numbers-read es ns rest h.1 (omega (arith, same)) parts.1 in
    ap (λ text. option_and_then (λ (p : ℕ × List ℕ). option_map (λ (q : List ℕ × List ℕ). (p.0 ∷ q.0, q.1)) (numbers_before es p.1)) (number_before end text)) (append_assoc (decimal n) (end ∷ numbers_text es ns) rest)
    ∙ (ap (λ o. option_and_then (λ (p : ℕ × List ℕ). option_map (λ (q : List ℕ × List ℕ). (p.0 ∷ q.0, q.1)) (numbers_before es p.1)) o) (before-read end n (numbers_text es ns ++ rest) h.0 (leb-true n 255 parts.0))
    ∙ ap (option_map (λ (q : List ℕ × List ℕ). (n ∷ q.0, q.1))) later)

record AreBefore (es text : List ℕ) (p : List ℕ × List ℕ) : Type 0 where
  whole : text ≡ numbers_text es p.0 ++ p.1
  so_many : length p.0 ≡ length es
  small : list_all is_byte p.0 ≡ true

mapped : {A B P : Type 0} (f : A → B) (o : Option A) (y : B) → option_map f o ≡ Some y → ((x : A) → o ≡ Some x → f x ≡ y → P) → P
mapped f None y e go = let no : ⊥ = cc in absurd no
mapped f (Some x) y e go = go x refl (same_Some _ _ e)

numbers-parts : (es text : List ℕ) (p : List ℕ × List ℕ) → numbers_before es text ≡ Some p → AreBefore es text p
numbers-parts [] text p e = subst (AreBefore [] text) (same_Some _ _ e) (record { whole = refl; so_many = refl; small = refl })
numbers-parts (end ∷ es) text p e =
    option_and_then_some _ (number_before end text) p e (λ first first_is e1.
    mapped _ (numbers_before es first.1) p e1 (λ q q_is e2.
    let before = before-parts end text first first_is in
    let later = numbers-parts es first.1 q q_is in
    subst (AreBefore (end ∷ es) text) e2 (record {
      whole = before.whole ∙ (ap (λ xs. decimal first.0 ++ end ∷ xs) later.whole ∙ sym (append_assoc (decimal first.0) (end ∷ numbers_text es q.0) q.1));
      so_many = ap suc later.so_many;
      small = and_from (is_byte first.0) (list_all is_byte q.0) (le-leb first.0 255 before.small) later.small;
    })))

are-ends : AreEnds ends
are-ends = (inl (omega arith), (inl (omega arith), (inl (omega arith), (inr (omega arith), tt))))

-- ports
positive-is : (n : ℕ) → 1 ≤ n → positive n ≡ Some n
positive-is zero h = absurd (omega (arith, h))
positive-is (suc n) h = refl

port-read : (n : ℕ) → 1 ≤ n → n ≤ 65535 → port_of (decimal n) ≡ Some n
unfolding port_of
port-read n some fits = ap (option_and_then positive) (number_up_to-decimal 65535 n fits (omega arith)) ∙ positive-is n some

record IsPort (text : List ℕ) (n : ℕ) : Type 0 where
  digits : text ≡ decimal n
  some : 1 ≤ n
  fits : n ≤ 65535

positive-some : (m n : ℕ) → positive m ≡ Some n → (m ≡ n) × (1 ≤ n)
positive-some zero n e = let no : ⊥ = cc in absurd no
positive-some (suc m) n e = let same = same_Some (suc m) n e in (same, subst (λ k. 1 ≤ k) same (omega arith))

port-parts : (text : List ℕ) (n : ℕ) → port_of text ≡ Some n → IsPort text n
unfolding port_of
port-parts text n e =
    option_and_then_some positive (number_up_to 65535 text) n e (λ m m_is e1.
    let same = positive-some m n e1 in
    let number = numeral_read 65535 text m (omega arith) m_is in
    record { digits = number.digits ∙ ap decimal same.0; some = same.1; fits = subst (λ k. k ≤ 65535) same.0 number.fits })

-- addresses
pub address-read : (a : Address) → IsAddress a → address_of (address_text a) ≡ Some a
unfolding address_of address_text
address-read a h =
    ap (λ o. option_and_then (λ (p : List ℕ × List ℕ). option_and_then (λ port. let found : Option Address = Some (record { ip = p.0; port = port }) in found) (port_of p.1)) o)
    (numbers-read ends a.ip (decimal a.port) are-ends h.four h.bytes)
    ∙ ap (λ o. option_and_then (λ port. let found : Option Address = Some (record { ip = a.ip; port = port }) in found) o) (port-read a.port h.some h.fits)

pub record IsTextOf (text : List ℕ) (a : Address) : Type 0 where
  pub has_text : IsAddress a
  pub text_is : text ≡ address_text a

pub address-parts : (text : List ℕ) (a : Address) → address_of text ≡ Some a → IsTextOf text a
unfolding address_of address_text
address-parts text a e =
    option_and_then_some _ (numbers_before ends text) a e (λ p p_is e1.
    option_and_then_some _ (port_of p.1) a e1 (λ port port_is e2.
    let numbers = numbers-parts ends text p p_is in
    let last = port-parts p.1 port port_is in
    subst (IsTextOf text) (same_Some _ _ e2) (record {
      has_text = record { four = numbers.so_many; bytes = numbers.small; some = last.some; fits = last.fits };
      text_is = numbers.whole ∙ ap (λ xs. numbers_text ends p.0 ++ xs) last.digits;
    })))
