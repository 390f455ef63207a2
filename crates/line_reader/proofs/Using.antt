-- Lines that are used one after another.
use Rattle.std.specs.Prelude.{◌≡◌, ℕ, Bool, true, false, ◌==◌, ◌+◌, ◌-◌, ◌<◌, ◌≤◌, min, List, [], ◌∷◌, ◌++◌, length, drop, Option, cond, refl}
use Rattle.std.proofs.Common.{zero, suc, ap, ◌∙◌, sym, subst, append_assoc, arith, length-append, length-drop}
use Rattle.std.proofs.lemmas.List.{append-nil}
use Rattle.line_reader.specs.Lines.{split_lines, lines_of, first_size, after_lines, decided}
use Rattle.line_reader.specs.Readers.{ReaderView, HasRest}
use Rattle.line_reader.specs.Outcomes.{Uses, StandsAt, BreaksOff}
use Rattle.line_reader.proofs.Lining.{lines-append, closed-append, last-append, after_lines-add}
use Rattle.lists.specs.Places.{no_front}

-- no line was used yet
pub uses-none : (r : ReaderView) (left : Option (List ℕ)) (rest : List ℕ) → HasRest r left rest → Uses r r left rest []
uses-none r left rest has = record {
  rest' = rest;
  left = has;
  whole = refl;
  lines = refl;
  closed = λ is. refl;
  advanced = refl;
  number = omega arith;
  stays = λ is. is;
}

-- the lines of what was used, and then of what was used after it
lines-both : (t : Bool) (used used' rest' : List ℕ) → (t ≡ false → (split_lines used).1 ≡ []) → (t ≡ true → used' ++ rest' ≡ []) → lines_of (used ++ used') ≡ lines_of used ++ lines_of used'
lines-both false used used' rest' closed over = lines-append used used' (closed refl)
lines-both true used used' rest' closed over =
    let none = no_front used' rest' (over refl) in
    ap (λ xs. lines_of (used ++ xs)) none ∙ (ap lines_of (append-nil used) ∙ (sym (append-nil (lines_of used)) ∙ ap (λ xs. lines_of used ++ lines_of xs) (sym none)))

not-both : (t : Bool) → (t ≡ true → ⊥) → t ≡ false
not-both true h = absurd (h refl)
not-both false h = refl

true-not-false : (t : Bool) → t ≡ true → t ≡ false → ⊥
true-not-false t e f = let both : ◌≡◌ {A = Bool} true false = sym e ∙ f in cc

pub lines-more : (a b c : ReaderView) (left left' : Option (List ℕ)) (rest used used' : List ℕ) (u : Uses a b left rest used)
    → Uses b c left' u.rest' used' → lines_of (used ++ used') ≡ lines_of used ++ lines_of used'
lines-more a b c left left' rest used used' u v = lines-both b.ended used used' v.rest' u.closed (λ is. sym v.whole ∙ u.left.at_end is)

pub uses-more : (a b c : ReaderView) (left left' : Option (List ℕ)) (rest used used' : List ℕ) (u : Uses a b left rest used)
    → Uses b c left' u.rest' used' → Uses a c left' rest (used ++ used')
uses-more a b c left left' rest used used' u v =
    let both = lines-more a b c left left' rest used used' u v in
    let many : length (lines_of (used ++ used')) ≡ length (lines_of used) + length (lines_of used') = ap length both ∙ length-append (lines_of used) (lines_of used') in
    record {
      rest' = v.rest';
      left = v.left;
      whole = u.whole ∙ (ap (λ xs. used ++ xs) v.whole ∙ sym (append_assoc used used' v.rest'));
      lines = u.lines ∙ (ap (λ ls. lines_of used ++ ls) v.lines ∙ (sym (append_assoc (lines_of used) (lines_of used') (lines_of v.rest')) ∙ ap (λ ls. ls ++ lines_of v.rest') (sym both)));
      closed = λ is.
          let before = not-both b.ended (λ over. true-not-false c.ended (v.stays over) is) in
          closed-append used used' (u.closed before) (v.closed is);
      advanced = v.advanced ∙ (ap (λ xs. after_lines (length (lines_of used')) xs) u.advanced ∙ (sym (after_lines-add (length (lines_of used)) (length (lines_of used')) rest) ∙ ap (λ n. after_lines n rest) (sym many)));
      number = v.number ∙ (ap (λ n. n + length (lines_of used')) u.number ∙ omega (arith, many));
      stays = λ is. v.stays (u.stays is);
    }

-- what stands after lines is no longer than the text
first_size-within : (bs : List ℕ) → first_size bs ≤ length bs
first_size-within [] = omega arith
first_size-within (b ∷ bs) = by (b == 10) (first_size-within bs) where
  by : (t : Bool) → first_size bs ≤ length bs → cond t 1 (1 + first_size bs) ≤ suc (length bs)
  by true h = omega arith
  by false h = omega (arith, h)

pub behind-within : (n : ℕ) (bs : List ℕ) → length (after_lines n bs) ≤ length bs
behind-within zero bs = omega arith
behind-within (suc n) bs = omega (arith, behind-within n (drop (first_size bs) bs), length-drop (first_size bs) bs)

-- what decides a line is counted from any line before it
pub decided-after : (k j : ℕ) (bs rest : List ℕ) → rest ≡ after_lines k bs → 0 < j → decided (k + j) bs ≡ (length bs - length rest) + decided j rest
decided-after k j bs rest is some =
    let before : (k + j) - 1 ≡ k + (j - 1) = omega (arith, some) in
    let line = after_lines (j - 1) rest in
    let same : after_lines ((k + j) - 1) bs ≡ line = ap (λ n. after_lines n bs) before ∙ (after_lines-add k (j - 1) bs ∙ ap (after_lines (j - 1)) (sym is)) in
    let short : length rest ≤ length bs = subst (λ (xs : List ℕ). length xs ≤ length bs) (sym is) (behind-within k bs) in
    ap (λ (xs : List ℕ). (length bs - length xs) + min 4097 (first_size xs)) same ∙ omega (arith, short, behind-within (j - 1) rest)

pub stands-after : (a b c : ReaderView) (left left' : Option (List ℕ)) (rest used : List ℕ) (number : ℕ) (u : Uses a b left rest used)
    → StandsAt b c left' u.rest' number → StandsAt a c left' rest number
stands-after a b c left left' rest used number u v =
    let k = length (lines_of used) in
    let j = number - b.number in
    let there : number - a.number ≡ k + j = omega (arith, v.later, u.number) in
    let size = ap length u.whole ∙ length-append used u.rest' in
    record {
      rest' = v.rest';
      left = v.left;
      used = used ++ v.used;
      whole = u.whole ∙ (ap (λ xs. used ++ xs) v.whole ∙ sym (append_assoc used v.used v.rest'));
      decides = length-append used v.used ∙ (omega (arith, size, v.decides) ∙ sym (ap (λ n. decided n rest) there ∙ decided-after k j rest u.rest' u.advanced (omega (arith, v.later))));
      later = omega (arith, v.later, u.number);
      few = v.few;
    }

-- where nothing is left, the end decides the line after the last
nothing-ahead : (r : ReaderView) (left : Option (List ℕ)) → HasRest r left [] → length r.ahead ≤ 4096
nothing-ahead r left has = omega (arith, ap length (no_front r.ahead has.unread (sym has.rest_is)))

pub stands-at-end : (a b c : ReaderView) (left left' : Option (List ℕ)) (rest used : List ℕ) (u : Uses a b left rest used) (number : ℕ)
    → u.rest' ≡ [] → HasRest c left' [] → number ≡ b.number + 1 → StandsAt a c left' rest number
stands-at-end a b c left left' rest used u number none has is =
    let k = length (lines_of used) in
    let there : number - a.number ≡ k + 1 = omega (arith, is, u.number) in
    let whole = u.whole ∙ ap (λ xs. used ++ xs) none in
    let size = ap length whole ∙ length-append used [] in
    record {
      rest' = [];
      left = has;
      used = used;
      whole = whole;
      later = omega (arith, is, u.number);
      decides = omega (arith, size) ∙ sym (ap (λ n. decided n rest) there ∙ (decided-after k 1 rest u.rest' u.advanced (omega arith) ∙ ap (λ xs. (length rest - length xs) + decided 1 xs) none));
      few = nothing-ahead c left' has;
    }

-- a read that failed after whole lines
pub breaks-after : (a b : ReaderView) (left left' : Option (List ℕ)) (rest used part : List ℕ) (u : Uses a b left rest used) → (split_lines used).1 ≡ []
    → BreaksOff left' u.rest' part → BreaksOff left' rest (used ++ part)
breaks-after a b left left' rest used part u closed v = record {
  rest' = v.rest';
  left_is = v.left_is;
  whole = u.whole ∙ (ap (λ xs. used ++ xs) v.whole ∙ sym (append_assoc used part v.rest'));
  short = subst (λ (xs : List ℕ). length xs ≤ 4096) (sym (last-append used part closed)) v.short;
}
