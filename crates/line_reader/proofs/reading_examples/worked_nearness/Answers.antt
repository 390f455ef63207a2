-- What was read past a part without a whole line.
use Rattle.std.proofs.Common.{◌≡◌, ◌≤◌, ℕ, List, [], ◌∷◌, ◌++◌, codes, length, replicate, refl, sym, ap, subst, ◌∙◌, arith, append_assoc}
use Rattle.std.proofs.lemmas.List.{append-nil, length-replicate}
use Rattle.line_reader.specs.Lines.{whole_lines}
use Rattle.line_reader.proofs.reading_examples.worked_nearness.Goals as goal

pub returns-clause-all : goal.returns-clause-all
returns-clause-all c = ([], record { late = codes "ab\nc"; others = []; left_is = refl; whole = refl; few = omega arith }, refl)

pub returns-clause-some : goal.returns-clause-some
returns-clause-some c = ([], record { late = codes "ab\n"; others = codes "c"; left_is = refl; whole = refl; few = omega arith }, refl)

-- the last byte
abbrev last : List ℕ → ℕ
last [] = 0
last (b ∷ []) = b
last (b ∷ c ∷ bs) = last (c ∷ bs)

last_behind : (b : ℕ) (front : List ℕ) → last (front ++ b ∷ []) ≡ b
last_behind b [] = refl
last_behind b (x ∷ []) = refl
last_behind b (x ∷ y ∷ front) = last_behind b (y ∷ front)

pub returns-clause-another_left : goal.returns-clause-another_left
returns-clause-another_left c = λ x.
    let is : x.1.others ≡ codes "d" = cc x.1.left_is in
    let d : ◌≡◌ {A = ℕ} 99 100 =
    ap last (x.1.whole ∙ (sym (append_assoc x.0 x.1.late x.1.others) ∙ ap (λ xs. (x.0 ++ x.1.late) ++ xs) is)) ∙ last_behind 100 (x.0 ++ x.1.late) in
    omega (arith, d)

-- a newline with more than a buffer behind it is a whole line that stands before the last bytes
far : (behind early late : List ℕ) → 10 ∷ behind ≡ early ++ late → length late ≤ length behind → whole_lines early ≡ [] → ⊥
far behind [] late whole few none = omega (arith, few, ap length whole)
far behind (b ∷ bs) late whole few none =
    let is : 10 ≡ b = cc whole in
    let begun : whole_lines (10 ∷ bs) ≡ [] = subst (λ (n : ℕ). whole_lines (n ∷ bs) ≡ []) (sym is) none in
    cc begun

filled : (n : ℕ) → length {A = ℕ} (replicate n 35) ≡ n
filled n = length-replicate {A = ℕ} n 35

pub returns-clause-more_than_a_buffer : goal.returns-clause-more_than_a_buffer
returns-clause-more_than_a_buffer c = λ x.
    let is : x.1.others ≡ [] = cc x.1.left_is in
    far (replicate 4096 35) x.0 x.1.late (x.1.whole ∙ ap (λ xs. x.0 ++ xs) (ap (λ xs. x.1.late ++ xs) is ∙ append-nil x.1.late)) (omega (arith, x.1.few, filled 4096)) x.2

pub returns-clause-a_buffer : goal.returns-clause-a_buffer
returns-clause-a_buffer c =
    ([], record { late = 10 ∷ replicate 4095 35; others = []; left_is = refl; whole = sym (append-nil (10 ∷ replicate 4095 35)); few = omega (arith, filled 4095) }, refl)

pub returns-clause-a_long_line : goal.returns-clause-a_long_line
returns-clause-a_long_line c =
    (35 ∷ [], record { late = replicate 4096 35; others = []; left_is = refl; whole = ap (λ xs. 35 ∷ xs) (sym (append-nil (replicate 4096 35))); few = omega (arith, filled 4096) }, refl)
