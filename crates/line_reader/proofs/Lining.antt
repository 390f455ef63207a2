-- A text's first line, and the lines of its parts.
use Rattle.std.specs.Prelude.{◌≡◌, ℕ, Bool, true, false, ◌==◌, ◌+◌, ◌<◌, List, [], ◌∷◌, ◌++◌, length, drop, Option, Some, None, cond, refl}
use Rattle.std.proofs.Common.{zero, suc, ap, ◌∙◌, sym, subst, append_assoc, arith, zero-add, suc-add}
use Rattle.std.proofs.lemmas.List.{append-nil}
use Rattle.line_reader.specs.Lines.{cut_at, onto_cut, split_lines, onto_first, last_line, lines_of, whole_lines, first_size, after_lines}
use Rattle.line_reader.proofs.Cutting.{none-parts, cut-here}

-- a text by what its first newline cuts it into
abbrev IsSplit : List ℕ → Option (List ℕ × List ℕ) → Type 0
IsSplit bs None = split_lines bs ≡ ([], bs)
IsSplit bs (Some p) = split_lines bs ≡ (p.0 ∷ (split_lines p.1).0, (split_lines p.1).1)

split-step : (t : Bool) (b : ℕ) (bs : List ℕ) (o : Option (List ℕ × List ℕ)) → (b == 10) ≡ t → IsSplit bs o → IsSplit (b ∷ bs) (cond t (Some ([], bs)) (onto_cut b o))
split-step true b bs o is split = rw is refl
split-step false b bs None is split = rw is (ap (onto_first b) split)
split-step false b bs (Some p) is split = rw is (ap (onto_first b) split)

split-cut : (bs : List ℕ) → IsSplit bs (cut_at 10 bs)
split-cut [] = refl
split-cut (b ∷ bs) = split-step (b == 10) b bs (cut_at 10 bs) refl (split-cut bs)

-- bytes without a newline
pub split-plain : (bs : List ℕ) → cut_at 10 bs ≡ None → split_lines bs ≡ ([], bs)
split-plain bs e = subst (IsSplit bs) e (split-cut bs)

pub whole-plain : (bs : List ℕ) → cut_at 10 bs ≡ None → whole_lines bs ≡ []
whole-plain bs e = ap (λ (s : List (List ℕ) × List ℕ). s.0) (split-plain bs e)

pub lines-plain : (bs : List ℕ) → cut_at 10 bs ≡ None → 0 < length bs → lines_of bs ≡ bs ∷ []
lines-plain [] e some = absurd (omega (arith, some))
lines-plain (b ∷ bs) e some = ap (λ (s : List (List ℕ) × List ℕ). s.0 ++ last_line s.1) (split-plain (b ∷ bs) e)

-- a line and its newline
pub split-line : (line rest : List ℕ) → cut_at 10 line ≡ None → split_lines (line ++ 10 ∷ rest) ≡ (line ∷ (split_lines rest).0, (split_lines rest).1)
split-line line rest e = subst (IsSplit (line ++ 10 ∷ rest)) (cut-here 10 line rest e refl) (split-cut (line ++ 10 ∷ rest))

pub lines-line : (line rest : List ℕ) → cut_at 10 line ≡ None → lines_of (line ++ 10 ∷ rest) ≡ line ∷ lines_of rest
lines-line line rest e = ap (λ (s : List (List ℕ) × List ℕ). s.0 ++ last_line s.1) (split-line line rest e)

-- how long the first line is
pub size-plain : (xs ys : List ℕ) → cut_at 10 xs ≡ None → first_size (xs ++ ys) ≡ length xs + first_size ys
size-plain [] ys e = omega arith
size-plain (x ∷ xs) ys e =
    let parts = none-parts 10 x xs e in
    rw parts.0 (ap (λ n. 1 + n) (size-plain xs ys parts.1) ∙ omega arith)

-- lines of a front, and of what is left of it with what follows
abbrev joined : List (List ℕ) × List ℕ → List ℕ → List (List ℕ) × List ℕ
joined s rest = (s.0 ++ (split_lines (s.1 ++ rest)).0, (split_lines (s.1 ++ rest)).1)

not-newline : (b : ℕ) (bs : List ℕ) → (b == 10) ≡ false → split_lines (b ∷ bs) ≡ onto_first b (split_lines bs)
not-newline b bs is = ap (λ t. cond t ([] ∷ (split_lines bs).0, (split_lines bs).1) (onto_first b (split_lines bs))) is

joined-step : (t : Bool) (b : ℕ) (rest : List ℕ) (s u : List (List ℕ) × List ℕ) → (b == 10) ≡ t → u ≡ joined s rest
    → cond t ([] ∷ u.0, u.1) (onto_first b u) ≡ joined (cond t ([] ∷ s.0, s.1) (onto_first b s)) rest
joined-step true b rest s u is e = ap (λ (v : List (List ℕ) × List ℕ). ([] ∷ v.0, v.1)) e
joined-step false b rest ([], left) u is e = ap (onto_first b) e ∙ sym (not-newline b (left ++ rest) is)
joined-step false b rest (l ∷ ls, left) u is e = ap (onto_first b) e

pub split-append : (given rest : List ℕ) → split_lines (given ++ rest) ≡ joined (split_lines given) rest
split-append [] rest = refl
split-append (b ∷ bs) rest = joined-step (b == 10) b rest (split_lines bs) (split_lines (bs ++ rest)) refl (split-append bs rest)

-- after whole lines a text goes on
pub whole-append : (xs ys : List ℕ) → (split_lines xs).1 ≡ [] → whole_lines (xs ++ ys) ≡ lines_of xs ++ whole_lines ys
whole-append xs ys e =
    let s = split_lines xs in
    ap (λ (v : List (List ℕ) × List ℕ). v.0) (split-append xs ys)
    ∙ (ap (λ bs. s.0 ++ whole_lines (bs ++ ys)) e ∙ ap (λ ls. ls ++ whole_lines ys) (sym (ap (λ bs. s.0 ++ last_line bs) e ∙ append-nil s.0)))

pub lines-append : (xs ys : List ℕ) → (split_lines xs).1 ≡ [] → lines_of (xs ++ ys) ≡ lines_of xs ++ lines_of ys
lines-append xs ys e =
    let s = split_lines xs in
    ap (λ (v : List (List ℕ) × List ℕ). v.0 ++ last_line v.1) (split-append xs ys)
    ∙ (ap (λ bs. (s.0 ++ whole_lines (bs ++ ys)) ++ last_line (split_lines (bs ++ ys)).1) e
    ∙ (append_assoc s.0 (whole_lines ys) (last_line (split_lines ys).1)
    ∙ ap (λ ls. ls ++ lines_of ys) (sym (ap (λ bs. s.0 ++ last_line bs) e ∙ append-nil s.0))))

pub last-append : (xs ys : List ℕ) → (split_lines xs).1 ≡ [] → (split_lines (xs ++ ys)).1 ≡ (split_lines ys).1
last-append xs ys e = ap (λ (v : List (List ℕ) × List ℕ). v.1) (split-append xs ys) ∙ ap (λ bs. (split_lines (bs ++ ys)).1) e

pub closed-append : (xs ys : List ℕ) → (split_lines xs).1 ≡ [] → (split_lines ys).1 ≡ [] → (split_lines (xs ++ ys)).1 ≡ []
closed-append xs ys e f =
    last-append xs ys e ∙ f

-- what stands after lines, and after more of them
pub after_lines-add : (n m : ℕ) (bs : List ℕ) → after_lines (n + m) bs ≡ after_lines m (after_lines n bs)
after_lines-add zero m bs = rw zero-add refl
after_lines-add (suc n) m bs = rw suc-add (after_lines-add n m (drop (first_size bs) bs))

pub drop-front : (xs ys : List ℕ) (n : ℕ) → n ≡ length xs → drop n (xs ++ ys) ≡ ys
drop-front [] ys n e = rw e refl
drop-front (x ∷ xs) ys zero e = absurd (omega (arith, e))
drop-front (x ∷ xs) ys (suc n) e = drop-front xs ys n (omega (arith, e))
