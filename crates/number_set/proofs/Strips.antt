-- Lists with free places before them.
use Rattle.std.specs.Prelude.{◌≡◌, ℕ, zero, suc, ◌+◌, ◌-◌, ◌<◌, ◌≤◌, List, [], ◌∷◌, ◌++◌, length, take, drop, insert}
use Rattle.std.proofs.Common.{ap, arith, ◌∙◌, append_assoc, length-take, set}
use Rattle.std.proofs.lemmas.List.{set-append_right}
use borrow.Rule.Slice.PartMut.{put_mid, mid_of, post_of}

-- an insert after free places
pub drop-insert : (xs : List ℕ) (a i n : ℕ) → a ≤ length xs → drop a (insert xs (a + i) n) ≡ insert (drop a xs) i n
drop-insert xs zero i n le = let e : 0 + i ≡ i = omega arith in ap (λ j. insert xs j n) e
drop-insert [] (suc a) i n le = absurd (omega arith)
drop-insert (x ∷ xs) (suc a) i n le = let e : suc a + i ≡ suc (a + i) = omega arith in rw e (drop-insert xs a i n (omega arith))

-- what is written where the first of the numbers came to in a turn by one
turned : (w n : ℕ) (vs : List ℕ) (i : ℕ) → i ≤ length vs → set (take i vs ++ w ∷ []) i n ++ drop i vs ≡ insert vs i n
turned w n vs i le =
    let whole : length (take i vs) ≡ i = omega (arith, length-take i vs) in
    let none : i - i ≡ 0 = omega arith in
    ap (λ ys. ys ++ drop i vs) (set-append_right (take i vs) (w ∷ []) i i n whole (omega arith) ∙ ap (λ j. take i vs ++ set (w ∷ []) j n) none)
    ∙ append_assoc (take i vs) (n ∷ []) (drop i vs)

-- an insert that moves what stands before it to a free place
pub moved-front : (xs ys : List ℕ) (a i k n : ℕ) → a + i < length xs → k ≡ i + 1 → ys ≡ drop 1 (mid_of a k xs) ++ take 1 (mid_of a k xs)
    → drop a (put_mid a k xs (set ys i n)) ≡ insert (drop (a + 1) xs) i n
moved-front [] ys a i k n lt e h = absurd (omega arith)
moved-front (x ∷ xs) ys zero i k n lt e h =
    let after : k ≡ suc i = omega arith in
    let came : ys ≡ take i xs ++ x ∷ [] = h ∙ ap (λ j. drop 1 (mid_of 0 j (x ∷ xs)) ++ take 1 (mid_of 0 j (x ∷ xs))) after in
    ap (λ zs. set zs i n ++ post_of 0 k (x ∷ xs)) came
    ∙ (ap (λ j. set (take i xs ++ x ∷ []) i n ++ post_of 0 j (x ∷ xs)) after ∙ turned x n xs i (omega arith))
moved-front (x ∷ xs) ys (suc a) i k n lt e h =
    let one : suc a + 1 ≡ suc (a + 1) = omega arith in
    rw one (moved-front xs ys a i k n (omega arith) e h)
