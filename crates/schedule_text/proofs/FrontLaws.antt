-- What stands after a front.
use Rattle.std.specs.Prelude.{◌≡◌, ℕ, Bool, true, false, ◌==◌, ◌&&◌, ◌<◌, ◌≤◌, List, [], ◌∷◌, ◌++◌, length, take, drop, Option, Some, None, option_and_then, cond, refl}
use Rattle.std.specs.Str.{bytes_eq}
use Rattle.std.proofs.Common.{ap, ◌∙◌, sym, arith}
use Rattle.schedule_text.specs.Headers.{strip_prefix}

-- a front of two parts is cut off in two steps
strip_prefix-append-step : (t : Bool) (xs ys bs : List ℕ) → strip_prefix (xs ++ ys) bs ≡ option_and_then (strip_prefix ys) (strip_prefix xs bs)
    → cond t (strip_prefix (xs ++ ys) bs) None ≡ option_and_then (strip_prefix ys) (cond t (strip_prefix xs bs) None)
strip_prefix-append-step true xs ys bs e = e
strip_prefix-append-step false xs ys bs e = refl

pub strip_prefix-append : (xs ys line : List ℕ) → strip_prefix (xs ++ ys) line ≡ option_and_then (strip_prefix ys) (strip_prefix xs line)
strip_prefix-append [] ys line = refl
strip_prefix-append (x ∷ xs) ys [] = refl
strip_prefix-append (x ∷ xs) ys (b ∷ bs) = strip_prefix-append-step (b == x) xs ys bs (strip_prefix-append xs ys bs)

-- a line that is shorter has no such front
strip_prefix-short-step : (t : Bool) (o : Option (List ℕ)) → o ≡ None → cond t o None ≡ None
strip_prefix-short-step true o e = e
strip_prefix-short-step false o e = refl

pub strip_prefix-short : (front line : List ℕ) → length line < length front → strip_prefix front line ≡ None
strip_prefix-short [] line h = absurd (omega arith)
strip_prefix-short (f ∷ fs) [] h = refl
strip_prefix-short (f ∷ fs) (b ∷ bs) h = strip_prefix-short-step (b == f) (strip_prefix fs bs) (strip_prefix-short fs bs (omega arith))

-- a line that begins so, and one that does not
strip_prefix-step : (t u : Bool) (o : Option (List ℕ)) (rest : List ℕ) → o ≡ cond u (Some rest) None → cond t o None ≡ cond (t && u) (Some rest) None
strip_prefix-step true u o rest e = e
strip_prefix-step false u o rest e = refl

pub strip_prefix-compares : (front line : List ℕ) → length front ≤ length line → strip_prefix front line ≡ cond (bytes_eq (take (length front) line) front) (Some (drop (length front) line)) None
strip_prefix-compares [] line h = refl
strip_prefix-compares (f ∷ fs) [] h = absurd (omega arith)
strip_prefix-compares (f ∷ fs) (b ∷ bs) h = strip_prefix-step (b == f) (bytes_eq (take (length fs) bs) fs) (strip_prefix fs bs) (drop (length fs) bs) (strip_prefix-compares fs bs (omega arith))

-- the same by what the first step gave
pub strip_prefix-both : (xs ys line rest : List ℕ) → Some rest ≡ strip_prefix xs line → strip_prefix ys rest ≡ strip_prefix (xs ++ ys) line
strip_prefix-both xs ys line rest e = ap (option_and_then (strip_prefix ys)) e ∙ sym (strip_prefix-append xs ys line)

pub strip_prefix-neither : (xs ys line : List ℕ) → ◌≡◌ {A = Option (List ℕ)} None (strip_prefix xs line) → None ≡ strip_prefix (xs ++ ys) line
strip_prefix-neither xs ys line e = ap (option_and_then (strip_prefix ys)) e ∙ sym (strip_prefix-append xs ys line)
