-- Where the last of some byte ends.
use Rattle.std.specs.Prelude.{◌≡◌, ℕ, Bool, true, false, ◌==◌, ◌+◌, ◌<◌, ◌≤◌, List, [], ◌∷◌, length, drop, Option, Some, None}
use Rattle.std.proofs.Common.{zero, suc, inl, inr, is_some, cond, refl, ap, ◌∙◌, sym, arith}
use Rattle.std.proofs.lemmas.Bool.{cases_lt, le-ltb, lt-ltb}
use Rattle.memchr.specs.Find.{Passes, Nowhere, is_byte}
use Rattle.line_reader.specs.Lines.{cut_at, onto_cut, has_cut, LastEnds}
use Rattle.line_reader.proofs.Cutting.{cut-nowhere}

-- it is found from each place up to one where it stands
has-step : (t : Bool) (b : ℕ) (bs : List ℕ) (o : Option (List ℕ × List ℕ)) → is_some o ≡ true
    → is_some (cond t (Some ([], bs)) (onto_cut b o)) ≡ true
has-step true b bs o e = refl
has-step false b bs None e = e
has-step false b bs (Some p) e = refl

has-at : (at k : ℕ) (bs : List ℕ) → k < length bs → Passes (is_byte at) bs k → has_cut at bs ≡ true
has-at at k [] below is = absurd (omega (arith, below))
has-at at zero (b ∷ bs) below is = ap (λ t. is_some (cond t (Some ([], bs)) (onto_cut b (cut_at at bs)))) is
has-at at (suc k) (b ∷ bs) below is = has-step (b == at) b bs (cut_at at bs) (has-at at k bs (omega (arith, below)) is)

has-from : (at place k : ℕ) (bs : List ℕ) → place ≤ k → k < length bs → Passes (is_byte at) bs k → has_cut at (drop place bs) ≡ true
has-from at place k [] low below is = absurd (omega (arith, below))
has-from at zero k (b ∷ bs) low below is = has-at at k (b ∷ bs) below is
has-from at (suc place) zero (b ∷ bs) low below is = absurd (omega (arith, low))
has-from at (suc place) (suc k) (b ∷ bs) low below is = has-from at place k bs (omega (arith, low)) (omega (arith, below)) is

-- and from no place after which it stands nowhere
has-none : (at place : ℕ) (bs : List ℕ) → Nowhere (Passes (is_byte at) bs) place (length bs) → has_cut at (drop place bs) ≡ false
has-none at zero bs h = ap is_some (cut-nowhere at bs h)
has-none at (suc place) [] h = refl
has-none at (suc place) (b ∷ bs) h = has-none at place bs (λ k low below is. h (suc k) (omega (arith, low)) (omega (arith, below)) is)

-- a search that found it nowhere, and one that found it
pub last-nowhere : (at : ℕ) (bs : List ℕ) → Nowhere (Passes (is_byte at) bs) 0 (length bs) → LastEnds at bs 0
last-nowhere at bs h = λ place. has-none at place bs (λ k low below is. h k (omega arith) below is) ∙ sym (le-ltb place 0 (omega arith))

pub last-of-none : (at : ℕ) → LastEnds at [] 0
last-of-none at = last-nowhere at [] (λ k low below is. omega (arith, below))

pub last-place : (at k : ℕ) (bs : List ℕ) → k < length bs → Nowhere (Passes (is_byte at) bs) (k + 1) (length bs) → Passes (is_byte at) bs k
    → LastEnds at bs (k + 1)
last-place at k bs below after is = λ place. elim (cases_lt place (k + 1)) [
  | inl low ↦ has-from at place k bs (omega (arith, low)) below is ∙ sym (lt-ltb place (k + 1) low)
  | inr high ↦ has-none at place bs (λ i low most e. after i (omega (arith, high, low)) most e) ∙ sym (le-ltb place (k + 1) high)
]
