-- Lists and functions that are changed in one place.
use Rattle.std.proofs.Common.{◌≡◌, ◌≢◌, ℕ, List, length, Some, slice_get, refl, ◌∙◌}
use Rattle.net_semantics.specs.Worlds.{change_at, put}
use Rattle.net_semantics.proofs.Places.{change_at-elsewhere, change_at-there, length-change_at, put-elsewhere, put-there}

-- the second list is the first with this element in place n
pub record OneAt {P : Type 0} (n : ℕ) (xs ys : List P) (y : P) : Type 0 where
  pub here : slice_get ys n ≡ Some y
  pub there : (j : ℕ) → j ≢ n → slice_get ys j ≡ slice_get xs j
  pub len : length ys ≡ length xs

pub one-same : {P : Type 0} (n : ℕ) (xs : List P) (x : P) → slice_get xs n ≡ Some x → OneAt n xs xs x
one-same n xs x is = record { here = is; there = λ j ne. refl; len = refl }

pub one-more : {P : Type 0} (f : P → P) (n : ℕ) (xs ys : List P) (y : P) → OneAt n xs ys y → OneAt n xs (change_at f n ys) (f y)
one-more f n xs ys y one = record {
  here = change_at-there f ys n y one.here;
  there = λ j ne. change_at-elsewhere f ys n j ne ∙ one.there j ne;
  len = length-change_at f ys n ∙ one.len;
}

-- the second function is the first with this value at n
pub record Puts {P : Type 0} (n : ℕ) (f g : ℕ → P) (y : P) : Type 0 where
  pub here : g n ≡ y
  pub there : (j : ℕ) → j ≢ n → g j ≡ f j

pub puts-same : {P : Type 0} (n : ℕ) (f : ℕ → P) (y : P) → f n ≡ y → Puts n f f y
puts-same n f y is = record { here = is; there = λ j ne. refl }

pub puts-put : {P : Type 0} (n : ℕ) (f : ℕ → P) (y : P) → Puts n f (put f n y) y
puts-put n f y = record { here = put-there f n y n refl; there = put-elsewhere f n y }
