-- Functions and lists read, changed and joined place by place.
use Rattle.std.proofs.Common.{◌≡◌, ◌≢◌, ℕ, zero, suc, ◌<◌, List, [], ◌∷◌, ◌++◌, length, get_or, set, Some, refl, ap, arith, eqb}
use Rattle.std.specs.Prelude.{slice_get, IfSome, true, false}
use Rattle.std.proofs.lemmas.Bool.{eq-eqb, ne_eqb}
use Rattle.net_semantics.specs.Worlds.{put, change_at}

pub set-change_at : {X : Type 0} (f : X → X) (xs : List X) (k : ℕ) (d y : X) → k < length xs → y ≡ f (get_or xs k d) → set xs k y ≡ change_at f k xs
set-change_at f [] k d y h e = absurd (omega arith)
set-change_at f (x ∷ xs) zero d y h e = ap (λ z. z ∷ xs) e
set-change_at f (x ∷ xs) (suc k) d y h e = ap (λ zs. x ∷ zs) (set-change_at f xs k d y (omega arith) e)

pub length-change_at : {X : Type 0} (f : X → X) (xs : List X) (k : ℕ) → length (change_at f k xs) ≡ length xs
length-change_at f [] k = refl
length-change_at f (x ∷ xs) zero = refl
length-change_at f (x ∷ xs) (suc k) = ap suc (length-change_at f xs k)

pub change_at-there : {X : Type 0} (f : X → X) (xs : List X) (k : ℕ) (x : X) → slice_get xs k ≡ Some x → slice_get (change_at f k xs) k ≡ Some (f x)
change_at-there f [] k x e = cc
change_at-there f (y ∷ ys) zero x e = let e2 : y ≡ x = cc in ap (λ z. Some (f z)) e2
change_at-there f (y ∷ ys) (suc k) x e = change_at-there f ys k x e

pub change_at-elsewhere : {X : Type 0} (f : X → X) (xs : List X) (k j : ℕ) → j ≢ k → slice_get (change_at f k xs) j ≡ slice_get xs j
change_at-elsewhere f [] k j ne = refl
change_at-elsewhere f (y ∷ ys) zero zero ne = absurd (ne refl)
change_at-elsewhere f (y ∷ ys) zero (suc j) ne = refl
change_at-elsewhere f (y ∷ ys) (suc k) zero ne = refl
change_at-elsewhere f (y ∷ ys) (suc k) (suc j) ne = change_at-elsewhere f ys k j (λ e. ne (ap suc e))

-- what holds in each place of two lists holds in each place of both together
pub each-append : {X : Type 0} (P : X → Type 0) (xs ys : List X) → ((k : ℕ) → IfSome (slice_get xs k) P) → ((k : ℕ) → IfSome (slice_get ys k) P) → (k : ℕ) → IfSome (slice_get (xs ++ ys) k) P
each-append P [] ys hx hy k = hy k
each-append P (x ∷ xs) ys hx hy zero = hx 0
each-append P (x ∷ xs) ys hx hy (suc k) = each-append P xs ys (λ j. hx (suc j)) hy k

pub each-change_at : {X : Type 0} (P : X → Type 0) (f : X → X) (xs : List X) (k : ℕ) → ((j : ℕ) → IfSome (slice_get xs j) P) → IfSome (slice_get xs k) (λ x. P (f x)) → (j : ℕ) → IfSome (slice_get (change_at f k xs) j) P
each-change_at P f [] k h here j = h j
each-change_at P f (x ∷ xs) zero h here zero = here
each-change_at P f (x ∷ xs) zero h here (suc j) = h (suc j)
each-change_at P f (x ∷ xs) (suc k) h here zero = h 0
each-change_at P f (x ∷ xs) (suc k) h here (suc j) = each-change_at P f xs k (λ i. h (suc i)) here j

-- a function with a value put in one place
pub put-there : {A : Type 0} (f : ℕ → A) (n : ℕ) (a : A) (k : ℕ) → k ≡ n → put f n a k ≡ a
put-there f n a k e = let t : eqb k n ≡ true = eq-eqb k n e in rw t refl

pub put-elsewhere : {A : Type 0} (f : ℕ → A) (n : ℕ) (a : A) (k : ℕ) → k ≢ n → put f n a k ≡ f k
put-elsewhere f n a k ne = let t : eqb k n ≡ false = ne_eqb k n ne in rw t refl
