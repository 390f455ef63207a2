-- Bytes written over a front, a gate, and what stands after it.
use Rattle.std.proofs.Common.{◌≡◌, ℕ, zero, suc, List, [], ◌∷◌, ◌++◌, length, take, drop, refl, ap, ◌∙◌}
use Rattle.disk.specs.Disk.{overwritten}

drop_none : (n : ℕ) → drop n (let none : List ℕ = [] in none) ≡ []
drop_none zero = refl
drop_none (suc n) = refl

pub over_front : (front bytes old : List ℕ) → overwritten (front ++ old) (length front) bytes ≡ front ++ overwritten old 0 bytes
over_front [] bytes old = refl
over_front (x ∷ front) [] old = refl
over_front (x ∷ front) (b ∷ bytes) old = ap (λ r. x ∷ r) (over_front front (b ∷ bytes) old)

pub over_all : (bytes old : List ℕ) → overwritten old 0 bytes ≡ bytes ++ drop (length bytes) old
over_all [] old = refl
over_all (b ∷ bytes) [] = ap (λ r. b ∷ r) (over_all bytes [] ∙ ap (λ r. bytes ++ r) (drop_none (length bytes)))
over_all (b ∷ bytes) (x ∷ old) = ap (λ r. b ∷ r) (over_all bytes old)

pub take_front : (front : List ℕ) (x : ℕ) (xs : List ℕ) → take (suc (length front)) (front ++ x ∷ xs) ≡ front ++ x ∷ []
take_front [] x xs = refl
take_front (y ∷ front) x xs = ap (λ r. y ∷ r) (take_front front x xs)

pub take_before : (front xs : List ℕ) → take (length front) (front ++ xs) ≡ front
take_before [] xs = refl
take_before (y ∷ front) xs = ap (λ r. y ∷ r) (take_before front xs)

pub drop_front : (front : List ℕ) (x : ℕ) (xs : List ℕ) → drop (suc (length front)) (front ++ x ∷ xs) ≡ xs
drop_front [] x xs = refl
drop_front (y ∷ front) x xs = drop_front front x xs
