-- More of an area was read.
use Rattle.std.proofs.Common.{◌≡◌, ℕ, ◌+◌, ◌<◌, ◌≤◌, List, ◌++◌, length, take, drop, Option, Some, None, IfSome, ap, ◌∙◌, append_assoc, take-append-drop}
use Rattle.std.proofs.lemmas.List.{take-append-le, drop-drop}
use Rattle.disk.specs.Areas.{area_at}
use Rattle.node_device.specs.Telling.{Told}
use Rattle.outside.specs.Streams.{Gives}
use Rattle.lists.specs.Places.{take_short}

whole : (all bytes sub rest got before : List ℕ) (l n m at : ℕ) → n ≤ length sub → at ≡ l → m ≡ l + n → got ≡ bytes ++ take n (sub ++ rest) → bytes ++ drop l all ≡ all →
    Gives (drop at all) n before sub → got ++ drop m all ≡ all
whole all bytes sub rest got before l n m at h a e g i o =
    rw (g, e, ← drop-drop n l all, take-append-le n sub rest h)
    (append_assoc bytes (take n sub) (drop n (drop l all))
    ∙ (ap (λ xs. bytes ++ (xs ++ drop n (drop l all))) (o.front ∙ ap (λ k. take n (drop k all)) a)
    ∙ (ap (λ xs. bytes ++ xs) (take-append-drop n (drop l all)) ∙ i)))

pub more : (told : Option Told) (area : ℕ) (bytes sub rest got before : List ℕ) (l n m at : ℕ) → n ≤ length sub → at ≡ l → m ≡ l + n → got ≡ bytes ++ take n (sub ++ rest) →
    IfSome told (λ told. bytes ++ drop l (area_at told.disk area).bytes ≡ (area_at told.disk area).bytes) →
    IfSome told (λ told. Gives (drop at (area_at told.disk area).bytes) n before sub) →
    IfSome told (λ told. got ++ drop m (area_at told.disk area).bytes ≡ (area_at told.disk area).bytes)
more None area bytes sub rest got before l n m at h a e g i o = tt
more (Some t) area bytes sub rest got before l n m at h a e g i o = whole (area_at t.disk area).bytes bytes sub rest got before l n m at h a e g i o

-- what is shorter than was asked for is all
pub all_read : (told : Option Told) (area most : ℕ) (bytes : List ℕ) → length bytes < most → IfSome told (λ told. bytes ≡ take most (area_at told.disk area).bytes) →
    IfSome told (λ told. bytes ≡ (area_at told.disk area).bytes)
all_read None area most bytes l e = tt
all_read (Some t) area most bytes l e = e ∙ take_short most (area_at t.disk area).bytes (rw e at l)
