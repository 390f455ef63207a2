-- What putting bytes, or one value more, adds.
use Rattle.std.proofs.Common.{◌≡◌, ◌<◌, ◌+◌, ℕ, List, [], ◌∷◌, ◌++◌, length, take, All, get_or, Result, Ok, Err, OnOk, is_ok, if◌then◌else◌, sym, ap, subst, ◌∙◌, append_assoc, append-nil}
use Rattle.std.specs.List.{flat_map}
use Rattle.std.proofs.lemmas.List.{take_more}
use Rattle.std.proofs.lemmas.Grind.{flat_map-append}
use Rattle.std.proofs.lemmas.List.Elements.{All-more}

pub puts_more : {A : Type 0} (spell : A → List ℕ) (Fits : A → Type 0) (xs : List A) (i : ℕ) (x : A) (old now new : List ℕ) → i < length xs → x ≡ get_or xs i x
    → now ≡ old ++ flat_map spell (take i xs) → All Fits (take i xs) → new ≡ now ++ spell x → Fits x
    → (new ≡ old ++ flat_map spell (take (i + 1) xs)) × All Fits (take (i + 1) xs)
puts_more spell Fits xs i x old now new within is so_far fit added fits =
    let next = take_more xs i x within ∙ ap (λ a. take i xs ++ a ∷ []) (sym is) in
    let more : take (i + 1) xs ≡ take i xs ++ x ∷ [] = next in
    let bytes : flat_map spell (take (i + 1) xs) ≡ flat_map spell (take i xs) ++ spell x =
    ap (flat_map spell) more ∙ flat_map-append spell (take i xs) (x ∷ []) ∙ ap (λ end. flat_map spell (take i xs) ++ end) (append-nil (spell x)) in (
      added ∙ ap (λ front. front ++ spell x) so_far ∙ append_assoc old (flat_map spell (take i xs)) (spell x) ∙ ap (λ all. old ++ all) (sym bytes),
      All-more Fits xs i x within fit (subst Fits is fits),
    )

-- where memory was found, all was added
pub adds_all : {T E : Type 0} (r : Result T E) (old new xs ys : List ℕ) → xs ≡ ys → new ≡ (if is_ok r then old ++ xs else old) → OnOk r (new ≡ old ++ ys)
adds_all (Ok x) old new xs ys same added = added ∙ ap (λ zs. old ++ zs) same
adds_all (Err e) old new xs ys same added = tt
