-- A buffer that is filled in several reads.
use Rattle.std.specs.Prelude.{◌≡◌, ℕ, ◌+◌, ◌-◌, ◌<◌, ◌≤◌, List, [], ◌∷◌, ◌++◌, length, take, drop, Option, Some, None, option_map, IfSome, refl}
use Rattle.std.proofs.Common.{ap, sym, ◌∙◌, arith, le_refl, drop_at, length-take-le}
use Rattle.std.proofs.lemmas.List.{drop_all, drop-drop, length-drop, length-take}
use Rattle.outside.specs.Streams.{Gives}
use Rattle.std.proofs.lemmas.Slice.{take-put_mid_below}
use borrow.Rule.Slice.PartMut.{put_mid, post_of}
use lib.Seq.{take-add, take-append-le}
use Rattle.lists.specs.Options.{of_some}

-- the part from `len` on was overwritten: the front stays
pub front-stays : (buf new : List ℕ) (len : ℕ) → len ≤ length buf → take len (put_mid len (length buf - len) buf new) ≡ take len buf
front-stays buf new len within = take-put_mid_below _ _ _ _ _ (le_refl _) within

-- n bytes more came
pub filled-more : (buf new bytes rest : List ℕ) (len n : ℕ) → len ≤ length buf → n ≤ length new → take len buf ≡ take len bytes → rest ≡ drop len bytes → take n new ≡ take n rest
    → take (len + n) (put_mid len (length buf - len) buf new) ≡ take (len + n) bytes
filled-more buf new bytes rest len n within fits same is front =
    let whole = put_mid len (length buf - len) buf new in
    let post = post_of len (length buf - len) buf in
    let behind : take n (drop len whole) ≡ take n (drop len bytes) =
    ap (take n) (drop_at (take len buf) (new ++ post) len (length-take-le len buf within))
    ∙ (take-append-le n new post fits ∙ (front ∙ ap (take n) is)) in
    take-add len n whole
    ∙ (ap (λ xs. xs ++ take n (drop len whole)) (front-stays buf new len within ∙ same)
    ∙ (ap (λ ys. take len bytes ++ ys) behind ∙ sym (take-add len n bytes)))

-- what a source has left after several reads
pub left-more : (o o' o'' : Option (List ℕ)) (len n : ℕ) → o' ≡ option_map (drop len) o → o'' ≡ option_map (drop n) o' → o'' ≡ option_map (drop (len + n)) o
left-more None o' o'' len n is is' = is' ∙ ap (option_map (drop n)) is
left-more (Some bytes) o' o'' len n is is' = is' ∙ (ap (option_map (drop n)) is ∙ ap Some (drop-drop n len bytes))

pub no-bytes : (xs : List ℕ) → length xs ≤ 0 → xs ≡ []
no-bytes [] e = refl
no-bytes (x ∷ xs) e = absurd (omega (arith, e))

-- nothing is left of bytes of which so many were taken
pub taken-all : (bytes : List ℕ) (len : ℕ) → drop len bytes ≡ [] → length bytes ≤ len
taken-all bytes len e = omega (arith, length-drop len bytes, ap length e)

pub left-none : (o o' o'' : Option (List ℕ)) (len most : ℕ) → o' ≡ option_map (drop len) o → o'' ≡ option_map (drop 0) o' → ((bytes : List ℕ) → o ≡ Some bytes → drop len bytes ≡ []) → len ≤ most
    → o'' ≡ option_map (drop most) o
left-none None o' o'' len most is is' end within = is' ∙ ap (option_map (drop 0)) is
left-none (Some bytes) o' o'' len most is is' end within =
    let nothing = end bytes refl in
    let few = taken-all bytes len nothing in
    is' ∙ (ap (option_map (drop 0)) is ∙ ap Some (ap (drop 0) nothing ∙ sym (drop_all most bytes (omega (arith, few, within)))))

-- the end of a source was met after `len` bytes
pub ended : (first left : Option (List ℕ)) (len n : ℕ) (before after : List ℕ) → left ≡ option_map (drop len) first → IfSome left (λ rest. Gives rest n before after) → n ≡ 0 → 0 < length before
    → (bytes : List ℕ) → first ≡ Some bytes → drop len bytes ≡ []
ended first left len n before after taken gives none some bytes is =
    let rest = of_some (λ rest. Gives rest n before after) left (drop len bytes) (taken ∙ ap (option_map (drop len)) is) gives in
    rest.at_end none some

-- n bytes more of what was left came
pub further : (first left : Option (List ℕ)) (len n : ℕ) (before after bytes : List ℕ) → left ≡ option_map (drop len) first → IfSome left (λ rest. Gives rest n before after) → first ≡ Some bytes → Gives (drop len bytes) n before after
further first left len n before after bytes taken gives is =
    of_some (λ rest. Gives rest n before after) left (drop len bytes) (taken ∙ ap (option_map (drop len)) is) gives

-- the room that is left
pub room : (buf : List ℕ) (len : ℕ) → length (take (length buf - len) (drop len buf)) ≡ length buf - len
room buf len = omega (arith, length-take (length buf - len) (drop len buf), length-drop len buf)
