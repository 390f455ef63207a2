-- What printing some words adds, and what it leaves of a text where it breaks off.
use Rattle.std.proofs.Common.{◌≡◌, ℕ, List, [], ◌∷◌, ◌++◌, map, sym, ap, append-nil}
use Rattle.std.specs.List.{flat_map}
use Rattle.app_text.specs.declared.word.Word.{Word}
use Rattle.app_text.specs.Printing.{word_text}
use Rattle.app_text.specs.Words.{joined}

abbrev pub spaced : List Word → List ℕ
spaced args = flat_map (λ w. 32 ∷ word_text w) args

pub joined-spaced : (first : List ℕ) (args : List Word) → joined (first ∷ map word_text args) ≡ first ++ spaced args
joined-spaced first [] = sym (append-nil first)
joined-spaced first (w ∷ ws) = ap (λ rest. first ++ 32 ∷ rest) (joined-spaced (word_text w) ws)
