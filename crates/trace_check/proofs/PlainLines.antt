-- A text of lines that hold no newline is cut into these lines again.
use Rattle.std.specs.Prelude.{◌≡◌, ℕ, List, [], ◌∷◌, ◌++◌, map, None, refl}
use Rattle.std.specs.List.{flat_map}
use Rattle.std.proofs.Common.{ap, ◌∙◌, append_assoc}
use Rattle.line_reader.specs.Lines.{cut_at, lines_of}
use Rattle.line_reader.proofs.Lining.{lines-line}
use Rattle.schedule_text.specs.Printing.{as_line}
use Rattle.lists.specs.Each.{Each}

abbrev pub IsPlain : List ℕ → Type 0
IsPlain line = cut_at 10 line ≡ None

pub lines-behind : (ls : List (List ℕ)) (rest : List ℕ) → Each IsPlain ls → lines_of (flat_map as_line ls ++ rest) ≡ ls ++ lines_of rest
lines-behind [] rest plain = refl
lines-behind (l ∷ ls) rest plain =
    ap lines_of (append_assoc (as_line l) (flat_map as_line ls) rest ∙ append_assoc l (10 ∷ []) (flat_map as_line ls ++ rest))
    ∙ (lines-line l (flat_map as_line ls ++ rest) plain.0 ∙ ap (λ ms. l ∷ ms) (lines-behind ls rest plain.1))

pub lines-are : (ls : List (List ℕ)) → Each IsPlain ls → lines_of (flat_map as_line ls) ≡ ls
lines-are [] plain = refl
lines-are (l ∷ ls) plain =
    ap lines_of (append_assoc l (10 ∷ []) (flat_map as_line ls))
    ∙ (lines-line l (flat_map as_line ls) plain.0 ∙ ap (λ ms. l ∷ ms) (lines-are ls plain.1))

-- each thing on a line of its own
pub printed : {X : Type 0} (text : X → List ℕ) (xs : List X) → flat_map (λ x. as_line (text x)) xs ≡ flat_map as_line (map text xs)
printed text [] = refl
printed text (x ∷ xs) = ap (λ bs. as_line (text x) ++ bs) (printed text xs)
