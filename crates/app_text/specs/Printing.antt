-- What printing adds to a text.
use Rattle.std.specs.Prelude.{ℕ, List, ◌∷◌}
use Rattle.app_text.specs.declared.word.Word.{Word}
use Rattle.app_text.specs.declared.word.Word.TheVariants.{Plain, Marked}

-- the bytes of a word
abbrev pub word_text : Word → List ℕ
word_text (Plain bytes) = bytes.now
word_text (Marked bytes) = 61 ∷ bytes.now
