-- The texts of the mirror's inputs and outputs.
use Rattle.std.specs.Prelude.{ℕ, Bool, ◌&&◌, ◌+◌, ◌-◌, nat_le, nat_lt, List, [], ◌∷◌, Option, None, Some, codes, if◌then◌else◌}
use Rattle.std.specs.Option.{option_map}
use Rattle.std.specs.Str.{bytes_eq}
use Rattle.vst_base.specs.declared.mirror.MirrorInput.{MirrorInput}
use Rattle.vst_base.specs.declared.mirror.MirrorInput.TheVariants.{Put}
use Rattle.vst_base.specs.declared.mirror.MirrorOutput.{MirrorOutput}
use Rattle.vst_base.specs.declared.mirror.MirrorOutput.TheVariants.{From}
use Rattle.vst_base.specs.Tokens.{is_value}
use Rattle.vst_base.specs.declared.node.TheConstants.{MAX_NODES}
use Rattle.app_text.specs.Words.{words_of, joined}

-- the words of an input
abbrev pub input_words : MirrorInput → List (List ℕ)
input_words (Put v) = codes "put" ∷ v ∷ []

abbrev pub is_input : MirrorInput → Bool
is_input (Put v) = is_value v

-- the input that has these words
abbrev pub input_by_words : List (List ℕ) → Option MirrorInput
input_by_words (name ∷ v ∷ []) = if bytes_eq name (codes "put") && is_value v then Some (Put v) else None
input_by_words _ = None

-- a sender is one digit, from 0 to 8
abbrev pub sender_text : ℕ → List ℕ
sender_text n = (48 + n) ∷ []

abbrev pub sender_of : List ℕ → Option ℕ
sender_of (b ∷ []) = if nat_le 48 b && nat_lt (b - 48) MAX_NODES then Some (b - 48) else None
sender_of _ = None

-- the words of an output
abbrev pub output_words : MirrorOutput → List (List ℕ)
output_words (From n v) = codes "from" ∷ sender_text n ∷ v ∷ []

abbrev pub is_output : MirrorOutput → Bool
is_output (From n v) = nat_lt n MAX_NODES && is_value v

-- the output that has these words
abbrev pub output_by_words : List (List ℕ) → Option MirrorOutput
output_by_words (name ∷ s ∷ v ∷ []) =
    if bytes_eq name (codes "from") && is_value v then option_map (λ n. From n v) (sender_of s)
    else None
output_by_words _ = None

abbrev pub input_of : List ℕ → Option MirrorInput
input_of bs = input_by_words (words_of bs)

abbrev pub input_text : MirrorInput → List ℕ
input_text i = joined (input_words i)

abbrev pub output_of : List ℕ → Option MirrorOutput
output_of bs = output_by_words (words_of bs)

abbrev pub output_text : MirrorOutput → List ℕ
output_text o = joined (output_words o)
