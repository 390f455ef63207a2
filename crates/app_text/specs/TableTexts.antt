-- The texts of the lock table's commands and outputs.
use Rattle.std.specs.Prelude.{ℕ, Bool, true, false, ◌&&◌, List, [], ◌∷◌, Option, None, Some, codes, if◌then◌else◌}
use Rattle.std.specs.Option.{option_map}
use Rattle.std.specs.Str.{bytes_eq}
use Rattle.lock_table.specs.Table.{told}
use Rattle.lock_table.specs.declared.cmd.TableCmd.{TableCmd}
use Rattle.lock_table.specs.declared.cmd.TableCmd.TheVariants.{Acquire, Release, Holder}
use Rattle.lock_table.specs.declared.out.TableOut.{TableOut}
use Rattle.vst_base.specs.Tokens.{is_key}
use Rattle.app_text.specs.WordForms.{key_of, key_and_token_of, keyed_reply_of}
use Rattle.app_text.specs.Words.{words_of, joined, optional_text, is_optional}

-- the words of a command
abbrev pub command_words : TableCmd → List (List ℕ)
command_words (Acquire l o) = codes "acquire" ∷ l ∷ o ∷ []
command_words (Release l o) = codes "release" ∷ l ∷ o ∷ []
command_words (Holder l) = codes "holder" ∷ l ∷ []

-- its names and its owners are keys
abbrev pub is_command : TableCmd → Bool
is_command (Acquire l o) = is_key l && is_key o
is_command (Release l o) = is_key l && is_key o
is_command (Holder l) = is_key l

-- the command that has these words
abbrev pub command_of : List (List ℕ) → Option TableCmd
command_of [] = None
command_of (name ∷ args) =
    if bytes_eq name (codes "acquire") then option_map (λ p. Acquire p.0 p.1) (key_and_token_of 64 args)
    else if bytes_eq name (codes "release") then option_map (λ p. Release p.0 p.1) (key_and_token_of 64 args)
    else if bytes_eq name (codes "holder") then option_map (λ l. Holder l) (key_of args)
    else None

-- `yes` or `no`
abbrev pub answer_text : Bool → List ℕ
answer_text true = codes "yes"
answer_text false = codes "no"

abbrev pub answer_of : List ℕ → Option Bool
answer_of w =
    if bytes_eq w (codes "yes") then Some true
    else if bytes_eq w (codes "no") then Some false
    else None

-- an output: its name, the holder of the name, and the answer
abbrev pub output_words : TableOut → List (List ℕ)
output_words o = o.name ∷ optional_text o.holder ∷ answer_text o.yes ∷ []

abbrev pub is_output : TableOut → Bool
is_output o = is_key o.name && is_optional 64 o.holder

abbrev pub output_by_words : List (List ℕ) → Option TableOut
output_by_words ws = keyed_reply_of 64 answer_of told ws

abbrev pub input_of : List ℕ → Option TableCmd
input_of bs = command_of (words_of bs)

abbrev pub input_text : TableCmd → List ℕ
input_text c = joined (command_words c)

abbrev pub output_of : List ℕ → Option TableOut
output_of bs = output_by_words (words_of bs)

abbrev pub output_text : TableOut → List ℕ
output_text o = joined (output_words o)
