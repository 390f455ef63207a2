-- The texts of the key-value machine's commands and outputs.
use Rattle.std.specs.Prelude.{ℕ, Bool, ◌&&◌, List, [], ◌∷◌, Option, None, codes, if◌then◌else◌}
use Rattle.std.specs.Option.{option_map}
use Rattle.std.specs.Str.{bytes_eq}
use Rattle.kv_machine.specs.declared.cmd.KvCmd.{KvCmd}
use Rattle.kv_machine.specs.declared.cmd.KvCmd.TheVariants.{Get, Put, Del, Cas, Cad}
use Rattle.kv_machine.specs.declared.out.KvOut.{KvOut}
use Rattle.vst_base.specs.Tokens.{is_key, is_value}
use Rattle.app_text.specs.WordForms.{key_of, key_and_token_of, keyed_reply_of}
use Rattle.app_text.specs.Words.{words_of, joined, optional_text, optional_of, is_optional}

-- the words of a command
abbrev pub command_words : KvCmd → List (List ℕ)
command_words (Get k) = codes "get" ∷ k ∷ []
command_words (Put k v) = codes "put" ∷ k ∷ v ∷ []
command_words (Del k) = codes "del" ∷ k ∷ []
command_words (Cas k e v) = codes "cas" ∷ k ∷ optional_text e ∷ v ∷ []
command_words (Cad k v) = codes "cad" ∷ k ∷ v ∷ []

-- its keys are keys and its values are values
abbrev pub is_command : KvCmd → Bool
is_command (Get k) = is_key k
is_command (Put k v) = is_key k && is_value v
is_command (Del k) = is_key k
is_command (Cas k e v) = (is_key k && is_value v) && is_optional 1024 e
is_command (Cad k v) = is_key k && is_value v

-- what stands after `cas`: a key, the value that it is expected to have, if one is, and the value to set
abbrev pub cas_of : List (List ℕ) → Option KvCmd
cas_of (k ∷ e ∷ v ∷ []) = if is_key k && is_value v then option_map (λ e. Cas k e v) (optional_of 1024 e) else None
cas_of _ = None

-- the command that has these words
abbrev pub command_of : List (List ℕ) → Option KvCmd
command_of [] = None
command_of (name ∷ args) =
    if bytes_eq name (codes "get") then option_map (λ k. Get k) (key_of args)
    else if bytes_eq name (codes "put") then option_map (λ p. Put p.0 p.1) (key_and_token_of 1024 args)
    else if bytes_eq name (codes "del") then option_map (λ k. Del k) (key_of args)
    else if bytes_eq name (codes "cas") then cas_of args
    else if bytes_eq name (codes "cad") then option_map (λ p. Cad p.0 p.1) (key_and_token_of 1024 args)
    else None

-- an output: its key, its value after and its value before
abbrev pub output_words : KvOut → List (List ℕ)
output_words o = o.key ∷ optional_text o.after ∷ optional_text o.before ∷ []

abbrev pub is_output : KvOut → Bool
is_output o = is_key o.key && (is_optional 1024 o.after && is_optional 1024 o.before)

abbrev pub kv_out : List ℕ → Option (List ℕ) → Option (List ℕ) → KvOut
kv_out k after before = record { key = k; after = after; before = before }

abbrev pub output_by_words : List (List ℕ) → Option KvOut
output_by_words ws = keyed_reply_of 1024 (λ w. optional_of 1024 w) kv_out ws

abbrev pub input_of : List ℕ → Option KvCmd
input_of bs = command_of (words_of bs)

abbrev pub input_text : KvCmd → List ℕ
input_text c = joined (command_words c)

abbrev pub output_of : List ℕ → Option KvOut
output_of bs = output_by_words (words_of bs)

abbrev pub output_text : KvOut → List ℕ
output_text o = joined (output_words o)
