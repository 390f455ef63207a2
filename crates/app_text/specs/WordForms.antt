-- Words that the texts of several machines have: what stands after a command's name, and a reply.
use Rattle.std.specs.Prelude.{ℕ, ◌&&◌, List, [], ◌∷◌, Option, None, Some, if◌then◌else◌}
use Rattle.std.specs.Option.{option_and_then, option_map}
use Rattle.vst_base.specs.Tokens.{is_key, is_token, token_of}
use Rattle.app_text.specs.Words.{optional_of}

-- a key
abbrev pub key_of : List (List ℕ) → Option (List ℕ)
key_of (k ∷ []) = token_of 64 k
key_of _ = None

-- a key and a token
abbrev pub key_and_token_of : ℕ → List (List ℕ) → Option (List ℕ × List ℕ)
key_and_token_of most (k ∷ w ∷ []) = if is_key k && is_token most w then Some (k, w) else None
key_and_token_of most _ = None

-- a reply: a key, a token that may be left out, and what the last word says
abbrev pub keyed_reply_of : {X O : Type 0} → ℕ → (List ℕ → Option X) → (List ℕ → Option (List ℕ) → X → O) → List (List ℕ) → Option O
keyed_reply_of most last_of make (k ∷ t ∷ w ∷ []) =
    if is_key k then option_and_then (λ token. option_map (λ last. make k token last) (last_of w)) (optional_of most t)
    else None
keyed_reply_of most last_of make _ = None
