-- What it is to take a message from the front of bytes, and to be all of them.
use Rattle.std.specs.Prelude.{◌≡◌, ℕ, List, [], ◌∷◌, Option, None, Some, Result, IfOk, option_map}
use Rattle.wire_fields.specs.Fields.{Reads}
use Rattle.wire_fields.specs.Formats.{Format}

-- the message that stands in front, or that there is none; nothing is said where memory was wanted
abbrev pub Takes : {V E : Type 0} → Format V → List ℕ → List ℕ → Result (Option V) E → Type 0
Takes f before after answer = IfOk answer (λ there. Reads f before after there)

-- the same for what a function makes of the answer
abbrev pub TakesBy : {V W E : Type 0} → (W → V) → Format V → List ℕ → List ℕ → Result (Option W) E → Type 0
TakesBy view f before after answer = IfOk answer (λ there. Reads f before after (option_map view there))

-- a value that no byte stands after
abbrev pub if_none_left : {V : Type 0} → V → List ℕ → Option V
if_none_left v [] = Some v
if_none_left v (_ ∷ _) = None

-- the message that all of the bytes are
abbrev pub whole : {V : Type 0} → Option (V × List ℕ) → Option V
whole None = None
whole (Some p) = if_none_left p.0 p.1

abbrev pub read_whole : {V : Type 0} → Format V → List ℕ → Option V
read_whole f bs = whole (f.read bs)

-- what is spelled reads back, what is read has these bytes, and so no two byte strings are read as the same value
pub record HasOneSpelling {V : Type 0} (f : Format V) : Type 0 where
  pub reads_back : (v : V) → f.Fits v → read_whole f (f.spell v) ≡ Some v
  pub is_spelled : (v : V) (bs : List ℕ) → read_whole f bs ≡ Some v → f.Fits v × (bs ≡ f.spell v)
  pub no_two : (v : V) (one other : List ℕ) → read_whole f one ≡ Some v → read_whole f other ≡ Some v → one ≡ other
