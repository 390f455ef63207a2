-- The fields that messages are made of.
use Rattle.std.specs.Prelude.{◌≡◌, ◌==◌, ℕ, Bool, true, false, ◌&&◌, IsTrue, nat_le, nat_lt, List, [], ◌∷◌, length, take, drop, ◌≤◌, Option, Some, None, if◌then◌else◌}
use Rattle.std.specs.List.{list_all}
use Rattle.vst_base.specs.Tokens.{is_token}
use Rattle.vst_base.specs.declared.token.TheConstants.{MAX_KEY, MAX_VALUE}
use Rattle.wire_fields.specs.Bytes.{has_bytes, number_bytes, read_number}
use Rattle.wire_fields.specs.declared.name.TheConstants.{NAME_LEN}
use Rattle.wire_fields.specs.Formats.{Format, keyed, nothing}
use Rattle.wire_fields.specs.Kinds.{Kinds, Part, first, kind, no_more, one_of, second}

-- a number in a range, in so many bytes
abbrev pub number : ℕ → ℕ → ℕ → Format ℕ
number n low high = record {
  Fits = λ x. (low ≤ x) × (x ≤ high);
  spell = λ x. number_bytes n x;
  read = λ bs. read_number n low high bs;
}

-- so many bytes, whatever they are
abbrev pub raw : ℕ → Format (List ℕ)
raw n = record {
  Fits = λ bs. (length bs ≡ n) × IsTrue (list_all (λ b. nat_lt b 256) bs);
  spell = λ bs. bs;
  read = λ bs. if has_bytes n bs then Some (take n bs, drop n bs) else None;
}

-- the name of a cluster
abbrev pub name : Format (List ℕ)
name = raw NAME_LEN

-- so many bytes that are a token of at most so many
abbrev pub token_of_length : ℕ → ℕ → Format (List ℕ)
token_of_length most n = record {
  Fits = λ token. (length token ≡ n) × IsTrue (is_token most token);
  spell = λ token. token;
  read = λ bs. if nat_le n (length bs) && is_token most (take n bs) then Some (take n bs, drop n bs) else None;
}

-- a token of at most so many bytes, after its length in so many bytes
abbrev pub token : ℕ → ℕ → Format (List ℕ)
token width most = keyed length (number width 1 most) (token_of_length most)

abbrev pub key : Format (List ℕ)
key = token 1 MAX_KEY

abbrev pub value : Format (List ℕ)
value = token 2 MAX_VALUE

-- no or yes
abbrev pub flag_byte : Bool → ℕ
flag_byte false = 0
flag_byte true = 1

abbrev pub read_flag : List ℕ → Option (Bool × List ℕ)
read_flag [] = None
read_flag (b ∷ bs) = if b == 0 then Some (false, bs) else if b == 1 then Some (true, bs) else None

abbrev pub flag : Format Bool
flag = record {
  Fits = λ _. Unit {0};
  spell = λ v. flag_byte v ∷ [];
  read = read_flag;
}

-- a value that may be left out: no, or yes and the value
abbrev pub option_kinds : {A : Type 0} → Format A → Kinds (Option A)
option_kinds f = kind 0 nothing (λ _. None) (kind 1 f (λ a. Some a) no_more)

abbrev pub option_part : {A : Type 0} (f : Format A) → Option A → Part (option_kinds f)
option_part f None = first tt
option_part f (Some a) = second a

abbrev pub optional : {A : Type 0} → Format A → Format (Option A)
optional f = one_of (option_kinds f) (option_part f)

-- what a reader answers of the bytes before, and what it leaves of them
abbrev pub Reads : {V : Type 0} → Format V → List ℕ → List ℕ → Option V → Type 0
Reads f before after None = f.read before ≡ None
Reads f before after (Some v) = f.read before ≡ Some (v, after)
