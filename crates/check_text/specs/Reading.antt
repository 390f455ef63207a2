-- What reading lines comes to.
use Rattle.std.specs.Prelude.{ℕ, Option, Some, None}
use Rattle.line_reader.specs.declared.why.Why.{Why}
use Rattle.line_reader.specs.declared.why.Why.TheVariants as why

-- something was read from them; or the line of this number is refused; or they end too early, before a line of this number
pub data Reading (A : Type 0) : Type 0 where
  Whole : (a : A) → Reading A
  RefusedAt : (number : ℕ) → (w : Why) → Reading A
  EndedAt : (number : ℕ) → Reading A

abbrev pub read_map : {A B : Type 0} → (A → B) → Reading A → Reading B
read_map f (Whole a) = Whole (f a)
read_map f (RefusedAt number w) = RefusedAt number w
read_map f (EndedAt number) = EndedAt number

-- the line at which a whole text is refused: where it ends too early, the line after its last
abbrev pub refusal_of : {A : Type 0} → Reading A → Option (ℕ × Why)
refusal_of (Whole a) = None
refusal_of (RefusedAt number w) = Some (number, w)
refusal_of (EndedAt number) = Some (number, why.Header)

-- and the line at which one is refused whatever follows it
abbrev pub refusal_so_far : {A : Type 0} → Reading A → Option (ℕ × Why)
refusal_so_far (Whole a) = None
refusal_so_far (RefusedAt number w) = Some (number, w)
refusal_so_far (EndedAt number) = None
