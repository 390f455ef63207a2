-- Values of several kinds: each kind has a byte of its own, and a part that stands after it.
use Rattle.std.specs.Prelude.{◌==◌, ℕ, List, [], ◌∷◌, Option, None, if◌then◌else◌}
use Rattle.wire_fields.specs.Formats.{Format, read_as}

-- the kinds of a value, as a table: the byte of a kind, how its part is spelled after that byte, and what is made of the part
pub data Kinds (V : Type 0) : Type 1 where
  no_more : Kinds V
  kind : {A : Type 0} → ℕ → Format A → (A → V) → Kinds V → Kinds V

-- the part of a value: of the first kind, or of a later one
pub data Either (A B : Type 0) : Type 0 where
  here : A → Either A B
  later : B → Either A B

abbrev pub Part : {V : Type 0} → Kinds V → Type 0
Part no_more = ⊥
Part (kind {A = A} tag f make more) = Either A (Part more)

abbrev pub first : {A B : Type 0} → A → Either A B
first a = here a

abbrev pub second : {A B C : Type 0} → B → Either A (Either B C)
second b = later (first b)

abbrev pub third : {A B C D : Type 0} → C → Either A (Either B (Either C D))
third c = later (second c)

abbrev pub fourth : {A B C D E : Type 0} → D → Either A (Either B (Either C (Either D E)))
fourth d = later (third d)

abbrev pub fifth : {A B C D E F : Type 0} → E → Either A (Either B (Either C (Either D (Either E F))))
fifth e = later (fourth e)

abbrev pub PartFits : {V : Type 0} (kinds : Kinds V) → Part kinds → Type 0
PartFits no_more p = ⊥
PartFits (kind tag f make more) (here a) = f.Fits a
PartFits (kind tag f make more) (later p) = PartFits more p

abbrev pub spell_part : {V : Type 0} (kinds : Kinds V) → Part kinds → List ℕ
spell_part no_more p = []
spell_part (kind tag f make more) (here a) = tag ∷ f.spell a
spell_part (kind tag f make more) (later p) = spell_part more p

abbrev pub read_kind : {V : Type 0} → Kinds V → ℕ → List ℕ → Option (V × List ℕ)
read_kind no_more b bs = None
read_kind (kind tag f make more) b bs = if b == tag then read_as make f bs else read_kind more b bs

abbrev pub read_kinds : {V : Type 0} → Kinds V → List ℕ → Option (V × List ℕ)
read_kinds kinds [] = None
read_kinds kinds (b ∷ bs) = read_kind kinds b bs

-- a value of one of these kinds: its byte, and its part
abbrev pub one_of : {V : Type 0} (kinds : Kinds V) → (V → Part kinds) → Format V
one_of kinds part = record {
  Fits = λ v. PartFits kinds (part v);
  spell = λ v. spell_part kinds (part v);
  read = λ bs. read_kinds kinds bs;
}
