-- A value of one of several kinds has one spelling, where the bytes of the kinds differ.
use Rattle.std.proofs.Common.{◌≡◌, ◌==◌, ℕ, Bool, true, false, ◌&&◌, List, [], ◌∷◌, ◌++◌, Option, None, Some, refl, sym, ap, subst, ◌∙◌, if◌then◌else◌, eq-eqb}
use Rattle.std.proofs.lemmas.Bool.{and_parts, eqb-true}
use Rattle.wire_fields.specs.FormatLaws.{both_read, same_answer}
use Rattle.wire_fields.specs.Formats.{Format, IsFormat, IsSpelled, and_then, read_as}
use Rattle.wire_fields.specs.Kinds.{Kinds, no_more, kind, Part, here, later, PartFits, spell_part, read_kind, read_kinds, one_of}

-- by the test of a first byte, or by those after it
pub by_byte : {A : Type 0} {P : Type 0} (b c : ℕ) (now after : Option A) (v : A) → (b ≡ c → now ≡ Some v → P) → (after ≡ Some v → P) → (if b == c then now else after) ≡ Some v → P
by_byte {A} {P} b c now after v is_now is_after e = by (b == c) (eqb-true b c) e
  where
    by : (same : Bool) → (same ≡ true → b ≡ c) → (if same then now else after) ≡ Some v → P
    by true same e = is_now (same refl) e
    by false same e = is_after e

-- the value of a part
abbrev pub make_of : {V : Type 0} (kinds : Kinds V) → Part kinds → V
make_of no_more p = absurd p
make_of (kind tag f make more) (here a) = make a
make_of (kind tag f make more) (later p) = make_of more p

-- each part is spelled in one way
abbrev pub AreFormats : {V : Type 0} → Kinds V → Type 0
AreFormats no_more = Unit {0}
AreFormats (kind tag f make more) = IsFormat f × AreFormats more

-- the bytes of the kinds differ
abbrev pub is_new : {V : Type 0} → ℕ → Kinds V → Bool
is_new b no_more = true
is_new b (kind tag f make more) = if b == tag then false else is_new b more

abbrev pub differ : {V : Type 0} → Kinds V → Bool
differ no_more = true
differ (kind tag f make more) = is_new tag more && differ more

-- the part of what is made of a part, which stands at this place, is that part
abbrev pub ArePartsOf : {V P : Type 0} (kinds : Kinds V) → (Part kinds → P) → (V → P) → Type 0
ArePartsOf no_more place part = Unit {0}
ArePartsOf (kind {A = A} tag f make more) place part = ((a : A) → part (make a) ≡ place (here a)) × ArePartsOf more (λ p. place (later p)) part

parts_of : {V P : Type 0} (kinds : Kinds V) (place : Part kinds → P) (part : V → P) → ArePartsOf kinds place part → (p : Part kinds) → part (make_of kinds p) ≡ place p
parts_of no_more place part are p = absurd p
parts_of (kind tag f make more) place part are (here a) = are.0 a
parts_of (kind tag f make more) place part are (later p) = parts_of more (λ p. place (later p)) part are.1 p

no_kind : {V : Type 0} (kinds : Kinds V) (b : ℕ) (bs : List ℕ) → is_new b kinds ≡ true → read_kind kinds b bs ≡ None
no_kind no_more b bs new = refl
no_kind {V} (kind tag f make more) b bs new = by (b == tag) (no_kind more b bs) new
  where
    by : (same : Bool) → (is_new b more ≡ true → read_kind more b bs ≡ None) → (if same then false else is_new b more) ≡ true → (if same then read_as make f bs else read_kind more b bs) ≡ None
    by true none new = cc
    by false none new = none new

-- what is read of the later kinds is read past the first
past_first : {V A : Type 0} (tag : ℕ) (f : Format A) (make : A → V) (more : Kinds V) (bs : List ℕ) (v : V) (rest : List ℕ) → is_new tag more ≡ true
    → read_kinds more bs ≡ Some (v, rest) → read_kinds (kind tag f make more) bs ≡ Some (v, rest)
past_first tag f make more [] v rest new e = cc
past_first {V} tag f make more (b ∷ bs) v rest new e = by (b == tag) (eqb-true b tag)
  where
    by : (same : Bool) → (same ≡ true → b ≡ tag) → (if same then read_as make f bs else read_kind more b bs) ≡ Some (v, rest)
    by true same =
        let none : read_kind more b bs ≡ None = subst (λ (c : ℕ). read_kind more c bs ≡ None) (sym (same refl)) (no_kind more tag bs new) in
        cc
    by false same = e

part_back : {V : Type 0} (kinds : Kinds V) → AreFormats kinds → differ kinds ≡ true → (p : Part kinds) (rest : List ℕ) → PartFits kinds p
    → read_kinds kinds (spell_part kinds p ++ rest) ≡ Some (make_of kinds p, rest)
part_back no_more are differs p rest fits = absurd p
part_back {V} (kind tag f make more) are differs (here a) rest fits =
    ap (λ same. if same then read_as make f (f.spell a ++ rest) else read_kind more tag (f.spell a ++ rest)) (eq-eqb tag tag refl)
    ∙ ap (λ o. and_then o (λ a rest. let made : Option (V × List ℕ) = Some (make a, rest) in made)) (are.0.reads_back a rest fits)
part_back (kind tag f make more) are differs (later p) rest fits =
    let parts = and_parts _ _ differs in
    past_first tag f make more (spell_part more p ++ rest) (make_of more p) rest parts.0 (part_back more are.1 parts.1 p rest fits)

-- these bytes are those of the part of the value, and the rest after them
record IsPart {V : Type 0} (kinds : Kinds V) (bs : List ℕ) (v : V) (rest : List ℕ) : Type 0 where
  part : Part kinds
  made : make_of kinds part ≡ v
  fits : PartFits kinds part
  bytes : bs ≡ spell_part kinds part ++ rest

part_one : {V : Type 0} (kinds : Kinds V) → AreFormats kinds → (b : ℕ) (bs : List ℕ) (v : V) (rest : List ℕ) → read_kind kinds b bs ≡ Some (v, rest) → IsPart kinds (b ∷ bs) v rest
part_one no_more are b bs v rest e = cc
part_one {V} (kind tag f make more) are b bs v rest e =
    by_byte b tag (read_as make f bs) (read_kind more b bs) (v, rest)
    (λ is found.
    let read = both_read (f.read bs) (λ a rest. Some (make a, rest)) v rest found in
    let same = same_answer (make read.value) v read.between rest read.next_is in
    let inner = are.0.one_spelling bs read.value read.between read.first_is in
    let all : b ∷ bs ≡ tag ∷ (f.spell read.value ++ read.between) = λ i. is i ∷ inner.bytes i in
    record { part = here read.value; made = same.0; fits = inner.fits; bytes = all ∙ ap (λ r. tag ∷ (f.spell read.value ++ r)) same.1 })
    (λ found. let past = part_one more are.1 b bs v rest found in record { part = later past.part; made = past.made; fits = past.fits; bytes = past.bytes }) e

pub one_of_is_format : {V : Type 0} (kinds : Kinds V) (part : V → Part kinds) → ((v : V) → make_of kinds (part v) ≡ v) → ArePartsOf kinds (λ p. p) part → differ kinds ≡ true → AreFormats kinds
    → IsFormat (one_of kinds part)
one_of_is_format {V} kinds part made are_parts differs are = record { reads_back = back; one_spelling = one }
  where
    back : (v : V) (rest : List ℕ) → PartFits kinds (part v) → read_kinds kinds (spell_part kinds (part v) ++ rest) ≡ Some (v, rest)
    back v rest fits =
        part_back kinds are differs (part v) rest fits ∙ ap (λ u. let found : Option (V × List ℕ) = Some (u, rest) in found) (made v)

    one : (bs : List ℕ) (v : V) (rest : List ℕ) → read_kinds kinds bs ≡ Some (v, rest) → IsSpelled (one_of kinds part) bs v rest
    one [] v rest e = cc
    one (b ∷ bs) v rest e =
        let is = part_one kinds are b bs v rest e in
        let same : is.part ≡ part v = sym (parts_of kinds (λ p. p) part are_parts is.part) ∙ ap part is.made in
        record { fits = subst (PartFits kinds) same is.fits; bytes = is.bytes ∙ ap (λ p. spell_part kinds p ++ rest) same }
