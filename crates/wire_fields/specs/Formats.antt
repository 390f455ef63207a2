-- How values are spelled as bytes that stand in front of others, and are read back.
use Rattle.std.specs.Prelude.{◌≡◌, ℕ, zero, suc, Bool, IsTrue, List, [], ◌∷◌, ◌++◌, length, All, Option, Some, None, if◌then◌else◌}
use Rattle.std.specs.List.{flat_map}

-- which values have bytes, the bytes of a value, and the value whose bytes stand in front, with what stands after them
pub record Format (V : Type 0) : Type 1 where
  pub Fits : V → Type 0
  pub spell : V → List ℕ
  pub read : List ℕ → Option (V × List ℕ)

-- these bytes are those of the value, and the rest after them
pub record IsSpelled {V : Type 0} (f : Format V) (bs : List ℕ) (v : V) (rest : List ℕ) : Type 0 where
  pub fits : f.Fits v
  pub bytes : bs ≡ f.spell v ++ rest

-- what is spelled reads back, whatever stands after it, and what is read is spelled by the very bytes that it was read of: so
-- no two values have the same bytes, and no value has two spellings
pub record IsFormat {V : Type 0} (f : Format V) : Type 0 where
  pub reads_back : (v : V) (rest : List ℕ) → f.Fits v → f.read (f.spell v ++ rest) ≡ Some (v, rest)
  pub one_spelling : (bs : List ℕ) (v : V) (rest : List ℕ) → f.read bs ≡ Some (v, rest) → IsSpelled f bs v rest

-- what is read next, after what was read first
abbrev pub and_then : {A B : Type 0} → Option (A × List ℕ) → (A → List ℕ → Option (B × List ℕ)) → Option (B × List ℕ)
and_then None next = None
and_then (Some first) next = next first.0 first.1

-- one value and then another
abbrev pub pair : {A B : Type 0} → Format A → Format B → Format (A × B)
pair f g = record {
  Fits = λ v. f.Fits v.0 × g.Fits v.1;
  spell = λ v. f.spell v.0 ++ g.spell v.1;
  read = λ bs. and_then (f.read bs) (λ a rest. and_then (g.read rest) (λ b end. Some ((a, b), end)));
}

-- one value, and then another whose format the first decides
abbrev pub linked : {A B : Type 0} → Format A → (A → Format B) → Format (A × B)
linked f g = record {
  Fits = λ v. f.Fits v.0 × (g v.0).Fits v.1;
  spell = λ v. f.spell v.0 ++ (g v.0).spell v.1;
  read = λ bs. and_then (f.read bs) (λ a rest. and_then ((g a).read rest) (λ b end. Some ((a, b), end)));
}

-- a value that stands for another
abbrev pub mapped : {A V : Type 0} → (A → V) → (V → A) → Format A → Format V
mapped to from f = record {
  Fits = λ v. f.Fits (from v);
  spell = λ v. f.spell (from v);
  read = λ bs. and_then (f.read bs) (λ a rest. Some (to a, rest));
}

-- a key of a value, as its length or its kind, and then the value, as the key has it
abbrev pub keyed : {A V : Type 0} → (V → A) → Format A → (A → Format V) → Format V
keyed key f g = record {
  Fits = λ v. f.Fits (key v) × (g (key v)).Fits v;
  spell = λ v. f.spell (key v) ++ (g (key v)).spell v;
  read = λ bs. and_then (f.read bs) (λ a rest. (g a).read rest);
}

-- a value that passes a test
abbrev pub tested : {V : Type 0} → (V → Bool) → Format V → Format V
tested test f = record {
  Fits = λ v. f.Fits v × IsTrue (test v);
  spell = λ v. f.spell v;
  read = λ bs. and_then (f.read bs) (λ v rest. if test v then Some (v, rest) else None);
}

-- so many values, one after the other
abbrev pub read_list : {A : Type 0} → (List ℕ → Option (A × List ℕ)) → ℕ → List ℕ → Option (List A × List ℕ)
read_list read zero bs = Some ([], bs)
read_list read (suc n) bs = and_then (read bs) (λ a rest. and_then (read_list read n rest) (λ more end. Some (a ∷ more, end)))

abbrev pub listed : {A : Type 0} → Format A → ℕ → Format (List A)
listed f n = record {
  Fits = λ v. (length v ≡ n) × All f.Fits v;
  spell = λ v. flat_map f.spell v;
  read = λ bs. read_list f.read n bs;
}

-- no bytes at all
abbrev pub nothing : Format Unit
nothing = record { Fits = λ _. Unit {0}; spell = λ _. []; read = λ bs. Some (tt, bs) }

-- what is made of the value that is read
abbrev pub read_as : {A V : Type 0} → (A → V) → Format A → List ℕ → Option (V × List ℕ)
read_as make f bs = and_then (f.read bs) (λ a rest. Some (make a, rest))

-- a value that is made of another: the others have no bytes
abbrev pub FitsIfMade : {A : Type 0} → (A → Type 0) → Option A → Type 0
FitsIfMade Fits None = ⊥
FitsIfMade Fits (Some a) = Fits a

abbrev pub spell_if_made : {A : Type 0} → (A → List ℕ) → Option A → List ℕ
spell_if_made spell None = []
spell_if_made spell (Some a) = spell a

abbrev pub made_of : {A V : Type 0} → (A → V) → (V → Option A) → Format A → Format V
made_of make part f = record {
  Fits = λ v. FitsIfMade f.Fits (part v);
  spell = λ v. spell_if_made f.spell (part v);
  read = λ bs. read_as make f bs;
}
