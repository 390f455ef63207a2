-- What is made of formats is a format.
use Rattle.std.proofs.Common.{◌≡◌, ◌≤◌, ◌<◌, ℕ, zero, suc, Bool, true, false, IsTrue, List, [], ◌∷◌, ◌++◌, length, All, Option, Some, None, if◌then◌else◌, refl, sym, ap, subst, ◌∙◌, append_assoc, arith, length-append}
use Rattle.std.specs.List.{flat_map}
use Rattle.std.proofs.lemmas.List.Elements.{All-cons, All-head, All-nil, All-tail}
use Rattle.wire_fields.specs.Formats.{Format, IsSpelled, IsFormat, and_then, pair, linked, mapped, keyed, tested, read_list, listed, nothing, read_as, FitsIfMade, spell_if_made, made_of}

-- both were read
pub record AreRead {A B : Type 0} (first : Option (A × List ℕ)) (next : A → List ℕ → Option (B × List ℕ)) (b : B) (rest : List ℕ) : Type 0 where
  pub value : A
  pub between : List ℕ
  pub first_is : first ≡ Some (value, between)
  pub next_is : next value between ≡ Some (b, rest)

pub both_read : {A B : Type 0} (first : Option (A × List ℕ)) (next : A → List ℕ → Option (B × List ℕ)) (b : B) (rest : List ℕ)
    → and_then first next ≡ Some (b, rest) → AreRead first next b rest
both_read None next b rest e = cc
both_read (Some p) next b rest e = record { value = p.0; between = p.1; first_is = refl; next_is = e }

-- one answer has one value and one rest
pub same_answer : {A : Type 0} (a b : A) (r s : List ℕ) → ◌≡◌ {A = Option (A × List ℕ)} (Some (a, r)) (Some (b, s)) → (a ≡ b) × (r ≡ s)
same_answer {A} a b r s e =
    let is : ◌≡◌ {A = A × List ℕ} (a, r) (b, s) = cc in
    (ap (λ p. p.0) is, ap (λ p. p.1) is)

-- no value stands in front of fewer bytes than each value takes
pub short_is_none : {V : Type 0} (f : Format V) (n : ℕ) → IsFormat f → ((v : V) → f.Fits v → n ≤ length (f.spell v)) → (bs : List ℕ) → length bs < n → f.read bs ≡ None
short_is_none {V} f n is_f takes bs less = by (f.read bs) refl
  where
    by : (o : Option (V × List ℕ)) → f.read bs ≡ o → f.read bs ≡ None
    by None e = e
    by (Some p) e =
        let spelled = is_f.one_spelling bs p.0 p.1 e in
        let no : ⊥ = omega (arith, takes p.0 spelled.fits, ap length spelled.bytes, length-append (f.spell p.0) p.1) in
        absurd no

pub linked_is_format : {A B : Type 0} (f : Format A) (g : A → Format B) → IsFormat f → ((a : A) → IsFormat (g a)) → IsFormat (linked f g)
linked_is_format {A} {B} f g is_f is_g = record { reads_back = back; one_spelling = one }
  where
    back : (v : A × B) (rest : List ℕ) → f.Fits v.0 × (g v.0).Fits v.1 → (linked f g).read ((f.spell v.0 ++ (g v.0).spell v.1) ++ rest) ≡ Some (v, rest)
    back v rest fits =
        let next : A → List ℕ → Option ((A × B) × List ℕ) = λ a rest. and_then ((g a).read rest) (λ b end. Some ((a, b), end)) in
        ap (λ bs. and_then (f.read bs) next) (append_assoc (f.spell v.0) ((g v.0).spell v.1) rest)
        ∙ ap (λ o. and_then o next) (is_f.reads_back v.0 ((g v.0).spell v.1 ++ rest) fits.0)
        ∙ ap (λ o. and_then o (λ b end. Some ((v.0, b), end))) ((is_g v.0).reads_back v.1 rest fits.1)

    one : (bs : List ℕ) (v : A × B) (rest : List ℕ) → (linked f g).read bs ≡ Some (v, rest) → IsSpelled (linked f g) bs v rest
    one bs v rest e =
        let first = both_read (f.read bs) (λ a rest. and_then ((g a).read rest) (λ b end. Some ((a, b), end))) v rest e in
        let second = both_read ((g first.value).read first.between) (λ b end. Some ((first.value, b), end)) v rest first.next_is in
        let is_first = is_f.one_spelling bs first.value first.between first.first_is in
        let is_second = (is_g first.value).one_spelling first.between second.value second.between second.first_is in
        let same = same_answer (first.value, second.value) v second.between rest second.next_is in
        let spelled : IsSpelled (linked f g) bs (first.value, second.value) second.between = record {
          fits = (is_first.fits, is_second.fits);
          bytes = is_first.bytes ∙ ap (λ more. f.spell first.value ++ more) is_second.bytes ∙ sym (append_assoc (f.spell first.value) ((g first.value).spell second.value) second.between);
        } in
        subst (λ r. IsSpelled (linked f g) bs v r) same.1 (subst (λ u. IsSpelled (linked f g) bs u second.between) same.0 spelled)

pub pair_is_format : {A B : Type 0} (f : Format A) (g : Format B) → IsFormat f → IsFormat g → IsFormat (pair f g)
pair_is_format f g is_f is_g = linked_is_format f (λ _. g) is_f (λ _. is_g)

pub mapped_is_format : {A V : Type 0} (to : A → V) (from : V → A) (f : Format A) → ((v : V) → to (from v) ≡ v) → ((a : A) → from (to a) ≡ a) → IsFormat f → IsFormat (mapped to from f)
mapped_is_format {A} {V} to from f to-from from-to is_f = record { reads_back = back; one_spelling = one }
  where
    back : (v : V) (rest : List ℕ) → f.Fits (from v) → and_then (f.read (f.spell (from v) ++ rest)) (λ a rest. Some (to a, rest)) ≡ Some (v, rest)
    back v rest fits =
        ap (λ o. and_then o (λ a rest. Some (to a, rest))) (is_f.reads_back (from v) rest fits) ∙ ap (λ u. Some (u, rest)) (to-from v)

    one : (bs : List ℕ) (v : V) (rest : List ℕ) → (mapped to from f).read bs ≡ Some (v, rest) → IsSpelled (mapped to from f) bs v rest
    one bs v rest e =
        let read = both_read (f.read bs) (λ a rest. Some (to a, rest)) v rest e in
        let answer = same_answer (to read.value) v read.between rest read.next_is in
        let is = answer.0 in
        let end = answer.1 in
        let same : read.value ≡ from v = sym (from-to read.value) ∙ ap from is in
        let spelled = is_f.one_spelling bs read.value read.between read.first_is in
        record {
          fits = subst f.Fits same spelled.fits;
          bytes = spelled.bytes ∙ ap (λ u. f.spell u ++ read.between) same ∙ ap (λ r. f.spell (from v) ++ r) end;
        }

pub keyed_is_format : {A V : Type 0} (key : V → A) (f : Format A) (g : A → Format V) → ((a : A) (v : V) → (g a).Fits v → key v ≡ a)
    → IsFormat f → ((a : A) → IsFormat (g a)) → IsFormat (keyed key f g)
keyed_is_format {A} {V} key f g key_is is_f is_g = record { reads_back = back; one_spelling = one }
  where
    back : (v : V) (rest : List ℕ) → f.Fits (key v) × (g (key v)).Fits v → and_then (f.read ((f.spell (key v) ++ (g (key v)).spell v) ++ rest)) (λ a rest. (g a).read rest) ≡ Some (v, rest)
    back v rest fits =
        ap (λ bs. and_then (f.read bs) (λ a rest. (g a).read rest)) (append_assoc (f.spell (key v)) ((g (key v)).spell v) rest)
        ∙ ap (λ o. and_then o (λ a rest. (g a).read rest)) (is_f.reads_back (key v) ((g (key v)).spell v ++ rest) fits.0)
        ∙ (is_g (key v)).reads_back v rest fits.1

    one : (bs : List ℕ) (v : V) (rest : List ℕ) → (keyed key f g).read bs ≡ Some (v, rest) → IsSpelled (keyed key f g) bs v rest
    one bs v rest e =
        let read = both_read (f.read bs) (λ a rest. (g a).read rest) v rest e in
        let first = is_f.one_spelling bs read.value read.between read.first_is in
        let second = (is_g read.value).one_spelling read.between v rest read.next_is in
        let is : key v ≡ read.value = key_is read.value v second.fits in
        let spelled : (f.Fits read.value × (g read.value).Fits v) × (bs ≡ (f.spell read.value ++ (g read.value).spell v) ++ rest) =
        ((first.fits, second.fits), first.bytes ∙ ap (λ more. f.spell read.value ++ more) second.bytes ∙ sym (append_assoc (f.spell read.value) ((g read.value).spell v) rest)) in
        let moved = subst (λ a. (f.Fits a × (g a).Fits v) × (bs ≡ (f.spell a ++ (g a).spell v) ++ rest)) (sym is) spelled in
        record { fits = moved.0; bytes = moved.1 }

pub tested_is_format : {V : Type 0} (test : V → Bool) (f : Format V) → IsFormat f → IsFormat (tested test f)
tested_is_format {V} test f is_f = record { reads_back = back; one_spelling = one }
  where
    back : (v : V) (rest : List ℕ) → f.Fits v × IsTrue (test v) → (tested test f).read (f.spell v ++ rest) ≡ Some (v, rest)
    back v rest fits =
        let keep : V → List ℕ → Option (V × List ℕ) = λ v rest. if test v then Some (v, rest) else None in
        ap (λ o. and_then o keep) (is_f.reads_back v rest fits.0)
        ∙ ap (λ b. let kept : Option (V × List ℕ) = Some (v, rest) in if b then kept else None) fits.1

    by : (bs : List ℕ) (v u : V) (rest between : List ℕ) (b : Bool) → test u ≡ b → IsSpelled f bs u between → ◌≡◌ {A = Option (V × List ℕ)} (if b then Some (u, between) else None) (Some (v, rest)) → IsSpelled (tested test f) bs v rest
    by bs v u rest between true passes spelled e =
        let answer = same_answer u v between rest e in
        let is = answer.0 in
        let end = answer.1 in
        record {
          fits = subst (λ u. f.Fits u × IsTrue (test u)) is (spelled.fits, passes);
          bytes = spelled.bytes ∙ ap (λ u. f.spell u ++ between) is ∙ ap (λ r. f.spell v ++ r) end;
        }
    by bs v u rest between false passes spelled e = cc

    one : (bs : List ℕ) (v : V) (rest : List ℕ) → (tested test f).read bs ≡ Some (v, rest) → IsSpelled (tested test f) bs v rest
    one bs v rest e =
        let read = both_read (f.read bs) (λ v rest. if test v then Some (v, rest) else None) v rest e in
        by bs v read.value rest read.between (test read.value) refl (is_f.one_spelling bs read.value read.between read.first_is) read.next_is

module _ {A : Type 0} (f : Format A) (is_f : IsFormat f) where
  listed_back : (xs : List A) (rest : List ℕ) → All f.Fits xs → read_list f.read (length xs) (flat_map f.spell xs ++ rest) ≡ Some (xs, rest)
  listed_back [] rest fits = refl
  listed_back (x ∷ xs) rest fits =
      let next = λ (a : A) (rest : List ℕ). and_then (read_list f.read (length xs) rest) (λ more end. Some (a ∷ more, end)) in
      ap (λ bs. and_then (f.read bs) next) (append_assoc (f.spell x) (flat_map f.spell xs) rest)
      ∙ ap (λ o. and_then o next) (is_f.reads_back x (flat_map f.spell xs ++ rest) (All-head f.Fits x xs fits))
      ∙ ap (λ o. and_then o (λ more end. Some (x ∷ more, end))) (listed_back xs rest (All-tail f.Fits x xs fits))

  listed_one : (n : ℕ) (bs : List ℕ) (v : List A) (rest : List ℕ) → read_list f.read n bs ≡ Some (v, rest) → IsSpelled (listed f n) bs v rest
  listed_one zero bs v rest e =
      let same = same_answer [] v bs rest e in
      let spelled : IsSpelled (listed f zero) bs [] rest = record { fits = (refl, All-nil f.Fits); bytes = same.1 } in
      subst (λ u. IsSpelled (listed f zero) bs u rest) same.0 spelled
  listed_one (suc n) bs v rest e =
      let first = both_read (f.read bs) (λ a rest. and_then (read_list f.read n rest) (λ more end. Some (a ∷ more, end))) v rest e in
      let x = first.value in
      let second = both_read (read_list f.read n first.between) (λ more end. Some (x ∷ more, end)) v rest first.next_is in
      let xs = second.value in
      let is_first = is_f.one_spelling bs x first.between first.first_is in
      let is_second = listed_one n first.between xs second.between second.first_is in
      let same = same_answer (x ∷ xs) v second.between rest second.next_is in
      let spelled : IsSpelled (listed f (suc n)) bs (x ∷ xs) second.between = record {
        fits = (ap (λ k. suc k) is_second.fits.0, All-cons f.Fits x xs is_first.fits is_second.fits.1);
        bytes = is_first.bytes ∙ ap (λ more. f.spell x ++ more) is_second.bytes ∙ sym (append_assoc (f.spell x) (flat_map f.spell xs) second.between);
      } in
      subst (λ r. IsSpelled (listed f (suc n)) bs v r) same.1 (subst (λ u. IsSpelled (listed f (suc n)) bs u second.between) same.0 spelled)

  pub listed_is_format : (n : ℕ) → IsFormat (listed f n)
  listed_is_format n = record {
    reads_back = λ v rest fits. subst (λ k. read_list f.read k (flat_map f.spell v ++ rest) ≡ Some (v, rest)) fits.0 (listed_back v rest fits.1);
    one_spelling = listed_one n;
  }

pub nothing_is_format : IsFormat nothing
nothing_is_format = record {
  reads_back = λ v rest fits. refl;
  one_spelling = λ bs v rest e. record { fits = tt; bytes = (same_answer tt v bs rest e).1 };
}

pub made_of_is_format : {A V : Type 0} (make : A → V) (part : V → Option A) (f : Format A) → ((a : A) → part (make a) ≡ Some a) → ((v : V) (a : A) → part v ≡ Some a → make a ≡ v) → IsFormat f
    → IsFormat (made_of make part f)
made_of_is_format {A} {V} make part f parted made is_f = record { reads_back = λ v rest fits. by v rest (part v) refl fits; one_spelling = one }
  where
    by : (v : V) (rest : List ℕ) (o : Option A) → part v ≡ o → FitsIfMade f.Fits o → read_as make f (spell_if_made f.spell o ++ rest) ≡ Some (v, rest)
    by v rest None is fits = absurd fits
    by v rest (Some a) is fits =
        ap (λ o. and_then o (λ a rest. Some (make a, rest))) (is_f.reads_back a rest fits) ∙ ap (λ u. let found : Option (V × List ℕ) = Some (u, rest) in found) (made v a is)

    one : (bs : List ℕ) (v : V) (rest : List ℕ) → read_as make f bs ≡ Some (v, rest) → IsSpelled (made_of make part f) bs v rest
    one bs v rest e =
        let read = both_read (f.read bs) (λ a rest. Some (make a, rest)) v rest e in
        let answer = same_answer (make read.value) v read.between rest read.next_is in
        let is : Some read.value ≡ part v = sym (parted read.value) ∙ ap part answer.0 in
        let spelled = is_f.one_spelling bs read.value read.between read.first_is in
        record {
          fits = subst (FitsIfMade f.Fits) is spelled.fits;
          bytes = spelled.bytes ∙ ap (λ o. spell_if_made f.spell o ++ read.between) is ∙ ap (λ r. spell_if_made f.spell (part v) ++ r) answer.1;
        }
