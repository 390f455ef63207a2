-- Words of visible bytes are the ones that their text is cut into again, so what has such words is spelled.
use Rattle.std.specs.Prelude.{◌≡◌, ◌≢◌, ◌==◌, ℕ, Bool, true, false, List, [], ◌∷◌, Option, None, Some, codes, refl, All, if◌then◌else◌}
use Rattle.std.specs.Char.{is_ascii_graphic}
use Rattle.std.specs.List.{list_all, list_any}
use Rattle.std.specs.Option.{option_map}
use Rattle.std.specs.Str.{bytes_eq}
use Rattle.std.proofs.Common.{sym, ap, subst, ◌∙◌, arith}
use Rattle.std.proofs.lemmas.Bool.{and_parts, or_from, eqb-true}
use Rattle.std.proofs.lemmas.Bool.Decides.{nat_tests}
use Rattle.std.proofs.lemmas.List.Elements.{All-weaker}
use Rattle.std.proofs.lemmas.List.Folds.{list_any-append, list_any_none}
use Rattle.std.proofs.lemmas.List.Splits.{join_with_byte-slice_split, slice_split_at, slice_split_none}
use Rattle.std.proofs.lemmas.List.Sums.{AllPass-from_list_all}
use Rattle.std.proofs.lemmas.Slice.Eq.{bytes_eq-Decides}
use Rattle.vst_base.specs.Tokens.{is_token}
use Rattle.app_text.specs.Spelling.{IsSpelling}
use Rattle.app_text.specs.Words.{words_of, joined, is_word, optional_text, optional_of, is_optional}

-- by the test whether it is the text of one value, or by those after it
pub read_fixed : {V : Type 0} (text_of : V → List ℕ) (value : V) {bs : List ℕ} {v : V} {there : Option V} → (there ≡ Some v → text_of v ≡ bs)
    → (if bytes_eq bs (text_of value) then Some value else there) ≡ Some v → text_of v ≡ bs
read_fixed {V} text_of value {bs = bs} {v = v} {there = there} is_there e = by (bytes_eq bs (text_of value)) (bytes_eq-Decides bs (text_of value)).0 e
  where
    by : (same : Bool) → (same ≡ true → bs ≡ text_of value) → (if same then Some value else there) ≡ Some v → text_of v ≡ bs
    by true same e = let is : value ≡ v = cc in ap text_of (sym is) ∙ sym (same refl)
    by false same e = is_there e

-- what was read of some words is spelled by them, and has a text
pub record IsReadBy {V : Type 0} (HasText : V → Type 0) (words : V → List (List ℕ)) (ws : List (List ℕ)) (v : V) : Type 0 where
  pub text : words v ≡ ws
  pub has_text : HasText v

-- how the values of a type are spelled in words
pub record IsWordSpelling {V : Type 0} (HasText : V → Type 0) (value_by : List (List ℕ) → Option V) (words : V → List (List ℕ)) : Type 0 where
  pub read : (ws : List (List ℕ)) (v : V) → value_by ws ≡ Some v → IsReadBy HasText words ws v
  pub reads_back : (v : V) → HasText v → value_by (words v) ≡ Some v
  pub some_word : (v : V) → words v ≢ []
  pub visible : (v : V) → HasText v → list_all is_word (words v) ≡ true

apart : (b c : ℕ) → is_ascii_graphic b ≡ true → is_ascii_graphic c ≡ false → (b == c) ≡ false
apart b c seen hidden = grind (arith, nat_tests)

-- a byte that no word has
avoids : (c : ℕ) → is_ascii_graphic c ≡ false → (w : List ℕ) → is_word w ≡ true → All (λ b. (b == c) ≡ false) w
avoids c hidden w visible =
    All-weaker (λ b. is_ascii_graphic b ≡ true) (λ b. (b == c) ≡ false) (λ b seen. apart b c seen hidden) w (AllPass-from_list_all is_ascii_graphic w visible)

pub token_visible : (most : ℕ) (w : List ℕ) → is_token most w ≡ true → is_word w ≡ true
token_visible most w token = (and_parts _ _ (and_parts _ _ token).1).1

pub one_word : (w : List ℕ) → is_word w ≡ true → words_of w ≡ w ∷ []
one_word w visible = slice_split_none (λ b. b == 32) w (avoids 32 refl w visible)

pub words_of-joined : (w : List ℕ) (ws : List (List ℕ)) → list_all is_word (w ∷ ws) ≡ true → words_of (joined (w ∷ ws)) ≡ w ∷ ws
words_of-joined w [] visible = one_word w (and_parts _ _ visible).0
words_of-joined w (v ∷ ws) visible =
    let parts = and_parts (is_word w) _ visible in
    slice_split_at (λ b. b == 32) w 32 (joined (v ∷ ws)) (avoids 32 refl w parts.0) refl ∙ ap (λ rest. w ∷ rest) (words_of-joined v ws parts.1)

pub joined-words_of : (bs : List ℕ) → joined (words_of bs) ≡ bs
joined-words_of bs = join_with_byte-slice_split 32 bs

one_line : (ws : List (List ℕ)) → list_all is_word ws ≡ true → list_any (λ b. b == 10) (joined ws) ≡ false
one_line [] visible = refl
one_line (w ∷ []) visible = list_any_none (λ b. b == 10) w (avoids 10 refl w (and_parts _ _ visible).0)
one_line (w ∷ v ∷ ws) visible =
    let parts = and_parts (is_word w) _ visible in
    list_any-append (λ b. b == 10) w (32 ∷ joined (v ∷ ws)) ∙ or_from _ _ (list_any_none (λ b. b == 10) w (avoids 10 refl w parts.0)) (one_line (v ∷ ws) parts.1)

module _ {V : Type 0} {HasText : V → Type 0} {value_by : List (List ℕ) → Option V} {words : V → List (List ℕ)} (s : IsWordSpelling HasText value_by words) where
  cut_again : (v : V) (ws : List (List ℕ)) → words v ≡ ws → list_all is_word ws ≡ true → words_of (joined ws) ≡ ws
  cut_again v [] none visible = absurd (s.some_word v none)
  cut_again v (w ∷ ws) is visible = words_of-joined w ws visible

  pub spelled_by_words : IsSpelling HasText (λ bs. value_by (words_of bs)) (λ v. joined (words v))
  spelled_by_words = record {
    one_text = λ bs v e. ap joined (s.read (words_of bs) v e).text ∙ joined-words_of bs;
    has_text = λ bs v e. (s.read (words_of bs) v e).has_text;
    reads_back = λ v has. ap value_by (cut_again v (words v) refl (s.visible v has)) ∙ s.reads_back v has;
    one_line = λ v has. one_line (words v) (s.visible v has);
  }

-- an optional token has one word, which is visible and reads back
pub optional_reads_back : (most : ℕ) (o : Option (List ℕ)) → is_optional most o ≡ true → optional_of most (optional_text o) ≡ Some o
optional_reads_back most None fits = refl
optional_reads_back most (Some w) fits = ap (λ b. option_map (λ w. Some w) (if b then Some w else None)) fits

pub optional_visible : (most : ℕ) (o : Option (List ℕ)) → is_optional most o ≡ true → is_word (optional_text o) ≡ true
optional_visible most None fits = refl
optional_visible most (Some w) fits = token_visible most w fits

pub record IsReadOptional (most : ℕ) (w : List ℕ) (o : Option (List ℕ)) : Type 0 where
  pub text : optional_text o ≡ w
  pub fits : is_optional most o ≡ true

pub optional_read : (most : ℕ) (w : List ℕ) (o : Option (List ℕ)) → optional_of most w ≡ Some o → IsReadOptional most w o
optional_read most [] o e = cc
optional_read most (b ∷ bs) o e = by (b == 61) (is_token most bs) (bytes_eq (b ∷ bs) (codes "-")) refl refl (bytes_eq-Decides (b ∷ bs) (codes "-")).0 e
  where
    by : (marked token dash : Bool) → (b == 61) ≡ marked → is_token most bs ≡ token → (dash ≡ true → b ∷ bs ≡ codes "-")
        → (if marked then option_map (λ w. Some w) (if token then Some bs else None) else if dash then Some None else None) ≡ Some o → IsReadOptional most (b ∷ bs) o
    by true true dash is_mark is_token is_dash read =
        let is : Some bs ≡ o = cc in
        subst (IsReadOptional most (b ∷ bs)) is (record { text = ap (λ c. c ∷ bs) (sym (eqb-true b 61 is_mark)); fits = is_token })
    by true false dash is_mark is_token is_dash read = cc
    by false token true is_mark is_token is_dash read =
        let is : None ≡ o = cc in
        subst (IsReadOptional most (b ∷ bs)) is (record { text = sym (is_dash refl); fits = refl })
    by false token false is_mark is_token is_dash read = cc
