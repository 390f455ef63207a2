-- Commands by their names, and replies, are spelled by the words that they were read of.
use Rattle.std.specs.Prelude.{◌≡◌, ◌≢◌, ℕ, Bool, true, false, ◌&&◌, List, [], ◌∷◌, Option, None, Some, codes, refl, if◌then◌else◌}
use Rattle.std.specs.List.{list_all}
use Rattle.std.specs.Option.{option_and_then, option_map}
use Rattle.std.specs.Str.{bytes_eq}
use Rattle.std.proofs.Common.{sym, ap, subst, ◌∙◌}
use Rattle.std.proofs.lemmas.Bool.{and_parts, and_from}
use Rattle.std.proofs.lemmas.Slice.Eq.{bytes_eq-Decides}
use Rattle.vst_base.specs.Tokens.{is_key, is_token}
use Rattle.app_text.specs.WordForms.{key_of, key_and_token_of, keyed_reply_of}
use Rattle.app_text.specs.WordLaws.{IsReadBy, IsReadOptional, optional_read, optional_reads_back, optional_visible, token_visible, words_of-joined}
use Rattle.app_text.specs.Words.{words_of, joined, is_word, optional_text, optional_of, is_optional}

module _ {C : Type 0} {HasText : C → Type 0} {words : C → List (List ℕ)} where
  -- by the test that the name passes, or by those after it
  pub read_named : (text : List ℕ) {name : List ℕ} {args : List (List ℕ)} {c : C} {here there : Option C} → (here ≡ Some c → IsReadBy HasText words (text ∷ args) c)
      → (there ≡ Some c → IsReadBy HasText words (name ∷ args) c) → (if bytes_eq name text then here else there) ≡ Some c → IsReadBy HasText words (name ∷ args) c
  read_named text {name = name} {args = args} {c = c} {here = here} {there = there} is_here is_there e = by (bytes_eq name text) (bytes_eq-Decides name text).0 e
    where
      by : (named : Bool) → (named ≡ true → name ≡ text) → (if named then here else there) ≡ Some c → IsReadBy HasText words (name ∷ args) c
      by true named e = subst (λ n. IsReadBy HasText words (n ∷ args) c) (sym (named refl)) (is_here e)
      by false named e = is_there e

  pub read_key : (f : List ℕ → C) (name : List ℕ) (args : List (List ℕ)) (c : C) → ((k : List ℕ) → is_key k ≡ true → IsReadBy HasText words (name ∷ k ∷ []) (f k))
      → option_map f (key_of args) ≡ Some c → IsReadBy HasText words (name ∷ args) c
  read_key f name [] c read e = cc
  read_key f name (k ∷ []) c read e = by (is_key k) refl e
    where
      by : (b : Bool) → is_key k ≡ b → option_map f (if b then Some k else None) ≡ Some c → IsReadBy HasText words (name ∷ k ∷ []) c
      by true fits e = let is : f k ≡ c = cc in subst (IsReadBy HasText words (name ∷ k ∷ [])) is (read k fits)
      by false fits e = cc
  read_key f name (k ∷ w ∷ ws) c read e = cc

  pub read_key_and_token : (most : ℕ) (f : List ℕ × List ℕ → C) (name : List ℕ) (args : List (List ℕ)) (c : C)
      → ((k w : List ℕ) → (is_key k && is_token most w) ≡ true → IsReadBy HasText words (name ∷ k ∷ w ∷ []) (f (k, w)))
      → option_map f (key_and_token_of most args) ≡ Some c → IsReadBy HasText words (name ∷ args) c
  read_key_and_token most f name [] c read e = cc
  read_key_and_token most f name (k ∷ []) c read e = cc
  read_key_and_token most f name (k ∷ w ∷ []) c read e = by (is_key k && is_token most w) refl e
    where
      by : (b : Bool) → (is_key k && is_token most w) ≡ b → option_map f (if b then Some (k, w) else None) ≡ Some c → IsReadBy HasText words (name ∷ k ∷ w ∷ []) c
      by true fits e = let is : f (k, w) ≡ c = cc in subst (IsReadBy HasText words (name ∷ k ∷ w ∷ [])) is (read k w fits)
      by false fits e = cc
  read_key_and_token most f name (k ∷ w ∷ v ∷ ws) c read e = cc

pub key_reads_back : {C : Type 0} (f : List ℕ → C) (k : List ℕ) → is_key k ≡ true → option_map f (key_of (k ∷ [])) ≡ Some (f k)
key_reads_back f k fits = ap (λ b. option_map f (if b then Some k else None)) fits

pub key_and_token_reads_back : {C : Type 0} (most : ℕ) (f : List ℕ × List ℕ → C) (k w : List ℕ) → (is_key k && is_token most w) ≡ true → option_map f (key_and_token_of most (k ∷ w ∷ [])) ≡ Some (f (k, w))
key_and_token_reads_back most f k w fits = ap (λ b. option_map f (if b then Some (k, w) else None)) fits

pub name_and_key : (name k : List ℕ) → is_word name ≡ true → is_key k ≡ true → list_all is_word (name ∷ k ∷ []) ≡ true
name_and_key name k named fits = and_from _ _ named (and_from _ _ (token_visible 64 k fits) refl)

pub name_key_and_token : (most : ℕ) (name k w : List ℕ) → is_word name ≡ true → (is_key k && is_token most w) ≡ true → list_all is_word (name ∷ k ∷ w ∷ []) ≡ true
name_key_and_token most name k w named fits =
    let parts = and_parts (is_key k) (is_token most w) fits in
    and_from _ _ named (and_from _ _ (token_visible 64 k parts.0) (and_from _ _ (token_visible most w parts.1) refl))

module _ {X O : Type 0} (most : ℕ) (last_of : List ℕ → Option X) (make : List ℕ → Option (List ℕ) → X → O) where
  pub read_keyed_reply : {HasText : O → Type 0} {words : O → List (List ℕ)} (ws : List (List ℕ)) (o : O)
      → ((k t w : List ℕ) (token : Option (List ℕ)) (last : X) → is_key k ≡ true → IsReadOptional most t token → last_of w ≡ Some last → IsReadBy HasText words (k ∷ t ∷ w ∷ []) (make k token last))
      → keyed_reply_of most last_of make ws ≡ Some o → IsReadBy HasText words ws o
  read_keyed_reply [] o read e = cc
  read_keyed_reply (k ∷ []) o read e = cc
  read_keyed_reply (k ∷ t ∷ []) o read e = cc
  read_keyed_reply {HasText = HasText} {words = words} (k ∷ t ∷ w ∷ []) o read e = by (is_key k) (optional_of most t) (last_of w) refl refl refl e
    where
      by : (key : Bool) (x : Option (Option (List ℕ))) (y : Option X) → is_key k ≡ key → optional_of most t ≡ x → last_of w ≡ y
          → (if key then option_and_then (λ token. option_map (λ last. make k token last) y) x else None) ≡ Some o → IsReadBy HasText words (k ∷ t ∷ w ∷ []) o
      by true (Some token) (Some last) key is_token is_last e =
          let is : make k token last ≡ o = cc in
          subst (IsReadBy HasText words (k ∷ t ∷ w ∷ [])) is (read k t w token last key (optional_read most t token is_token) is_last)
      by true (Some token) None key is_token is_last e = cc
      by true None y key is_token is_last e = cc
      by false x y key is_token is_last e = cc
  read_keyed_reply (k ∷ t ∷ w ∷ v ∷ ws) o read e = cc

  pub keyed_reply_reads_back : (k : List ℕ) (token : Option (List ℕ)) (w : List ℕ) (last : X) → is_key k ≡ true → is_optional most token ≡ true → last_of w ≡ Some last
      → keyed_reply_of most last_of make (k ∷ optional_text token ∷ w ∷ []) ≡ Some (make k token last)
  keyed_reply_reads_back k token w last key fits reads =
      let read = λ (b : Bool) (x : Option (Option (List ℕ))) (y : Option X). if b then option_and_then (λ token. option_map (λ last. make k token last) y) x else None in
      λ i. read (key i) (optional_reads_back most token fits i) (reads i)

pub keyed_reply_visible : (most : ℕ) (k : List ℕ) (token : Option (List ℕ)) (w : List ℕ) → is_key k ≡ true → is_optional most token ≡ true → is_word w ≡ true → list_all is_word (k ∷ optional_text token ∷ w ∷ []) ≡ true
keyed_reply_visible most k token w key fits visible =
    and_from _ _ (token_visible 64 k key) (and_from _ _ (optional_visible most token fits) (and_from _ _ visible refl))

-- several words are not one
pub no_redirect_by : (v w : List ℕ) (ws : List (List ℕ)) → list_all is_word (v ∷ w ∷ ws) ≡ true → joined (v ∷ w ∷ ws) ≢ codes "redirect"
no_redirect_by v w ws visible same =
    let cut : ◌≡◌ {A = List (List ℕ)} (v ∷ w ∷ ws) (codes "redirect" ∷ []) = sym (words_of-joined v (w ∷ ws) visible) ∙ ap words_of same in
    cc
