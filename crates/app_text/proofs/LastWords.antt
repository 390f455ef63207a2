-- The last word of a text may be read whole: what stands after a space in it is no word's.
use Rattle.std.proofs.Common.{◌≡◌, ℕ, Bool, true, false, ◌&&◌, List, [], ◌∷◌, Option, None, Some, codes, refl, sym, ap, ◌∙◌, if◌then◌else◌}
use Rattle.std.specs.Option.{option_and_then, option_map}
use Rattle.std.specs.Str.{bytes_eq}
use Rattle.std.proofs.lemmas.Bool.{and_right, false_from_ne_true, both_ways}
use Rattle.kv_machine.specs.declared.cmd.KvCmd.TheVariants.{Cas}
use Rattle.lock_table.specs.Table.{told}
use Rattle.vst_base.specs.declared.mirror.MirrorInput.TheVariants.{Put}
use Rattle.vst_base.specs.declared.mirror.MirrorOutput.TheVariants.{From}
use Rattle.vst_base.specs.Tokens.{is_token, token_of, is_key, is_value}
use Rattle.app_text.specs.KvTexts.{cas_of, kv_out}
use Rattle.app_text.specs.KvTexts as kv
use Rattle.app_text.specs.MirrorTexts as mirror
use Rattle.app_text.specs.TableTexts as table
use Rattle.app_text.specs.TableTextLaws.{answer_read, answer_visible}
use Rattle.app_text.specs.WordForms.{key_of, key_and_token_of, keyed_reply_of}
use Rattle.app_text.specs.WordLaws.{token_visible, one_word, joined-words_of, optional_read, optional_visible}
use Rattle.app_text.specs.Words.{words_of, joined, is_word, optional_of}

last_word : {V : Type 0} (f : List (List ℕ) → Option V) (w : List ℕ) → ((x y : List ℕ) (more : List (List ℕ)) → f (x ∷ y ∷ more) ≡ None) → (is_word w ≡ false → f (w ∷ []) ≡ None) → f (words_of w) ≡ f (w ∷ [])
last_word {V} f w several hidden = by (is_word w) refl
  where
    among : (ws : List (List ℕ)) → joined ws ≡ w → is_word w ≡ false → f ws ≡ f (w ∷ [])
    among [] is none = absurd (both_ways (is_word w) none (ap is_word (sym is)))
    among (x ∷ []) is none = ap (λ v. f (v ∷ [])) is
    among (x ∷ y ∷ more) is none = several x y more ∙ sym (hidden none)

    by : (t : Bool) → is_word w ≡ t → f (words_of w) ≡ f (w ∷ [])
    by true visible = ap f (one_word w visible)
    by false none = among (words_of w) (joined-words_of w) none

no_token : (most : ℕ) (w : List ℕ) → is_word w ≡ false → is_token most w ≡ false
no_token most w none = false_from_ne_true (is_token most w) (λ token. both_ways (is_word w) none (token_visible most w token))

-- what has a visible word is read of no other
none_by : {X : Type 0} (w : List ℕ) (o : Option X) → ((x : X) → o ≡ Some x → is_word w ≡ true) → is_word w ≡ false → o ≡ None
none_by w None visible none = refl
none_by w (Some x) visible none = absurd (both_ways (is_word w) none (visible x refl))

no_optional : (most : ℕ) (w : List ℕ) → is_word w ≡ false → optional_of most w ≡ None
no_optional most w none = none_by w (optional_of most w) (λ o is. let read = optional_read most w o is in ap is_word (sym read.text) ∙ optional_visible most o read.fits) none

no_answer : (w : List ℕ) → is_word w ≡ false → table.answer_of w ≡ None
no_answer w none = none_by w (table.answer_of w) (λ answer is. ap is_word (sym (answer_read w answer is)) ∙ answer_visible answer) none

pub last_key : (w : List ℕ) → key_of (words_of w) ≡ token_of 64 w
last_key w = last_word key_of w (λ x y more. refl) (λ none. ap (λ b. if b then Some w else None) (no_token 64 w none))

pub last_token : (most : ℕ) (k w : List ℕ) → key_and_token_of most (k ∷ words_of w) ≡ (if is_key k && is_token most w then Some (k, w) else None)
last_token most k w =
    last_word (λ ws. key_and_token_of most (k ∷ ws)) w (λ x y more. refl)
    (λ none. ap (λ b. if b then Some (k, w) else None) (and_right (is_key k) (is_token most w) (no_token most w none)))

pub last_of_cas : (k e w : List ℕ) → cas_of (k ∷ e ∷ words_of w) ≡ (if is_key k && is_value w then option_map (λ o. Cas k o w) (optional_of 1024 e) else None)
last_of_cas k e w =
    last_word (λ ws. cas_of (k ∷ e ∷ ws)) w (λ x y more. refl)
    (λ none. ap (λ b. if b then option_map (λ o. Cas k o w) (optional_of 1024 e) else None) (and_right (is_key k) (is_value w) (no_token 1024 w none)))

abbrev pub parts_of : {X O : Type 0} → (List ℕ → Option (List ℕ) → X → O) → List ℕ → Option (Option (List ℕ)) → Option X → Option O
parts_of make k t w = if is_key k then option_and_then (λ token. option_map (λ last. make k token last) w) t else None

last_of_reply : {X O : Type 0} (most : ℕ) (last_of : List ℕ → Option X) (make : List ℕ → Option (List ℕ) → X → O) (k t w : List ℕ) → (is_word w ≡ false → last_of w ≡ None)
    → keyed_reply_of most last_of make (k ∷ t ∷ words_of w) ≡ parts_of make k (optional_of most t) (last_of w)
last_of_reply {X} {O} most last_of make k t w no_last =
    last_word (λ ws. keyed_reply_of most last_of make (k ∷ t ∷ ws)) w (λ x y more. refl)
    (λ none. ap (parts_of make k (optional_of most t)) (no_last none) ∙ nothing (is_key k) (optional_of most t))
  where
    nothing : (b : Bool) (o : Option (Option (List ℕ))) → (if b then option_and_then (λ token. option_map (λ last. make k token last) None) o else None) ≡ None
    nothing true None = refl
    nothing true (Some o) = refl
    nothing false o = refl

pub last_of_kv_output : (k a w : List ℕ) → kv.output_by_words (k ∷ a ∷ words_of w) ≡ parts_of kv_out k (optional_of 1024 a) (optional_of 1024 w)
last_of_kv_output k a w = last_of_reply 1024 (λ w. optional_of 1024 w) kv_out k a w (no_optional 1024 w)

pub last_of_table_output : (l h w : List ℕ) → table.output_by_words (l ∷ h ∷ words_of w) ≡ parts_of told l (optional_of 64 h) (table.answer_of w)
last_of_table_output l h w = last_of_reply 64 table.answer_of told l h w (no_answer w)

pub last_of_put : (name w : List ℕ) → mirror.input_by_words (name ∷ words_of w) ≡ (if bytes_eq name (codes "put") && is_value w then Some (Put w) else None)
last_of_put name w =
    last_word (λ ws. mirror.input_by_words (name ∷ ws)) w (λ x y more. refl)
    (λ none. ap (λ b. if b then Some (Put w) else None) (and_right (bytes_eq name (codes "put")) (is_value w) (no_token 1024 w none)))

pub last_of_from : (name s w : List ℕ) → mirror.output_by_words (name ∷ s ∷ words_of w)
    ≡ (if bytes_eq name (codes "from") && is_value w then option_map (λ n. From n w) (mirror.sender_of s) else None)
last_of_from name s w =
    last_word (λ ws. mirror.output_by_words (name ∷ s ∷ ws)) w (λ x y more. refl)
    (λ none. ap (λ b. if b then option_map (λ n. From n w) (mirror.sender_of s) else None) (and_right (bytes_eq name (codes "from")) (is_value w) (no_token 1024 w none)))
