-- Each input and each output of the mirror has one text.
use Rattle.std.specs.Prelude.{◌≡◌, ◌≢◌, ◌&&◌, ◌+◌, ◌-◌, nat_le, nat_lt, ℕ, Bool, true, false, List, [], ◌∷◌, Option, None, Some, IsTrue, codes, refl, if◌then◌else◌}
use Rattle.std.specs.List.{list_all}
use Rattle.std.specs.Option.{option_map}
use Rattle.std.specs.Str.{bytes_eq}
use Rattle.std.proofs.Common.{sym, ap, subst, ◌∙◌, arith}
use Rattle.std.proofs.lemmas.Bool.{and_parts, and_from}
use Rattle.std.proofs.lemmas.Bool.Decides.{nat_tests}
use Rattle.std.proofs.lemmas.Slice.Eq.{bytes_eq-Decides}
use Rattle.vst_base.specs.declared.mirror.MirrorInput.{MirrorInput}
use Rattle.vst_base.specs.declared.mirror.MirrorInput.TheVariants.{Put}
use Rattle.vst_base.specs.declared.mirror.MirrorOutput.{MirrorOutput}
use Rattle.vst_base.specs.declared.mirror.MirrorOutput.TheVariants.{From}
use Rattle.vst_base.specs.Tokens.{is_value}
use Rattle.vst_base.specs.declared.node.TheConstants.{MAX_NODES}
use Rattle.app_text.specs.MirrorTexts.{input_words, is_input, input_by_words, sender_text, sender_of, output_words, is_output, output_by_words, input_of, input_text, output_of, output_text}
use Rattle.app_text.specs.Spelling.{IsSpelling}
use Rattle.app_text.specs.WordLaws.{IsReadBy, token_visible, spelled_by_words}
use Rattle.app_text.specs.Words.{is_word}

abbrev IsReadInput : List (List ℕ) → MirrorInput → Type 0
IsReadInput ws i = IsReadBy (λ i. IsTrue (is_input i)) input_words ws i

read_input : (ws : List (List ℕ)) (i : MirrorInput) → input_by_words ws ≡ Some i → IsReadInput ws i
read_input [] i e = cc
read_input (name ∷ []) i e = cc
read_input (name ∷ v ∷ []) i e = by (bytes_eq name (codes "put")) (is_value v) (bytes_eq-Decides name (codes "put")).0 refl e
  where
    by : (named fits : Bool) → (named ≡ true → name ≡ codes "put") → is_value v ≡ fits → (if named && fits then Some (Put v) else None) ≡ Some i → IsReadInput (name ∷ v ∷ []) i
    by true true named fits e =
        let is : Put v ≡ i = cc in
        subst (IsReadInput (name ∷ v ∷ [])) is (record { text = ap (λ n. n ∷ v ∷ []) (sym (named refl)); has_text = fits })
    by true false named fits e = cc
    by false any named fits e = cc
read_input (name ∷ v ∷ w ∷ ws) i e = cc

input_reads_back : (i : MirrorInput) → is_input i ≡ true → input_by_words (input_words i) ≡ Some i
input_reads_back (Put v) fits = ap (λ b. if b then Some (Put v) else None) fits

input_visible : (i : MirrorInput) → is_input i ≡ true → list_all is_word (input_words i) ≡ true
input_visible (Put v) fits = and_from _ _ (token_visible 1024 v fits) refl

input_has_words : (i : MirrorInput) → input_words i ≢ []
input_has_words (Put v) = λ e. cc

pub inputs_are_spelled : IsSpelling (λ i. IsTrue (is_input i)) input_of input_text
inputs_are_spelled = spelled_by_words (record {
  read = read_input;
  reads_back = input_reads_back;
  some_word = input_has_words;
  visible = input_visible;
})

record IsReadSender (w : List ℕ) (n : ℕ) : Type 0 where
  text : sender_text n ≡ w
  is_node : nat_lt n MAX_NODES ≡ true

sender_read : (w : List ℕ) (n : ℕ) → sender_of w ≡ Some n → IsReadSender w n
sender_read [] n e = cc
sender_read (b ∷ []) n e = by (nat_le 48 b) (nat_lt (b - 48) MAX_NODES) refl refl e
  where
    digit : nat_le 48 b ≡ true → 48 + (b - 48) ≡ b
    digit from = grind (arith, nat_tests)

    by : (from below : Bool) → nat_le 48 b ≡ from → nat_lt (b - 48) MAX_NODES ≡ below → (if from && below then Some (b - 48) else None) ≡ Some n → IsReadSender (b ∷ []) n
    by true true from below e =
        let is : b - 48 ≡ n = cc in
        subst (IsReadSender (b ∷ [])) is (record { text = ap (λ c. c ∷ []) (digit from); is_node = below })
    by true false from below e = cc
    by false any from below e = cc
sender_read (b ∷ c ∷ bs) n e = cc

sender_reads_back : (n : ℕ) → nat_lt n MAX_NODES ≡ true → sender_of (sender_text n) ≡ Some n
sender_reads_back n below =
    let number : (48 + n) - 48 ≡ n = omega arith in
    let from : nat_le 48 (48 + n) ≡ true = grind (arith, nat_tests) in
    ap (λ b. if b && nat_lt ((48 + n) - 48) MAX_NODES then Some ((48 + n) - 48) else None) from
    ∙ ap (λ m. if nat_lt m MAX_NODES then Some m else None) number
    ∙ ap (λ b. if b then Some n else None) below

sender_visible : (n : ℕ) → nat_lt n MAX_NODES ≡ true → is_word (sender_text n) ≡ true
sender_visible n below = grind (arith, nat_tests)

abbrev IsReadOutput : List (List ℕ) → MirrorOutput → Type 0
IsReadOutput ws o = IsReadBy (λ o. IsTrue (is_output o)) output_words ws o

read_output : (ws : List (List ℕ)) (o : MirrorOutput) → output_by_words ws ≡ Some o → IsReadOutput ws o
read_output [] o e = cc
read_output (name ∷ []) o e = cc
read_output (name ∷ s ∷ []) o e = cc
read_output (name ∷ s ∷ v ∷ []) o e = by (bytes_eq name (codes "from")) (is_value v) (sender_of s) (bytes_eq-Decides name (codes "from")).0 refl refl e
  where
    by : (named fits : Bool) (n : Option ℕ) → (named ≡ true → name ≡ codes "from") → is_value v ≡ fits → sender_of s ≡ n
        → (if named && fits then option_map (λ n. From n v) n else None) ≡ Some o → IsReadOutput (name ∷ s ∷ v ∷ []) o
    by true true (Some n) named fits sender e =
        let is : From n v ≡ o = cc in
        let read = sender_read s n sender in
        subst (IsReadOutput (name ∷ s ∷ v ∷ [])) is (record { text = λ i. sym (named refl) i ∷ read.text i ∷ v ∷ []; has_text = and_from _ _ read.is_node fits })
    by true true None named fits sender e = cc
    by true false n named fits sender e = cc
    by false any n named fits sender e = cc
read_output (name ∷ s ∷ v ∷ w ∷ ws) o e = cc

output_reads_back : (o : MirrorOutput) → is_output o ≡ true → output_by_words (output_words o) ≡ Some o
output_reads_back (From n v) fits =
    let parts = and_parts (nat_lt n MAX_NODES) (is_value v) fits in
    ap (λ b. if b then option_map (λ n. From n v) (sender_of (sender_text n)) else None) parts.1
    ∙ ap (λ m. option_map (λ n. From n v) m) (sender_reads_back n parts.0)

output_visible : (o : MirrorOutput) → is_output o ≡ true → list_all is_word (output_words o) ≡ true
output_visible (From n v) fits =
    let parts = and_parts (nat_lt n MAX_NODES) (is_value v) fits in
    and_from _ _ (sender_visible n parts.0) (and_from _ _ (token_visible 1024 v parts.1) refl)

output_has_words : (o : MirrorOutput) → output_words o ≢ []
output_has_words (From n v) = λ e. cc

pub outputs_are_spelled : IsSpelling (λ o. IsTrue (is_output o)) output_of output_text
outputs_are_spelled = spelled_by_words (record {
  read = read_output;
  reads_back = output_reads_back;
  some_word = output_has_words;
  visible = output_visible;
})
