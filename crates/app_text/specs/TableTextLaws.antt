-- Each command and each output of the lock table has one text.
use Rattle.std.specs.Prelude.{◌≡◌, ◌≢◌, ℕ, Bool, true, false, List, [], ◌∷◌, Some, IsTrue, codes, refl}
use Rattle.std.specs.List.{list_all}
use Rattle.std.proofs.lemmas.Bool.{and_parts, and_from}
use Rattle.lock_table.specs.Table.{told}
use Rattle.lock_table.specs.declared.cmd.TableCmd.{TableCmd}
use Rattle.lock_table.specs.declared.cmd.TableCmd.TheVariants.{Acquire, Release, Holder}
use Rattle.lock_table.specs.declared.out.TableOut.{TableOut}
use Rattle.vst_base.specs.Tokens.{is_key}
use Rattle.app_text.specs.Spelling.{IsSpelling}
use Rattle.app_text.specs.TableTexts.{command_words, is_command, command_of, answer_text, answer_of, output_words, is_output, output_by_words, input_of, input_text, output_of, output_text}
use Rattle.app_text.specs.WordFormLaws.{read_named, read_key, read_key_and_token, key_reads_back, key_and_token_reads_back, name_and_key, name_key_and_token, read_keyed_reply, keyed_reply_reads_back, keyed_reply_visible, no_redirect_by}
use Rattle.app_text.specs.WordLaws.{IsReadBy, read_fixed, spelled_by_words}
use Rattle.app_text.specs.Words.{is_word, optional_text, is_optional}

abbrev IsReadCommand : List (List ℕ) → TableCmd → Type 0
IsReadCommand ws c = IsReadBy (λ c. IsTrue (is_command c)) command_words ws c

read_command : (ws : List (List ℕ)) (c : TableCmd) → command_of ws ≡ Some c → IsReadCommand ws c
read_command [] c e = cc
read_command (name ∷ args) c e =
    read_named (codes "acquire") (read_key_and_token 64 (λ p. Acquire p.0 p.1) (codes "acquire") args c (λ l o fits. record { text = refl; has_text = fits }))
    (read_named (codes "release") (read_key_and_token 64 (λ p. Release p.0 p.1) (codes "release") args c (λ l o fits. record { text = refl; has_text = fits }))
    (read_named (codes "holder") (read_key (λ l. Holder l) (codes "holder") args c (λ l fits. record { text = refl; has_text = fits }))
    (λ none. cc))) e

command_reads_back : (c : TableCmd) → is_command c ≡ true → command_of (command_words c) ≡ Some c
command_reads_back (Acquire l o) fits = key_and_token_reads_back 64 (λ p. Acquire p.0 p.1) l o fits
command_reads_back (Release l o) fits = key_and_token_reads_back 64 (λ p. Release p.0 p.1) l o fits
command_reads_back (Holder l) fits = key_reads_back (λ l. Holder l) l fits

command_visible : (c : TableCmd) → is_command c ≡ true → list_all is_word (command_words c) ≡ true
command_visible (Acquire l o) fits = name_key_and_token 64 (codes "acquire") l o refl fits
command_visible (Release l o) fits = name_key_and_token 64 (codes "release") l o refl fits
command_visible (Holder l) fits = name_and_key (codes "holder") l refl fits

command_has_words : (c : TableCmd) → command_words c ≢ []
command_has_words (Acquire l o) = λ e. cc
command_has_words (Release l o) = λ e. cc
command_has_words (Holder l) = λ e. cc

pub inputs_are_spelled : IsSpelling (λ c. IsTrue (is_command c)) input_of input_text
inputs_are_spelled = spelled_by_words (record {
  read = read_command;
  reads_back = command_reads_back;
  some_word = command_has_words;
  visible = command_visible;
})

pub answer_read : (w : List ℕ) (answer : Bool) → answer_of w ≡ Some answer → answer_text answer ≡ w
answer_read w answer e = read_fixed answer_text true (read_fixed answer_text false (λ none. cc)) e

answer_reads_back : (answer : Bool) → answer_of (answer_text answer) ≡ Some answer
answer_reads_back true = refl
answer_reads_back false = refl

pub answer_visible : (answer : Bool) → is_word (answer_text answer) ≡ true
answer_visible true = refl
answer_visible false = refl

read_output : (ws : List (List ℕ)) (o : TableOut) → output_by_words ws ≡ Some o → IsReadBy (λ o. IsTrue (is_output o)) output_words ws o
read_output ws o e = read_keyed_reply 64 answer_of told ws o (λ l t w holder answer key token is_answer. record {
  text = λ i. l ∷ token.text i ∷ answer_read w answer is_answer i ∷ [];
  has_text = and_from _ _ key token.fits;
}) e

output_reads_back : (o : TableOut) → is_output o ≡ true → output_by_words (output_words o) ≡ Some o
output_reads_back o fits =
    let parts = and_parts (is_key o.name) (is_optional 64 o.holder) fits in
    keyed_reply_reads_back 64 answer_of told o.name o.holder (answer_text o.yes) o.yes parts.0 parts.1 (answer_reads_back o.yes)

output_visible : (o : TableOut) → is_output o ≡ true → list_all is_word (output_words o) ≡ true
output_visible o fits =
    let parts = and_parts (is_key o.name) (is_optional 64 o.holder) fits in
    keyed_reply_visible 64 o.name o.holder (answer_text o.yes) parts.0 parts.1 (answer_visible o.yes)

pub outputs_are_spelled : IsSpelling (λ o. IsTrue (is_output o)) output_of output_text
outputs_are_spelled = spelled_by_words (record {
  read = read_output;
  reads_back = output_reads_back;
  some_word = λ o e. cc;
  visible = output_visible;
})

pub no_redirect : (o : TableOut) → IsTrue (is_output o) → output_text o ≢ codes "redirect"
no_redirect o fits = no_redirect_by o.name (optional_text o.holder) (answer_text o.yes ∷ []) (output_visible o fits)
