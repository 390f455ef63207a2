-- Each command and each output of the key-value machine has one text.
use Rattle.std.specs.Prelude.{◌≡◌, ◌≢◌, ℕ, Bool, true, false, ◌&&◌, List, [], ◌∷◌, Option, None, Some, IsTrue, codes, refl, if◌then◌else◌}
use Rattle.std.specs.List.{list_all}
use Rattle.std.specs.Option.{option_map}
use Rattle.std.proofs.Common.{ap, subst, ◌∙◌}
use Rattle.std.proofs.lemmas.Bool.{and_parts, and_from}
use Rattle.kv_machine.specs.declared.cmd.KvCmd.{KvCmd}
use Rattle.kv_machine.specs.declared.cmd.KvCmd.TheVariants.{Get, Put, Del, Cas, Cad}
use Rattle.kv_machine.specs.declared.out.KvOut.{KvOut}
use Rattle.vst_base.specs.Tokens.{is_key, is_value}
use Rattle.app_text.specs.KvTexts.{command_words, is_command, cas_of, command_of, output_words, is_output, kv_out, output_by_words, input_of, input_text, output_of, output_text}
use Rattle.app_text.specs.Spelling.{IsSpelling}
use Rattle.app_text.specs.WordFormLaws.{read_named, read_key, read_key_and_token, key_reads_back, key_and_token_reads_back, name_and_key, name_key_and_token, read_keyed_reply, keyed_reply_reads_back, keyed_reply_visible, no_redirect_by}
use Rattle.app_text.specs.WordLaws.{IsReadBy, token_visible, optional_reads_back, optional_visible, optional_read, spelled_by_words}
use Rattle.app_text.specs.Words.{is_word, optional_text, optional_of, is_optional}

abbrev IsReadCommand : List (List ℕ) → KvCmd → Type 0
IsReadCommand ws c = IsReadBy (λ c. IsTrue (is_command c)) command_words ws c

read_cas : (args : List (List ℕ)) (c : KvCmd) → cas_of args ≡ Some c → IsReadCommand (codes "cas" ∷ args) c
read_cas [] c e = cc
read_cas (k ∷ []) c e = cc
read_cas (k ∷ w ∷ []) c e = cc
read_cas (k ∷ w ∷ v ∷ []) c e = by (is_key k && is_value v) (optional_of 1024 w) refl refl e
  where
    by : (b : Bool) (o : Option (Option (List ℕ))) → (is_key k && is_value v) ≡ b → optional_of 1024 w ≡ o
        → (if b then option_map (λ e. Cas k e v) o else None) ≡ Some c → IsReadCommand (codes "cas" ∷ k ∷ w ∷ v ∷ []) c
    by true (Some o) fits is_optional e =
        let is : Cas k o v ≡ c = cc in
        let part = optional_read 1024 w o is_optional in
        subst (IsReadCommand (codes "cas" ∷ k ∷ w ∷ v ∷ [])) is (record { text = ap (λ w. codes "cas" ∷ k ∷ w ∷ v ∷ []) part.text; has_text = and_from _ _ fits part.fits })
    by true None fits is_optional e = cc
    by false o fits is_optional e = cc
read_cas (k ∷ w ∷ v ∷ x ∷ ws) c e = cc

read_command : (ws : List (List ℕ)) (c : KvCmd) → command_of ws ≡ Some c → IsReadCommand ws c
read_command [] c e = cc
read_command (name ∷ args) c e =
    read_named (codes "get") (read_key (λ k. Get k) (codes "get") args c (λ k fits. record { text = refl; has_text = fits }))
    (read_named (codes "put") (read_key_and_token 1024 (λ p. Put p.0 p.1) (codes "put") args c (λ k v fits. record { text = refl; has_text = fits }))
    (read_named (codes "del") (read_key (λ k. Del k) (codes "del") args c (λ k fits. record { text = refl; has_text = fits }))
    (read_named (codes "cas") (read_cas args c)
    (read_named (codes "cad") (read_key_and_token 1024 (λ p. Cad p.0 p.1) (codes "cad") args c (λ k v fits. record { text = refl; has_text = fits }))
    (λ none. cc))))) e

command_reads_back : (c : KvCmd) → is_command c ≡ true → command_of (command_words c) ≡ Some c
command_reads_back (Get k) fits = key_reads_back (λ k. Get k) k fits
command_reads_back (Put k v) fits = key_and_token_reads_back 1024 (λ p. Put p.0 p.1) k v fits
command_reads_back (Del k) fits = key_reads_back (λ k. Del k) k fits
command_reads_back (Cas k e v) fits =
    let parts = and_parts (is_key k && is_value v) (is_optional 1024 e) fits in
    ap (λ b. if b then option_map (λ e. Cas k e v) (optional_of 1024 (optional_text e)) else None) parts.0 ∙ ap (λ o. option_map (λ e. Cas k e v) o) (optional_reads_back 1024 e parts.1)
command_reads_back (Cad k v) fits = key_and_token_reads_back 1024 (λ p. Cad p.0 p.1) k v fits

command_visible : (c : KvCmd) → is_command c ≡ true → list_all is_word (command_words c) ≡ true
command_visible (Get k) fits = name_and_key (codes "get") k refl fits
command_visible (Put k v) fits = name_key_and_token 1024 (codes "put") k v refl fits
command_visible (Del k) fits = name_and_key (codes "del") k refl fits
command_visible (Cas k e v) fits =
    let parts = and_parts (is_key k && is_value v) (is_optional 1024 e) fits in
    let tokens = and_parts (is_key k) (is_value v) parts.0 in
    and_from _ _ (token_visible 64 k tokens.0) (and_from _ _ (optional_visible 1024 e parts.1) (and_from _ _ (token_visible 1024 v tokens.1) refl))
command_visible (Cad k v) fits = name_key_and_token 1024 (codes "cad") k v refl fits

command_has_words : (c : KvCmd) → command_words c ≢ []
command_has_words (Get k) = λ e. cc
command_has_words (Put k v) = λ e. cc
command_has_words (Del k) = λ e. cc
command_has_words (Cas k e v) = λ e. cc
command_has_words (Cad k v) = λ e. cc

pub inputs_are_spelled : IsSpelling (λ c. IsTrue (is_command c)) input_of input_text
inputs_are_spelled = spelled_by_words (record {
  read = read_command;
  reads_back = command_reads_back;
  some_word = command_has_words;
  visible = command_visible;
})

read_output : (ws : List (List ℕ)) (o : KvOut) → output_by_words ws ≡ Some o → IsReadBy (λ o. IsTrue (is_output o)) output_words ws o
read_output ws o e = read_keyed_reply 1024 (λ w. optional_of 1024 w) kv_out ws o (λ k t w after before key first is_before.
    let second = optional_read 1024 w before is_before in
    record {
      text = λ i. k ∷ first.text i ∷ second.text i ∷ [];
      has_text = and_from _ _ key (and_from _ _ first.fits second.fits);
    }) e

output_reads_back : (o : KvOut) → is_output o ≡ true → output_by_words (output_words o) ≡ Some o
output_reads_back o fits =
    let parts = and_parts (is_key o.key) _ fits in
    let values = and_parts (is_optional 1024 o.after) (is_optional 1024 o.before) parts.1 in
    keyed_reply_reads_back 1024 (λ w. optional_of 1024 w) kv_out o.key o.after (optional_text o.before) o.before parts.0 values.0 (optional_reads_back 1024 o.before values.1)

output_visible : (o : KvOut) → is_output o ≡ true → list_all is_word (output_words o) ≡ true
output_visible o fits =
    let parts = and_parts (is_key o.key) _ fits in
    let values = and_parts (is_optional 1024 o.after) (is_optional 1024 o.before) parts.1 in
    keyed_reply_visible 1024 o.key o.after (optional_text o.before) parts.0 values.0 (optional_visible 1024 o.before values.1)

pub outputs_are_spelled : IsSpelling (λ o. IsTrue (is_output o)) output_of output_text
outputs_are_spelled = spelled_by_words (record {
  read = read_output;
  reads_back = output_reads_back;
  some_word = λ o e. cc;
  visible = output_visible;
})

pub no_redirect : (o : KvOut) → IsTrue (is_output o) → output_text o ≢ codes "redirect"
no_redirect o fits = no_redirect_by o.key (optional_text o.after) (optional_text o.before ∷ []) (output_visible o fits)
