-- The key-value machine is spelled: what it answers to commands that have texts has a text, since each value in its store is one.
use Rattle.std.specs.Prelude.{◌≡◌, ℕ, ◌≤◌, true, ◌&&◌, List, length, Some, IsTrue, refl}
use Rattle.std.specs.Cmp.Lexicographic.{nat_list_cmp_total, slice_cmp}
use Rattle.std.specs.FinMap.{get}
use Rattle.std.specs.Ordering.{nat_cmp}
use Rattle.std.proofs.Common.{arith}
use Rattle.std.proofs.lemmas.Bool.{and_parts, and_from}
use Rattle.vst_base.specs.Tokens.{is_key, is_value}
use Rattle.app_text.specs.KvTextLaws.{inputs_are_spelled, no_redirect, outputs_are_spelled}
use Rattle.app_text.specs.KvTexts.{command_words, input_text, is_command, is_output, output_text, output_words}
use Rattle.app_text.specs.Words.{is_optional}
use Rattle.kv_machine.specs.Kv.{Change, Store, apply, holds, keeps, kv, removes, sets}
use Rattle.kv_machine.specs.declared.cmd.KvCmd.{KvCmd}
use Rattle.kv_machine.specs.declared.cmd.KvCmd.TheVariants.{Get, Put, Del, Cas, Cad}
use Rattle.kv_machine.specs.declared.out.KvOut.{KvOut}
use Rattle.stacks.specs.Table.{kv_texts, store}
use Rattle.trace_check.specs.Spelled.{IsSpelledMachine, most_bytes}
use Rattle.trace_check.proofs.Eaches.{either}
use Rattle.trace_check.proofs.Machines.{AreShortTexts, MachineKeeps, machine-spelled}
use Rattle.trace_check.proofs.Maps.{EachValue, each-empty, each-insert, each-remove}
use Rattle.trace_check.proofs.Words.{joined-length, optional-length, optional-token, token-length}

abbrev IsCommand : KvCmd → Type 0
IsCommand c = IsTrue (is_command c)

abbrev IsOutput : KvOut → Type 0
IsOutput o = IsTrue (is_output o)

-- each value of a store is one that has a text
abbrev IsValue : List ℕ → Type 0
IsValue v = is_value v ≡ true

abbrev IsTextStore : Store → Type 0
IsTextStore m = EachValue (slice_cmp nat_cmp) IsValue m

record IsTextChange (c : Change) : Type 0 where
  store : IsTextStore c.0
  output : is_output c.1 ≡ true

module _ (m : Store) (sound : IsTextStore m) (k : List ℕ) (key : is_key k ≡ true) where
  keeps-text : IsTextChange (keeps m k)
  keeps-text = record { store = sound; output = and_from _ _ key (and_from _ _ (optional-token 1024 (get m k) (sound k)) (optional-token 1024 (get m k) (sound k))) }

  sets-text : (v : List ℕ) → is_value v ≡ true → IsTextChange (sets m k v)
  sets-text v value = record {
    store = each-insert (slice_cmp nat_cmp) IsValue nat_list_cmp_total m sound k v value;
    output = and_from _ _ key (and_from _ _ value (optional-token 1024 (get m k) (sound k)));
  }

  removes-text : IsTextChange (removes m k)
  removes-text = record {
    store = each-remove (slice_cmp nat_cmp) IsValue nat_list_cmp_total m sound k;
    output = and_from _ _ key (and_from _ _ refl (optional-token 1024 (get m k) (sound k)));
  }

applied : (m : Store) (c : KvCmd) → IsTextStore m → is_command c ≡ true → IsTextChange (apply m c)
applied m (Get k) sound has = keeps-text m sound k has
applied m (Put k v) sound has = let parts = and_parts (is_key k) (is_value v) has in sets-text m sound k parts.0 v parts.1
applied m (Del k) sound has = removes-text m sound k has
applied m (Cas k e v) sound has =
    let parts = and_parts (is_key k && is_value v) (is_optional 1024 e) has in
    let tokens = and_parts (is_key k) (is_value v) parts.0 in
    either IsTextChange (holds m k e) (sets m k v) (keeps m k) (sets-text m sound k tokens.0 v tokens.1) (keeps-text m sound k tokens.0)
applied m (Cad k v) sound has =
    let parts = and_parts (is_key k) (is_value v) has in
    either IsTextChange (holds m k (Some v)) (removes m k) (keeps m k) (removes-text m sound k parts.0) (keeps-text m sound k parts.0)

kv-keeps : MachineKeeps kv IsCommand IsOutput IsTextStore
kv-keeps = record {
  init = each-empty (slice_cmp nat_cmp) IsValue;
  state = λ s c sound has. (applied s c sound has).store;
  output = λ s c sound has. (applied s c sound has).output;
}

-- its texts are short
command-short : (c : KvCmd) → IsCommand c → length (input_text c) ≤ most_bytes
command-short (Get k) has = let a = token-length 64 k has in omega (arith, a, joined-length (command_words (Get k)))
command-short (Put k v) has =
    let parts = and_parts (is_key k) (is_value v) has in
    let a = token-length 64 k parts.0 in
    let b = token-length 1024 v parts.1 in
    omega (arith, a, b, joined-length (command_words (Put k v)))
command-short (Del k) has = let a = token-length 64 k has in omega (arith, a, joined-length (command_words (Del k)))
command-short (Cas k e v) has =
    let parts = and_parts (is_key k && is_value v) (is_optional 1024 e) has in
    let tokens = and_parts (is_key k) (is_value v) parts.0 in
    let a = token-length 64 k tokens.0 in
    let b = token-length 1024 v tokens.1 in
    let c = optional-length 1024 e parts.1 in
    omega (arith, a, b, c, joined-length (command_words (Cas k e v)))
command-short (Cad k v) has =
    let parts = and_parts (is_key k) (is_value v) has in
    let a = token-length 64 k parts.0 in
    let b = token-length 1024 v parts.1 in
    omega (arith, a, b, joined-length (command_words (Cad k v)))

output-short : (o : KvOut) → IsOutput o → length (output_text o) ≤ most_bytes
output-short o has =
    let parts = and_parts (is_key o.key) _ has in
    let values = and_parts (is_optional 1024 o.after) (is_optional 1024 o.before) parts.1 in
    let a = token-length 64 o.key parts.0 in
    let b = optional-length 1024 o.after values.0 in
    let c = optional-length 1024 o.before values.1 in
    omega (arith, a, b, c, joined-length (output_words o))

store-short : AreShortTexts kv_texts IsCommand IsOutput
store-short = record { ins = inputs_are_spelled; outs = outputs_are_spelled; short_ins = command-short; short_outs = output-short }

pub store-spelled : IsSpelledMachine store
store-spelled = machine-spelled store IsCommand IsOutput IsTextStore store-short kv-keeps no_redirect
