-- The table of named locks is spelled: what it answers to commands that have texts has a text, since each owner in it is a key.
use Rattle.std.specs.Prelude.{◌≡◌, ℕ, Bool, ◌≤◌, true, false, is_some, List, length, Some, None, IsTrue}
use Rattle.std.specs.Cmp.Lexicographic.{nat_list_cmp_total, slice_cmp}
use Rattle.std.specs.FinMap.{get}
use Rattle.std.specs.Ordering.{nat_cmp}
use Rattle.std.proofs.Common.{arith}
use Rattle.std.proofs.lemmas.Bool.{and_parts, and_from}
use Rattle.vst_base.specs.Tokens.{is_key}
use Rattle.app_text.specs.TableTextLaws.{inputs_are_spelled, no_redirect, outputs_are_spelled}
use Rattle.app_text.specs.TableTexts.{answer_text, command_words, input_text, is_command, is_output, output_text, output_words}
use Rattle.app_text.specs.Words.{is_optional}
use Rattle.lock_table.specs.Table.{Change, Holders, answers, apply, holds, table}
use Rattle.lock_table.specs.declared.cmd.TableCmd.{TableCmd}
use Rattle.lock_table.specs.declared.cmd.TableCmd.TheVariants.{Acquire, Release, Holder}
use Rattle.lock_table.specs.declared.out.TableOut.{TableOut}
use Rattle.stacks.specs.Table.{lock_table, table_texts}
use Rattle.trace_check.specs.Spelled.{IsSpelledMachine, most_bytes}
use Rattle.trace_check.proofs.Eaches.{either}
use Rattle.trace_check.proofs.Machines.{AreShortTexts, MachineKeeps, machine-spelled}
use Rattle.trace_check.proofs.Maps.{EachValue, each-empty, each-insert, each-remove}
use Rattle.trace_check.proofs.Words.{joined-length, optional-length, optional-token, token-length}

abbrev IsCommand : TableCmd → Type 0
IsCommand c = IsTrue (is_command c)

abbrev IsOutput : TableOut → Type 0
IsOutput o = IsTrue (is_output o)

-- each owner is one that has a text
abbrev IsOwner : List ℕ → Type 0
IsOwner o = is_key o ≡ true

abbrev IsTextTable : Holders → Type 0
IsTextTable m = EachValue (slice_cmp nat_cmp) IsOwner m

record IsTextChange (c : Change) : Type 0 where
  held : IsTextTable c.0
  output : is_output c.1 ≡ true

answers-text : (m : Holders) (l : List ℕ) (answer : Bool) → IsTextTable m → is_key l ≡ true → IsTextChange (answers m l answer)
answers-text m l answer sound key = record { held = sound; output = and_from _ _ key (optional-token 64 (get m l) (sound l)) }

applied : (m : Holders) (c : TableCmd) → IsTextTable m → is_command c ≡ true → IsTextChange (apply m c)
applied m (Acquire l o) sound has =
    let parts = and_parts (is_key l) (is_key o) has in
    either IsTextChange (holds m l None) (answers _ l true) (answers m l false)
    (answers-text _ l true (each-insert (slice_cmp nat_cmp) IsOwner nat_list_cmp_total m sound l o parts.1) parts.0) (answers-text m l false sound parts.0)
applied m (Release l o) sound has =
    let parts = and_parts (is_key l) (is_key o) has in
    either IsTextChange (holds m l (Some o)) (answers _ l true) (answers m l false)
    (answers-text _ l true (each-remove (slice_cmp nat_cmp) IsOwner nat_list_cmp_total m sound l) parts.0) (answers-text m l false sound parts.0)
applied m (Holder l) sound has = answers-text m l (is_some (get m l)) sound has

table-keeps : MachineKeeps table IsCommand IsOutput IsTextTable
table-keeps = record {
  init = each-empty (slice_cmp nat_cmp) IsOwner;
  state = λ s c sound has. (applied s c sound has).held;
  output = λ s c sound has. (applied s c sound has).output;
}

-- its texts are short
two-keys-short : (l o : List ℕ) → is_key l ≡ true → is_key o ≡ true → (length l ≤ 64) × (length o ≤ 64)
two-keys-short l o l_key o_key = (token-length 64 l l_key, token-length 64 o o_key)

command-short : (c : TableCmd) → IsCommand c → length (input_text c) ≤ most_bytes
command-short (Acquire l o) has =
    let parts = and_parts (is_key l) (is_key o) has in
    let short = two-keys-short l o parts.0 parts.1 in
    omega (arith, short.0, short.1, joined-length (command_words (Acquire l o)))
command-short (Release l o) has =
    let parts = and_parts (is_key l) (is_key o) has in
    let short = two-keys-short l o parts.0 parts.1 in
    omega (arith, short.0, short.1, joined-length (command_words (Release l o)))
command-short (Holder l) has = let a = token-length 64 l has in omega (arith, a, joined-length (command_words (Holder l)))

answer-short : (answer : Bool) → length (answer_text answer) ≤ 3
answer-short true = omega arith
answer-short false = omega arith

output-short : (o : TableOut) → IsOutput o → length (output_text o) ≤ most_bytes
output-short o has =
    let parts = and_parts (is_key o.name) (is_optional 64 o.holder) has in
    let a = token-length 64 o.name parts.0 in
    let b = optional-length 64 o.holder parts.1 in
    omega (arith, a, b, answer-short o.yes, joined-length (output_words o))

table-short : AreShortTexts table_texts IsCommand IsOutput
table-short = record { ins = inputs_are_spelled; outs = outputs_are_spelled; short_ins = command-short; short_outs = output-short }

pub table-spelled : IsSpelledMachine lock_table
table-spelled = machine-spelled lock_table IsCommand IsOutput IsTextTable table-short table-keeps no_redirect
