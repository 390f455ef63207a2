-- How many bytes commands have at most, and so entries, logs and bodies.
use Rattle.std.proofs.Common.{◌≤◌, ◌+◌, ◌*◌, ℕ, List, [], ◌∷◌, ◌++◌, length, All, Option, None, Some, arith, length-append}
use Rattle.std.proofs.lemmas.List.Elements.{All-head, All-tail}
use Rattle.std.specs.List.{flat_map}
use Rattle.kv_machine.specs.declared.cmd.KvCmd.{KvCmd}
use Rattle.kv_machine.specs.declared.cmd.KvCmd.TheVariants.{Get, Put, Del, Cas, Cad}
use Rattle.lock_table.specs.declared.cmd.TableCmd.{TableCmd}
use Rattle.lock_table.specs.declared.cmd.TableCmd.TheVariants.{Acquire, Release, Holder}
use Rattle.vst_base.specs.Entries.{EntryView}
use Rattle.vst_base.specs.declared.what.What.{What}
use Rattle.vst_base.specs.declared.what.What.TheVariants.{Noop, Request}
use Rattle.wire_fields.specs.ByteLaws.{length-number_bytes}
use Rattle.wire_fields.specs.Bytes.{number_bytes}
use Rattle.wire_fields.specs.Fields.{key, optional, value}
use Rattle.wire_fields.specs.Formats.{Format}
use Rattle.wire_messages.specs.EntryBytes.{entry, held}
use Rattle.wire_messages.specs.KvBytes.{kv_command}
use Rattle.wire_messages.specs.TableBytes.{table_command}
use Rattle.node_body.specs.declared.commands.TheConstants.{MAX_COMMAND}

key_length : (k : List ℕ) → key.Fits k → length (key.spell k) ≤ 65
key_length k fits = omega (arith, length-append (number_bytes 1 (length k)) k, length-number_bytes 1 (length k), fits.0.1)

value_length : (v : List ℕ) → value.Fits v → length (value.spell v) ≤ 1026
value_length v fits = omega (arith, length-append (number_bytes 2 (length v)) v, length-number_bytes 2 (length v), fits.0.1)

optional_length : (v : Option (List ℕ)) → (optional value).Fits v → length ((optional value).spell v) ≤ 1027
optional_length None fits = omega arith
optional_length (Some v) fits = omega (arith, value_length v fits)

pub kv_length : (c : KvCmd) → kv_command.Fits c → length (kv_command.spell c) ≤ MAX_COMMAND
kv_length (Get k) fits = omega (arith, key_length k fits)
kv_length (Put k v) fits = omega (arith, length-append (key.spell k) (value.spell v), key_length k fits.0, value_length v fits.1)
kv_length (Del k) fits = omega (arith, key_length k fits)
kv_length (Cas k e v) fits =
    omega (arith, length-append (key.spell k) ((optional value).spell e ++ value.spell v), length-append ((optional value).spell e) (value.spell v), key_length k fits.0, optional_length e fits.1.0, value_length v fits.1.1)
kv_length (Cad k v) fits = omega (arith, length-append (key.spell k) (value.spell v), key_length k fits.0, value_length v fits.1)

pub table_length : (c : TableCmd) → table_command.Fits c → length (table_command.spell c) ≤ MAX_COMMAND
table_length (Acquire n o) fits = omega (arith, length-append (key.spell n) (key.spell o), key_length n fits.0, key_length o fits.1)
table_length (Release n o) fits = omega (arith, length-append (key.spell n) (key.spell o), key_length n fits.0, key_length o fits.1)
table_length (Holder n) fits = omega (arith, key_length n fits)

module _ {C : Type 0} (f : Format C) (short : (c : C) → f.Fits c → length (f.spell c) ≤ MAX_COMMAND) where
  what_length : (w : What C) → (held f).Fits w → length ((held f).spell w) ≤ 18 + MAX_COMMAND
  what_length Noop fits = omega arith
  what_length (Request client request origin cmd) fits =
      let c = f.spell cmd in
      omega (
        arith,
        length-append (number_bytes 8 client) (number_bytes 8 request ++ (number_bytes 1 origin ++ c)),
        length-append (number_bytes 8 request) (number_bytes 1 origin ++ c),
        length-append (number_bytes 1 origin) c,
        length-number_bytes 8 client,
        length-number_bytes 8 request,
        length-number_bytes 1 origin,
        short cmd fits.1.1.1,
      )

  entry_length : (e : EntryView C) → (entry f).Fits e → length ((entry f).spell e) ≤ 26 + MAX_COMMAND
  entry_length e fits = omega (arith, length-append (number_bytes 8 e.term) ((held f).spell e.what), length-number_bytes 8 e.term, what_length e.what fits.1)

  pub entries_length : (es : List (EntryView C)) → All (entry f).Fits es → length (flat_map (entry f).spell es) ≤ length es * (26 + MAX_COMMAND)
  entries_length [] fits = omega arith
  entries_length (e ∷ es) fits =
      omega (
        arith,
        length-append ((entry f).spell e) (flat_map (entry f).spell es),
        entry_length e (All-head (entry f).Fits e es fits),
        entries_length es (All-tail (entry f).Fits e es fits),
      )
