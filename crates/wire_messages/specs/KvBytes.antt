-- The bytes of the key-value machine's commands and outputs.
use Rattle.std.specs.Prelude.{List, ℕ, Option}
use Rattle.kv_machine.specs.declared.cmd.KvCmd.{KvCmd}
use Rattle.kv_machine.specs.declared.cmd.KvCmd.TheVariants.{Get, Put, Del, Cas, Cad}
use Rattle.kv_machine.specs.declared.out.KvOut.{KvOut}
use Rattle.wire_fields.specs.Fields.{key, optional, value}
use Rattle.wire_fields.specs.Formats.{Format, pair}
use Rattle.wire_fields.specs.Kinds.{Kinds, Part, fifth, first, fourth, kind, no_more, one_of, second, third}
use Rattle.wire_fields.specs.Records.{FieldsOf, field, last, record_of}

-- a key and a value
abbrev pub key_and_value : Format (List ℕ × List ℕ)
key_and_value = pair key value

-- a key, the value that it is expected to have, if one is, and the value to set
abbrev pub key_and_values : Format (List ℕ × (Option (List ℕ) × List ℕ))
key_and_values = pair key (pair (optional value) value)

abbrev pub kv_kinds : Kinds KvCmd
kv_kinds =
    kind 1 key (λ k. Get k)
    (kind 2 key_and_value (λ (k, v). Put k v)
    (kind 3 key (λ k. Del k)
    (kind 4 key_and_values (λ (k, (expected, v)). Cas k expected v)
    (kind 5 key_and_value (λ (k, v). Cad k v)
    no_more))))

abbrev pub kv_part : KvCmd → Part kv_kinds
kv_part (Get k) = first k
kv_part (Put k v) = second (k, v)
kv_part (Del k) = third k
kv_part (Cas k expected v) = fourth (k, (expected, v))
kv_part (Cad k v) = fifth (k, v)

abbrev pub kv_command : Format KvCmd
kv_command = one_of kv_kinds kv_part

-- the key, its value after the command and before it
abbrev pub output_fields : FieldsOf KvOut
output_fields =
    field (λ o. o.key) key
    (field (λ o. o.after) (optional value)
    (last (λ o. o.before) (optional value)))

abbrev pub kv_output : Format KvOut
kv_output = record_of output_fields (λ key after before. record { key = key; after = after; before = before })
