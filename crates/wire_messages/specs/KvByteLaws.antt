-- Each command and each output of the key-value machine has one spelling.
use Rattle.std.proofs.Common.{◌≡◌, refl}
use Rattle.kv_machine.specs.declared.cmd.KvCmd.{KvCmd}
use Rattle.kv_machine.specs.declared.cmd.KvCmd.TheVariants.{Get, Put, Del, Cas, Cad}
use Rattle.wire_fields.specs.FieldLaws.{key_is_format, optional_is_format, value_is_format}
use Rattle.wire_fields.specs.Fields.{key, optional, value}
use Rattle.wire_fields.specs.FormatLaws.{pair_is_format}
use Rattle.wire_fields.specs.Formats.{IsFormat, pair}
use Rattle.wire_fields.specs.KindLaws.{make_of, one_of_is_format}
use Rattle.wire_fields.specs.RecordLaws.{record_of_is_format}
use Rattle.wire_messages.specs.KvBytes.{key_and_value, key_and_values, kv_command, kv_kinds, kv_output, kv_part, output_fields}

optional_value_is_format : IsFormat (optional value)
optional_value_is_format = optional_is_format value value_is_format

key_and_value_is_format : IsFormat key_and_value
key_and_value_is_format = pair_is_format key value key_is_format value_is_format

key_and_values_is_format : IsFormat key_and_values
key_and_values_is_format = pair_is_format key (pair (optional value) value) key_is_format (pair_is_format (optional value) value optional_value_is_format value_is_format)

pub kv_command_is_format : IsFormat kv_command
kv_command_is_format =
    one_of_is_format kv_kinds kv_part made ((λ k. refl), ((λ p. refl), ((λ k. refl), ((λ p. refl), ((λ p. refl), tt))))) refl
    (key_is_format, (key_and_value_is_format, (key_is_format, (key_and_values_is_format, (key_and_value_is_format, tt)))))
  where
    made : (c : KvCmd) → make_of kv_kinds (kv_part c) ≡ c
    made (Get k) = refl
    made (Put k v) = refl
    made (Del k) = refl
    made (Cas k expected v) = refl
    made (Cad k v) = refl

pub kv_output_is_format : IsFormat kv_output
kv_output_is_format =
    record_of_is_format output_fields (λ key after before. record { key = key; after = after; before = before }) (λ o. refl) (λ t. refl) (key_is_format, (optional_value_is_format, optional_value_is_format))
