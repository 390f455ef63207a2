-- Each command and each output of the table of named locks has one spelling.
use Rattle.std.proofs.Common.{◌≡◌, refl}
use Rattle.lock_table.specs.declared.cmd.TableCmd.{TableCmd}
use Rattle.lock_table.specs.declared.cmd.TableCmd.TheVariants.{Acquire, Release, Holder}
use Rattle.wire_fields.specs.FieldLaws.{flag_is_format, key_is_format, optional_is_format}
use Rattle.wire_fields.specs.Fields.{key}
use Rattle.wire_fields.specs.FormatLaws.{pair_is_format}
use Rattle.wire_fields.specs.Formats.{IsFormat}
use Rattle.wire_fields.specs.KindLaws.{make_of, one_of_is_format}
use Rattle.wire_fields.specs.RecordLaws.{record_of_is_format}
use Rattle.wire_messages.specs.TableBytes.{name_and_owner, output_fields, table_command, table_kinds, table_output, table_part}

name_and_owner_is_format : IsFormat name_and_owner
name_and_owner_is_format = pair_is_format key key key_is_format key_is_format

pub table_command_is_format : IsFormat table_command
table_command_is_format =
    one_of_is_format table_kinds table_part made ((λ p. refl), ((λ p. refl), ((λ name. refl), tt))) refl (name_and_owner_is_format, (name_and_owner_is_format, (key_is_format, tt)))
  where
    made : (c : TableCmd) → make_of table_kinds (table_part c) ≡ c
    made (Acquire name owner) = refl
    made (Release name owner) = refl
    made (Holder name) = refl

pub table_output_is_format : IsFormat table_output
table_output_is_format =
    record_of_is_format output_fields (λ name holder answer. record { name = name; holder = holder; yes = answer }) (λ o. refl) (λ t. refl) (key_is_format, (optional_is_format key key_is_format, flag_is_format))
