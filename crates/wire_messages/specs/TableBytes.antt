-- The bytes of the commands and outputs of the table of named locks.
use Rattle.std.specs.Prelude.{List, ℕ}
use Rattle.lock_table.specs.declared.cmd.TableCmd.{TableCmd}
use Rattle.lock_table.specs.declared.cmd.TableCmd.TheVariants.{Acquire, Release, Holder}
use Rattle.lock_table.specs.declared.out.TableOut.{TableOut}
use Rattle.wire_fields.specs.Fields.{flag, key, optional}
use Rattle.wire_fields.specs.Formats.{Format, pair}
use Rattle.wire_fields.specs.Kinds.{Kinds, Part, first, kind, no_more, one_of, second, third}
use Rattle.wire_fields.specs.Records.{FieldsOf, field, last, record_of}

-- a name and an owner
abbrev pub name_and_owner : Format (List ℕ × List ℕ)
name_and_owner = pair key key

abbrev pub table_kinds : Kinds TableCmd
table_kinds =
    kind 1 name_and_owner (λ (name, owner). Acquire name owner)
    (kind 2 name_and_owner (λ (name, owner). Release name owner)
    (kind 3 key (λ name. Holder name)
    no_more))

abbrev pub table_part : TableCmd → Part table_kinds
table_part (Acquire name owner) = first (name, owner)
table_part (Release name owner) = second (name, owner)
table_part (Holder name) = third name

abbrev pub table_command : Format TableCmd
table_command = one_of table_kinds table_part

-- the name, who holds it after the command, and no or yes
abbrev pub output_fields : FieldsOf TableOut
output_fields =
    field (λ o. o.name) key
    (field (λ o. o.holder) (optional key)
    (last (λ o. o.yes) flag))

abbrev pub table_output : Format TableOut
table_output = record_of output_fields (λ name holder answer. record { name = name; holder = holder; yes = answer })
