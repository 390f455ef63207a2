use Rattle.wire_fields.specs.FieldLaws.{flag_is_format, key_is_format, number_is_format, optional_is_format, raw_is_format, value_is_format}
use Rattle.wire_fields.specs.Fields.{key, value}
use Rattle.wire_fields.proofs.laws.fields_have_one_spelling.Goals as goal

pub returns-clause-numbers : goal.returns-clause-numbers
returns-clause-numbers c = number_is_format

pub returns-clause-keys : goal.returns-clause-keys
returns-clause-keys c = key_is_format

pub returns-clause-values : goal.returns-clause-values
returns-clause-values c = value_is_format

pub returns-clause-flags : goal.returns-clause-flags
returns-clause-flags c = flag_is_format

pub returns-clause-names : goal.returns-clause-names
returns-clause-names c = raw_is_format 16

pub returns-clause-optional_keys : goal.returns-clause-optional_keys
returns-clause-optional_keys c = optional_is_format key key_is_format

pub returns-clause-optional_values : goal.returns-clause-optional_values
returns-clause-optional_values c = optional_is_format value value_is_format
