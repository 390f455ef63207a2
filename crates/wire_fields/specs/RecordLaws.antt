-- A value of several fields has one spelling, where each field has one.
use Rattle.std.proofs.Common.{◌≡◌}
use Rattle.wire_fields.specs.FormatLaws.{mapped_is_format, pair_is_format}
use Rattle.wire_fields.specs.Formats.{IsFormat}
use Rattle.wire_fields.specs.Records.{FieldsOf, Maker, Tuple, field, last, made_by, record_of, tuple_format, tuple_of}

-- each field is spelled in one way
abbrev pub HaveFormats : {V : Type 0} → FieldsOf V → Type 0
HaveFormats (last seen f) = IsFormat f
HaveFormats (field seen f more) = IsFormat f × HaveFormats more

tuple_is_format : {V : Type 0} (fields : FieldsOf V) → HaveFormats fields → IsFormat (tuple_format fields)
tuple_is_format (last seen f) are = are
tuple_is_format (field seen f more) are = pair_is_format f (tuple_format more) are.0 (tuple_is_format more are.1)

pub record_of_is_format : {V : Type 0} (fields : FieldsOf V) (make : Maker fields) → ((v : V) → made_by fields make (tuple_of fields v) ≡ v) → ((t : Tuple fields) → tuple_of fields (made_by fields make t) ≡ t)
    → HaveFormats fields → IsFormat (record_of fields make)
record_of_is_format fields make made seen are = mapped_is_format (made_by fields make) (tuple_of fields) (tuple_format fields) made seen (tuple_is_format fields are)
