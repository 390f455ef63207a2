-- Values of several fields, which stand one after the other.
use Rattle.wire_fields.specs.Formats.{Format, mapped, pair}

-- the fields of a value, as a table in the order of their bytes: what is seen of the value, and how that is spelled
pub data FieldsOf (V : Type 0) : Type 1 where
  last : {A : Type 0} → (V → A) → Format A → FieldsOf V
  field : {A : Type 0} → (V → A) → Format A → FieldsOf V → FieldsOf V

-- what makes a value of its fields, from the first to the last
abbrev pub Maker : {V : Type 0} → FieldsOf V → Type 0
Maker {V} (last {A = A} seen f) = A → V
Maker {V} (field {A = A} seen f more) = A → Maker more

-- the fields alone
abbrev pub Tuple : {V : Type 0} → FieldsOf V → Type 0
Tuple (last {A = A} seen f) = A
Tuple (field {A = A} seen f more) = A × Tuple more

abbrev pub tuple_of : {V : Type 0} (fields : FieldsOf V) → V → Tuple fields
tuple_of (last seen f) v = seen v
tuple_of (field seen f more) v = (seen v, tuple_of more v)

abbrev pub made_by : {V : Type 0} (fields : FieldsOf V) → Maker fields → Tuple fields → V
made_by (last seen f) make t = make t
made_by (field seen f more) make t = made_by more (make t.0) t.1

abbrev pub tuple_format : {V : Type 0} (fields : FieldsOf V) → Format (Tuple fields)
tuple_format (last seen f) = f
tuple_format (field seen f more) = pair f (tuple_format more)

-- a value of these fields
abbrev pub record_of : {V : Type 0} (fields : FieldsOf V) → Maker fields → Format V
record_of fields make = mapped (made_by fields make) (tuple_of fields) (tuple_format fields)
