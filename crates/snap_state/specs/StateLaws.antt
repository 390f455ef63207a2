-- Each store and all sessions have one spelling.
use Rattle.std.proofs.Common.{refl}
use Rattle.std.specs.Cmp.{nat_cmp_total}
use Rattle.std.specs.Cmp.Lexicographic.{nat_list_cmp_total, slice_cmp}
use Rattle.std.specs.Ordering.{nat_cmp}
use Rattle.wire_fields.specs.FieldLaws.{key_is_format, value_is_format}
use Rattle.wire_fields.specs.Fields.{key, value}
use Rattle.wire_fields.specs.Formats.{Format, IsFormat}
use Rattle.wire_fields.specs.RecordLaws.{record_of_is_format}
use Rattle.wire_messages.specs.PeerByteLaws.{any_number_is_format}
use Rattle.wire_messages.specs.PeerBytes.{any_number}
use Rattle.snap_state.specs.States.{session, session_fields, sessions, store}
use Rattle.snap_state.specs.TableLaws.{table_is_format}

pub store_is_format : IsFormat store
store_is_format = table_is_format (slice_cmp nat_cmp) nat_list_cmp_total key value key_is_format value_is_format

module _ {O : Type 0} (f : Format O) (is_f : IsFormat f) where
  session_is_format : IsFormat (session f)
  session_is_format = record_of_is_format (session_fields f) (λ request output. record { request = request; output = output }) (λ s. refl) (λ t. refl) (any_number_is_format, is_f)

  pub sessions_is_format : IsFormat (sessions f)
  sessions_is_format = table_is_format nat_cmp nat_cmp_total any_number (session f) any_number_is_format session_is_format
