-- The bytes of the key-value machine's states, and of what nodes keep of clients.
use Rattle.std.specs.Prelude.{ℕ, List}
use Rattle.std.specs.Cmp.Lexicographic.{slice_cmp}
use Rattle.std.specs.Ordering.{nat_cmp}
use Rattle.key_map.specs.ByKey.{ByKey}
use Rattle.raft_clients.specs.Sessions.{Sessions}
use Rattle.raft_clients.specs.declared.session.Session.{Session}
use Rattle.wire_fields.specs.Fields.{key, value}
use Rattle.wire_fields.specs.Formats.{Format}
use Rattle.wire_fields.specs.Records.{FieldsOf, field, last, record_of}
use Rattle.wire_messages.specs.PeerBytes.{any_number}
use Rattle.snap_state.specs.Tables.{in_order, table}

-- the pairs of a store, by the bytes of their keys
abbrev pub store_pairs : Format (List (List ℕ × List ℕ))
store_pairs = in_order (slice_cmp nat_cmp) key value

abbrev pub store : Format (ByKey (List ℕ))
store = table (slice_cmp nat_cmp) key value

-- the number of a client's last request, and its output
abbrev pub session_fields : {O : Type 0} → Format O → FieldsOf (Session O)
session_fields f =
    field (λ s. s.request) any_number
    (last (λ s. s.output) f)

abbrev pub session : {O : Type 0} → Format O → Format (Session O)
session f = record_of (session_fields f) (λ request output. record { request = request; output = output })

-- the sessions, by the numbers of their clients
abbrev pub sessions : {O : Type 0} → Format O → Format (Sessions O)
sessions f = table nat_cmp any_number (session f)
