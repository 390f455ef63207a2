-- The bytes of the entries of logs, as they are now and as nodes of version 1 wrote them.
use Rattle.std.specs.Prelude.{ℕ, ◌-◌, List, ◌∷◌, ◌++◌, Option, None, Some}
use Rattle.vst_base.specs.Entries.{EntryView}
use Rattle.vst_base.specs.declared.entry.TheConstants.{MAX_TERM}
use Rattle.vst_base.specs.declared.node.TheConstants.{MAX_NODES}
use Rattle.vst_base.specs.declared.what.What.{What}
use Rattle.vst_base.specs.declared.what.What.TheVariants.{Noop, Request}
use Rattle.wire_fields.specs.Bytes.{number_bytes}
use Rattle.wire_fields.specs.Fields.{number}
use Rattle.wire_fields.specs.Formats.{Format, made_of, nothing}
use Rattle.wire_fields.specs.Kinds.{Kinds, Part, first, kind, no_more, one_of, second}
use Rattle.wire_fields.specs.Records.{FieldsOf, field, last, record_of}
use Rattle.wire_messages.specs.PeerBytes.{any_number}
use Rattle.wire_messages.specs.declared.asked.Asked.{Asked}

-- a term in which a node may be elected, and a node of a cluster
abbrev pub election_term : Format ℕ
election_term = number 8 1 MAX_TERM

abbrev pub origin : Format ℕ
origin = number 1 0 (MAX_NODES - 1)

-- a client, its number of the request, the node that took it, and the command
abbrev pub asked_of : {C : Type 0} → ℕ → ℕ → ℕ → C → Asked C
asked_of client request origin cmd = record { client = client; request = request; origin = origin; cmd = cmd }

abbrev pub asked_fields : {C : Type 0} → Format C → FieldsOf (Asked C)
asked_fields f =
    field (λ a. a.client) any_number
    (field (λ a. a.request) any_number
    (field (λ a. a.origin) origin
    (last (λ a. a.cmd) f)))

abbrev pub asked : {C : Type 0} → Format C → Format (Asked C)
asked f = record_of (asked_fields f) asked_of

abbrev pub request_of : {C : Type 0} → Asked C → What C
request_of a = Request a.client a.request a.origin a.cmd

abbrev pub held_kinds : {C : Type 0} → Format C → Kinds (What C)
held_kinds f =
    kind 0 nothing (λ _. Noop)
    (kind 1 (asked f) request_of
    no_more)

abbrev pub held_part : {C : Type 0} (f : Format C) → What C → Part (held_kinds f)
held_part f Noop = first tt
held_part f (Request client request origin cmd) = second (asked_of client request origin cmd)

-- what an entry holds
abbrev pub held : {C : Type 0} → Format C → Format (What C)
held f = one_of (held_kinds f) (held_part f)

abbrev pub entry_of : {C : Type 0} → ℕ → What C → EntryView C
entry_of term what = record { term = term; what = what }

-- a term, and what stands after it
abbrev pub entry_fields : {C : Type 0} → Format (What C) → FieldsOf (EntryView C)
entry_fields f =
    field (λ e. e.term) election_term
    (last (λ e. e.what) f)

abbrev pub entry : {C : Type 0} → Format C → Format (EntryView C)
entry f = record_of (entry_fields (held f)) entry_of

-- what stands before the command of an entry with a request: the term, the byte that says that it holds one, the client, its
-- number of the request, and the node that took it
abbrev pub request_front : ℕ → ℕ → ℕ → ℕ → List ℕ
request_front term client request origin = number_bytes 8 term ++ (1 ∷ (number_bytes 8 client ++ (number_bytes 8 request ++ number_bytes 1 origin)))

-- version 1 had requests alone, and no byte that says so
abbrev pub old_part : {C : Type 0} → What C → Option (Asked C)
old_part Noop = None
old_part (Request client request origin cmd) = Some (asked_of client request origin cmd)

abbrev pub old_held : {C : Type 0} → Format C → Format (What C)
old_held f = made_of request_of old_part (asked f)

abbrev pub old_entry : {C : Type 0} → Format C → Format (EntryView C)
old_entry f = record_of (entry_fields (old_held f)) entry_of
