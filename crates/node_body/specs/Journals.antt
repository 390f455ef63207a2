-- What stands after a body: gates, and records after those that are open.
use Rattle.std.specs.Prelude.{ℕ, zero, suc, ◌+◌, ◌%◌, ◌==◌, nat_le, Bool, List, [], ◌∷◌, ◌++◌, length, take, Option, None, Some, if◌then◌else◌}
use Rattle.raft_types.specs.Messages.{KeptView}
use Rattle.raft_types.specs.declared.limits.TheConstants.{MAX_INDEX}
use Rattle.vst_base.specs.Entries.{EntryView}
use Rattle.wire_fields.specs.Formats.{Format, and_then, mapped, pair, tested}
use Rattle.wire_messages.specs.RaftBytes.{any_term, log_index}
use Rattle.node_body.specs.Bodies.{kept_as, log, spell_vote, vote}
use Rattle.node_body.specs.declared.journal.Journal.{Journal}
use Rattle.node_body.specs.declared.journal.TheConstants.{MAX_RECORDS}
use Rattle.node_body.specs.declared.records.Record.{Record}

-- what a record says: the term, the vote, and which entries the log has after so many of those before
abbrev pub change_as : {C : Type 0} → ℕ → Option ℕ → ℕ → List (EntryView C) → Record C
change_as term voted keep entries = record { term = term; voted = voted; keep = keep; entries = entries }

-- a record of a node of so many; the last of its entries stands at an index
abbrev pub change : {C : Type 0} → ℕ → Format (EntryView C) → Format (Record C)
change nodes e = tested (λ r. nat_le (r.keep + length r.entries) MAX_INDEX)
    (mapped (λ p. change_as p.0 p.1.0 p.1.1.0 p.1.1.1) (λ r. (r.term, (r.voted, (r.keep, r.entries))))
    (pair any_term (pair (vote nodes) (pair log_index (log e)))))

-- its bytes
abbrev pub spell_change : {C : Type 0} → Format (EntryView C) → Record C → List ℕ
spell_change e r = any_term.spell r.term ++ (spell_vote r.voted ++ (log_index.spell r.keep ++ (log e).spell r.entries))

-- the state that a record makes of another
abbrev pub patched : {C : Type 0} → Record C → KeptView C → KeptView C
patched r k = kept_as r.term r.voted (take r.keep k.log ++ r.entries)

-- The state after the record that stands in front. It keeps no more entries than there are.
abbrev pub next_state : {C : Type 0} → Format (Record C) → KeptView C → List ℕ → Option (KeptView C × List ℕ)
next_state f k bs = and_then (f.read bs) (λ r rest. if nat_le r.keep (length k.log) then Some (patched r k, rest) else None)

-- an even gate is closed: what stands after it is not read
abbrev pub is_closed : ℕ → Bool
is_closed gate = (gate % 2) == 0

-- the state that is found, how many records more may follow, and how many bytes the closed gate hides
abbrev pub journal_as : {C : Type 0} → KeptView C → ℕ → ℕ → Journal C
journal_as kept left hidden = record { kept = kept; left = left; hidden = hidden }

abbrev pub at_gate : {J : Type 0} → List ℕ → (ℕ → List ℕ → Option J) → Option J
at_gate [] next = None
at_gate (gate ∷ bs) next = next gate bs

abbrev pub go_on : {K J : Type 0} → Option (K × List ℕ) → (K → List ℕ → Option J) → Option J
go_on None next = None
go_on (Some p) next = next p.0 p.1

-- From a gate on, where so many records may follow: each open gate is followed by a record and a further gate.
unfoldable pub from_gate : {C : Type 0} → Format (Record C) → ℕ → KeptView C → List ℕ → Option (Journal C)
from_gate f zero k bs = at_gate bs (λ gate rest. if is_closed gate then Some (journal_as k 0 (length rest)) else None)
from_gate f (suc n) k bs =
    at_gate bs (λ gate rest.
    if is_closed gate then Some (journal_as k (suc n) (length rest))
    else go_on (next_state f k rest) (λ next more. from_gate f n next more))

-- what stands after a body that keeps this: nothing, and then no record may follow, or a gate
abbrev pub read_journal : {C : Type 0} → Format (Record C) → KeptView C → List ℕ → Option (Journal C)
read_journal f k [] = Some (journal_as k 0 0)
read_journal f k (gate ∷ bs) = from_gate f MAX_RECORDS k (gate ∷ bs)
