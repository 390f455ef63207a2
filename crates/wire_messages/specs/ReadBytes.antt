-- The bytes of the messages of a Raft cluster whose reads take no entry of the log: those of Raft, and a round with a leader's entries
-- and with an answer to them.
use Rattle.std.specs.Prelude.{◌≡◌, ℕ, List, [], ◌++◌, Some}
use Rattle.raft_types.specs.Messages.{AppendView}
use Rattle.raft_types.specs.Rounds.{ReadMsg}
use Rattle.raft_types.specs.declared.limits.TheConstants.{MAX_ROUND}
use Rattle.raft_types.specs.declared.msg.RaftMsg.{RaftMsg}
use Rattle.raft_types.specs.declared.msg.RaftMsg.TheVariants.{RequestVote, Vote, Append, Appended}
use Rattle.wire_fields.specs.Bytes.{number_bytes}
use Rattle.wire_fields.specs.Fields.{number}
use Rattle.wire_fields.specs.Formats.{Format, pair, tested}
use Rattle.wire_fields.specs.Kinds.{Kinds, Part, first, fourth, kind, no_more, one_of, second, third}
use Rattle.wire_fields.specs.Records.{FieldsOf, field, last, record_of}
use Rattle.wire_messages.specs.RaftBytes.{append_of, appended, ends_at_an_index, entries, front_bytes, front_fields, front_of, request_vote, vote}
use Rattle.wire_messages.specs.declared.front.Front.{Front}

abbrev pub a_round : Format ℕ
a_round = number 8 0 MAX_ROUND

-- round 0, which has no bytes
abbrev pub no_round : Format ℕ
no_round = record { Fits = λ round. round ≡ 0; spell = λ _. []; read = λ bs. Some (0, bs) }

-- the leader's round stands right before the number of its entries
abbrev pub read_append_fields : {C : Type 0} → Format C → FieldsOf (AppendView C × ℕ)
read_append_fields f =
    front_fields (λ m. front_of m.0)
    (field (λ m. m.1) a_round
    (last (λ m. m.0.entries) (entries f)))

abbrev pub read_append : {C : Type 0} → Format C → Format (AppendView C × ℕ)
read_append f =
    tested (λ m. ends_at_an_index m.0)
    (record_of (read_append_fields f) (λ term prev_index prev_term commit round entries. (append_of term prev_index prev_term commit entries, round)))

-- what stands before the entries, the last of it their number
abbrev pub read_append_front : Front → ℕ → ℕ → List ℕ
read_append_front f round count = front_bytes f (number_bytes 8 round ++ number_bytes 1 count)

abbrev pub with_round : {C : Type 0} → RaftMsg C → ℕ → ReadMsg C
with_round raft round = record { raft = raft; round = round }

abbrev pub read_kinds : {C : Type 0} → Format C → Kinds (ReadMsg C)
read_kinds f =
    kind 1 (pair request_vote no_round) (λ (m, round). with_round (RequestVote m) round)
    (kind 2 (pair vote no_round) (λ (m, round). with_round (Vote m) round)
    (kind 3 (read_append f) (λ (m, round). with_round (Append m) round)
    (kind 4 (pair appended a_round) (λ (m, round). with_round (Appended m) round)
    no_more)))

abbrev pub part_of : {C : Type 0} (f : Format C) → RaftMsg C → ℕ → Part (read_kinds f)
part_of f (RequestVote m) round = first (m, round)
part_of f (Vote m) round = second (m, round)
part_of f (Append m) round = third (m, round)
part_of f (Appended m) round = fourth (m, round)

abbrev pub read_part : {C : Type 0} (f : Format C) → ReadMsg C → Part (read_kinds f)
read_part f m = part_of f m.raft m.round

abbrev pub read_message : {C : Type 0} → Format C → Format (ReadMsg C)
read_message f = one_of (read_kinds f) (read_part f)
