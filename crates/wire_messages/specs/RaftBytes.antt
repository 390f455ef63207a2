-- The bytes of the messages between the nodes of a Raft cluster.
use Rattle.std.specs.Prelude.{ℕ, Bool, ◌+◌, nat_le, List, ◌++◌, length}
use Rattle.raft_types.specs.Messages.{AppendView, AppendedView, IsIndex, IsTerm, RequestVoteView, VoteView}
use Rattle.raft_types.specs.declared.limits.TheConstants.{MAX_BATCH, MAX_INDEX}
use Rattle.raft_types.specs.declared.msg.RaftMsg.{RaftMsg}
use Rattle.raft_types.specs.declared.msg.RaftMsg.TheVariants.{RequestVote, Vote, Append, Appended}
use Rattle.vst_base.specs.Entries.{EntryView, IsElectionTerm}
use Rattle.vst_base.specs.declared.entry.TheConstants.{MAX_TERM}
use Rattle.wire_fields.specs.Bytes.{number_bytes}
use Rattle.wire_fields.specs.Fields.{flag, number}
use Rattle.wire_fields.specs.Formats.{Format, keyed, listed, nothing, tested}
use Rattle.wire_fields.specs.Kinds.{Kinds, Part, first, fourth, kind, no_more, one_of, second, third}
use Rattle.wire_fields.specs.Records.{FieldsOf, field, last, record_of}
use Rattle.wire_messages.specs.EntryBytes.{election_term, entry}
use Rattle.wire_messages.specs.declared.front.Front.{Front}

-- a term, which is 0 before the first election, and an index of a log, which is 0 before the first entry
abbrev pub any_term : Format ℕ
any_term = number 8 0 MAX_TERM

abbrev pub log_index : Format ℕ
log_index = number 4 0 MAX_INDEX

abbrev pub request_vote_fields : FieldsOf RequestVoteView
request_vote_fields =
    field (λ r. r.term) election_term
    (field (λ r. r.last_index) log_index
    (last (λ r. r.last_term) any_term))

abbrev pub request_vote : Format RequestVoteView
request_vote = record_of request_vote_fields (λ term last_index last_term. record { term = term; last_index = last_index; last_term = last_term })

abbrev pub vote_fields : FieldsOf VoteView
vote_fields =
    field (λ v. v.term) election_term
    (last (λ v. v.granted) flag)

abbrev pub vote : Format VoteView
vote = record_of vote_fields (λ term granted. record { term = term; granted = granted })

abbrev pub appended_fields : FieldsOf AppendedView
appended_fields =
    field (λ a. a.term) election_term
    (field (λ a. a.ok) flag
    (last (λ a. a.index) log_index))

abbrev pub appended : Format AppendedView
appended = record_of appended_fields (λ term ok index. record { term = term; ok = ok; index = index })

-- at most so many entries, after their number
abbrev pub entries : {C : Type 0} → Format C → Format (List (EntryView C))
entries f = keyed length (number 1 0 MAX_BATCH) (λ n. listed (entry f) n)

abbrev pub append_of : {C : Type 0} → ℕ → ℕ → ℕ → ℕ → List (EntryView C) → AppendView C
append_of term prev_index prev_term commit entries =
    record { term = term; prev_index = prev_index; prev_term = prev_term; commit = commit; entries = entries }

-- what stands before the entries of a leader
abbrev pub front_with : ℕ → ℕ → ℕ → ℕ → Front
front_with term prev_index prev_term commit = record { term = term; prev_index = prev_index; prev_term = prev_term; commit = commit }

abbrev pub front_of : {C : Type 0} → AppendView C → Front
front_of a = front_with a.term a.prev_index a.prev_term a.commit

abbrev pub IsFront : Front → Type 0
IsFront f = IsElectionTerm f.term × IsIndex f.prev_index × IsTerm f.prev_term × IsIndex f.commit

-- the fields of a front, and those that stand after it
abbrev pub front_fields : {V : Type 0} → (V → Front) → FieldsOf V → FieldsOf V
front_fields front more =
    field (λ v. (front v).term) election_term
    (field (λ v. (front v).prev_index) log_index
    (field (λ v. (front v).prev_term) any_term
    (field (λ v. (front v).commit) log_index
    more)))

abbrev pub front : Format Front
front = record_of (front_fields (λ f. f) (last (λ _. tt) nothing)) (λ term prev_index prev_term commit _. front_with term prev_index prev_term commit)

-- the bytes of a front, and those after it
abbrev pub front_bytes : Front → List ℕ → List ℕ
front_bytes f more =
    number_bytes 8 f.term ++ (number_bytes 4 f.prev_index ++ (number_bytes 8 f.prev_term ++ (number_bytes 4 f.commit ++ more)))

-- what stands before the entries, the last of it their number
abbrev pub append_front : Front → ℕ → List ℕ
append_front f count = front_bytes f (number_bytes 1 count)

abbrev pub append_with : {C : Type 0} → Front → List (EntryView C) → AppendView C
append_with f entries = append_of f.term f.prev_index f.prev_term f.commit entries

abbrev pub append_fields : {C : Type 0} → Format C → FieldsOf (AppendView C)
append_fields f = front_fields front_of (last (λ a. a.entries) (entries f))

-- the last of the entries stands at an index
abbrev pub ends_at_an_index : {C : Type 0} → AppendView C → Bool
ends_at_an_index a = nat_le (a.prev_index + length a.entries) MAX_INDEX

abbrev pub append : {C : Type 0} → Format C → Format (AppendView C)
append f = tested ends_at_an_index (record_of (append_fields f) append_of)

abbrev pub raft_kinds : {C : Type 0} → Format C → Kinds (RaftMsg C)
raft_kinds f =
    kind 1 request_vote (λ m. RequestVote m)
    (kind 2 vote (λ m. Vote m)
    (kind 3 (append f) (λ m. Append m)
    (kind 4 appended (λ m. Appended m)
    no_more)))

abbrev pub raft_part : {C : Type 0} (f : Format C) → RaftMsg C → Part (raft_kinds f)
raft_part f (RequestVote m) = first m
raft_part f (Vote m) = second m
raft_part f (Append m) = third m
raft_part f (Appended m) = fourth m

abbrev pub raft_message : {C : Type 0} → Format C → Format (RaftMsg C)
raft_message f = one_of (raft_kinds f) (raft_part f)
