-- Each message between the nodes of a Raft cluster has one spelling.
use Rattle.std.proofs.Common.{◌≡◌, length, refl, lit<}
use Rattle.raft_types.specs.declared.limits.TheConstants.{MAX_BATCH, MAX_INDEX}
use Rattle.raft_types.specs.declared.msg.RaftMsg.{RaftMsg}
use Rattle.raft_types.specs.declared.msg.RaftMsg.TheVariants.{RequestVote, Vote, Append, Appended}
use Rattle.vst_base.specs.declared.entry.TheConstants.{MAX_TERM}
use Rattle.wire_fields.specs.FieldLaws.{flag_is_format, number_is_format}
use Rattle.wire_fields.specs.Fields.{number}
use Rattle.wire_fields.specs.FormatLaws.{keyed_is_format, listed_is_format, tested_is_format}
use Rattle.wire_fields.specs.Formats.{Format, IsFormat, listed}
use Rattle.wire_fields.specs.KindLaws.{make_of, one_of_is_format}
use Rattle.wire_messages.specs.EntryByteLaws.{election_term_is_format, entry_is_format}
use Rattle.wire_messages.specs.EntryBytes.{entry}
use Rattle.wire_fields.specs.Records.{record_of}
use Rattle.wire_fields.specs.RecordLaws.{record_of_is_format}
use Rattle.wire_messages.specs.RaftBytes.{request_vote_fields, vote_fields, appended_fields, append_fields, any_term, log_index, request_vote, vote, appended, entries, append_of, ends_at_an_index, append, raft_kinds, raft_part, raft_message}

pub any_term_is_format : IsFormat any_term
any_term_is_format = number_is_format 8 0 MAX_TERM (lit< tt)

pub log_index_is_format : IsFormat log_index
log_index_is_format = number_is_format 4 0 MAX_INDEX (lit< tt)

pub request_vote_is_format : IsFormat request_vote
request_vote_is_format =
    record_of_is_format request_vote_fields (λ term last_index last_term. record { term = term; last_index = last_index; last_term = last_term }) (λ r. refl) (λ t. refl)
    (election_term_is_format, (log_index_is_format, any_term_is_format))

pub vote_is_format : IsFormat vote
vote_is_format = record_of_is_format vote_fields (λ term granted. record { term = term; granted = granted }) (λ v. refl) (λ t. refl) (election_term_is_format, flag_is_format)

pub appended_is_format : IsFormat appended
appended_is_format =
    record_of_is_format appended_fields (λ term ok index. record { term = term; ok = ok; index = index }) (λ a. refl) (λ t. refl) (election_term_is_format, (flag_is_format, log_index_is_format))

module _ {C : Type 0} (f : Format C) (is_f : IsFormat f) where
  pub entries_is_format : IsFormat (entries f)
  entries_is_format =
      keyed_is_format length (number 1 0 MAX_BATCH) (λ n. listed (entry f) n) (λ n v fits. fits.0) (number_is_format 1 0 MAX_BATCH (lit< tt)) (λ n. listed_is_format (entry f) (entry_is_format f is_f) n)

  pub append_is_format : IsFormat (append f)
  append_is_format =
      tested_is_format ends_at_an_index (record_of (append_fields f) append_of)
      (record_of_is_format (append_fields f) append_of (λ a. refl) (λ t. refl) (election_term_is_format, (log_index_is_format, (any_term_is_format, (log_index_is_format, entries_is_format)))))

  pub raft_message_is_format : IsFormat (raft_message f)
  raft_message_is_format =
      one_of_is_format (raft_kinds f) (raft_part f) made ((λ m. refl), ((λ m. refl), ((λ m. refl), ((λ m. refl), tt)))) refl
      (request_vote_is_format, (vote_is_format, (append_is_format, (appended_is_format, tt))))
    where
      made : (m : RaftMsg C) → make_of (raft_kinds f) (raft_part f m) ≡ m
      made (RequestVote m) = refl
      made (Vote m) = refl
      made (Append m) = refl
      made (Appended m) = refl
