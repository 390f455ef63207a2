-- Each message of a Raft cluster whose reads take no entry of the log has one spelling.
use Rattle.std.proofs.Common.{◌≡◌, ℕ, List, Option, Some, refl, sym, ap, lit<}
use Rattle.raft_types.specs.declared.limits.TheConstants.{MAX_ROUND}
use Rattle.raft_types.specs.declared.msg.RaftMsg.{RaftMsg}
use Rattle.raft_types.specs.declared.msg.RaftMsg.TheVariants.{RequestVote, Vote, Append, Appended}
use Rattle.wire_fields.specs.FieldLaws.{number_is_format}
use Rattle.wire_fields.specs.FormatLaws.{pair_is_format, same_answer, tested_is_format}
use Rattle.wire_fields.specs.Formats.{Format, IsFormat, IsSpelled}
use Rattle.wire_fields.specs.KindLaws.{make_of, one_of_is_format}
use Rattle.wire_fields.specs.RecordLaws.{record_of_is_format}
use Rattle.wire_fields.specs.Records.{record_of}
use Rattle.wire_messages.specs.EntryByteLaws.{election_term_is_format}
use Rattle.wire_messages.specs.RaftByteLaws.{any_term_is_format, appended_is_format, entries_is_format, log_index_is_format, request_vote_is_format, vote_is_format}
use Rattle.wire_messages.specs.RaftBytes.{append_of, appended, ends_at_an_index, request_vote, vote}
use Rattle.wire_messages.specs.ReadBytes.{a_round, no_round, part_of, read_append, read_append_fields, read_kinds, read_message, read_part, with_round}

pub a_round_is_format : IsFormat a_round
a_round_is_format = number_is_format 8 0 MAX_ROUND (lit< tt)

pub no_round_is_format : IsFormat no_round
no_round_is_format = record { reads_back = back; one_spelling = one }
  where
    back : (round : ℕ) (rest : List ℕ) → round ≡ 0 → ◌≡◌ {A = Option (ℕ × List ℕ)} (Some (0, rest)) (Some (round, rest))
    back round rest fits = ap (λ r. let found : Option (ℕ × List ℕ) = Some (r, rest) in found) (sym fits)

    one : (bs : List ℕ) (round : ℕ) (rest : List ℕ) → ◌≡◌ {A = Option (ℕ × List ℕ)} (Some (0, bs)) (Some (round, rest)) → IsSpelled no_round bs round rest
    one bs round rest e =
        let same = same_answer 0 round bs rest e in
        record { fits = sym same.0; bytes = same.1 }

module _ {C : Type 0} (f : Format C) (is_f : IsFormat f) where
  pub read_append_is_format : IsFormat (read_append f)
  read_append_is_format =
      tested_is_format (λ m. ends_at_an_index m.0) (record_of (read_append_fields f) (λ term prev_index prev_term commit round entries. (append_of term prev_index prev_term commit entries, round)))
      (record_of_is_format (read_append_fields f) (λ term prev_index prev_term commit round entries. (append_of term prev_index prev_term commit entries, round)) (λ m. refl) (λ t. refl)
      (election_term_is_format, (log_index_is_format, (any_term_is_format, (log_index_is_format, (a_round_is_format, entries_is_format f is_f))))))

  pub read_message_is_format : IsFormat (read_message f)
  read_message_is_format =
      one_of_is_format (read_kinds f) (read_part f) (λ m. made m.raft m.round) ((λ p. refl), ((λ p. refl), ((λ p. refl), ((λ p. refl), tt)))) refl (
        pair_is_format request_vote no_round request_vote_is_format no_round_is_format,
        (
          pair_is_format vote no_round vote_is_format no_round_is_format,
          (
            read_append_is_format,
            (pair_is_format appended a_round appended_is_format a_round_is_format, tt),
          ),
        ),
      )
    where
      made : (raft : RaftMsg C) (round : ℕ) → make_of (read_kinds f) (part_of f raft round) ≡ with_round raft round
      made (RequestVote m) round = refl
      made (Vote m) round = refl
      made (Append m) round = refl
      made (Appended m) round = refl
