-- Each entry of a log has one spelling, now and as version 1 wrote it.
use Rattle.std.proofs.Common.{◌≡◌, ◌-◌, Some, refl, lit<}
use Rattle.vst_base.specs.declared.entry.TheConstants.{MAX_TERM}
use Rattle.vst_base.specs.declared.node.TheConstants.{MAX_NODES}
use Rattle.vst_base.specs.declared.what.What.{What}
use Rattle.vst_base.specs.declared.what.What.TheVariants.{Noop, Request}
use Rattle.wire_fields.specs.FieldLaws.{number_is_format}
use Rattle.wire_fields.specs.FormatLaws.{made_of_is_format, nothing_is_format}
use Rattle.wire_fields.specs.Formats.{Format, IsFormat}
use Rattle.wire_fields.specs.KindLaws.{make_of, one_of_is_format}
use Rattle.wire_fields.specs.RecordLaws.{record_of_is_format}
use Rattle.wire_messages.specs.EntryBytes.{asked_fields, entry_fields, election_term, origin, asked, request_of, asked_of, held_kinds, held_part, held, entry_of, entry, old_part, old_held, old_entry}
use Rattle.wire_messages.specs.PeerByteLaws.{any_number_is_format}
use Rattle.wire_messages.specs.declared.asked.Asked.{Asked}

pub election_term_is_format : IsFormat election_term
election_term_is_format = number_is_format 8 1 MAX_TERM (lit< tt)

pub origin_is_format : IsFormat origin
origin_is_format = number_is_format 1 0 (MAX_NODES - 1) (lit< tt)

module _ {C : Type 0} (f : Format C) (is_f : IsFormat f) where
  pub asked_is_format : IsFormat (asked f)
  asked_is_format = record_of_is_format (asked_fields f) asked_of (λ a. refl) (λ t. refl) (any_number_is_format, (any_number_is_format, (origin_is_format, is_f)))

  held_is_format : IsFormat (held f)
  held_is_format = one_of_is_format (held_kinds f) (held_part f) made ((λ _. refl), ((λ a. refl), tt)) refl (nothing_is_format, (asked_is_format, tt))
    where
      made : (w : What C) → make_of (held_kinds f) (held_part f w) ≡ w
      made Noop = refl
      made (Request client request node cmd) = refl

  pub entry_is_format : IsFormat (entry f)
  entry_is_format = record_of_is_format (entry_fields (held f)) entry_of (λ e. refl) (λ t. refl) (election_term_is_format, held_is_format)

  old_held_is_format : IsFormat (old_held f)
  old_held_is_format = made_of_is_format request_of old_part (asked f) (λ a. refl) made asked_is_format
    where
      made : (w : What C) (a : Asked C) → old_part w ≡ Some a → request_of a ≡ w
      made Noop a is = cc
      made (Request client request node cmd) a is = cc

  pub old_entry_is_format : IsFormat (old_entry f)
  old_entry_is_format = record_of_is_format (entry_fields (old_held f)) entry_of (λ e. refl) (λ t. refl) (election_term_is_format, old_held_is_format)
