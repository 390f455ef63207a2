-- Each message of the lock server, of the mirror, of those that number them or send them again, and of primary-backup has one spelling.
use Rattle.std.proofs.Common.{◌≡◌, refl, lit<}
use Rattle.vst_base.specs.declared.mirror.MirrorMsg.{MirrorMsg}
use Rattle.vst_base.specs.declared.mirror.MirrorMsg.TheVariants.{Item}
use Rattle.vst_base.specs.declared.lock.LockMsg.{LockMsg}
use Rattle.vst_base.specs.declared.lock.LockMsg.TheVariants.{Lock, Unlock, Locked}
use Rattle.vst_base.specs.declared.pb_msg.PbMsg.{PbMsg}
use Rattle.vst_base.specs.declared.pb_msg.PbMsg.TheVariants.{Apply, Ack}
use Rattle.vst_base.specs.declared.retry.RetryMsg.{RetryMsg}
use Rattle.vst_base.specs.declared.retry.RetryMsg.TheVariants as retry
use Rattle.wire_fields.specs.FieldLaws.{number_is_format, value_is_format}
use Rattle.wire_fields.specs.FormatLaws.{nothing_is_format, pair_is_format}
use Rattle.wire_fields.specs.Formats.{Format, IsFormat}
use Rattle.wire_fields.specs.KindLaws.{make_of, one_of_is_format}
use Rattle.wire_fields.specs.RecordLaws.{record_of_is_format}
use Rattle.wire_messages.specs.PeerBytes.{any_number, backup_kinds, backup_message, backup_part, lock_kinds, lock_message, lock_part, mirror_kinds, mirror_message, mirror_part, numbered, numbered_fields, retried, retried_kinds, retried_part}

pub lock_message_is_format : IsFormat lock_message
lock_message_is_format =
    one_of_is_format lock_kinds lock_part made ((λ _. refl), ((λ _. refl), ((λ _. refl), tt))) refl (nothing_is_format, (nothing_is_format, (nothing_is_format, tt)))
  where
    made : (m : LockMsg) → make_of lock_kinds (lock_part m) ≡ m
    made Lock = refl
    made Unlock = refl
    made Locked = refl

pub mirror_message_is_format : IsFormat mirror_message
mirror_message_is_format = one_of_is_format mirror_kinds mirror_part made ((λ v. refl), tt) refl (value_is_format, tt)
  where
    made : (m : MirrorMsg) → make_of mirror_kinds (mirror_part m) ≡ m
    made (Item v) = refl

pub any_number_is_format : IsFormat any_number
any_number_is_format = number_is_format 8 0 18446744073709551615 (lit< tt)

module _ {C : Type 0} (f : Format C) (is_f : IsFormat f) where
  pub numbered_is_format : IsFormat (numbered f)
  numbered_is_format =
      record_of_is_format (numbered_fields f) (λ number inner. record { number = number; inner = inner }) (λ m. refl) (λ t. refl) (any_number_is_format, is_f)

  pub retried_is_format : IsFormat (retried f)
  retried_is_format =
      one_of_is_format (retried_kinds f) (retried_part f) made ((λ p. refl), ((λ n. refl), tt)) refl
      (pair_is_format any_number f any_number_is_format is_f, (any_number_is_format, tt))
    where
      made : (m : RetryMsg C) → make_of (retried_kinds f) (retried_part f m) ≡ m
      made (retry.Data number inner) = refl
      made (retry.Ack number) = refl

  pub backup_message_is_format : IsFormat (backup_message f)
  backup_message_is_format = one_of_is_format (backup_kinds f) (backup_part f) made ((λ c. refl), ((λ _. refl), tt)) refl (is_f, (nothing_is_format, tt))
    where
      made : (m : PbMsg C) → make_of (backup_kinds f) (backup_part f m) ≡ m
      made (Apply c) = refl
      made Ack = refl
