-- The bytes of the messages of the lock server, of the mirror, of those that number them or send them again, and of primary-backup.
use Rattle.std.specs.Prelude.{ℕ}
use Rattle.vst_base.specs.declared.mirror.MirrorMsg.{MirrorMsg}
use Rattle.vst_base.specs.declared.mirror.MirrorMsg.TheVariants.{Item}
use Rattle.vst_base.specs.declared.lock.LockMsg.{LockMsg}
use Rattle.vst_base.specs.declared.lock.LockMsg.TheVariants.{Lock, Unlock, Locked}
use Rattle.vst_base.specs.declared.pb_msg.PbMsg.{PbMsg}
use Rattle.vst_base.specs.declared.pb_msg.PbMsg.TheVariants.{Apply, Ack}
use Rattle.vst_base.specs.declared.retry.RetryMsg.{RetryMsg}
use Rattle.vst_base.specs.declared.retry.RetryMsg.TheVariants as retry
use Rattle.vst_base.specs.declared.seq.SeqMsg.{SeqMsg}
use Rattle.wire_fields.specs.Fields.{number, value}
use Rattle.wire_fields.specs.Formats.{Format, nothing, pair}
use Rattle.wire_fields.specs.Kinds.{Kinds, Part, first, kind, no_more, one_of, second, third}
use Rattle.wire_fields.specs.Records.{FieldsOf, field, last, record_of}

abbrev pub lock_kinds : Kinds LockMsg
lock_kinds =
    kind 1 nothing (λ _. Lock)
    (kind 2 nothing (λ _. Unlock)
    (kind 3 nothing (λ _. Locked)
    no_more))

abbrev pub lock_part : LockMsg → Part lock_kinds
lock_part Lock = first tt
lock_part Unlock = second tt
lock_part Locked = third tt

abbrev pub lock_message : Format LockMsg
lock_message = one_of lock_kinds lock_part

abbrev pub mirror_kinds : Kinds MirrorMsg
mirror_kinds = kind 1 value (λ v. Item v) no_more

abbrev pub mirror_part : MirrorMsg → Part mirror_kinds
mirror_part (Item v) = first v

abbrev pub mirror_message : Format MirrorMsg
mirror_message = one_of mirror_kinds mirror_part

-- any number of eight bytes, as a number of a packet, a client or a request
abbrev pub any_number : Format ℕ
any_number = number 8 0 18446744073709551615

-- a packet's number, and the message within
abbrev pub numbered_fields : {M : Type 0} → Format M → FieldsOf (SeqMsg M)
numbered_fields f =
    field (λ m. m.number) any_number
    (last (λ m. m.inner) f)

abbrev pub numbered : {M : Type 0} → Format M → Format (SeqMsg M)
numbered f = record_of (numbered_fields f) (λ number inner. record { number = number; inner = inner })

-- data, with its number and the message within, and the number that is acknowledged
abbrev pub retried_kinds : {M : Type 0} → Format M → Kinds (RetryMsg M)
retried_kinds f =
    kind 1 (pair any_number f) (λ (number, inner). retry.Data number inner)
    (kind 2 any_number (λ number. retry.Ack number)
    no_more)

abbrev pub retried_part : {M : Type 0} (f : Format M) → RetryMsg M → Part (retried_kinds f)
retried_part f (retry.Data number inner) = first (number, inner)
retried_part f (retry.Ack number) = second number

abbrev pub retried : {M : Type 0} → Format M → Format (RetryMsg M)
retried f = one_of (retried_kinds f) (retried_part f)

abbrev pub backup_kinds : {C : Type 0} → Format C → Kinds (PbMsg C)
backup_kinds f =
    kind 1 f (λ c. Apply c)
    (kind 2 nothing (λ _. Ack)
    no_more)

abbrev pub backup_part : {C : Type 0} (f : Format C) → PbMsg C → Part (backup_kinds f)
backup_part f (Apply c) = first c
backup_part f Ack = second tt

abbrev pub backup_message : {C : Type 0} → Format C → Format (PbMsg C)
backup_message f = one_of (backup_kinds f) (backup_part f)
