use Rattle.std.proofs.Common.{arith, refl}
use Rattle.node_body.specs.CommandLengths.{kv_length, table_length}
use Rattle.primary_backup.specs.Backup.{primary_backup}
use Rattle.retry_xform.specs.Retransmission.{retrying}
use Rattle.seqnum_xform.specs.Numbering.{sequence_numbered}
use Rattle.vst_base.specs.declared.stack.StackId.TheVariants as stack
use Rattle.wire_messages.specs.KvByteLaws.{kv_command_is_format}
use Rattle.wire_messages.specs.KvBytes.{kv_command}
use Rattle.wire_messages.specs.PeerByteLaws.{backup_message_is_format, numbered_is_format, retried_is_format}
use Rattle.wire_messages.specs.PeerBytes.{backup_message, numbered, retried}
use Rattle.wire_messages.specs.TableByteLaws.{table_command_is_format}
use Rattle.wire_messages.specs.TableBytes.{table_command}
use Rattle.wired.specs.BackupDealLaws.{backup_deals, backup_fits}
use Rattle.wired.specs.NumberedDealLaws.{numbered_deals, numbered_fits}
use Rattle.wired.specs.RetryDealLaws.{retried_fits, retry_deals}
use Rattle.wired.specs.Sending.{GoodBackup, GoodNumbered, GoodRetry, HasBackup, HasNumbered, HasRetried}
use Rattle.wired.proofs.RunningAsBytes.{runs_as_bytes}
use Rattle.wired.proofs.stack_examples.worked_stacks.Goals as goal

pub returns-clause-lock : goal.returns-clause-lock
returns-clause-lock g c = λ nodes few. c.runs_as_bytes.ensures nodes stack.Lock tt (λ bytes. refl) few (omega arith)

pub returns-clause-lock_seq : goal.returns-clause-lock_seq
returns-clause-lock_seq g c = λ nodes few. c.runs_as_bytes-2.ensures nodes stack.LockSeq tt (λ bytes. refl) few (omega arith)

pub returns-clause-kv_pb : goal.returns-clause-kv_pb
returns-clause-kv_pb g c = λ m.
    runs_as_bytes (backup_message kv_command) (backup_message_is_format kv_command kv_command_is_format) stack.KvPb (λ bytes. refl) tt (HasBackup kv_command)
    (λ from to x has. let fits = backup_fits kv_command kv_length from to x has in (fits.0, omega (arith, fits.1))) kv_command.Fits (primary_backup m) (omega arith)
    (GoodBackup kv_command) (backup_deals kv_command m)

pub returns-clause-kv_pb_seq : goal.returns-clause-kv_pb_seq
returns-clause-kv_pb_seq g c = λ m.
    let f = backup_message kv_command in
    let is_f = backup_message_is_format kv_command kv_command_is_format in
    let has = HasBackup kv_command in
    runs_as_bytes (numbered f) (numbered_is_format f is_f) stack.KvPbSeq (λ bytes. refl) tt (HasNumbered has)
    (λ from to x sent. let fits = numbered_fits has f 2120 (backup_fits kv_command kv_length) from to x sent in (fits.0, omega (arith, fits.1))) kv_command.Fits
    (sequence_numbered (primary_backup m)) (omega arith) (GoodNumbered (GoodBackup kv_command))
    (numbered_deals has kv_command.Fits (primary_backup m) (GoodBackup kv_command) (backup_deals kv_command m) (omega arith))

pub returns-clause-table_pb_seq : goal.returns-clause-table_pb_seq
returns-clause-table_pb_seq g c = λ m.
    let f = backup_message table_command in
    let is_f = backup_message_is_format table_command table_command_is_format in
    let has = HasBackup table_command in
    runs_as_bytes (numbered f) (numbered_is_format f is_f) stack.TablePbSeq (λ bytes. refl) tt (HasNumbered has)
    (λ from to x sent. let fits = numbered_fits has f 2120 (backup_fits table_command table_length) from to x sent in (fits.0, omega (arith, fits.1))) table_command.Fits
    (sequence_numbered (primary_backup m)) (omega arith) (GoodNumbered (GoodBackup table_command))
    (numbered_deals has table_command.Fits (primary_backup m) (GoodBackup table_command) (backup_deals table_command m) (omega arith))

pub returns-clause-mirror : goal.returns-clause-mirror
returns-clause-mirror g c = λ nodes few. c.runs_as_bytes-3.ensures nodes stack.Mirror tt (λ bytes. refl) few (omega arith)

pub returns-clause-mirror_fifo : goal.returns-clause-mirror_fifo
returns-clause-mirror_fifo g c = λ nodes few. c.runs_as_bytes-4.ensures nodes stack.MirrorFifo tt (λ bytes. refl) few (omega arith)

pub returns-clause-lock_seq_retry : goal.returns-clause-lock_seq_retry
returns-clause-lock_seq_retry g c = λ nodes few. c.runs_as_bytes-5.ensures nodes stack.LockSeqRetry tt (λ bytes. refl) few (omega arith)

pub returns-clause-kv_pb_seq_retry : goal.returns-clause-kv_pb_seq_retry
returns-clause-kv_pb_seq_retry g c = λ m.
    let f = backup_message kv_command in
    let is_f = backup_message_is_format kv_command kv_command_is_format in
    let has = HasBackup kv_command in
    let within = sequence_numbered (primary_backup m) in
    let deals = numbered_deals has kv_command.Fits (primary_backup m) (GoodBackup kv_command) (backup_deals kv_command m) (omega arith) in
    let good = GoodNumbered (GoodBackup kv_command) in
    runs_as_bytes (retried (numbered f)) (retried_is_format (numbered f) (numbered_is_format f is_f)) stack.KvPbSeqRetry (λ bytes. refl) tt
    (HasRetried (HasNumbered has))
    (λ from to x sent.
    let fits = retried_fits (HasNumbered has) (numbered f) 2128 (numbered_fits has f 2120 (backup_fits kv_command kv_length)) from to x sent in
    (fits.0, omega (arith, fits.1))) kv_command.Fits (retrying within) (omega arith) (GoodRetry (HasNumbered has) within.nodes good)
    (retry_deals (HasNumbered has) kv_command.Fits within good deals (omega arith))
