use Rattle.std.proofs.Common.{◌≡◌, false, true, refl}
use Rattle.vst_base.specs.declared.stack.StackId.TheVariants as stack
use Rattle.wire_codec.specs.Bodies.{is_message, is_spelling}
use Rattle.wire_codec.specs.Examples.{requests_put}
use Rattle.wire_codec.specs.declared.kind.Kind.TheVariants as kind
use Rattle.wire_fields.specs.Bytes.{has_bytes, number_in, read_number}
use Rattle.wire_messages.specs.ClientBytes.{client_request}
use Rattle.wire_messages.specs.KvBytes.{kv_command}
use Rattle.wire_codec.proofs.examples.worked_stacks.Goals as goal

pub returns-clause-lock : goal.returns-clause-lock
returns-clause-lock c = λ bytes. refl

pub returns-clause-lock_seq : goal.returns-clause-lock_seq
returns-clause-lock_seq c = λ bytes. refl

pub returns-clause-kv_pb : goal.returns-clause-kv_pb
returns-clause-kv_pb c = λ bytes. refl

pub returns-clause-kv_pb_seq : goal.returns-clause-kv_pb_seq
returns-clause-kv_pb_seq c = λ bytes. refl

pub returns-clause-table_pb_seq : goal.returns-clause-table_pb_seq
returns-clause-table_pb_seq c = λ bytes. refl

pub returns-clause-mirror : goal.returns-clause-mirror
returns-clause-mirror c = λ bytes. refl

pub returns-clause-mirror_fifo : goal.returns-clause-mirror_fifo
returns-clause-mirror_fifo c = λ bytes. refl

pub returns-clause-lock_seq_retry : goal.returns-clause-lock_seq_retry
returns-clause-lock_seq_retry c = λ bytes. refl

pub returns-clause-kv_pb_seq_retry : goal.returns-clause-kv_pb_seq_retry
returns-clause-kv_pb_seq_retry c = λ bytes. refl

pub returns-clause-kv_raft : goal.returns-clause-kv_raft
returns-clause-kv_raft c = λ bytes. refl

pub returns-clause-kv_requests : goal.returns-clause-kv_requests
returns-clause-kv_requests c = λ bytes. refl

pub returns-clause-kv_replies : goal.returns-clause-kv_replies
returns-clause-kv_replies c = λ bytes. refl

pub returns-clause-table_raft : goal.returns-clause-table_raft
returns-clause-table_raft c = λ bytes. refl

pub returns-clause-table_requests : goal.returns-clause-table_requests
returns-clause-table_requests c = λ bytes. refl

pub returns-clause-table_replies : goal.returns-clause-table_replies
returns-clause-table_replies c = λ bytes. refl

asks_of_a_store : is_spelling (client_request kv_command) requests_put ≡ true
unfolding has_bytes number_in read_number
asks_of_a_store = refl

asks_of_no_table : is_message stack.TableRaft kind.Request requests_put ≡ false
unfolding has_bytes number_in read_number
asks_of_no_table = refl

pub returns-clause-not_of_the_other_machine : goal.returns-clause-not_of_the_other_machine
returns-clause-not_of_the_other_machine c = λ h. cc (h requests_put, asks_of_a_store, asks_of_no_table)

pub returns-clause-none_asked_of_primary_backup : goal.returns-clause-none_asked_of_primary_backup
returns-clause-none_asked_of_primary_backup c = λ h. cc (h requests_put, asks_of_a_store)

pub returns-clause-kv_raft_read : goal.returns-clause-kv_raft_read
returns-clause-kv_raft_read c = λ bytes. refl

pub returns-clause-table_raft_read : goal.returns-clause-table_raft_read
returns-clause-table_raft_read c = λ bytes. refl

pub returns-clause-none_asked_of_nodes_with_reads : goal.returns-clause-none_asked_of_nodes_with_reads
returns-clause-none_asked_of_nodes_with_reads c = λ h. cc (h requests_put, asks_of_a_store)
