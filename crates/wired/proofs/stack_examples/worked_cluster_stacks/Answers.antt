use Rattle.std.proofs.Common.{refl}
use Rattle.node_body.specs.CommandLengths.{kv_length, table_length}
use Rattle.vst_base.specs.declared.stack.StackId.TheVariants as stack
use Rattle.wire_messages.specs.KvByteLaws.{kv_command_is_format}
use Rattle.wire_messages.specs.KvBytes.{kv_command}
use Rattle.wire_messages.specs.TableByteLaws.{table_command_is_format}
use Rattle.wire_messages.specs.TableBytes.{table_command}
use Rattle.wired.proofs.ClustersAlone.{raft_alone, readers_alone}
use Rattle.wired.proofs.stack_examples.worked_cluster_stacks.Goals as goal

pub returns-clause-kv_raft : goal.returns-clause-kv_raft
returns-clause-kv_raft g c = λ nodes m size. raft_alone kv_command kv_command_is_format kv_length stack.KvRaft tt nodes size m (λ bytes. refl)

pub returns-clause-table_raft : goal.returns-clause-table_raft
returns-clause-table_raft g c = λ nodes m size. raft_alone table_command table_command_is_format table_length stack.TableRaft tt nodes size m (λ bytes. refl)

pub returns-clause-kv_raft_read : goal.returns-clause-kv_raft_read
returns-clause-kv_raft_read g c = λ nodes m is_read size. readers_alone kv_command kv_command_is_format kv_length stack.KvRaftRead tt nodes size m is_read (λ bytes. refl)

pub returns-clause-table_raft_read : goal.returns-clause-table_raft_read
returns-clause-table_raft_read g c = λ nodes m is_read size. readers_alone table_command table_command_is_format table_length stack.TableRaftRead tt nodes size m is_read (λ bytes. refl)
