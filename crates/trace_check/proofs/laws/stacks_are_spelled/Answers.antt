-- Each stack of the table is spelled, since these handlers and machines are, and stay so on a cluster and with packets that are numbered or kept
-- in order: the last line stands for each stack that no other line names, and is checked for each.
use Rattle.vst_base.specs.Stacks.{row_of}
use Rattle.vst_base.specs.declared.stack.StackId.{StackId}
use Rattle.vst_base.specs.declared.stack.StackId.TheVariants as stack
use Rattle.stacks.specs.Plays.{IfFound}
use Rattle.stacks.specs.Table.{kind_at, lock_table, store}
use Rattle.trace_check.specs.Spelled.{IsSpelledKind}
use Rattle.kv_machine.specs.Kv as store_cmd
use Rattle.lock_table.specs.Table as table_cmd
use Rattle.trace_check.proofs.Clusters.{raft-spelled}
use Rattle.trace_check.proofs.ReadRuns.{reads-spelled}
use Rattle.trace_check.proofs.Locks.{locks-spelled}
use Rattle.trace_check.proofs.LockTable.{table-spelled}
use Rattle.trace_check.proofs.Mirrors.{mirrors-spelled}
use Rattle.trace_check.proofs.Stays.{numbering-stays, ordering-stays, retransmission-stays}
use Rattle.trace_check.proofs.Store.{store-spelled}
use Rattle.trace_check.proofs.laws.stacks_are_spelled.Goals as goal

spelled : (i : StackId) → IfFound (kind_at (row_of i).net i) IsSpelledKind
spelled stack.Lock = locks-spelled
spelled stack.KvRaftRead = reads-spelled store store_cmd.is_read store-spelled
spelled stack.TableRaftRead = reads-spelled lock_table table_cmd.is_read table-spelled
spelled _ = search (raft-spelled, locks-spelled, mirrors-spelled, store-spelled, table-spelled, numbering-stays, ordering-stays, retransmission-stays)

pub returns : goal.returns
returns c = spelled
