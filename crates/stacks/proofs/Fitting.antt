-- Each stack of the table fits its row: the last line stands for each stack but the first, and is checked for each.
use Rattle.std.specs.Prelude.{◌≡◌}
use Rattle.std.proofs.Common.{rules}
use Rattle.transformers.proofs.Carried.{numbering_is, ordering_is, retransmission_is}
use Rattle.transformers.specs.Ordering.{ordering}
use Rattle.transformers.specs.Numbering.{numbering}
use Rattle.transformers.specs.Retransmission.{retransmission}
use Rattle.vst_base.specs.Stacks.{row_of}
use Rattle.vst_base.specs.declared.stack.StackId.{StackId}
use Rattle.vst_base.specs.declared.stack.StackId.TheVariants as stack
use Rattle.stacks.specs.Fits.{IsCarriedBy, IsFit}
use Rattle.stacks.specs.Plays.{IfFound}
use Rattle.stacks.specs.Kinds.{Service}
use Rattle.stacks.specs.Table.{kind_at}
use Rattle.kv_machine.specs.Kv as store_cmd
use Rattle.kv_machine.specs.Reading as store_reads
use Rattle.lock_table.specs.Reading as table_reads
use Rattle.lock_table.specs.Table as table_cmd
use Rattle.stacks.specs.Clusters.{ActsAs}
use Rattle.stacks.specs.Reads.{read_cluster}
use Rattle.stacks.proofs.Clusters.{raft-acts}
use Rattle.stacks.proofs.ReadActs.{read-acts}

-- sequence numbering stands on the network that it carries handlers from, and carries all
numbered : (s : Service) → s.net ≡ numbering.lower → IsCarriedBy numbering s
numbered s stands = record { stands = stands; carries = numbering_is s.State s.Input s.Output s.Msg }

-- numbering by destination stands on one that keeps the order of packets, and carries all
ordered : (s : Service) → s.net ≡ ordering.lower → IsCarriedBy ordering s
ordered s stands = record { stands = stands; carries = ordering_is s.State s.Input s.Output s.Msg }

-- retransmission stands on one that loses nothing, and carries all
retried : (s : Service) → s.net ≡ retransmission.lower → IsCarriedBy retransmission s
retried s stands = record { stands = stands; carries = retransmission_is s.State s.Input s.Output s.Msg }

-- clusters whose reads take no entry of the log act as their machines
store-acts : ActsAs store_cmd.kv (read_cluster store_cmd.kv store_cmd.is_read)
store-acts = read-acts store_cmd.kv store_cmd.is_read store_reads.reads_leave

table-acts : ActsAs table_cmd.table (read_cluster table_cmd.table table_cmd.is_read)
table-acts = read-acts table_cmd.table table_cmd.is_read table_reads.reads_leave

pub fits : (i : StackId) → IfFound (kind_at (row_of i).net i) (IsFit (row_of i))
fits stack.Lock = search (rules, numbered, ordered, retried, raft-acts, store-acts, table-acts)
fits _ = search (rules, numbered, ordered, retried, raft-acts, store-acts, table-acts)
