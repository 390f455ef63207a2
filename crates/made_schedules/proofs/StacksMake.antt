-- Schedules are made for the kind of each stack: a line an application or a transformer, and a line a stack.
use Rattle.app_text.specs.KvTextLaws as kv_text
use Rattle.app_text.specs.LockTextLaws as lock_text
use Rattle.app_text.specs.MirrorTextLaws as mirror_text
use Rattle.app_text.specs.TableTextLaws as table_text
use Rattle.kv_machine.specs.Kv as store_cmd
use Rattle.lock_table.specs.Table as table_cmd
use Rattle.schedule_make.specs.Inputs.{kv_input, lock_input, mirror_input, table_input}
use Rattle.std.specs.Prelude.{◌+◌, ◌≤◌}
use Rattle.std.proofs.Common.{arith, refl}
use Rattle.stacks.specs.Plays.{IfFound}
use Rattle.stacks.specs.Kinds.{Application, Layers, Service, raft_of}
use Rattle.stacks.specs.Table.{kind_at, kv_texts, lock_table, lock_texts, locks, mirror_texts, mirrors, store, table_texts}
use Rattle.transformers.specs.Ordering.{ordering}
use Rattle.transformers.specs.Numbering.{numbering}
use Rattle.transformers.specs.Retransmission.{retransmission}
use Rattle.vst_base.specs.Stacks.{row_of}
use Rattle.vst_base.specs.declared.node.TheConstants.{MAX_NODES}
use Rattle.vst_base.specs.declared.stack.StackId.{StackId}
use Rattle.vst_base.specs.declared.stack.StackId.TheVariants as stack
use Rattle.made_schedules.specs.Makes.{ClusterMakes, KeepsFew, KindMakes, LayersMake, MachineMakes, OwnMakes, SteadyMakes, most_sends}
use Rattle.made_schedules.proofs.KindLines.{by-spelling}
use Rattle.made_schedules.proofs.RaftSends.{raft-few}
use Rattle.made_schedules.proofs.ReadsMake.{reads-make}
use Rattle.made_schedules.proofs.Sends.{at-most-more, fifo-few, lock-few, mirror-few, numbered-few, retried-few}
use Rattle.made_schedules.proofs.Texts as texts

locks-make : OwnMakes locks
locks-make = record {
  nodes = λ n. refl;
  sends = lock-few;
  inputs = by-spelling lock_texts lock_text.inputs_are_spelled 4000 lock_input texts.lock-texts;
}

mirrors-make : OwnMakes mirrors
mirrors-make = record {
  nodes = λ n. refl;
  sends = mirror-few;
  inputs = by-spelling mirror_texts mirror_text.inputs_are_spelled 4000 mirror_input texts.mirror-texts;
}

store-makes : MachineMakes store
store-makes = by-spelling kv_texts kv_text.inputs_are_spelled 3900 kv_input texts.kv-texts

table-makes : MachineMakes lock_table
table-makes = by-spelling table_texts table_text.inputs_are_spelled 3900 table_input texts.table-texts

raft-makes : (p : Application) → MachineMakes p → ClusterMakes (raft_of p)
raft-makes p inputs = record { nodes = λ n. refl; sends = λ n few. raft-few n p.machine few; inputs = inputs; allowed = λ n seed steps allowed. allowed }

numbering-keeps : (s : Service) → KeepsFew numbering s
numbering-keeps s = record { nodes = λ m. refl; sends = λ most m few. at-most-more most (most + 1) (numbering.transforms m) (omega arith) (numbered-few most m few) }

ordering-keeps : (s : Service) → KeepsFew ordering s
ordering-keeps s = record { nodes = λ m. refl; sends = λ most m few. at-most-more most (most + 1) (ordering.transforms m) (omega arith) (fifo-few most m few) }

retransmission-keeps : (s : Service) → KeepsFew retransmission s
retransmission-keeps s = record { nodes = λ m. refl; sends = retried-few }

steady-makes : (l : Layers) → LayersMake l → most_sends l ≤ MAX_NODES → SteadyMakes l
steady-makes l layers sends = record { layers = layers; sends = sends }

pub stacks-make : (i : StackId) → IfFound (kind_at (row_of i).net i) KindMakes
stacks-make stack.Lock = steady-makes _ locks-make (omega arith)
stacks-make stack.LockSeq = steady-makes _ (numbering-keeps _, locks-make) (omega arith)
stacks-make stack.KvPb = steady-makes _ store-makes (omega arith)
stacks-make stack.KvPbSeq = steady-makes _ (numbering-keeps _, store-makes) (omega arith)
stacks-make stack.KvRaft = raft-makes _ store-makes
stacks-make stack.KvRaftRead = reads-make _ store_cmd.is_read store-makes
stacks-make stack.TableRaftRead = reads-make _ table_cmd.is_read table-makes
stacks-make stack.TablePbSeq = steady-makes _ (numbering-keeps _, table-makes) (omega arith)
stacks-make stack.TableRaft = raft-makes _ table-makes
stacks-make stack.Kv = steady-makes _ store-makes (omega arith)
stacks-make stack.Table = steady-makes _ table-makes (omega arith)
stacks-make stack.Mirror = steady-makes _ mirrors-make (omega arith)
stacks-make stack.MirrorFifo = steady-makes _ (ordering-keeps _, mirrors-make) (omega arith)
stacks-make stack.LockSeqRetry = steady-makes _ (retransmission-keeps _, (numbering-keeps _, locks-make)) (omega arith)
stacks-make stack.KvPbSeqRetry = steady-makes _ (retransmission-keeps _, (numbering-keeps _, store-makes)) (omega arith)
