-- The stacks' table.
use Rattle.std.specs.Prelude.{true}
use Rattle.vst_base.specs.declared.lock.LockInput.{LockInput}
use Rattle.vst_base.specs.declared.lock.LockOutput.{LockOutput}
use Rattle.vst_base.specs.declared.net.Net.{Net}
use Rattle.vst_base.specs.declared.net.Net.TheVariants as net
use Rattle.vst_base.specs.declared.stack.StackId.{StackId}
use Rattle.vst_base.specs.declared.stack.StackId.TheVariants as stack
use Rattle.app_text.specs.KvTexts as kv_text
use Rattle.app_text.specs.LockTexts as lock_text
use Rattle.app_text.specs.MirrorTexts as mirror_text
use Rattle.app_text.specs.TableTexts as table_text
use Rattle.kv_machine.specs.Kv as store_cmd
use Rattle.kv_machine.specs.Kv.{kv}
use Rattle.kv_machine.specs.declared.cmd.KvCmd.{KvCmd}
use Rattle.kv_machine.specs.declared.out.KvOut.{KvOut}
use Rattle.lock_server.specs.Locks.{lock_server}
use Rattle.lock_table.specs.Table as table_cmd
use Rattle.lock_table.specs.Table.{table}
use Rattle.lock_table.specs.declared.cmd.TableCmd.{TableCmd}
use Rattle.lock_table.specs.declared.out.TableOut.{TableOut}
use Rattle.mirror.specs.Mirroring.{mirror}
use Rattle.vst_base.specs.declared.mirror.MirrorInput.{MirrorInput}
use Rattle.vst_base.specs.declared.mirror.MirrorOutput.{MirrorOutput}
use Rattle.schedule_make.specs.Inputs.{kv_input, lock_input, mirror_input, table_input}
use Rattle.schedule_text.specs.declared.header.Header.{Header}
use Rattle.transformers.specs.Ordering.{ordering}
use Rattle.transformers.specs.Numbering.{numbering}
use Rattle.transformers.specs.Retransmission.{retransmission}
use Rattle.stacks.specs.Plays.{Found, Here, Nowhere, found_map, AnyPlay, Texts, texts_of}
use Rattle.stacks.specs.Kinds.{Alone, Application, Backed, Clustered, Itself, Kind, Layers, Own, OwnHandlers, Steady, Through, application, own_handlers, plays, raft_of}
use Rattle.stacks.specs.Reads.{reads_of}

abbrev pub lock_texts : Texts LockInput LockOutput
lock_texts = texts_of lock_text.input_of lock_text.input_text lock_text.output_of lock_text.output_text (λ _. true)

abbrev pub kv_texts : Texts KvCmd KvOut
kv_texts = texts_of kv_text.input_of kv_text.input_text kv_text.output_of kv_text.output_text (λ _. true)

abbrev pub table_texts : Texts TableCmd TableOut
table_texts = texts_of table_text.input_of table_text.input_text table_text.output_of table_text.output_text (λ _. true)

abbrev pub mirror_texts : Texts MirrorInput MirrorOutput
mirror_texts = texts_of mirror_text.input_of mirror_text.input_text mirror_text.output_of mirror_text.output_text (λ _. true)

-- the lock server, the key-value machine, the table of named locks and the mirror
abbrev pub locks : OwnHandlers
locks = own_handlers stack.Lock lock_server lock_texts lock_input

abbrev pub store : Application
store = application stack.Kv kv kv_texts kv_input

abbrev pub lock_table : Application
lock_table = application stack.Table table table_texts table_input

abbrev pub mirrors : OwnHandlers
mirrors = own_handlers stack.Mirror mirror mirror_texts mirror_input

-- the lock server and the store with numbered packets: stacks by themselves, and images of others
abbrev pub numbered_locks : Layers
numbered_locks = Through numbering (Own locks)

abbrev pub numbered_store : Layers
numbered_store = Through numbering (Backed store)

-- the kind of stack that a network and a name are, if there is one: one line a stack
abbrev pub kind_at : Net → StackId → Found Kind
kind_at net.Bag stack.Lock = Here (Steady (Own locks))
kind_at net.Dup stack.LockSeq = Here (Steady numbered_locks)
kind_at net.One stack.Kv = Here (Steady (Alone store))
kind_at net.Bag stack.KvPb = Here (Steady (Backed store))
kind_at net.Dup stack.KvPbSeq = Here (Steady numbered_store)
kind_at net.Fail stack.KvRaft = Here (Clustered (raft_of store))
kind_at net.One stack.Table = Here (Steady (Alone lock_table))
kind_at net.Dup stack.TablePbSeq = Here (Steady (Through numbering (Backed lock_table)))
kind_at net.Fail stack.TableRaft = Here (Clustered (raft_of lock_table))
kind_at net.Fail stack.KvRaftRead = Here (Clustered (reads_of store store_cmd.is_read))
kind_at net.Fail stack.TableRaftRead = Here (Clustered (reads_of lock_table table_cmd.is_read))
kind_at net.Ord stack.Mirror = Here (Steady (Own mirrors))
kind_at net.Dup stack.MirrorFifo = Here (Steady (Through ordering (Own mirrors)))
kind_at net.Loss stack.LockSeqRetry = Here (Steady (Through retransmission (Itself stack.LockSeq numbered_locks)))
kind_at net.Loss stack.KvPbSeqRetry = Here (Steady (Through retransmission (Itself stack.KvPbSeq numbered_store)))
kind_at n i = Nowhere

-- how the schedules with a header play
abbrev pub plays_at : Header → Found AnyPlay
plays_at h = found_map (λ k. plays k h.nodes) (kind_at h.net h.stack)
