-- The stacks that there are: the word, the network and the numbers of nodes of each.
use Rattle.std.specs.Prelude.{ℕ, List, [], ◌∷◌, map, Option, None, Some, codes, if◌then◌else◌}
use Rattle.std.specs.Str.{bytes_eq}
use Rattle.vst_base.specs.declared.net.Net.TheVariants as net
use Rattle.vst_base.specs.declared.node.TheConstants.{MAX_NODES}
use Rattle.vst_base.specs.declared.stack.StackId.{StackId}
use Rattle.vst_base.specs.declared.stack.StackId.TheVariants as stack
use Rattle.vst_base.specs.declared.stack.StackRow.{StackRow}

abbrev pub stack_word : StackId → List ℕ
stack_word stack.Lock = codes "lock"
stack_word stack.LockSeq = codes "lock/seq"
stack_word stack.KvPb = codes "kv/pb"
stack_word stack.KvPbSeq = codes "kv/pb/seq"
stack_word stack.KvRaft = codes "kv/raft"
stack_word stack.TablePbSeq = codes "table/pb/seq"
stack_word stack.TableRaft = codes "table/raft"
stack_word stack.Kv = codes "kv"
stack_word stack.Table = codes "table"
stack_word stack.Mirror = codes "mirror"
stack_word stack.MirrorFifo = codes "mirror/fifo"
stack_word stack.LockSeqRetry = codes "lock/seq/retry"
stack_word stack.KvPbSeqRetry = codes "kv/pb/seq/retry"
stack_word stack.KvRaftRead = codes "kv/raft/read"
stack_word stack.TableRaftRead = codes "table/raft/read"

abbrev pub row_of : StackId → StackRow
row_of stack.Lock = record { stack = stack.Lock; net = net.Bag; least = 2; most = 9 }
row_of stack.LockSeq = record { stack = stack.LockSeq; net = net.Dup; least = 2; most = 9 }
row_of stack.KvPb = record { stack = stack.KvPb; net = net.Bag; least = 2; most = 2 }
row_of stack.KvPbSeq = record { stack = stack.KvPbSeq; net = net.Dup; least = 2; most = 2 }
row_of stack.KvRaft = record { stack = stack.KvRaft; net = net.Fail; least = 1; most = MAX_NODES }
row_of stack.TablePbSeq = record { stack = stack.TablePbSeq; net = net.Dup; least = 2; most = 2 }
row_of stack.TableRaft = record { stack = stack.TableRaft; net = net.Fail; least = 1; most = MAX_NODES }
row_of stack.Kv = record { stack = stack.Kv; net = net.One; least = 1; most = 1 }
row_of stack.Table = record { stack = stack.Table; net = net.One; least = 1; most = 1 }
row_of stack.Mirror = record { stack = stack.Mirror; net = net.Ord; least = 2; most = 9 }
row_of stack.MirrorFifo = record { stack = stack.MirrorFifo; net = net.Dup; least = 2; most = 9 }
row_of stack.LockSeqRetry = record { stack = stack.LockSeqRetry; net = net.Loss; least = 2; most = 9 }
row_of stack.KvPbSeqRetry = record { stack = stack.KvPbSeqRetry; net = net.Loss; least = 2; most = 2 }
row_of stack.KvRaftRead = record { stack = stack.KvRaftRead; net = net.Fail; least = 1; most = MAX_NODES }
row_of stack.TableRaftRead = record { stack = stack.TableRaftRead; net = net.Fail; least = 1; most = MAX_NODES }

abbrev pub stacks : List StackId
stacks =
    stack.Lock ∷ stack.LockSeq ∷ stack.KvPb ∷ stack.KvPbSeq ∷ stack.KvRaft ∷ stack.TablePbSeq ∷ stack.TableRaft ∷ stack.Kv ∷ stack.Table
    ∷ stack.Mirror ∷ stack.MirrorFifo ∷ stack.LockSeqRetry ∷ stack.KvPbSeqRetry ∷ stack.KvRaftRead ∷ stack.TableRaftRead ∷ []

abbrev pub rows : List StackRow
rows = map row_of stacks

-- the stack of one of these rows that has a word, and that of all of them
abbrev pub named_among : List StackRow → List ℕ → Option StackId
named_among [] word = None
named_among (r ∷ rs) word = if bytes_eq word (stack_word r.stack) then Some r.stack else named_among rs word

abbrev pub stack_named : List ℕ → Option StackId
stack_named word = named_among rows word
