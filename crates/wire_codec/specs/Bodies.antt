-- Which bytes are a message of a stack and kind: what its nodes send each other, what a client asks a node of a cluster, and what it is told.
use Rattle.std.specs.Prelude.{◌≡◌, ℕ, Bool, false, List, is_some}
use Rattle.vst_base.specs.declared.stack.StackId.{StackId}
use Rattle.vst_base.specs.declared.stack.StackId.TheVariants as stack
use Rattle.wire_codec.specs.declared.kind.Kind.{Kind}
use Rattle.wire_codec.specs.declared.kind.Kind.TheVariants as kind
use Rattle.wire_fields.specs.Formats.{Format}
use Rattle.wire_messages.specs.ClientBytes.{client_reply, client_request}
use Rattle.wire_messages.specs.KvBytes.{kv_command, kv_output}
use Rattle.wire_messages.specs.PeerBytes.{backup_message, lock_message, mirror_message, numbered, retried}
use Rattle.wire_messages.specs.RaftBytes.{raft_message}
use Rattle.wire_messages.specs.ReadBytes.{read_message}
use Rattle.wire_messages.specs.TableBytes.{table_command, table_output}
use Rattle.wire_messages.specs.Wires.{read_whole}

abbrev pub is_spelling : {V : Type 0} → Format V → List ℕ → Bool
is_spelling f bs = is_some (read_whole f bs)

abbrev pub is_message : StackId → Kind → List ℕ → Bool
is_message stack.Lock kind.Peer bs = is_spelling lock_message bs
is_message stack.LockSeq kind.Peer bs = is_spelling (numbered lock_message) bs
is_message stack.KvPb kind.Peer bs = is_spelling (backup_message kv_command) bs
is_message stack.KvPbSeq kind.Peer bs = is_spelling (numbered (backup_message kv_command)) bs
is_message stack.TablePbSeq kind.Peer bs = is_spelling (numbered (backup_message table_command)) bs
is_message stack.Mirror kind.Peer bs = is_spelling mirror_message bs
is_message stack.MirrorFifo kind.Peer bs = is_spelling (numbered mirror_message) bs
is_message stack.LockSeqRetry kind.Peer bs = is_spelling (retried (numbered lock_message)) bs
is_message stack.KvPbSeqRetry kind.Peer bs = is_spelling (retried (numbered (backup_message kv_command))) bs
is_message stack.KvRaftRead kind.Peer bs = is_spelling (read_message kv_command) bs
is_message stack.TableRaftRead kind.Peer bs = is_spelling (read_message table_command) bs
is_message stack.KvRaft kind.Peer bs = is_spelling (raft_message kv_command) bs
is_message stack.KvRaft kind.Request bs = is_spelling (client_request kv_command) bs
is_message stack.KvRaft kind.Reply bs = is_spelling (client_reply kv_output) bs
is_message stack.TableRaft kind.Peer bs = is_spelling (raft_message table_command) bs
is_message stack.TableRaft kind.Request bs = is_spelling (client_request table_command) bs
is_message stack.TableRaft kind.Reply bs = is_spelling (client_reply table_output) bs
is_message _ _ bs = false

-- the messages of the stack and kind are those of this format
abbrev pub AreMessagesOf : {M : Type 0} → StackId → Kind → Format M → Type 0
AreMessagesOf s k f = (bytes : List ℕ) → is_message s k bytes ≡ is_spelling f bytes
