-- What the messages and the states of handlers whose nodes never stop keep to, so that all that they send has bytes.
use Rattle.std.specs.Prelude.{◌≡◌, ℕ, ◌*◌, ◌<◌, ◌≤◌, Some, IfSome}
use Rattle.std.specs.FinMap as map
use Rattle.std.specs.List.{All}
use Rattle.fifo_xform.specs.Fifo.{FifoState}
use Rattle.fifo_xform.specs.Peers.{Peers, numbered_packets, peer_of}
use Rattle.lists.specs.Each.{Each}
use Rattle.vst_base.specs.declared.mirror.MirrorInput.{MirrorInput}
use Rattle.vst_base.specs.declared.mirror.MirrorInput.TheVariants as ask
use Rattle.vst_base.specs.declared.mirror.MirrorMsg.{MirrorMsg}
use Rattle.primary_backup.specs.Backup.{Backed}
use Rattle.retry_xform.specs.Keeping.{Kept, Retrying}
use Rattle.seqnum_xform.specs.Numbering.{Numbered}
use Rattle.vst_base.specs.declared.lock.LockMsg.{LockMsg}
use Rattle.vst_base.specs.declared.pb_msg.PbMsg.{PbMsg}
use Rattle.vst_base.specs.declared.retry.RetryMsg.{RetryMsg}
use Rattle.vst_base.specs.declared.retry.RetryMsg.TheVariants as retry
use Rattle.vst_base.specs.declared.seq.SeqMsg.{SeqMsg}
use Rattle.wire_fields.specs.Fields.{value}
use Rattle.wire_fields.specs.Formats.{Format}
use Rattle.wire_messages.specs.PeerBytes.{backup_message, mirror_message}

-- any message of a lock server
abbrev pub Any : ℕ → ℕ → LockMsg → Type 0
Any from to x = Unit {0}

-- a message of primary-backup whose command has bytes
abbrev pub HasBackup : {C : Type 0} → Format C → ℕ → ℕ → PbMsg C → Type 0
HasBackup f from to x = (backup_message f).Fits x

-- the commands that are out and that wait have bytes
abbrev pub GoodBackup : {S C : Type 0} → Format C → ℕ → ℕ → Backed S C → Type 0
GoodBackup f t n s = IfSome s.out f.Fits × All f.Fits s.waiting

-- the greatest number of a packet: eight are numbered in each of 1,000,000 steps
abbrev pub most_number : ℕ
most_number = 8000000

-- a message that keeps to this, with such a number
abbrev pub HasNumbered : {M : Type 0} → (ℕ → ℕ → M → Type 0) → ℕ → ℕ → SeqMsg M → Type 0
HasNumbered Has from to x = Has from to x.inner × (x.number ≤ most_number)

-- a node has used up at most eight numbers a step
abbrev pub GoodNumbered : {S : Type 0} → (ℕ → ℕ → S → Type 0) → ℕ → ℕ → Numbered S → Type 0
GoodNumbered Good t n s = Good t n s.inner × (s.next ≤ 8 * t)

-- an input of the mirror whose value has bytes
abbrev pub HasPut : MirrorInput → Type 0
HasPut (ask.Put v) = value.Fits v

-- a message of the mirror whose value has bytes
abbrev pub HasMirror : ℕ → ℕ → MirrorMsg → Type 0
HasMirror from to x = mirror_message.Fits x

-- what a node holds back of each node keeps to what messages from there do
abbrev pub HeldKeepTo : {M : Type 0} → (ℕ → ℕ → M → Type 0) → ℕ → Peers M → Type 0
HeldKeepTo {M} Has n ps = (from number : ℕ) (content : M) → map.get (peer_of ps from).held number ≡ Some content → Has from n content

-- a node has numbered at most eight packets a step, and what it holds back may be given to the handlers within
pub record GoodFifo {S M : Type 0} (Has : ℕ → ℕ → M → Type 0) (Good : ℕ → ℕ → S → Type 0) (t n : ℕ) (s : FifoState S M) : Type 0 where
  pub within : Good t n s.inner
  pub numbers : numbered_packets s.peers ≤ 8 * t
  pub held : HeldKeepTo Has n s.peers

-- data that holds a message which keeps to this, or an acknowledgement, of a number up to the greatest
abbrev pub HasRetried : {M : Type 0} → (ℕ → ℕ → M → Type 0) → ℕ → ℕ → RetryMsg M → Type 0
HasRetried Has from to (retry.Data number inner) = Has from to inner × (number ≤ most_number)
HasRetried Has from to (retry.Ack number) = number ≤ most_number

-- what a node keeps may be sent again: to a node that exists, as a message from here to there that keeps to this
pub record MayBeSent {M : Type 0} (Has : ℕ → ℕ → M → Type 0) (nodes n : ℕ) (k : Kept M) : Type 0 where
  pub exists : k.destination < nodes
  pub content : Has n k.destination k.content
  pub number : k.number ≤ most_number

-- a node has used up at most eight numbers a step, and all that it keeps may be sent again
pub record GoodRetry {S M : Type 0} (Has : ℕ → ℕ → M → Type 0) (nodes : ℕ) (Good : ℕ → ℕ → S → Type 0) (t n : ℕ) (s : Retrying S M) : Type 0 where
  pub within : Good t n s.inner
  pub numbers : s.next ≤ 8 * t
  pub kept : Each (MayBeSent Has nodes n) s.kept
