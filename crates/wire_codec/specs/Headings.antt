-- What stands before a datagram's message.
use Rattle.std.specs.Prelude.{◌==◌, ℕ, Bool, true, false, List, [], ◌∷◌, Option, None, Some, if◌then◌else◌}
use Rattle.vst_base.specs.declared.stack.StackId.{StackId}
use Rattle.vst_base.specs.declared.stack.StackId.TheVariants as stack
use Rattle.wire_codec.specs.declared.heading.Heading.{Heading}
use Rattle.wire_codec.specs.declared.kind.Kind.{Kind}
use Rattle.wire_codec.specs.declared.kind.Kind.TheVariants as kind
use Rattle.wire_fields.specs.Fields.{name, number}
use Rattle.wire_fields.specs.Formats.{Format, linked, mapped, pair, tested}

-- the letter V, and the version
abbrev pub read_mark : List ℕ → Option (Unit × List ℕ)
read_mark [] = None
read_mark (letter ∷ []) = None
read_mark (letter ∷ version ∷ bs) = if letter == 86 then (if version == 2 then Some (tt, bs) else None) else None

abbrev pub mark : Format Unit
mark = record { Fits = λ _. Unit {0}; spell = λ _. 86 ∷ 2 ∷ []; read = read_mark }

-- the stacks whose nodes send packets, each with a byte: a machine alone has none
abbrev pub HasByte : StackId → Type 0
HasByte stack.Kv = ⊥
HasByte stack.Table = ⊥
HasByte _ = Unit {0}

abbrev pub stack_byte : StackId → ℕ
stack_byte stack.Lock = 1
stack_byte stack.LockSeq = 2
stack_byte stack.KvPb = 3
stack_byte stack.KvPbSeq = 4
stack_byte stack.KvRaft = 5
stack_byte stack.TablePbSeq = 6
stack_byte stack.TableRaft = 7
stack_byte stack.Mirror = 8
stack_byte stack.MirrorFifo = 9
stack_byte stack.LockSeqRetry = 10
stack_byte stack.KvPbSeqRetry = 11
stack_byte stack.KvRaftRead = 13
stack_byte stack.TableRaftRead = 14
stack_byte stack.Kv = 0
stack_byte stack.Table = 0

-- the stacks that a heading may name
abbrev pub named_stacks : List StackId
named_stacks =
    stack.Lock ∷ stack.LockSeq ∷ stack.KvPb ∷ stack.KvPbSeq ∷ stack.KvRaft ∷ stack.TablePbSeq ∷ stack.TableRaft ∷ stack.Mirror
    ∷ stack.MirrorFifo ∷ stack.LockSeqRetry ∷ stack.KvPbSeqRetry ∷ stack.KvRaftRead ∷ stack.TableRaftRead ∷ []

-- the one among these that has the byte
abbrev pub stack_among : List StackId → ℕ → List ℕ → Option (StackId × List ℕ)
stack_among [] b bs = None
stack_among (s ∷ more) b bs = if b == stack_byte s then Some (s, bs) else stack_among more b bs

abbrev pub read_stack : List ℕ → Option (StackId × List ℕ)
read_stack [] = None
read_stack (b ∷ bs) = stack_among named_stacks b bs

abbrev pub stack_field : Format StackId
stack_field = record { Fits = HasByte; spell = λ s. stack_byte s ∷ []; read = read_stack }

-- from a node to another, from a client to a node, and from a node to a client
abbrev pub kind_byte : Kind → ℕ
kind_byte kind.Peer = 0
kind_byte kind.Request = 1
kind_byte kind.Reply = 2

abbrev pub read_kind : List ℕ → Option (Kind × List ℕ)
read_kind [] = None
read_kind (b ∷ bs) =
    if b == 0 then Some (kind.Peer, bs)
    else if b == 1 then Some (kind.Request, bs)
    else if b == 2 then Some (kind.Reply, bs)
    else None

abbrev pub any_kind : Format Kind
any_kind = record { Fits = λ _. Unit {0}; spell = λ k. kind_byte k ∷ []; read = read_kind }

-- Clients ask the nodes of clusters, and are told by them, alone.
abbrev pub has_clients : StackId → Bool
has_clients stack.KvRaft = true
has_clients stack.TableRaft = true
has_clients _ = false

-- the kinds of a stack's datagrams
abbrev pub has_kind : StackId → Kind → Bool
has_kind s kind.Peer = true
has_kind s kind.Request = has_clients s
has_kind s kind.Reply = has_clients s

abbrev pub kind_field : StackId → Format Kind
kind_field s = tested (has_kind s) any_kind

-- the greatest number of the one that sends, and of the one that it is sent to: nodes are below 9, clients below 255
abbrev pub most_from : Kind → ℕ
most_from kind.Peer = 8
most_from kind.Request = 254
most_from kind.Reply = 8

abbrev pub most_to : Kind → ℕ
most_to kind.Peer = 8
most_to kind.Request = 8
most_to kind.Reply = 254

abbrev pub parties : Kind → Format (ℕ × (ℕ × List ℕ))
parties k = pair (number 1 0 (most_from k)) (pair (number 1 0 (most_to k)) name)

abbrev pub heading_of : StackId → Kind → ℕ → ℕ → List ℕ → Heading
heading_of s k from to name = record { stack = s; kind = k; from = from; to = to; name = name }

abbrev pub heading : Format Heading
heading = mapped (λ p. heading_of p.1.0 p.1.1.0 p.1.1.1.0 p.1.1.1.1.0 p.1.1.1.1.1) (λ h. (tt, (h.stack, (h.kind, (h.from, (h.to, h.name))))))
    (pair mark (linked stack_field (λ s. linked (kind_field s) parties)))
