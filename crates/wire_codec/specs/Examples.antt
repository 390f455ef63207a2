-- Datagrams whose bytes were worked out by hand.
use Rattle.std.specs.Prelude.{ℕ, zero, suc, List, [], ◌∷◌, ◌++◌, Option}
use Rattle.kv_machine.specs.declared.cmd.KvCmd.{KvCmd}
use Rattle.raft_types.specs.declared.msg.RaftMsg.{RaftMsg}
use Rattle.vst_base.specs.declared.stack.StackId.TheVariants as stack
use Rattle.wire_codec.specs.Datagrams.{read_typed}
use Rattle.wire_codec.specs.Headings.{heading_of}
use Rattle.wire_codec.specs.declared.heading.Heading.{Heading}
use Rattle.wire_codec.specs.declared.kind.Kind.{Kind}
use Rattle.wire_messages.specs.KvBytes.{kv_command}
use Rattle.wire_messages.specs.RaftBytes.{raft_message}

abbrev pub cluster_name : List ℕ
cluster_name = 0 ∷ 1 ∷ 2 ∷ 3 ∷ 4 ∷ 5 ∷ 6 ∷ 7 ∷ 8 ∷ 9 ∷ 10 ∷ 11 ∷ 12 ∷ 13 ∷ 14 ∷ 15 ∷ []

-- a message after the bytes of a heading: those of the stack, the kind, the sender and the destination
abbrev pub framed : ℕ → ℕ → ℕ → ℕ → List ℕ → List ℕ
framed stack kind from to body = 86 ∷ 2 ∷ stack ∷ kind ∷ from ∷ to ∷ (cluster_name ++ body)

-- the heading of a datagram of a key-value cluster: of this kind, from this one to that one
abbrev pub of_kv : Kind → ℕ → ℕ → Heading
of_kv kind from to = heading_of stack.KvRaft kind from to cluster_name

-- the message that these bytes are between nodes of such a cluster
abbrev pub read_raft : List ℕ → Option (Heading × RaftMsg KvCmd)
read_raft bs = read_typed (raft_message kv_command) bs

-- the number 1 in eight bytes, and 0 in four and in eight
abbrev pub one : List ℕ
one = 0 ∷ 0 ∷ 0 ∷ 0 ∷ 0 ∷ 0 ∷ 0 ∷ 1 ∷ []

abbrev pub zero_of_four : List ℕ
zero_of_four = 0 ∷ 0 ∷ 0 ∷ 0 ∷ []

abbrev pub zero_of_eight : List ℕ
zero_of_eight = zero_of_four ++ zero_of_four

-- a candidate of term 1 with an empty log asks for a vote, and gets it
abbrev pub asks_for_a_vote : List ℕ
asks_for_a_vote = 1 ∷ (one ++ (zero_of_four ++ zero_of_eight))

abbrev pub grants_a_vote : List ℕ
grants_a_vote = 2 ∷ (one ++ (1 ∷ []))

-- packet 0 asks for the lock
abbrev pub asks_for_the_lock : List ℕ
asks_for_the_lock = zero_of_eight ++ (1 ∷ [])

-- the value a comes to a mirror, alone and as packet 1
abbrev pub puts_a : List ℕ
puts_a = 1 ∷ 0 ∷ 1 ∷ 97 ∷ []

abbrev pub puts_a_as_packet_1 : List ℕ
puts_a_as_packet_1 = one ++ puts_a

-- data 1 that holds packet 0, which asks for the lock, and an acknowledgement of data 1
abbrev pub asks_as_data_1 : List ℕ
asks_as_data_1 = 1 ∷ (one ++ asks_for_the_lock)

abbrev pub acknowledges_data_1 : List ℕ
acknowledges_data_1 = 2 ∷ one

-- put a x, as a command and as request 1
abbrev pub puts_x : List ℕ
puts_x = 2 ∷ 1 ∷ 97 ∷ 0 ∷ 1 ∷ 120 ∷ []

abbrev pub requests_put : List ℕ
requests_put = one ++ puts_x

-- data 1 that holds packet 0, which has the backup put a x
abbrev pub applies_as_data_1 : List ℕ
applies_as_data_1 = 1 ∷ (one ++ (zero_of_eight ++ (1 ∷ puts_x)))

-- the reply to request 1: a has the value x, and had none
abbrev pub replies_x : List ℕ
replies_x = one ++ (1 ∷ 1 ∷ 97 ∷ 1 ∷ 0 ∷ 1 ∷ 120 ∷ 0 ∷ [])

-- an entry of term 1, request 1 of client 7, which this node took, with put a x
abbrev pub put_taken_by : ℕ → List ℕ
put_taken_by origin = one ++ (1 ∷ 0 ∷ 0 ∷ 0 ∷ 0 ∷ 0 ∷ 0 ∷ 0 ∷ 7 ∷ (one ++ (origin ∷ puts_x)))

abbrev pub entry_of_put : List ℕ
entry_of_put = put_taken_by 0

-- a leader of term 1 sends so many entries after the one at this index, and has committed none
abbrev pub sends_after : List ℕ → ℕ → List ℕ → List ℕ
sends_after prev_index count entries = 3 ∷ (one ++ (prev_index ++ (zero_of_eight ++ (zero_of_four ++ (count ∷ entries)))))

abbrev pub sends_an_entry : List ℕ
sends_an_entry = sends_after zero_of_four 1 entry_of_put

-- so many no-ops of term 1
abbrev pub no_ops : ℕ → List ℕ
no_ops zero = []
no_ops (suc n) = one ++ (0 ∷ no_ops n)

-- the greatest index of a log, 1,000,000, and the one before it
abbrev pub greatest_index : List ℕ
greatest_index = 0 ∷ 15 ∷ 66 ∷ 64 ∷ []

abbrev pub before_greatest_index : List ℕ
before_greatest_index = 0 ∷ 15 ∷ 66 ∷ 63 ∷ []

-- a name and an owner: l bob
abbrev pub l_and_bob : List ℕ
l_and_bob = 1 ∷ 108 ∷ 3 ∷ 98 ∷ 111 ∷ 98 ∷ []

-- the table's output: l is held by bob, and the answer is yes
abbrev pub bob_holds_l : List ℕ
bob_holds_l = 1 ∷ 108 ∷ 1 ∷ 3 ∷ 98 ∷ 111 ∷ 98 ∷ 1 ∷ []
