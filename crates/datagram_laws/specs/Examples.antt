-- Nodes 0 and 1 of a cluster of three of the key-value stack, and what they take of bytes that were worked out by hand.
use Rattle.std.specs.Prelude.{ℕ, List, [], ◌∷◌, ◌++◌, Option}
use Rattle.kv_machine.specs.declared.cmd.KvCmd.{KvCmd}
use Rattle.kv_machine.specs.declared.out.KvOut.{KvOut}
use Rattle.raft_types.specs.declared.client.RaftOut.{RaftOut}
use Rattle.raft_types.specs.declared.msg.RaftMsg.{RaftMsg}
use Rattle.wire_codec.specs.Headings.{heading_of}
use Rattle.wire_codec.specs.declared.heading.Heading.{Heading}
use Rattle.wire_codec.specs.declared.kind.Kind.TheVariants as kind
use Rattle.wire_messages.specs.KvBytes.{kv_command, kv_output}
use Rattle.vst_base.specs.declared.stack.StackId.TheVariants as stack
use Rattle.node_run.specs.Examples.{at_port, cluster, datagram, number_of_eight, settings, votes}
use Rattle.node_run.specs.Events.{event_of}
use Rattle.node_run.specs.Settings.{Settings}
use Rattle.node_run.specs.declared.event.Event.{Event}
use Rattle.datagram_laws.specs.Origins.{IsOfOutput, IsOfPacket, WasSentTo, read_output}

-- node 1, which leads less often than it waits
abbrev pub node_1 : Settings
node_1 = record settings { me = 1; heartbeat = 20; election = 500 }

-- a node of another cluster, at the same addresses
abbrev pub node_of_another : Settings
node_of_another = record settings { name = 1 ∷ 1 ∷ 2 ∷ 3 ∷ 4 ∷ 5 ∷ 6 ∷ 7 ∷ 8 ∷ 9 ∷ 10 ∷ 11 ∷ 12 ∷ 13 ∷ 14 ∷ 15 ∷ [] }

-- a node of the stack with tables
abbrev pub of_tables : Settings
of_tables = record settings { stack = stack.TableRaft }

-- node 1 votes for node 0 in term 1
abbrev pub vote_for_0 : List ℕ
vote_for_0 = datagram 5 0 1 0 (votes (number_of_eight 1) 1)

-- node 1 is no leader, for request 7 of client 0
abbrev pub no_leader : List ℕ
no_leader = datagram 5 2 1 0 (number_of_eight 7 ++ 2 ∷ [])

-- from a port, the bytes are to a node
abbrev pub heard_by : Settings → ℕ → List ℕ → Option (Event KvCmd)
heard_by node port bytes = event_of node kv_command (at_port port) bytes

abbrev pub read : List ℕ → Option (Heading × RaftOut KvOut)
read bytes = read_output kv_output bytes

abbrev pub is_of_packet : Settings → ℕ → List ℕ → ℕ × RaftMsg KvCmd → Type 0
is_of_packet node port bytes p = IsOfPacket node kv_command (at_port port, bytes) p

abbrev pub is_of_output : Settings → ℕ → List ℕ → RaftOut KvOut → Type 0
is_of_output node port bytes o = IsOfOutput node kv_output (at_port port, bytes) o

-- the heading of what node 1 tells client 0
abbrev pub from_1 : Heading
from_1 = heading_of stack.KvRaft kind.Reply 1 0 cluster

-- what node 0 takes from a port was sent to it by node 1
abbrev pub was_sent_by_1 : List (ℕ × RaftMsg KvCmd) → ℕ → Event KvCmd → Type 0
was_sent_by_1 sends port event = WasSentTo node_1 settings sends (at_port port) event
