-- Node 0 of a cluster of three of the key-value stack, whose datagrams were worked out by hand.
use Rattle.std.specs.Prelude.{ℕ, List, [], ◌∷◌, ◌++◌, Option, None, Some, codes, drop, map, true}
use Rattle.disk.specs.Acts.{Act, Now, Took}
use Rattle.kv_machine.specs.Kv.{Store, kv}
use Rattle.kv_machine.specs.declared.cmd.KvCmd.{KvCmd}
use Rattle.kv_machine.specs.declared.cmd.KvCmd.TheVariants as command
use Rattle.kv_machine.specs.declared.out.KvOut.{KvOut}
use Rattle.outside.specs.declared.device.Address.{Address}
use Rattle.raft_types.specs.Messages.{KeptView}
use Rattle.raft_types.specs.declared.client.RaftOut.{RaftOut}
use Rattle.raft_types.specs.declared.msg.RaftMsg.{RaftMsg}
use Rattle.raft_types.specs.declared.msg.RaftMsg.TheVariants as msg
use Rattle.vst_base.specs.Machines.{MachineMeaning}
use Rattle.vst_base.specs.declared.stack.StackId.TheVariants as stack
use Rattle.wire_messages.specs.KvBytes.{kv_command, kv_output}
use Rattle.node_run.specs.Settings.{Settings}
use Rattle.node_run.specs.Events.{event_of, said_by}
use Rattle.node_run.specs.declared.event.Event.{Event}
use Rattle.node_run.specs.declared.event.Event.TheVariants.{Peer, Asked}
use Rattle.node_run.specs.Runs.{Done, Starting, AreOrderly, node_run, said_in, turns_in}

-- the machine, and what it keeps and gives
abbrev pub Values : Type 0
Values = Store

abbrev pub Given : Type 0
Given = KvOut

abbrev pub machine : MachineMeaning Values KvCmd Given
machine = kv

-- the name 00 01 .. 0f
abbrev pub cluster : List ℕ
cluster = 0 ∷ 1 ∷ 2 ∷ 3 ∷ 4 ∷ 5 ∷ 6 ∷ 7 ∷ 8 ∷ 9 ∷ 10 ∷ 11 ∷ 12 ∷ 13 ∷ 14 ∷ 15 ∷ []

abbrev pub number_of_eight : ℕ → List ℕ
number_of_eight n = 0 ∷ 0 ∷ 0 ∷ 0 ∷ 0 ∷ 0 ∷ 0 ∷ n ∷ []

-- a node of this computer
abbrev pub at_port : ℕ → Address
at_port port = record { ip = 127 ∷ 0 ∷ 0 ∷ 1 ∷ []; port = port }

abbrev pub settings : Settings
settings = record {
  stack = stack.KvRaft;
  me = 0;
  name = cluster;
  peers = at_port 7000 ∷ at_port 7001 ∷ at_port 7002 ∷ [];
  clients = at_port 7100 ∷ [];
  heartbeat = 50;
  election = 300;
}

-- a datagram: the stack, the kind, from whom and to whom, and a body
abbrev pub datagram : ℕ → ℕ → ℕ → ℕ → List ℕ → List ℕ
datagram stack kind from to body = 86 ∷ 2 ∷ stack ∷ kind ∷ from ∷ to ∷ (cluster ++ body)

-- a candidate asks for votes in this term, its log being empty; a vote is given or not
abbrev pub asks : List ℕ → List ℕ
asks term = 1 ∷ (term ++ (0 ∷ 0 ∷ 0 ∷ 0 ∷ number_of_eight 0))

abbrev pub votes : List ℕ → ℕ → List ℕ
votes term granted = 2 ∷ (term ++ granted ∷ [])

-- the greatest term
abbrev pub top : List ℕ
top = 127 ∷ 255 ∷ 255 ∷ 255 ∷ 255 ∷ 255 ∷ 255 ∷ 255 ∷ []

-- node 1 asks node 0 for its vote
abbrev pub asked_by_1 : List ℕ
asked_by_1 = datagram 5 0 1 0 (asks (number_of_eight 1))

abbrev pub kept_as : ℕ → Option ℕ → KeptView KvCmd
kept_as term voted = record { term = term; voted = voted; log = [] }

abbrev pub heard : ℕ → List ℕ → Option (Event KvCmd)
heard port bytes = event_of settings kv_command (at_port port) bytes

abbrev pub candidate : ℕ → ℕ → Event KvCmd
candidate from term = Peer from (msg.RequestVote (record { term = term; last_index = 0; last_term = 0 }))

abbrev pub run : KeptView KvCmd → List Act → List (Done KvCmd)
run kept acts = node_run settings kv kv_command kv_output kept acts

abbrev pub done : Event KvCmd → KeptView KvCmd → List (Address × List ℕ) → Done KvCmd
done event kept said = record { event = event; kept = kept; said = said }

-- a datagram that is none, one from another address, and a request for a vote
abbrev pub three_turns : List Act
three_turns =
    Now 0 ∷ Now 0 ∷ Took 300 (at_port 7001) (86 ∷ 2 ∷ 5 ∷ 0 ∷ 1 ∷ []) ∷ Now 0 ∷ Took 300 (at_port 9) asked_by_1
    ∷ Now 0 ∷ Took 300 (at_port 7001) asked_by_1 ∷ []

-- put a x, as the request of this number of the client of slot 0
abbrev pub put_of : ℕ → List ℕ
put_of request = datagram 5 1 0 0 (number_of_eight request ++ (2 ∷ 1 ∷ 97 ∷ 0 ∷ 1 ∷ 120 ∷ []))

abbrev pub put_a_x : List ℕ
put_a_x = put_of 1

abbrev pub asked_put : Event KvCmd
asked_put = Asked (record { client = 0; request = 1; cmd = command.Put (codes "a") (codes "x") })

-- what happened alone
abbrev pub happened : List Act → List (Event KvCmd)
happened acts = map (λ d. d.event) (run (kept_as 0 None) acts)

-- a vote for this node
abbrev pub voted_by_1 : List ℕ
voted_by_1 = datagram 5 0 1 0 (votes (number_of_eight 1) 1)

abbrev pub vote : Event KvCmd
vote = Peer 1 (msg.Vote (record { term = 1; granted = true }))

abbrev pub are_orderly : List Act → Type 0
are_orderly acts = AreOrderly settings kv kv_command kv_output (Starting (kept_as 0 None)) acts

abbrev pub turns : List Act → ℕ
turns acts = turns_in settings kv kv_command kv_output (Starting (kept_as 0 None)) acts

-- what these packets and outputs say
abbrev pub says : List (ℕ × RaftMsg KvCmd) → List (RaftOut KvOut) → List (Address × List ℕ)
says sends outputs = said_by {S = Unit {0}} settings kv_command kv_output (record { state = tt; outputs = outputs; sends = sends })

-- a vote in term 1, and what putting x at a key a without a value gives
abbrev pub granted : RaftMsg KvCmd
granted = msg.Vote (record { term = 1; granted = true })

abbrev pub a_is_x : KvOut
a_is_x = record { key = codes "a"; after = Some (codes "x"); before = None }

-- the answer to the request of this number of the client of slot 0: by its byte, and what stands after this
abbrev pub answered : ℕ → List ℕ → Address × List ℕ
answered request answer = (at_port 7100, datagram 5 2 0 0 (number_of_eight request ++ answer))

-- entries in term 1 that node 0 sends to a node, after so many entries of that term or none, with what is committed and their number
abbrev pub append_to : ℕ → ℕ → ℕ → ℕ → ℕ → List ℕ → List ℕ
append_to to index term commit count entries =
    datagram 5 0 0 to (3 ∷ (number_of_eight 1 ++ (0 ∷ 0 ∷ 0 ∷ index ∷ (number_of_eight term ++ (0 ∷ 0 ∷ 0 ∷ commit ∷ count ∷ entries)))))

-- the no-op of term 1, and the entry of that request in it
abbrev pub noop_entry : List ℕ
noop_entry = number_of_eight 1 ++ 0 ∷ []

abbrev pub put_entry : ℕ → List ℕ
put_entry request = number_of_eight 1 ++ (1 ∷ (number_of_eight 0 ++ (number_of_eight request ++ (0 ∷ 2 ∷ 1 ∷ 97 ∷ 0 ∷ 1 ∷ 120 ∷ []))))

-- Node 0 comes to lead in term 1 and takes two requests; then node 1 has its first two entries.
abbrev pub leads : List Act
leads =
    Now 0 ∷ Now 300 ∷ Now 310 ∷ Took 290 (at_port 7001) voted_by_1 ∷ Now 320 ∷ Took 40 (at_port 7100) (put_of 1) ∷ Now 330
    ∷ Took 30 (at_port 7100) (put_of 2) ∷ Now 340 ∷ Took 20 (at_port 7001) (datagram 5 0 1 0 (4 ∷ (number_of_eight 1 ++ (1 ∷ 0 ∷ 0 ∷ 0 ∷ 2 ∷ [])))) ∷ []

-- what the events after so many say
abbrev pub said_after : ℕ → List Act → List (Address × List ℕ)
said_after n acts = said_in (drop n (run (kept_as 0 None) acts))
