-- Node 0 of three of the key-value stack, which is asked for its vote, is killed as it saves that, and starts again.
use Rattle.std.specs.Prelude.{ℕ, true, false, List, [], ◌∷◌, ◌++◌, codes, take}
use Rattle.cluster_histories.specs.Deeds.{Decided}
use Rattle.disk.specs.Acts.{Act, Began}
use Rattle.kv_machine.specs.Kv.{kv}
use Rattle.kv_machine.specs.declared.cmd.KvCmd.{KvCmd}
use Rattle.kv_machine.specs.declared.out.KvOut.{KvOut}
use Rattle.node_acts.specs.Examples.{at_rest, three_syncs}
use Rattle.node_body.specs.Examples.{first_slot, number_of_four}
use Rattle.node_device.specs.Telling.{Told}
use Rattle.node_records.specs.Examples.{save}
use Rattle.node_run.specs.Examples.{at_port, candidate, number_of_eight, settings, three_turns}
use Rattle.outside.specs.declared.device.Address.{Address}
use Rattle.raft_types.specs.declared.msg.RaftMsg.{RaftMsg}
use Rattle.raft_types.specs.declared.msg.RaftMsg.TheVariants as msg
use Rattle.udp_node.specs.Examples.{begun, config, fresh_opening, voting}
use Rattle.vst_base.specs.declared.stack.StackId.TheVariants as stack
use Rattle.wire_messages.specs.KvBytes.{kv_command, kv_output}
use Rattle.node_lives.specs.LifeDeeds.{IsLifeOf, IsOf, RaftDeed, acts_on}
use Rattle.node_lives.specs.Lives.{AreLives, Life}

abbrev pub VoteDeed : Type 0
VoteDeed = RaftDeed KvCmd KvOut

-- this datagram is that deed, of a node with a client
abbrev pub is_of : Address × List ℕ → VoteDeed → Type 0
is_of datagram deed = IsOf settings kv_command kv_output datagram deed

-- an answer to who asks for a vote in term 1
abbrev pub vote_as : RaftMsg KvCmd
vote_as = msg.Vote (record { term = 1; granted = true })

abbrev pub refusal : RaftMsg KvCmd
refusal = msg.Vote (record { term = 1; granted = false })

-- node 1 asks for the vote
abbrev pub asks_it : VoteDeed
asks_it = Decided (acts_on (candidate 1 1))

-- a life that does these acts on empty areas, one that votes, and one that is killed before the last sync of its save
abbrev pub first_life : List Act → Life
first_life acts = record { begun = begun; acts = acts }

abbrev pub voted_life : Life
voted_life = first_life (fresh_opening ++ voting)

abbrev pub killed : Life
killed = first_life (fresh_opening ++ (three_turns ++ take 3 save))

-- a slot with this vote in term 1 behind such a gate, 0 being closed
abbrev pub slot_with : ℕ → ℕ → List ℕ
slot_with gate vote = first_slot ++ gate ∷ ((number_of_eight 1 ++ (vote ∷ (number_of_four 0 ++ number_of_four 0))) ++ 0 ∷ [])

-- areas with such a slot
abbrev pub found_with : ℕ → ℕ → Told
found_with gate vote = record {
  acts = Began (at_port 7000) (codes "d") ∷ [];
  disk = at_rest (slot_with gate vote) (first_slot ++ 0 ∷ []) (0 ∷ []);
}

-- it starts again there, and opens them
abbrev pub again : ℕ → ℕ → Life
again gate vote = record { begun = found_with gate vote; acts = three_syncs }

abbrev pub is_life_of : Life → List VoteDeed → Type 0
is_life_of life deeds = IsLifeOf stack.KvRaft config kv kv_command kv_output life deeds

abbrev pub are_lives : List Life → Type 0
are_lives lives = AreLives stack.KvRaft config kv kv_command kv_output begun.disk lives
