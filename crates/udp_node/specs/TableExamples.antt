-- Node 0 of a cluster of three of the table of locks, which votes for node 1 in its first turn; and slots of either stack.
use Rattle.std.specs.Prelude.{ℕ, List, [], ◌∷◌, ◌++◌, Option, codes}
use Rattle.disk.specs.Acts.{Act, Now, Sent, Synced, Took, Wrote}
use Rattle.slots.specs.Opening.{Why}
use Rattle.vst_base.specs.declared.stack.StackId.TheVariants as stack
use Rattle.node_body.specs.Examples.{first_state, new_body, number_of_four, slot}
use Rattle.node_acts.specs.Examples.{three_syncs, whole}
use Rattle.node_config.specs.Configs.{config_as}
use Rattle.node_config.specs.declared.config.Config.{Config}
use Rattle.node_device.specs.Telling.{Told, told_after}
use Rattle.node_records.specs.Examples.{save}
use Rattle.node_run.specs.Examples.{asks, at_port, cluster, datagram, number_of_eight, put_entry, settings, votes}
use Rattle.udp_node.specs.Examples.{begun, begun_on, config}
use Rattle.udp_node.specs.Stacks.{EndedOn, ServedOn, refused_areas}
use Rattle.udp_node.specs.declared.fault.NodeFault.{NodeFault}

abbrev pub table_config : Config
table_config = config_as stack.TableRaft 0 settings.peers [] 50 300 cluster

-- its first slot, and the opening of empty areas, by which both slots get it
abbrev pub table_slot : List ℕ
table_slot = slot 34 (new_body 7 0 3 first_state) ++ 0 ∷ []

abbrev pub table_opening : List Act
table_opening = three_syncs ++ (whole 0 table_slot ++ (whole 1 table_slot ++ (Wrote 2 0 (0 ∷ []) ∷ Synced 2 ∷ [])))

-- its first clock value and a turn to a datagram of node 1, which asks for its vote; and its answer
abbrev pub turn_to : List ℕ → List Act
turn_to bytes = Now 0 ∷ Now 0 ∷ Took 300 (at_port 7001) bytes ∷ []

abbrev pub table_turn : List Act
table_turn = turn_to (datagram 7 0 1 0 (asks (number_of_eight 1)))

abbrev pub table_answered : Act
table_answered = Sent (at_port 7001) (datagram 7 0 0 1 (votes (number_of_eight 1) 1))

abbrev pub table_voting : List Act
table_voting = table_turn ++ (save ++ table_answered ∷ [])

-- it served one turn, or ended by this fault in its opening or in that turn, with these acts
abbrev pub table_serves : List Act → Type 0
table_serves acts = ServedOn stack.TableRaft table_config 1 begun (told_after begun acts)

abbrev pub table_ends : NodeFault → Told → List Act → Type 0
table_ends fault before acts = EndedOn stack.TableRaft table_config fault 1 before (told_after before acts)

-- a slot of this size and stack, in term 1, with this entry and a closed gate
abbrev pub slot_with : ℕ → ℕ → List ℕ → List ℕ
slot_with size stack entry = slot size (new_body stack 0 3 (number_of_eight 1 ++ (255 ∷ (number_of_four 1 ++ entry)))) ++ 0 ∷ []

-- the entry of acquire l b, as the request 1 of the client of slot 0
abbrev pub acquire_entry : List ℕ
acquire_entry = number_of_eight 1 ++ (1 ∷ (number_of_eight 0 ++ (number_of_eight 1 ++ (0 ∷ 1 ∷ 1 ∷ 108 ∷ 1 ∷ 98 ∷ []))))

-- areas with one slot: the first of the table, one with a put of the key-value store, and one with an acquire of the table
abbrev pub begun_table : Told
begun_table = begun_on (codes "d") table_slot (0 ∷ [])

abbrev pub begun_put : Told
begun_put = begun_on (codes "d") (slot_with 66 5 (put_entry 1)) (0 ∷ [])

abbrev pub begun_acquire : Told
begun_acquire = begun_on (codes "d") (slot_with 65 7 acquire_entry) (0 ∷ [])

-- why these areas are refused on the table, and on the key-value store
abbrev pub refused_on_table : Told → Option Why
refused_on_table before = refused_areas stack.TableRaft table_config before

abbrev pub refused_on_kv : Told → Option Why
refused_on_kv before = refused_areas stack.KvRaft config before
