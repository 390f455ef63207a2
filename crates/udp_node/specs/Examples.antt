-- What holds of each two things that are told, and of none; and node 0 of a cluster of three, which votes for node 1 in its third turn.
use Rattle.std.specs.Prelude.{ℕ, List, [], ◌∷◌, ◌++◌, Option, Some, codes}
use Rattle.disk.specs.Acts.{Act, Began, Wrote, Synced}
use Rattle.disk.specs.Disk.{settled}
use Rattle.kv_machine.specs.declared.cmd.KvCmd.{KvCmd}
use Rattle.raft_types.specs.Messages.{KeptView}
use Rattle.slots.specs.Opening.{Opening}
use Rattle.vst_base.specs.declared.stack.StackId.TheVariants as stack
use Rattle.wire_messages.specs.KvBytes.{kv_command}
use Rattle.node_body.specs.Examples.{first_slot, old_first, who_as}
use Rattle.node_acts.specs.Examples.{three_syncs, whole}
use Rattle.node_acts.specs.StateLaws.{OpeningFits}
use Rattle.node_acts.specs.Stores.{StoreView}
use Rattle.node_config.specs.Configs.{config_as}
use Rattle.node_config.specs.declared.config.Config.{Config}
use Rattle.node_core.specs.Replicas.{who_of}
use Rattle.node_device.specs.Telling.{Told, told_after}
use Rattle.node_records.specs.Examples.{answered, save}
use Rattle.node_run.specs.Examples.{at_port, cluster, settings, three_turns}
use Rattle.node_state.specs.Answers.{acts_told, kept_in, store_in}
use Rattle.node_state.specs.Crashes.{StoppedWith}
use Rattle.node_state.specs.declared.opening.Opened.{Opened}
use Rattle.udp_node.specs.Serving.{found_in, opening_of}
use Rattle.udp_node.specs.Stacks.{EndedOn, ServedOn}
use Rattle.udp_node.specs.declared.fault.NodeFault.{NodeFault}

abbrev pub always : Told → Told → Type 0
always before now = Unit {0}

abbrev pub never : Told → Told → Type 0
never before now = ⊥

-- its configuration, without a client
abbrev pub config : Config
config = config_as stack.KvRaft 0 settings.peers [] 50 300 cluster

-- its device, which has begun in this directory, with these bytes in area 0 and in area 2
abbrev pub begun_on : List ℕ → List ℕ → List ℕ → Told
begun_on dir slot selector = record {
  acts = Began (at_port 7000) dir ∷ [];
  disk = record { slot0 = settled slot; slot1 = settled []; selector = settled selector };
}

-- in the directory d: with empty areas, with the first state, and with two selectors
abbrev pub begun : Told
begun = begun_on (codes "d") [] []

abbrev pub begun_held : Told
begun_held = begun_on (codes "d") (first_slot ++ 0 ∷ []) (0 ∷ [])

abbrev pub begun_doubly : Told
begun_doubly = begun_on (codes "d") [] (0 ∷ 0 ∷ [])

-- with the first state of version 1; and with empty areas in the directory e
abbrev pub begun_old : Told
begun_old = begun_on (codes "d") old_first (0 ∷ [])

abbrev pub begun_elsewhere : Told
begun_elsewhere = begun_on (codes "e") [] []

-- the opening of empty areas, by which both slots get the first state
abbrev pub fresh_opening : List Act
fresh_opening =
    three_syncs ++ (whole 0 (first_slot ++ 0 ∷ []) ++ (whole 1 (first_slot ++ 0 ∷ []) ++ (Wrote 2 0 (0 ∷ []) ∷ Synced 2 ∷ [])))

-- its first clock value, and its turns to the vote and its answer
abbrev pub voting : List Act
voting = three_turns ++ (save ++ answered ∷ [])

-- what its areas open as, and the acts of that
abbrev pub found : Told → Opening (KeptView KvCmd)
found before = found_in stack.KvRaft config kv_command before

abbrev pub opens_by : Told → List Act
opens_by before = opening_of stack.KvRaft config kv_command before

-- it served so many turns, or ended by this fault in its opening or in one of three turns, with these acts
abbrev pub serves : ℕ → List Act → Type 0
serves count acts = ServedOn stack.KvRaft config count begun (told_after begun acts)

abbrev pub ends : NodeFault → Told → List Act → Type 0
ends fault before acts = EndedOn stack.KvRaft config fault 3 before (told_after before acts)

-- Acts of an opening were cut short among its three syncs, or, where this holds, among all.
abbrev pub stopped_with : Type 0 → List Act → Type 0
stopped_with P acts = StoppedWith P (Some begun) (Some (told_after begun acts)) three_syncs fresh_opening

-- what a node of a cluster of this name writes as it opens these areas has bytes
abbrev pub opening_fits : List ℕ → Told → Type 0
opening_fits name before = OpeningFits stack.KvRaft kv_command (who_as 0 3 name) before.disk

-- what the node knows after this answer of an opening, and what it goes on from
abbrev pub knows_by : Opened KvCmd → StoreView
knows_by answer = store_in answer

abbrev pub goes_on_from : Opened KvCmd → KeptView KvCmd
goes_on_from answer = kept_in answer

-- the acts of an opening of these areas, where they are told
abbrev pub opens_told : Option Told → List Act
opens_told before = acts_told stack.KvRaft kv_command (who_of config) before
