-- The turns of node 0 by which it votes for node 1, with the save of the vote and its answer.
use Rattle.std.specs.Prelude.{ℕ, false, List, [], ◌∷◌, ◌++◌, Some, None}
use Rattle.disk.specs.Acts.{Act, Now, Took, Sent, Wrote, Synced}
use Rattle.disk.specs.Disk.{Disk, Image, settled}
use Rattle.kv_machine.specs.Kv.{kv}
use Rattle.kv_machine.specs.declared.cmd.KvCmd.{KvCmd}
use Rattle.raft_types.specs.Messages.{KeptView}
use Rattle.slots.specs.Opening.{Found, Is}
use Rattle.wire_messages.specs.KvBytes.{kv_command, kv_output}
use Rattle.node_body.specs.Examples.{vote_record}
use Rattle.node_acts.specs.Examples.{knowing}
use Rattle.node_acts.specs.Stores.{StoreView}
use Rattle.node_run.specs.Examples.{at_port, candidate, datagram, done, kept_as, number_of_eight, put_a_x, settings, votes}
use Rattle.node_run.specs.Runs.{Done, Starting}
use Rattle.node_run.specs.declared.event.Event.TheVariants.{Peer, Tick}
use Rattle.raft_types.specs.declared.msg.RaftMsg.TheVariants as msg
use Rattle.node_records.specs.Records.{AreRecord, IsStopped, saves_of, store_by}
use Rattle.node_records.specs.Moments.{IsAt, IsSavedAt, Leaves, saved_by}

-- of the first state and of the vote; a thousand records may follow the first gate
abbrev pub first : KeptView KvCmd
first = kept_as 0 None

abbrev pub voted : KeptView KvCmd
voted = kept_as 1 (Some 1)

abbrev pub known : StoreView
known = knowing 0 38 1000 first

-- the save of the vote, and its answer, to node 1
abbrev pub save : List Act
save = Wrote 0 39 (vote_record ++ 0 ∷ []) ∷ Synced 0 ∷ Wrote 0 38 (1 ∷ []) ∷ Synced 0 ∷ []

abbrev pub answer : List ℕ
answer = datagram 5 0 0 1 (votes (number_of_eight 1) 1)

abbrev pub answered : Act
answered = Sent (at_port 7001) answer

-- the vote is an event, and then the timer fires, by which nothing is kept that is new
abbrev pub two_events : List (Done KvCmd)
two_events = done (candidate 1 1) voted ((at_port 7001, answer) ∷ []) ∷ done Tick voted [] ∷ []

abbrev pub saves_then : StoreView → List (Done KvCmd) → List Act
saves_then store events = saves_of settings.stack kv_command store events

abbrev pub knows_then : StoreView → List (Done KvCmd) → StoreView
knows_then store events = store_by settings.stack kv_command store events

abbrev pub are_record : ℕ → List Act → Type 0
are_record count acts = AreRecord settings kv kv_command kv_output (Starting first) known count acts

abbrev pub is_stopped : ℕ → List Act → Type 0
is_stopped most acts = IsStopped settings kv kv_command kv_output (Starting first) known most acts

-- a slot that has no byte is of the first state, and any other of this one
abbrev pub by_length : KeptView KvCmd → List ℕ → Found (KeptView KvCmd)
by_length new [] = Is first
by_length new (b ∷ bytes) = Is new

abbrev pub image_of : List ℕ → Image
image_of slot = record { slot0 = slot; slot1 = []; selector = 0 ∷ [] }

-- that after these acts an image with this slot is as it is to be
abbrev pub is_at : List Act → List ℕ → Type 0
is_at acts slot = IsAt settings kv kv_command kv_output (by_length voted) (Starting first) first acts (image_of slot)

-- at rest as the first state, and that at each moment of these acts it is as it is to be
abbrev pub at_rest : Disk
at_rest = record { slot0 = settled []; slot1 = settled []; selector = settled (0 ∷ []) }

abbrev pub leaves : List Act → Type 0
leaves acts = Leaves settings kv kv_command kv_output (by_length voted) (Starting first) first at_rest acts

-- a request, which a node that does not lead refuses
abbrev pub refused_request : List Act
refused_request =
    Now 0 ∷ Now 0 ∷ Took 300 (at_port 7100) put_a_x ∷ Sent (at_port 7100) (datagram 5 2 0 0 (number_of_eight 1 ++ 2 ∷ [])) ∷ []

-- Node 1 gives no vote in term 1, by which node 0 keeps this term, and sends nothing.
abbrev pub termed : KeptView KvCmd
termed = kept_as 1 None

abbrev pub silent_event : List (Done KvCmd)
silent_event = done (Peer 1 (msg.Vote (record { term = 1; granted = false }))) termed [] ∷ []

-- the turn of this event: what was heard, and its save
abbrev pub silent_turn : List Act
silent_turn =
    Now 0 ∷ Now 0 ∷ Took 300 (at_port 7001) (datagram 5 0 1 0 (votes (number_of_eight 1) 0)) ∷ saves_then known silent_event

-- that after these acts an image with this slot is as it is to be, where another slot is of that term
abbrev pub is_termed_at : List Act → List ℕ → Type 0
is_termed_at acts slot = IsAt settings kv kv_command kv_output (by_length termed) (Starting first) first acts (image_of slot)

abbrev pub is_saved_at : List Act → List ℕ → Type 0
is_saved_at acts slot = IsSavedAt settings kv kv_command kv_output (by_length termed) (Starting first) first known acts (image_of slot)

-- how many of these events are saved by so many store acts
abbrev pub saved_events : List (Done KvCmd) → ℕ → ℕ
saved_events events n = saved_by settings.stack kv_command known events n
