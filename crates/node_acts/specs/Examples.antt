-- Node 0 of three of the key-value stack, on slots whose bytes were worked out by hand.
use Rattle.std.specs.Prelude.{ℕ, Option, List, [], ◌∷◌, length}
use Rattle.disk.specs.Acts.{Act, Wrote, Cut, Synced}
use Rattle.disk.specs.Disk.{Disk, settled}
use Rattle.kv_machine.specs.declared.cmd.KvCmd.{KvCmd}
use Rattle.raft_types.specs.Messages.{KeptView}
use Rattle.vst_base.specs.Entries.{EntryView}
use Rattle.vst_base.specs.declared.stack.StackId.TheVariants as stack
use Rattle.vst_base.specs.declared.what.What.TheVariants as what
use Rattle.wire_messages.specs.KvBytes.{kv_command}
use Rattle.node_body.specs.Bodies.{kept_as}
use Rattle.node_body.specs.Examples.{cluster, who_as}
use Rattle.node_body.specs.declared.slot.Held.{Held}
use Rattle.node_body.specs.declared.version.Version.{Version}
use Rattle.node_body.specs.declared.who.Who.{Who}
use Rattle.node_acts.specs.Stores.{StoreView, Holds, found_by, store_of}
use Rattle.node_acts.specs.StateActs.{first_kept, state_acts, store_after, store_found, opening_acts}
use Rattle.node_acts.specs.StateLaws.{IsAsFound}

abbrev pub Command : Type 0
Command = KvCmd

abbrev pub who : Who
who = who_as 0 3 cluster

-- a state of this term and vote, and no-ops of these terms
abbrev pub no_ops : List ℕ → List (EntryView KvCmd)
no_ops [] = []
no_ops (t ∷ ts) = record { term = t; what = what.Noop } ∷ no_ops ts

abbrev pub state : ℕ → Option ℕ → List ℕ → KeptView KvCmd
state term voted terms = kept_as term voted (no_ops terms)

-- what is known under this selector, of a gate at this place after which so many records may follow
abbrev pub knowing : ℕ → ℕ → ℕ → KeptView KvCmd → StoreView
knowing selector gate left kept = store_of who selector gate left kept

-- what another node knows of a base under selector 0
abbrev pub known_as : Who → KeptView KvCmd → StoreView
known_as of kept = store_of of 0 38 1000 kept

abbrev pub saves : StoreView → KeptView KvCmd → List Act
saves store kept = state_acts stack.KvRaft kv_command store kept

abbrev pub then_knows : StoreView → KeptView KvCmd → StoreView
then_knows store kept = store_after stack.KvRaft kv_command store kept

abbrev pub opens : List ℕ → List ℕ → List ℕ → List Act
opens slot0 slot1 selector =
    opening_acts stack.KvRaft kv_command who (record { slot0 = slot0; slot1 = slot1; selector = selector })

-- a slot that is written whole
abbrev pub whole : ℕ → List ℕ → List Act
whole slot bytes = Wrote slot 0 bytes ∷ Cut slot (length bytes) ∷ Synced slot ∷ []

abbrev pub three_syncs : List Act
three_syncs = Synced 0 ∷ Synced 1 ∷ Synced 2 ∷ []

-- areas with these bytes, at rest
abbrev pub at_rest : List ℕ → List ℕ → List ℕ → Disk
at_rest slot0 slot1 selector = record { slot0 = settled slot0; slot1 = settled slot1; selector = settled selector }

abbrev pub holds : StoreView → KeptView KvCmd → Disk → Type 0
holds store kept disk = Holds stack.KvRaft kv_command store kept disk

-- what is known of a slot of so many bytes that was found under a selector
abbrev pub finds : ℕ → ℕ → Version → Held KvCmd → StoreView
finds selector len version slot = store_found stack.KvRaft kv_command who selector len version slot

-- whether this image is as an opening of these areas leaves them
abbrev pub is_as_found : Disk → List ℕ → List ℕ → List ℕ → Type 0
is_as_found disk slot0 slot1 selector =
    IsAsFound (found_by stack.KvRaft kv_command who) first_kept disk
    (record { slot0 = slot0; slot1 = slot1; selector = selector })
