-- A cluster that is carried on bytes alone.
use Rattle.std.specs.Prelude.{◌≡◌, ℕ, ◌≤◌, List}
use Rattle.handler_trait.specs.Handling.{Meaning}
use Rattle.net_semantics.specs.ShownFail.{FailView}
use Rattle.net_semantics.specs.Worlds.{World}
use Rattle.raft_types.specs.Messages.{IsClusterSize}
use Rattle.vst_base.specs.declared.stack.StackId.{StackId}
use Rattle.wire_codec.specs.Datagrams.{longest_message}
use Rattle.wire_codec.specs.Headings.{HasByte}
use Rattle.wire_fields.specs.Formats.{Format}
use Rattle.wired.specs.Saving.{Saving, Seated, world_saved}
use Rattle.wired.specs.WiredRuns.{IsFormatOf, world_in_bytes}
use Rattle.wired.specs.Wiring.{Named, no_name}

-- handlers that keep bytes and whose packets are bytes
abbrev pub ByteCluster : Type 0 → Type 0
ByteCluster H = Named (Named H)

-- what contracts see of a network of them
abbrev pub ClusterView : Type 0 → Type 0 → Type 0 → Type 0 → Type 0
ClusterView H S I O = FailView (ByteCluster H) (Seated S) (List ℕ) I O (List ℕ)

-- the packets and the bodies are those of one stack, whose messages are of this format and short, between 1 to 9 nodes, under the name
-- of sixteen bytes 0
pub record IsOwnCluster {H S I O M : Type 0} (f : Format M) (longest : ℕ) (meaning : H → Meaning S I O M) (w : ByteCluster H) : Type 0 where
  pub packets : HasByte w.stack
  pub format : IsFormatOf w.stack f
  pub short : longest ≤ longest_message
  pub size : IsClusterSize (meaning w.inner.inner).nodes
  pub same_stack : w.inner.stack ≡ w.stack
  pub same_name : w.inner.name ≡ w.name
  pub named : w.name ≡ no_name

-- the world whose packets and kept states are bytes of the cluster
abbrev pub byte_world : {H S K M : Type 0} → Format M → (H → StackId → List ℕ → Saving K) → ByteCluster H → World S K M
    → World (Seated S) (List ℕ) (List ℕ)
byte_world f saving w v = world_in_bytes f w.stack w.name (world_saved (saving w.inner.inner w.stack w.name) v)
