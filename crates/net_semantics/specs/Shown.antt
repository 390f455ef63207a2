-- What contracts see of a `World`, and which world it stands for. The content of a packet without a
-- copy may be gone, so the tie between the two is a relation.
use Rattle.std.specs.Prelude.{◌≡◌, ℕ, true, ◌<◌, ◌≤◌, ◌*◌, List, length, Option, Some, None, IfSome, IsSome, slice_get}
use Rattle.handler_trait.specs.Facts.{HandlersFacts, Promises, promises_of}
use Rattle.handler_trait.specs.declared.handlers.TheConstants.{MAX_SENDS, STEP_COST}
use Rattle.vst_base.specs.declared.net.Net.{Net}
use Rattle.vst_base.specs.Nets.{keeps_order}
use Rattle.vst_base.specs.declared.step.Item.{Item}
use Rattle.vst_base.specs.declared.step.TheConstants.{MAX_STEPS}
use Rattle.net_semantics.specs.Worlds.{World, Packet}
pub use Rattle.net_semantics.specs.PacketViews.{Shown}
use Rattle.net_semantics.specs.Order.{IsInOrder}

-- the handlers and their network, a state for each node, the packets, what clients saw since it was last
-- cleared, and how many steps were taken
pub record WorldView (H S I O M : Type 0) : Type 0 where
  pub handlers : H
  pub net : Net
  pub states : List S
  pub packets : List (Shown M)
  pub trace : List (Item I O)
  pub taken : ℕ

-- a packet that is kept stands for one with the same ends and copies, and with its content while a copy is in flight
pub record ShowsPacket {M : Type 0} (p : Shown M) (q : Packet M) : Type 0 where
  pub source : p.source ≡ q.source
  pub destination : p.destination ≡ q.destination
  pub copies : p.copies ≡ q.copies
  pub content : 0 < q.copies → p.content ≡ Some q.content

abbrev pub ShowsAt : {M : Type 0} → Option (Shown M) → Option (Packet M) → Type 0
ShowsAt None None = Unit {0}
ShowsAt (Some p) (Some q) = ShowsPacket p q
ShowsAt None (Some q) = ⊥
ShowsAt (Some p) None = ⊥

-- the view stands for the world, all of whose nodes are up
pub record Shows {H S K I O M : Type 0} (nodes : ℕ) (v : WorldView H S I O M) (w : World S K M) : Type 0 where
  pub states : (n : ℕ) → n < nodes → slice_get v.states n ≡ Some (w.state n)
  pub up : (n : ℕ) → w.is_up n ≡ true
  pub packets : (k : ℕ) → ShowsAt (slice_get v.packets k) (slice_get w.packets k)

-- a packet of a world of so many nodes that has taken so many steps
pub record IsSoundPacket {M : Type 0} (nodes taken : ℕ) (p : Shown M) : Type 0 where
  pub source : p.source < nodes
  pub destination : p.destination < nodes
  pub copies : p.copies ≤ taken
  pub content : 0 < p.copies → IsSome p.content
  pub gone : p.copies ≡ 0 → p.content ≡ None

-- a state keeps to what the handlers ask, and has spent little
pub record IsSoundState {S : Type 0} (sound : S → Type 0) (spent : S → ℕ) (taken : ℕ) (s : S) : Type 0 where
  pub keeps : sound s
  pub little : spent s ≤ STEP_COST * taken

-- what holds of a world of these handlers when it is made and after each step that doesn't answer want of memory
pub record IsSound {H S I O M : Type 0} (h : Promises S I O M) (v : WorldView H S I O M) : Type 0 where
  pub nodes : length v.states ≡ h.meaning.nodes
  pub states : (n : ℕ) → IfSome (slice_get v.states n) (IsSoundState (h.sound n) h.spent v.taken)
  pub packets : (k : ℕ) → IfSome (slice_get v.packets k) (IsSoundPacket h.meaning.nodes v.taken)
  pub few_packets : length v.packets ≤ MAX_SENDS * v.taken
  pub few_steps : v.taken ≤ MAX_STEPS
  pub in_order : keeps_order v.net ≡ true → IsInOrder v.packets

-- the same by what the view's own handlers promise, and what holds of each world that the view stands for
module _ {H S I O M : Type 0} (f : HandlersFacts H S I O M) (v : WorldView H S I O M) where
  abbrev pub IsSoundBy : Type 0
  IsSoundBy = IsSound (promises_of f v.handlers) v

  abbrev pub ShowsBy : World S S M → Type 0
  ShowsBy w = Shows (f.meaning v.handlers).nodes v w

  abbrev pub ForShown : (World S S M → Type 0) → Type 0
  ForShown P = (w : World S S M) → ShowsBy w → P w
