-- What contracts see of a `FailWorld`, and which world it stands for: as of a `World`, with what the nodes
-- that are down have kept.
use Rattle.std.specs.Prelude.{◌≡◌, ℕ, ◌<◌, List, length, Option, Some, None, is_none, IfSome, slice_get}
use Rattle.handler_trait.specs.Facts.{RebootPromises, RebootableFacts, reboot_promises_of}
use Rattle.vst_base.specs.declared.net.Net.TheVariants as net
use Rattle.vst_base.specs.declared.step.Item.{Item}
use Rattle.net_semantics.specs.Worlds.{World}
use Rattle.net_semantics.specs.Shown.{Shown, ShowsAt, WorldView, IsSound}

-- the handlers, a state for each node, what each node that is down has kept, the packets, what clients saw
-- since it was last cleared, and how many steps were taken
pub record FailView (H S K I O M : Type 0) : Type 0 where
  pub handlers : H
  pub states : List S
  pub stopped : List (Option K)
  pub packets : List (Shown M)
  pub trace : List (Item I O)
  pub taken : ℕ

-- what the node of this place has kept, nothing where there is no such node
abbrev pub kept_at : {K : Type 0} → Option (Option K) → Option K
kept_at None = None
kept_at (Some o) = o

-- the view stands for the world, of whose nodes those are down that have kept something
pub record ShowsFail {H S K I O M : Type 0} (nodes : ℕ) (v : FailView H S K I O M) (w : World S K M) : Type 0 where
  pub states : (n : ℕ) → n < nodes → slice_get v.states n ≡ Some (w.state n)
  pub kept : (n : ℕ) → w.kept n ≡ kept_at (slice_get v.stopped n)
  pub up : (n : ℕ) → w.is_up n ≡ is_none (kept_at (slice_get v.stopped n))
  pub packets : (k : ℕ) → ShowsAt (slice_get v.packets k) (slice_get w.packets k)

-- the view of the world within, on a network that copies and loses packets, where no node is ever down
abbrev pub without_stopped : {H S K I O M : Type 0} → FailView H S K I O M → WorldView H S I O M
without_stopped v = record {
  handlers = v.handlers;
  net = net.Loss;
  states = v.states;
  packets = v.packets;
  trace = v.trace;
  taken = v.taken;
}

-- what holds of a world of these handlers when it is made and after each step that doesn't answer want of memory
pub record IsSoundFail {H S K I O M : Type 0} (h : RebootPromises S K I O M) (v : FailView H S K I O M) : Type 0 where
  pub world : IsSound h.handlers (without_stopped v)
  pub nodes : length v.stopped ≡ h.handlers.meaning.nodes
  pub stopped : (n : ℕ) → IfSome (kept_at (slice_get v.stopped n)) h.fits

-- the same by what the view's own handlers promise, and what holds of each world that the view stands for
module _ {H S K I O M : Type 0} (f : RebootableFacts H S K I O M) (v : FailView H S K I O M) where
  abbrev pub IsSoundFailBy : Type 0
  IsSoundFailBy = IsSoundFail (reboot_promises_of f v.handlers) v

  abbrev pub ShowsFailBy : World S K M → Type 0
  ShowsFailBy w = ShowsFail (f.meaning v.handlers).nodes v w

  abbrev pub ForShownFail : (World S K M → Type 0) → Type 0
  ForShownFail P = (w : World S K M) → ShowsFailBy w → P w
