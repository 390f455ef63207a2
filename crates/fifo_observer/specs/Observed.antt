-- What an observer of a run over FIFO channels has of it.
use Rattle.std.specs.Prelude.{◌≡◌, ℕ, List, [], ◌∷◌, ◌++◌, Option}
use Rattle.handler_trait.specs.Handling.{Meaning, Recovery}
use Rattle.net_semantics.specs.Runs.{IsAllowed, no_recovery, run, trace}
use Rattle.vst_base.specs.declared.net.Net.{Net}
use Rattle.vst_base.specs.declared.step.Item.{Item}
use Rattle.vst_base.specs.declared.step.Step.{Step}
use Rattle.fifo_xform.specs.Fifo.{FifoState, fifo}
use Rattle.fifo_xform.specs.Image.{fifo_image, gives_packet}
use Rattle.fifo_observer.specs.Channels.{ChannelsView, Follows, ends_in}

-- a map of the steps within, and the packets by channel
pub record OrderView (F : Type 0) : Type 0 where
  pub map : F
  pub channels : ChannelsView

module _ {S I O M : Type 0} (m : Meaning S I O M) (r : Recovery (FifoState S M) (FifoState S M)) where
  -- the map has followed the image of these steps and what clients saw of them, and the channels the packets that were sent
  pub record HasFollowed {F : Type 0} (follows : F → List (Step I) → List (Item I O) → Type 0) (o : OrderView F) (ss : List (Step I)) : Type 0 where
    pub map : follows o.map (fifo_image m ss) (trace (fifo m) r ss)
    pub channels : Follows o.channels (ends_in (run (fifo m) r ss).packets)

  -- the packet that a step after these gives to the handlers within, where nodes keep their states and a network allows the step
  abbrev pub IsGiven : Option ℕ → List (Step I) → Step I → Type 0
  IsGiven given ss s = (net : Net) → r ≡ no_recovery → IsAllowed net (fifo m) r (ss ++ s ∷ []) → given ≡ gives_packet m.nodes (run (fifo m) r ss) s
