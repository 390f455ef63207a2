-- What an observer of a run of retrying handlers has of it.
use Rattle.std.specs.Prelude.{◌≡◌, ℕ, List, [], ◌∷◌, ◌++◌, Option, Some, None, slice_get}
use Rattle.handler_trait.specs.Handling.{Meaning, Recovery}
use Rattle.net_semantics.specs.Runs.{IsAllowed, no_recovery, run, trace}
use Rattle.net_semantics.specs.Steps.{delivered}
use Rattle.net_semantics.specs.Worlds.{Packet, World}
use Rattle.vst_base.specs.Nets.{StepView, AtNode, OfPacket, Stops, Starts, view_of}
use Rattle.vst_base.specs.declared.net.Net.{Net}
use Rattle.vst_base.specs.declared.step.Item.{Item}
use Rattle.vst_base.specs.declared.step.Step.{Step}
use Rattle.vst_base.specs.declared.retry.RetryMsg.{RetryMsg}
use Rattle.retry_xform.specs.Image.{at_node, names, of_place, place_of, retried_image}
use Rattle.retry_xform.specs.Keeping.{Kept, Retrying}
use Rattle.retry_xform.specs.Retransmission.{retrying}
use Rattle.retry_observer.specs.Places.{Follows, PlacesView, carried_by, number_in, numbers_in}

-- what a packet carries, if there is one
abbrev pub carried_in : {M : Type 0} → List (ℕ × ℕ) → Option (Packet (RetryMsg M)) → Option ℕ
carried_in ns None = None
carried_in ns (Some p) = carried_by ns p.source (number_in p.content)

-- what is sent again where a node keeps this first
abbrev pub carried_again : {M : Type 0} → List (ℕ × ℕ) → ℕ → Option (Kept M) → Option ℕ
carried_again ns n None = None
carried_again ns n (Some k) = place_of (n, k.number) ns

-- the packet of the run within that a step delivers, or that a tick sends again
abbrev pub looked_in : {S K I M : Type 0} → World (Retrying S M) K (RetryMsg M) → StepView I → Option ℕ
looked_in w (AtNode n None) = carried_again (names w.packets) n (slice_get (w.state n).kept 0)
looked_in w (AtNode n (Some i)) = None
looked_in w (OfPacket k fate) = carried_in (names w.packets) (delivered fate (slice_get w.packets k))
looked_in w (Stops n) = None
looked_in w (Starts n) = None

abbrev pub looked_at : {S K I M : Type 0} → World (Retrying S M) K (RetryMsg M) → Step I → Option ℕ
looked_at w s = looked_in w (view_of s)

-- what a step is to the handlers within, where that was found: an input and a tick stay
abbrev pub image_with : {I : Type 0} → StepView I → Option ℕ → List (Step I)
image_with (AtNode n input) looked = at_node n input ∷ []
image_with (OfPacket k fate) looked = of_place looked
image_with (Stops n) looked = []
image_with (Starts n) looked = []

abbrev pub image_of_step : {I : Type 0} → Step I → Option ℕ → List (Step I)
image_of_step s looked = image_with (view_of s) looked

-- what the last packet that a step sends carries, where that is known: what a tick sends again, and nothing where it acknowledges
abbrev pub carried_last : {I : Type 0} → StepView I → Option ℕ → Option ℕ
carried_last (AtNode n input) looked = looked
carried_last (OfPacket k fate) looked = None
carried_last (Stops n) looked = None
carried_last (Starts n) looked = None

abbrev pub last_carries : {I : Type 0} → Step I → Option ℕ → Option ℕ
last_carries s looked = carried_last (view_of s) looked

-- a map of the steps within, and what packets carry
pub record ResentView (F : Type 0) : Type 0 where
  pub map : F
  pub places : PlacesView

module _ {S I O M : Type 0} (m : Meaning S I O M) (r : Recovery (Retrying S M) (Retrying S M)) where
  -- the map has followed the image of these steps and what clients saw of them, and what is kept the packets that were sent
  pub record HasFollowed {F : Type 0} (follows : F → List (Step I) → List (Item I O) → Type 0) (o : ResentView F) (ss : List (Step I)) : Type 0 where
    pub map : follows o.map (retried_image m ss) (trace (retrying m) r ss)
    pub places : Follows o.places (numbers_in (run (retrying m) r ss).packets)

  -- what was found before a step that comes after these, where nodes keep their states and a network allows the step
  abbrev pub IsLooked : Option ℕ → List (Step I) → Step I → Type 0
  IsLooked looked ss s = (net : Net) → r ≡ no_recovery → IsAllowed net (retrying m) r (ss ++ s ∷ []) → looked ≡ looked_at (run (retrying m) r ss) s
