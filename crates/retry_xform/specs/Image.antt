-- The run of the handlers within that explains a run of retrying handlers.
use Rattle.std.specs.Prelude.{◌≡◌, ◌⊎◌, ℕ, suc, Bool, true, false, ◌==◌, ◌&&◌, List, [], ◌∷◌, ◌++◌, Option, Some, None, is_some, option_map, if◌then◌else◌, slice_get}
use Rattle.handler_trait.specs.Handling.{Meaning}
use Rattle.vst_base.specs.declared.step.Step.{Step}
use Rattle.vst_base.specs.declared.step.Step.TheVariants as step
use Rattle.vst_base.specs.Nets.{StepView, AtNode, OfPacket, Stops, Starts, view_of}
use Rattle.net_semantics.specs.Worlds.{World, Packet, first_world}
use Rattle.net_semantics.specs.Steps.{delivered, next}
use Rattle.net_semantics.specs.Runs.{no_recovery}
use Rattle.net_semantics.specs.Once.{delivered_from}
use Rattle.vst_base.specs.declared.retry.RetryMsg.{RetryMsg}
use Rattle.vst_base.specs.declared.retry.RetryMsg.TheVariants as msg
use Rattle.retry_xform.specs.Keeping.{Kept, Retrying}
use Rattle.retry_xform.specs.Retransmission.{retrying}

-- A packet of the run within is named by its sender and its number. Whether two names are one
abbrev pub is_same : ℕ × ℕ → ℕ × ℕ → Bool
is_same a b = (a.0 == b.0) && (a.1 == b.1)

-- the place of a name among these
abbrev pub place_of : ℕ × ℕ → List (ℕ × ℕ) → Option ℕ
place_of a [] = None
place_of a (b ∷ bs) = if is_same a b then Some 0 else option_map suc (place_of a bs)

-- these names, and one more if it is not among them
abbrev pub with_name : ℕ × ℕ → List (ℕ × ℕ) → List (ℕ × ℕ)
with_name a ns = if is_some (place_of a ns) then ns else ns ++ a ∷ []

-- a delivery of data is a copy and a delivery of the packet that it carries, so that one copy of that is always in flight
abbrev pub of_place : {I : Type 0} → Option ℕ → List (Step I)
of_place None = []
of_place (Some j) = step.Dup j ∷ step.Deliver j ∷ []

-- the step of a node with an input, or, without one, its tick
abbrev pub at_node : {I : Type 0} → ℕ → Option I → Step I
at_node n None = step.Tick n
at_node n (Some i) = step.In n i

module _ {M : Type 0} where
  -- data names a packet of the run within, and an acknowledgement none
  abbrev pub with_content : ℕ → RetryMsg M → List (ℕ × ℕ) → List (ℕ × ℕ)
  with_content source (msg.Data number inner) ns = with_name (source, number) ns
  with_content source (msg.Ack number) ns = ns

  -- the names of the data among these packets, in the order in which each was first sent: the packets of the run within
  abbrev pub names_after : List (ℕ × ℕ) → List (Packet (RetryMsg M)) → List (ℕ × ℕ)
  names_after ns [] = ns
  names_after ns (p ∷ ps) = names_after (with_content p.source p.content ns) ps

  abbrev pub names : List (Packet (RetryMsg M)) → List (ℕ × ℕ)
  names ps = names_after [] ps

  module _ {I : Type 0} where
    abbrev pub of_content : List (ℕ × ℕ) → ℕ → RetryMsg M → List (Step I)
    of_content ns source (msg.Data number inner) = of_place (place_of (source, number) ns)
    of_content ns source (msg.Ack number) = []

    abbrev pub of_packet : List (ℕ × ℕ) → Option (Packet (RetryMsg M)) → List (Step I)
    of_packet ns None = []
    of_packet ns (Some p) = of_content ns p.source p.content

    -- what a step comes to: an input and a tick stay, and all but these and deliveries of data is left out
    abbrev pub image_in : {S K : Type 0} → World (Retrying S M) K (RetryMsg M) → StepView I → List (Step I)
    image_in w (AtNode n input) = at_node n input ∷ []
    image_in w (OfPacket k fate) = of_packet (names w.packets) (delivered fate (slice_get w.packets k))
    image_in w (Stops n) = []
    image_in w (Starts n) = []

    abbrev pub image_step : {S K : Type 0} → World (Retrying S M) K (RetryMsg M) → Step I → List (Step I)
    image_step w s = image_in w (view_of s)

module _ {S I O M : Type 0} (m : Meaning S I O M) where
  -- what these steps come to from a world on
  abbrev pub image_from : World (Retrying S M) (Retrying S M) (RetryMsg M) → List (Step I) → List (Step I)
  image_from w [] = []
  image_from w (s ∷ ss) = image_step w s ++ image_from (next (retrying m) no_recovery w s) ss

  -- and a whole schedule
  abbrev pub retried_image : List (Step I) → List (Step I)
  retried_image ss = image_from (first_world (retrying m)) ss

module _ {M : Type 0} where
  -- a kept packet is packet j of the run within
  pub record Keeps (ns : List (ℕ × ℕ)) (j : ℕ) (q : Packet M) (k : Kept M) : Type 0 where
    pub place : place_of (q.source, k.number) ns ≡ Some j
    pub destination : k.destination ≡ q.destination
    pub content : k.content ≡ q.content

  -- one of these is
  abbrev pub IsKept : List (ℕ × ℕ) → ℕ → Packet M → List (Kept M) → Type 0
  IsKept ns j q [] = ⊥
  IsKept ns j q (k ∷ ks) = Keeps ns j q k ⊎ IsKept ns j q ks

  -- each packet of the run within was delivered there, or is kept by its sender: nothing is lost for good
  abbrev pub IsDeliveredOrKept : {S K S2 K2 I : Type 0} → List (Step I) → World (Retrying S M) K (RetryMsg M) → World S2 K2 M → Type 0
  IsDeliveredOrKept image w' w = (j : ℕ) (q : Packet M) → slice_get w.packets j ≡ Some q
      → (delivered_from (λ _. false) image j ≡ true) ⊎ IsKept (names w'.packets) j q (w'.state q.source).kept
