-- What a run on a network that copies and reorders packets is to the handlers within: a schedule of a network of FIFO channels.
use Rattle.std.specs.Prelude.{ℕ, suc, Bool, true, false, ◌==◌, ◌&&◌, List, [], ◌∷◌, ◌++◌, Option, Some, None, option_map, if◌then◌else◌, slice_get}
use Rattle.vst_base.specs.declared.step.Step.{Step}
use Rattle.vst_base.specs.declared.step.Step.TheVariants as step
use Rattle.vst_base.specs.Nets.{StepView, AtNode, OfPacket, Stops, Starts, view_of}
use Rattle.vst_base.specs.declared.seq.SeqMsg.{SeqMsg}
use Rattle.handler_trait.specs.Handling.{Meaning, Recovery}
use Rattle.net_semantics.specs.Worlds.{World, Packet, first_world}
use Rattle.net_semantics.specs.Steps.{delivered, next}
use Rattle.net_semantics.specs.Runs.{no_recovery}
use Rattle.fifo_xform.specs.Peers.{peer_of, ready}
use Rattle.fifo_xform.specs.Fifo.{FifoState, fifo}

-- the packet, by its place among all, that went from one node to another with this number
abbrev pub goes_with : {M : Type 0} → ℕ → ℕ → ℕ → Packet (SeqMsg M) → Bool
goes_with source destination number p = (p.source == source) && ((p.destination == destination) && (p.content.number == number))

abbrev pub sent_with : {M : Type 0} → ℕ → ℕ → ℕ → List (Packet (SeqMsg M)) → Option ℕ
sent_with source destination number [] = None
sent_with source destination number (p ∷ ps) =
    if goes_with source destination number p then Some 0 else option_map suc (sent_with source destination number ps)

-- nothing comes of an input
abbrev pub without_input : {I A : Type 0} → Option I → Option A → Option A
without_input None o = o
without_input (Some i) o = None

module _ {S K M : Type 0} where
  -- the packet whose content is given where packet k arrives now: itself, if its number is the expected one of its sender
  abbrev pub given_by_arrival : World (FifoState S M) K (SeqMsg M) → ℕ → Option (Packet (SeqMsg M)) → Option ℕ
  given_by_arrival w k None = None
  given_by_arrival w k (Some p) = if p.content.number == (peer_of (w.state p.destination).peers p.source).expected then Some k else None

  -- the packet whose content is given where a node's timer fires now: that of the content that is ready there
  abbrev pub given_by_tick : World (FifoState S M) K (SeqMsg M) → ℕ → Option (ℕ × M) → Option ℕ
  given_by_tick w n None = None
  given_by_tick w n (Some held) = sent_with held.0 n (peer_of (w.state n).peers held.0).expected w.packets

  -- the packet whose content a step gives to the handlers within, if it gives one: a timer may, and an arrival
  abbrev pub given_in : {I : Type 0} → ℕ → World (FifoState S M) K (SeqMsg M) → StepView I → Option ℕ
  given_in nodes w (AtNode n input) = without_input input (given_by_tick w n (ready nodes (w.state n).peers))
  given_in nodes w (OfPacket k fate) = given_by_arrival w k (delivered fate (slice_get w.packets k))
  given_in nodes w (Stops n) = None
  given_in nodes w (Starts n) = None

  abbrev pub gives_packet : {I : Type 0} → ℕ → World (FifoState S M) K (SeqMsg M) → Step I → Option ℕ
  gives_packet nodes w s = given_in nodes w (view_of s)

-- whether a step that gives nothing stays: inputs and ticks do, all else is left out
abbrev pub stays_in : {I : Type 0} → StepView I → Bool
stays_in (AtNode n input) = true
stays_in (OfPacket k fate) = false
stays_in (Stops n) = false
stays_in (Starts n) = false

abbrev pub stays : {I : Type 0} → Step I → List (Step I)
stays s = if stays_in (view_of s) then s ∷ [] else []

-- a step that gives a packet is the delivery of this packet
abbrev pub image_of_step : {I : Type 0} → Step I → Option ℕ → List (Step I)
image_of_step s None = stays s
image_of_step s (Some k) = step.Deliver k ∷ []

-- of a schedule, from a world on and from the first one
abbrev pub fifo_image_from : {S K I O M : Type 0} → Meaning S I O M → Recovery (FifoState S M) K → World (FifoState S M) K (SeqMsg M) → List (Step I) → List (Step I)
fifo_image_from m r w [] = []
fifo_image_from m r w (s ∷ ss) = image_of_step s (gives_packet m.nodes w s) ++ fifo_image_from m r (next (fifo m) r w s) ss

abbrev pub fifo_image : {S I O M : Type 0} → Meaning S I O M → List (Step I) → List (Step I)
fifo_image m ss = fifo_image_from m no_recovery (first_world (fifo m)) ss
