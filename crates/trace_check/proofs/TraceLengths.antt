-- How many items clients see, where each event has one output at most: two an event at most.
use Rattle.std.specs.Prelude.{◌≡◌, ℕ, ◌+◌, ◌≤◌, List, [], ◌∷◌, length, map, Option, Some, None, slice_get}
use Rattle.std.proofs.Common.{length-append, arith}
use Rattle.std.proofs.lemmas.List.{length-map}
use Rattle.handler_trait.specs.Handling.{Effect, Meaning, Recovery}
use Rattle.net_semantics.specs.Runs.{trace_from}
use Rattle.net_semantics.specs.Steps.{Event, delivered, delivery, event_in, event_of, input_item, items_of, items_of_event, next}
use Rattle.net_semantics.specs.Worlds.{Packet, World}
use Rattle.vst_base.specs.Nets.{AtNode, Delivered, OfPacket, Starts, StepView, Stops}
use Rattle.vst_base.specs.declared.step.Item.{Item}
use Rattle.vst_base.specs.declared.step.Item.TheVariants as item
use Rattle.vst_base.specs.declared.step.Step.{Step}
use Rattle.vst_base.specs.declared.step.Step.TheVariants as step
use Rattle.trace_check.specs.Spelled.{event_count, events_in}
use Rattle.trace_check.proofs.Eaches.{IfThere}

abbrev pub TellsOne : {S O M : Type 0} → Effect S O M → Type 0
TellsOne e = length e.outputs ≤ 1

pub record TellsOnce {S I O M : Type 0} (m : Meaning S I O M) : Type 0 where
  pub input : (n : ℕ) (s : S) (i : I) → TellsOne (m.input n s i)
  pub message : (n : ℕ) (s : S) (from : ℕ) (c : M) → TellsOne (m.message n s from c)
  pub timeout : (n : ℕ) (s : S) → TellsOne (m.timeout n s)

one-input : {I : Type 0} (O : Type 0) (n : ℕ) (i : Option I) → length (input_item {O = O} n i) ≤ 1
one-input O n None = omega arith
one-input O n (Some i) = omega arith

module _ {S K I O M : Type 0} (m : Meaning S I O M) (r : Recovery S K) (once : TellsOnce m) where
  abbrev IsOneEvent : Event S I O M → Type 0
  IsOneEvent e = TellsOne e.effect

  delivery-one : (w : World S K M) (o : Option (Packet M)) → IfThere IsOneEvent (delivery m w o)
  delivery-one w None = tt
  delivery-one w (Some p) = once.message p.destination (w.state p.destination) p.source p.content

  event-one : (w : World S K M) (s : StepView I) → IfThere IsOneEvent (event_in m w s)
  event-one w (AtNode n (Some i)) = once.input n (w.state n) i
  event-one w (AtNode n None) = once.timeout n (w.state n)
  event-one w (OfPacket k fate) = delivery-one w (delivered fate (slice_get w.packets k))
  event-one w (Stops n) = tt
  event-one w (Starts n) = tt

  abbrev told : Event S I O M → List (Item I O)
  told e = map (λ o. item.Output e.node o) e.effect.outputs

  items-two : (o : Option (Event S I O M)) → IfThere IsOneEvent o → length (items_of_event o) ≤ 2
  items-two None one = omega arith
  items-two (Some e) one =
      let first = one-input O e.node e.input in
      let both = length-append (input_item e.node e.input) (told e) in
      let outputs : length (told e) ≡ length e.effect.outputs = length-map e.effect.outputs (λ o. item.Output e.node o) in
      omega (arith, one, first, both, outputs)

  -- a step that is no event shows nothing
  step-two : (w : World S K M) (s : Step I) → length (items_of m w s) ≤ event_count s + event_count s
  step-two w (step.In n i) = items-two (event_of m w (step.In n i)) (event-one w (AtNode n (Some i)))
  step-two w (step.Deliver k) = items-two (event_of m w (step.Deliver k)) (event-one w (OfPacket k Delivered))
  step-two w (step.Tick n) = items-two (event_of m w (step.Tick n)) (event-one w (AtNode n None))
  step-two w (step.Dup k) = omega arith
  step-two w (step.Lose k) = omega arith
  step-two w (step.Crash n) = omega arith
  step-two w (step.Reboot n) = omega arith

  pub trace-length : (w : World S K M) (ss : List (Step I)) → length (trace_from m r w ss) ≤ events_in ss + events_in ss
  trace-length w [] = omega arith
  trace-length w (s ∷ ss) =
      let first = step-two w s in
      let rest = trace-length (next m r w s) ss in
      omega (arith, first, rest, length-append (items_of m w s) (trace_from m r (next m r w s) ss))
