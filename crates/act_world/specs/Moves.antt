-- What the parts of a step make of what contracts see of an `ActWorld`.
use Rattle.std.specs.Prelude.{◌≡◌, ◌≢◌, ℕ, ◌+◌, List, [], ◌∷◌, ◌++◌, length, Option, Some, None, Result, IfErr, IfSome, OnOk, if◌then◌else◌, slice_get}
use Rattle.handler_trait.specs.Facts.{RebootPromises, RebootableFacts, reboot_promises_of}
use Rattle.handler_trait.specs.Handling.{Effect, Gathered, Recovery}
use Rattle.vst_base.specs.declared.step.Step.{Step}
use Rattle.vst_base.specs.declared.step.Step.TheVariants as step
use Rattle.net_semantics.specs.Held.{held_less}
use Rattle.net_semantics.specs.PacketViews.{Shown}
use Rattle.net_semantics.specs.Steps.{IsAnswer}
use Rattle.net_semantics.specs.Worlds.{change_at}
use Rattle.net_semantics.specs.declared.fault.StepFault.{StepFault}
use Rattle.net_semantics.specs.declared.fault.StepFault.TheVariants as fault
use Rattle.act_network.specs.ActRefusals.{act_refusal}
use Rattle.act_network.specs.ActSteps.{act_next}
use Rattle.act_network.specs.ActWorlds.{ActWorld}
use Rattle.act_network.specs.Disks.{Disks, opens_new}
use Rattle.act_network.specs.declared.step.ActStep.{ActStep}
use Rattle.act_network.specs.declared.step.ActStep.TheVariants as act
use Rattle.act_world.specs.ActViews.{ActView, IsSoundAct, ShowsAct}
use Rattle.act_world.specs.Flights.{flight_sent, with_packet}
use Rattle.act_world.specs.Nodes.{started, stopped, with_disk, with_state, with_turn}
use Rattle.act_world.specs.Notes.{counted, noted, output_sent}
use Rattle.act_world.specs.Turns.{going, telling, uncounted}
use Rattle.act_world.specs.Views.{FlightView, NotesView, SavingView, TellingView}
use Rattle.act_world.specs.declared.act_node.ActNode.{ActNode}
use Rattle.act_world.specs.declared.turn.Turn.{Turn}
use Rattle.act_world.specs.declared.turn.Turn.TheVariants as turn

module _ {H S D I A O M X : Type 0} where
  abbrev pub on_node : ActView H S D I A O M X → ℕ → (ActNode S D I A O M X → ActNode S D I A O M X) → ActView H S D I A O M X
  on_node v n f = record { handlers = v.handlers; nodes = change_at f n v.nodes; flights = v.flights; notes = v.notes; taken = v.taken }

  abbrev pub with_notes : ActView H S D I A O M X → NotesView I O → ActView H S D I A O M X
  with_notes v notes = record { handlers = v.handlers; nodes = v.nodes; flights = v.flights; notes = notes; taken = v.taken }

  abbrev pub with_flights : ActView H S D I A O M X → List (FlightView M) → ActView H S D I A O M X
  with_flights v flights = record { handlers = v.handlers; nodes = v.nodes; flights = flights; notes = v.notes; taken = v.taken }

  abbrev pub one_taken : ActView H S D I A O M X → ActView H S D I A O M X
  one_taken v = record { handlers = v.handlers; nodes = v.nodes; flights = v.flights; notes = v.notes; taken = v.taken + 1 }

  -- a node sends a packet that has this number in the run of whole events
  abbrev pub one_sent : ActView H S D I A O M X → ℕ → ℕ → ℕ × M → ActView H S D I A O M X
  one_sent v n number send = with_flights v (v.flights ++ flight_sent n number send ∷ [])

  -- a turn counts, with this event, and has this to send and to put out
  abbrev pub turn_counts : ActView H S D I A O M X → ℕ → Step I → List (ℕ × M) → List O → ActView H S D I A O M X
  turn_counts v n event sends outputs =
      with_notes (on_node v n (with_turn (going (telling sends outputs (length v.notes.listed) v.notes.sent))))
      (counted v.notes n event (length sends))

  -- a turn begins, and counts at once where nothing is to be saved
  abbrev pub turn_begins : ActView H S D I A O M X → ℕ → Step I → List (ℕ × M) → List O → List A → ActView H S D I A O M X
  turn_begins v n event sends outputs [] = turn_counts v n event sends outputs
  turn_begins v n event sends outputs (a ∷ more) =
      on_node v n (with_turn (Some (turn.Saving (record { event = event; acts = a ∷ more; sends = sends; outputs = outputs }))))

  -- the next act of a turn on the areas is done, of whose acts these are left; the last makes it count
  abbrev pub saves_on : {K : Type 0} → Disks K D A X → K → ActView H S D I A O M X → ℕ → SavingView I A O M → A → List A → ActView H S D I A O M X
  saves_on d kept v n t a [] = turn_counts (on_node v n (with_disk (λ disk. d.learns kept (d.does a disk)))) n t.event t.sends t.outputs
  saves_on d kept v n t a (b ∷ more) =
      on_node (on_node v n (with_disk (d.does a))) n
      (with_turn (Some (turn.Saving (record { event = t.event; acts = b ∷ more; sends = t.sends; outputs = t.outputs }))))

  -- a turn that counts sends its next packet, or its next output
  abbrev pub tells_on : ActView H S D I A O M X → ℕ → TellingView O M → List (ℕ × M) → List O → ActView H S D I A O M X
  tells_on v n t (s ∷ ss) os = on_node (one_sent v n t.number s) n (with_turn (going (telling ss os t.place (t.number + 1))))
  tells_on v n t [] (o ∷ os) = on_node (with_notes v (output_sent v.notes t.place o)) n (with_turn (going (telling [] os t.place t.number)))
  tells_on v n t [] [] = on_node v n (with_turn None)

  -- a node stops, and this is left of its areas
  abbrev pub lies_down : ActView H S D I A O M X → ℕ → X → ActView H S D I A O M X
  lies_down v n left = with_notes (on_node v n (stopped left)) (noted v.notes (step.Crash n))

  -- a turn that has not counted, and that a stop cuts, counts where the areas open as its state
  abbrev pub cut_in : {K : Type 0} → Disks K D A X → ActView H S D I A O M X → ℕ → X → D → SavingView I A O M → ActView H S D I A O M X
  cut_in d v n left disk t = if opens_new d n disk left then turn_counts v n t.event t.sends t.outputs else v

  abbrev pub cut_off : {K : Type 0} → Disks K D A X → ActView H S D I A O M X → ℕ → X → D → Option (SavingView I A O M) → ActView H S D I A O M X
  cut_off d v n left disk None = v
  cut_off d v n left disk (Some t) = cut_in d v n left disk t

  -- a node stops in this turn, which counts first where the areas open as its state
  abbrev pub stops_in : {K : Type 0} → Disks K D A X → ActView H S D I A O M X → ℕ → X → D → Option (Turn I A O M) → ActView H S D I A O M X
  stops_in d v n left disk None = lies_down v n left
  stops_in d v n left disk (Some (turn.Saving t)) =
      if opens_new d n disk left then lies_down (turn_counts v n t.event t.sends t.outputs) n left else lies_down v n left
  stops_in d v n left disk (Some (turn.Telling t)) = lies_down v n left

  -- a node starts again from what it finds, if it finds a state
  abbrev pub starts_from : {K : Type 0} → Recovery S K → Disks K D A X → ActView H S D I A O M X → ℕ → X → Option K → ActView H S D I A O M X
  starts_from r d v n left None = v
  starts_from r d v n left (Some k) = with_notes (on_node v n (started (r.reboot n k) (d.reopened n left))) (noted v.notes (step.Reboot n))

  -- an event happens at a node: its new state stands there, and its outputs and sends are gathered
  pub record Happens (event : S → Effect S O M) (sound : S → Type 0) (n : ℕ) (before after : ActView H S D I A O M X) (gathered : Gathered O M) : Type 0 where
    pub node : ActNode S D I A O M X
    pub there : slice_get before.nodes n ≡ Some node
    pub after_is : after ≡ on_node before n (with_state (event node.state).state)
    pub outputs : gathered.outputs ≡ (event node.state).outputs
    pub sends : gathered.sends ≡ (event node.state).sends
    pub keeps : sound (event node.state).state

  -- a copy of packet k comes to its destination, where its event happens
  pub record Delivers (message : ℕ → S → ℕ → M → Effect S O M) (sound : ℕ → S → Type 0) (k : ℕ) (before after : ActView H S D I A O M X) (gathered : Gathered O M) : Type 0 where
    pub flight : FlightView M
    pub there : slice_get before.flights k ≡ Some flight
    pub content : M
    pub content_is : flight.packet.content ≡ Some content
    pub happens : Happens (λ s. message flight.packet.destination s flight.packet.source content) (sound flight.packet.destination) flight.packet.destination
        (with_flights before (change_at (with_packet held_less) k before.flights)) after gathered

  -- one copy more or less of packet k, which the network itself does
  abbrev pub packet_changes : (Shown M → Shown M) → ℕ → Step I → ActView H S D I A O M X → ActView H S D I A O M X
  packet_changes f k s v = with_notes (with_flights v (change_at (with_packet f) k v.flights)) (noted v.notes s)

  -- the turn begins that saves the node's state
  pub record Begins {K : Type 0} (d : Disks K D A X) (keep : S → K) (n : ℕ) (event : Step I) (gathered : Gathered O M) (before after : ActView H S D I A O M X) : Type 0 where
    pub node : ActNode S D I A O M X
    pub there : slice_get before.nodes n ≡ Some node
    pub after_is : after ≡ turn_begins before n event gathered.sends gathered.outputs (d.acts node.disk (keep node.state))

module _ {H S K D I A O M X : Type 0} (d : Disks K D A X) (n : ℕ) (before after : ActView H S D I A O M X) where
  -- a turn on the areas goes on
  pub record SavesOn (keep : S → K) (t : SavingView I A O M) : Type 0 where
    pub node : ActNode S D I A O M X
    pub there : slice_get before.nodes n ≡ Some node
    pub act : A
    pub more : List A
    pub acts : t.acts ≡ act ∷ more
    pub after_is : after ≡ saves_on d (keep node.state) before n t act more

  -- the node's turn is cut: it is in none from now on
  pub record CutsSo (left : X) : Type 0 where
    pub node : ActNode S D I A O M X
    pub there : slice_get before.nodes n ≡ Some node
    pub after_is : after ≡ cut_off d (on_node before n (with_turn None)) n left node.disk (uncounted node.turn)

  -- the node stops
  pub record StopsSo (left : X) : Type 0 where
    pub node : ActNode S D I A O M X
    pub there : slice_get before.nodes n ≡ Some node
    pub after_is : after ≡ stops_in d (on_node before n (with_turn None)) n left node.disk node.turn

  -- the node starts again
  pub record StartsSo (r : Recovery S K) (fits : K → Type 0) (sound : S → Type 0) : Type 0 where
    pub node : ActNode S D I A O M X
    pub there : slice_get before.nodes n ≡ Some node
    pub left : X
    pub left_is : node.left ≡ Some left
    pub after_is : after ≡ starts_from r d before n left (d.opens n left)
    pub keeps : IfSome (d.opens n left) (λ k. fits k × sound (r.reboot n k))

-- after the step that before took
pub record TakesAct {H S K D I A O M X : Type 0} (h : RebootPromises S K I O M) (d : Disks K D A X) (s : ActStep I X) (before after : ActView H S D I A O M X) : Type 0 where
  pub leads : (w : ActWorld S I O M D A X) → ShowsAct before w → ShowsAct after (act_next h.handlers.meaning h.recovery d w s)
  pub counts : after.taken ≡ before.taken + 1
  pub keeps : IsSoundAct h.handlers after

-- what a step answers, and what it makes of the world
pub record AnswersAct {H S K D I A O M X R : Type 0} (h : RebootPromises S K I O M) (d : Disks K D A X) (s : ActStep I X) (before after : ActView H S D I A O M X) (answer : Result R StepFault) : Type 0 where
  pub refused : (w : ActWorld S I O M D A X) → ShowsAct before w → IsAnswer answer (act_refusal h.handlers.meaning w s)
  pub unchanged : IfErr answer (λ why. why ≢ fault.Memory → after ≡ before)
  pub taken : OnOk answer (TakesAct h d s before after)
  pub same_handlers : after.handlers ≡ before.handlers

-- the same by what the handlers promise
abbrev pub AnswersActBy : {H S K D I A O M X R : Type 0} → RebootableFacts H S K I O M → Disks K D A X → ActStep I X → ActView H S D I A O M X → ActView H S D I A O M X → Result R StepFault → Type 0
AnswersActBy f d s before after answer = AnswersAct (reboot_promises_of f before.handlers) d s before after answer

-- a node goes on with its turn, which is the next step
abbrev pub GoesOnBy : {H S K D I A O M X : Type 0} → RebootableFacts H S K I O M → Disks K D A X → ℕ → ActView H S D I A O M X → ActView H S D I A O M X → Type 0
GoesOnBy f d n before after = TakesAct (reboot_promises_of f before.handlers) d (act.Act n) before (one_taken after)
