-- The steps of a world: which one it refuses and why, and what the others make of it.
use Rattle.std.specs.Prelude.{◌≡◌, ℕ, Bool, true, false, not, ◌&&◌, ◌||◌, ◌==◌, nat_lt, List, [], ◌∷◌, ◌++◌, map, take, Option, Some, None, Result, Ok, Err, slice_get}
use Rattle.handler_trait.specs.Handling.{Meaning, Effect, Recovery}
use Rattle.vst_base.specs.declared.net.Net.{Net}
use Rattle.vst_base.specs.declared.step.Step.{Step}
use Rattle.vst_base.specs.declared.step.Item.{Item}
use Rattle.vst_base.specs.declared.step.Item.TheVariants as item
use Rattle.vst_base.specs.declared.step.StepRefusal.{StepRefusal}
use Rattle.vst_base.specs.declared.step.StepRefusal.TheVariants as refusal
use Rattle.vst_base.specs.Firsts.{first_of}
use Rattle.vst_base.specs.Nets.{has_kind, keeps_order, kind_in, Fate, Delivered, Copied, Lost, StepView, AtNode, OfPacket, Stops, Starts, view_of}
use Rattle.net_semantics.specs.declared.fault.StepFault.{StepFault}
use Rattle.net_semantics.specs.declared.fault.StepFault.TheVariants as fault
use Rattle.net_semantics.specs.Worlds.{World, Packet, put, change_at, one_more, one_less, sent_by, copies, ends}

-- the node that a step names, and the packet
abbrev pub node_named : {I : Type 0} → StepView I → Option ℕ
node_named (AtNode n input) = Some n
node_named (OfPacket k fate) = None
node_named (Stops n) = Some n
node_named (Starts n) = Some n

abbrev pub node_of : {I : Type 0} → Step I → Option ℕ
node_of s = node_named (view_of s)

abbrev pub packet_named : {I : Type 0} → StepView I → Option ℕ
packet_named (AtNode n input) = None
packet_named (OfPacket k fate) = Some k
packet_named (Stops n) = None
packet_named (Starts n) = None

abbrev pub packet_of : {I : Type 0} → Step I → Option ℕ
packet_of s = packet_named (view_of s)

-- the named value, if there is one, fails the test
abbrev pub fails : Option ℕ → (ℕ → Bool) → Bool
fails None test = false
fails (Some n) test = not (test n)

abbrev pub destination_of : Option (ℕ × ℕ) → Option ℕ
destination_of None = None
destination_of (Some e) = Some e.1

-- what is known of a packet that is delivered, nothing of one that is copied or lost
abbrev pub delivered : {A : Type 0} → Fate → Option A → Option A
delivered Delivered known = known
delivered Copied known = None
delivered Lost known = None

-- the node that has to be up: the one of an input, a tick or a crash, or the destination of what is delivered
abbrev pub acts_at : {S K I M : Type 0} → World S K M → StepView I → Option ℕ
acts_at w (AtNode n input) = Some n
acts_at w (OfPacket k fate) = destination_of (delivered fate (ends w k))
acts_at w (Stops n) = Some n
acts_at w (Starts n) = None

abbrev pub acting : {S K I M : Type 0} → World S K M → Step I → Option ℕ
acting w s = acts_at w (view_of s)

-- an input comes only where inputs are taken
abbrev pub may_take : {I : Type 0} → (ℕ → Bool) → ℕ → Option I → Bool
may_take takes n None = true
may_take takes n (Some i) = takes n

abbrev pub input_is_taken : {I : Type 0} → (ℕ → Bool) → StepView I → Bool
input_is_taken takes (AtNode n input) = may_take takes n input
input_is_taken takes (OfPacket k fate) = true
input_is_taken takes (Stops n) = true
input_is_taken takes (Starts n) = true

abbrev pub takes_input_of : {I : Type 0} → (ℕ → Bool) → Step I → Bool
takes_input_of takes s = input_is_taken takes (view_of s)

abbrev pub node_started : {I : Type 0} → StepView I → Option ℕ
node_started (AtNode n input) = None
node_started (OfPacket k fate) = None
node_started (Stops n) = None
node_started (Starts n) = Some n

abbrev pub reboots : {I : Type 0} → Step I → Option ℕ
reboots s = node_started (view_of s)

-- whether one of these packets has these ends, source and destination, and a copy in flight
abbrev pub flies_among : {M : Type 0} → ℕ × ℕ → List (Packet M) → Bool
flies_among e [] = false
flies_among e (p ∷ ps) = ((p.source == e.0) && ((p.destination == e.1) && nat_lt 0 p.copies)) || flies_among e ps

-- none of the packets before has these ends and a copy in flight
abbrev pub comes_first : {M : Type 0} → Option (ℕ × ℕ) → List (Packet M) → Bool
comes_first None before = true
comes_first (Some e) before = not (flies_among e before)

-- no packet of the same ends that was sent before this one has a copy in flight
abbrev pub is_first : {S K M : Type 0} → World S K M → ℕ → Bool
is_first w k = comes_first (ends w k) (take k w.packets)

-- the refusals in their order, each with whether it applies
abbrev pub refusals_in : {S K I O M : Type 0} → Net → Meaning S I O M → World S K M → StepView I → List (StepRefusal × Bool)
refusals_in net m w v =
    (refusal.NotThisNet, not (has_kind net (kind_in v)))
    ∷ (refusal.NoSuchNode, fails (node_named v) (λ n. nat_lt n m.nodes))
    ∷ (refusal.NoInputHere, not (input_is_taken m.takes_input v))
    ∷ (refusal.NodeDown, fails (acts_at w v) w.is_up)
    ∷ (refusal.NodeUp, fails (node_started v) (λ n. not (w.is_up n)))
    ∷ (refusal.NoCopy, fails (packet_named v) (λ k. nat_lt 0 (copies w k)))
    ∷ (refusal.NotFirst, keeps_order net && fails (packet_named v) (is_first w))
    ∷ []

abbrev pub refusals : {S K I O M : Type 0} → Net → Meaning S I O M → World S K M → Step I → List (StepRefusal × Bool)
refusals net m w s = refusals_in net m w (view_of s)

-- the first that applies
abbrev pub refusal_in : {S K I O M : Type 0} → Net → Meaning S I O M → World S K M → StepView I → Option StepRefusal
refusal_in net m w v = first_of (refusals_in net m w v)

abbrev pub refusal_of : {S K I O M : Type 0} → Net → Meaning S I O M → World S K M → Step I → Option StepRefusal
refusal_of net m w s = refusal_in net m w (view_of s)

-- what happens at a node in a step: the node, the input if it takes one, and what the handlers make of the event
pub record Event (S I O M : Type 0) : Type 0 where
  pub node : ℕ
  pub input : Option I
  pub effect : Effect S O M

abbrev pub delivery : {S K I O M : Type 0} → Meaning S I O M → World S K M → Option (Packet M) → Option (Event S I O M)
delivery m w None = None
delivery m w (Some p) = Some (record { node = p.destination; input = None; effect = m.message p.destination (w.state p.destination) p.source p.content })

-- what an input does to a node, or, without one, its timer
abbrev pub effect_at : {S I O M : Type 0} → Meaning S I O M → ℕ → S → Option I → Effect S O M
effect_at m n s None = m.timeout n s
effect_at m n s (Some i) = m.input n s i

abbrev pub event_in : {S K I O M : Type 0} → Meaning S I O M → World S K M → StepView I → Option (Event S I O M)
event_in m w (AtNode n input) = Some (record { node = n; input = input; effect = effect_at m n (w.state n) input })
event_in m w (OfPacket k fate) = delivery m w (delivered fate (slice_get w.packets k))
event_in m w (Stops n) = None
event_in m w (Starts n) = None

abbrev pub event_of : {S K I O M : Type 0} → Meaning S I O M → World S K M → Step I → Option (Event S I O M)
event_of m w s = event_in m w (view_of s)

-- the node has the event's new state, and its sends are in flight
abbrev pub after_event : {S K I O M : Type 0} → World S K M → Option (Event S I O M) → World S K M
after_event w None = w
after_event w (Some e) = record {
  state = put w.state e.node e.effect.state;
  is_up = w.is_up;
  kept = w.kept;
  packets = w.packets ++ sent_by e.node e.effect.sends;
}

abbrev pub with_packets : {S K M : Type 0} → World S K M → List (Packet M) → World S K M
with_packets w ps = record { state = w.state; is_up = w.is_up; kept = w.kept; packets = ps }

-- a node stops, and keeps what its handlers keep
abbrev pub crashed : {S K M : Type 0} → Recovery S K → World S K M → ℕ → World S K M
crashed r w n = record { state = w.state; is_up = put w.is_up n false; kept = put w.kept n (Some (r.keep (w.state n))); packets = w.packets }

-- a node starts again with what it kept
abbrev pub rebooted : {S K M : Type 0} → Recovery S K → World S K M → ℕ → Option K → World S K M
rebooted r w n None = w
rebooted r w n (Some k) = record { state = put w.state n (r.reboot n k); is_up = put w.is_up n true; kept = put w.kept n None; packets = w.packets }

-- a copy in flight goes, or one more comes
abbrev pub copied : {M : Type 0} → Fate → Packet M → Packet M
copied Delivered = one_less
copied Copied = one_more
copied Lost = one_less

-- what the network itself does in a step: copies in flight go and come, and nodes stop and start
abbrev pub network_after : {S K I M : Type 0} → Recovery S K → World S K M → StepView I → World S K M
network_after r w (AtNode n input) = w
network_after r w (OfPacket k fate) = with_packets w (change_at (copied fate) k w.packets)
network_after r w (Stops n) = crashed r w n
network_after r w (Starts n) = rebooted r w n (w.kept n)

abbrev pub after_network : {S K I M : Type 0} → Recovery S K → World S K M → Step I → World S K M
after_network r w s = network_after r w (view_of s)

-- the world after a step that is not refused
abbrev pub next_in : {S K I O M : Type 0} → Meaning S I O M → Recovery S K → World S K M → StepView I → World S K M
next_in m r w v = after_event (network_after r w v) (event_in m w v)

abbrev pub next : {S K I O M : Type 0} → Meaning S I O M → Recovery S K → World S K M → Step I → World S K M
next m r w s = next_in m r w (view_of s)

-- what clients see of an event: its input, and then its outputs
abbrev pub input_item : {I O : Type 0} → ℕ → Option I → List (Item I O)
input_item n None = []
input_item n (Some i) = item.Input n i ∷ []

abbrev pub items_of_event : {S I O M : Type 0} → Option (Event S I O M) → List (Item I O)
items_of_event None = []
items_of_event (Some e) = input_item e.node e.input ++ map (λ o. item.Output e.node o) e.effect.outputs

abbrev pub items_in : {S K I O M : Type 0} → Meaning S I O M → World S K M → StepView I → List (Item I O)
items_in m w v = items_of_event (event_in m w v)

abbrev pub items_of : {S K I O M : Type 0} → Meaning S I O M → World S K M → Step I → List (Item I O)
items_of m w s = items_in m w (view_of s)

-- what a step may answer where this is its first refusal: that refusal, or, where there is none, that it was taken or that memory ran out
abbrev pub IsAnswer : {A : Type 0} → Result A StepFault → Option StepRefusal → Type 0
IsAnswer (Ok x) first = first ≡ None
IsAnswer (Err (fault.Refused why)) first = first ≡ Some why
IsAnswer (Err fault.Memory) first = first ≡ None
