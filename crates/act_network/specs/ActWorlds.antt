-- The world of a network of single acts: nodes in the middle of a turn, and what was written down of the run so far.
use Rattle.std.specs.Prelude.{ℕ, List, [], map, Option, Some, None, is_none}
use Rattle.handler_trait.specs.Handling.{Meaning, Effect}
use Rattle.vst_base.specs.declared.step.Step.{Step}
use Rattle.vst_base.specs.declared.step.Step.TheVariants as step
use Rattle.net_semantics.specs.Worlds.{Packet, World}
use Rattle.act_network.specs.Disks.{Disks}

-- what began a turn: an input, the node's timer, or a packet, which is named by its number in the run of whole events
pub data Cause (I : Type 0) : Type 0 where
  Input : (input : I) → Cause I
  Fired : Cause I
  Came : (number : ℕ) → Cause I

-- its event, as a step of that run
abbrev pub step_of : {I : Type 0} → ℕ → Cause I → Step I
step_of n (Input i) = step.In n i
step_of n Fired = step.Tick n
step_of n (Came k) = step.Deliver k

abbrev pub input_of : {I : Type 0} → Cause I → Option I
input_of (Input i) = Some i
input_of Fired = None
input_of (Came k) = None

-- A turn: what the handlers made of its event, and the acts that are left of it, on the areas first, then sends, then outputs. Once
-- it counts: its place among the turns that count, and the number that its next send has in the run of whole events.
pub record Turn (S I O M A : Type 0) : Type 0 where
  pub cause : Cause I
  pub effect : Effect S O M
  pub acts : List A
  pub sends : List (ℕ × M)
  pub outputs : List O
  pub place : ℕ
  pub number : ℕ

-- a turn that counts: its input, and its outputs, those that were sent and those that were not
pub record Listed (I O : Type 0) : Type 0 where
  pub node : ℕ
  pub input : Option I
  pub sent : List O
  pub unsent : List O

-- a packet, and its number in the run of whole events
pub record Flying (M : Type 0) : Type 0 where
  pub packet : Packet M
  pub number : ℕ

abbrev pub packet_in : {M : Type 0} → Flying M → Packet M
packet_in p = p.packet

-- The state of a node is the one after its last turn that counts. A node is down where something is left of its areas. Then what was
-- written down: the run of whole events, the turns that count, and how many packets that run has sent.
pub record ActWorld (S I O M D A X : Type 0) : Type 0 where
  pub state : ℕ → S
  pub disk : ℕ → D
  pub turn : ℕ → Option (Turn S I O M A)
  pub down : ℕ → Option X
  pub packets : List (Flying M)
  pub image : List (Step I)
  pub listed : List (Listed I O)
  pub sent : ℕ

abbrev pub first_act_world : {S I O M K D A X : Type 0} → Meaning S I O M → Disks K D A X → ActWorld S I O M D A X
first_act_world m d = record {
  state = m.init;
  disk = d.fresh;
  turn = λ _. None;
  down = λ _. None;
  packets = [];
  image = [];
  listed = [];
  sent = 0;
}

-- the same nodes and packets, without turns and areas: what is left of a node's areas is what it kept
abbrev pub as_world : {S I O M D A X : Type 0} → ActWorld S I O M D A X → World S X M
as_world w = record { state = w.state; is_up = λ n. is_none (w.down n); kept = w.down; packets = map packet_in w.packets }
