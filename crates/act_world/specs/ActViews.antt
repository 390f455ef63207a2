-- What contracts see of an `ActWorld`, and for which worlds of single acts it stands.
use Rattle.std.specs.Prelude.{◌≡◌, ℕ, ◌*◌, ◌≤◌, List, [], ◌∷◌, ◌++◌, length, map, Option, Some, None, IfSome, slice_get}
use Rattle.handler_trait.specs.Facts.{Promises, RebootableFacts}
use Rattle.handler_trait.specs.declared.handlers.TheConstants.{MAX_SENDS}
use Rattle.vst_base.specs.declared.step.Item.{Item}
use Rattle.vst_base.specs.declared.step.TheConstants.{MAX_STEPS}
use Rattle.net_semantics.specs.Shown.{IsSoundPacket, IsSoundState, ShowsPacket}
use Rattle.act_network.specs.ActWorlds.{ActWorld, Flying, Listed, Turn}
use Rattle.act_network.specs.Listing.{items_with}
use Rattle.act_world.specs.Views.{FlightView, NotesView, SeenTurn}
use Rattle.act_world.specs.Nodes.{IsSoundTurn, ShowsNode}
use Rattle.act_world.specs.declared.act_node.ActNode.{ActNode}

-- the handlers, the nodes, all packets that were sent, what is written down, and how many steps were taken
pub record ActView (H S D I A O M X : Type 0) : Type 0 where
  pub handlers : H
  pub nodes : List (ActNode S D I A O M X)
  pub flights : List (FlightView M)
  pub notes : NotesView I O
  pub taken : ℕ

-- what clients saw of a turn that counts: its outputs that were not sent are not kept
abbrev pub seen_of : {I O : Type 0} → Listed I O → SeenTurn I O
seen_of l = record { node = l.node; input = l.input; sent = l.sent }

-- what clients saw of these turns, in order
abbrev pub seen_items : {I O : Type 0} → List (SeenTurn I O) → List (Item I O)
seen_items [] = []
seen_items (t ∷ ts) = items_with t.node t.input t.sent ++ seen_items ts

pub record ShowsFlying {M : Type 0} (v : FlightView M) (p : Flying M) : Type 0 where
  pub packet : ShowsPacket v.packet p.packet
  pub number : v.number ≡ p.number

abbrev pub ShowsFlight : {M : Type 0} → Option (FlightView M) → Option (Flying M) → Type 0
ShowsFlight None None = Unit {0}
ShowsFlight None (Some p) = ⊥
ShowsFlight (Some v) None = ⊥
ShowsFlight (Some v) (Some p) = ShowsFlying v p

module _ {S D I A O M X : Type 0} where
  -- each node that is kept stands for the world's
  abbrev pub ShowsNodes : List (ActNode S D I A O M X) → List (Listed I O) → (ℕ → S) → (ℕ → D) → (ℕ → Option (Turn S I O M A)) → (ℕ → Option X) → Type 0
  ShowsNodes nodes listed state disk turn down =
      (n : ℕ) (node : ActNode S D I A O M X) → slice_get nodes n ≡ Some node → ShowsNode listed n node (state n) (disk n) (turn n) (down n)

  -- the view stands for the world
  pub record ShowsAct {H : Type 0} (v : ActView H S D I A O M X) (w : ActWorld S I O M D A X) : Type 0 where
    pub nodes : ShowsNodes v.nodes w.listed w.state w.disk w.turn w.down
    pub flights : (k : ℕ) → ShowsFlight (slice_get v.flights k) (slice_get w.packets k)
    pub image : v.notes.image ≡ w.image
    pub listed : v.notes.listed ≡ map seen_of w.listed
    pub sent : v.notes.sent ≡ w.sent

  abbrev pub ForShownAct : {H : Type 0} → ActView H S D I A O M X → (ActWorld S I O M D A X → Type 0) → Type 0
  ForShownAct v P = (w : ActWorld S I O M D A X) → ShowsAct v w → P w

-- a node of a world that has taken so many steps, whose run of whole events has sent so many packets and has so many turns
pub record IsSoundNode {S D I A O M X : Type 0} (h : Promises S I O M) (n taken sent listed : ℕ) (node : ActNode S D I A O M X) : Type 0 where
  pub state : IsSoundState (h.sound n) h.spent taken node.state
  pub turn : IsSoundTurn h.meaning.nodes sent listed node.turn

-- what holds of a world of these handlers when it is made and after each step that doesn't answer want of memory
pub record IsSoundAct {H S D I A O M X : Type 0} (h : Promises S I O M) (v : ActView H S D I A O M X) : Type 0 where
  pub nodes : length v.nodes ≡ h.meaning.nodes
  pub each : (n : ℕ) (node : ActNode S D I A O M X) → slice_get v.nodes n ≡ Some node → IsSoundNode h n v.taken v.notes.sent (length v.notes.listed) node
  pub flights : (k : ℕ) → IfSome (slice_get v.flights k) (λ f. IsSoundPacket h.meaning.nodes v.taken f.packet)
  pub few_sent : v.notes.sent ≤ MAX_SENDS * v.taken
  pub few_steps : v.taken ≤ MAX_STEPS

abbrev pub IsSoundActBy : {H S K D I A O M X : Type 0} → RebootableFacts H S K I O M → ActView H S D I A O M X → Type 0
IsSoundActBy f v = IsSoundAct (record { meaning = f.meaning v.handlers; sound = f.sound v.handlers; spent = f.spent v.handlers }) v
