-- A node of single acts, as the code keeps it, and for which node of a world it stands.
use Rattle.std.specs.Prelude.{◌≡◌, ◌≢◌, ℕ, ◌+◌, ◌<◌, ◌≤◌, List, [], length, Option, Some, None, slice_get}
use Rattle.handler_trait.specs.Handling.{AreSentBelow, Meaning}
use Rattle.handler_trait.specs.declared.handlers.TheConstants.{MAX_SENDS}
use Rattle.act_network.specs.ActWorlds.{Listed, step_of}
use Rattle.act_network.specs.ActWorlds as acts
use Rattle.act_network.specs.Disks.{Disks}
use Rattle.act_world.specs.Views.{SavingView, TellingView}
use Rattle.act_world.specs.declared.act_node.ActNode.{ActNode}
use Rattle.act_world.specs.declared.turn.Turn.{Turn}
use Rattle.act_world.specs.declared.turn.Turn.TheVariants as turn

-- a node in its first state, after an opening of empty areas
abbrev pub first_node : {S K I O M D A X : Type 0} → Meaning S I O M → Disks K D A X → ℕ → ActNode S D I A O M X
first_node m d n = record { state = m.init n; disk = d.fresh n; turn = None; left = None }

module _ {S D I A O M X : Type 0} where
  abbrev pub with_state : S → ActNode S D I A O M X → ActNode S D I A O M X
  with_state s n = record { state = s; disk = n.disk; turn = n.turn; left = n.left }

  abbrev pub with_disk : (D → D) → ActNode S D I A O M X → ActNode S D I A O M X
  with_disk f n = record { state = n.state; disk = f n.disk; turn = n.turn; left = n.left }

  abbrev pub with_turn : Option (Turn I A O M) → ActNode S D I A O M X → ActNode S D I A O M X
  with_turn t n = record { state = n.state; disk = n.disk; turn = t; left = n.left }

  -- it stops, and this is left of its areas
  abbrev pub stopped : X → ActNode S D I A O M X → ActNode S D I A O M X
  stopped x n = record { state = n.state; disk = n.disk; turn = None; left = Some x }

  -- it starts again
  abbrev pub started : S → D → ActNode S D I A O M X → ActNode S D I A O M X
  started s disk n = record { state = s; disk = disk; turn = n.turn; left = None }

-- a turn is listed at its place as one of this node, and has the same outputs to send
pub record IsListed {I O : Type 0} (listed : List (Listed I O)) (n place : ℕ) (outputs : List O) : Type 0 where
  pub entry : Listed I O
  pub there : slice_get listed place ≡ Some entry
  pub node : entry.node ≡ n
  pub unsent : entry.unsent ≡ outputs

module _ {S I A O M : Type 0} where
  -- a turn that has not counted stands for one with the same event and the same acts left, whose state is held already
  pub record ShowsSaving (n : ℕ) (held : S) (v : SavingView I A O M) (t : acts.Turn S I O M A) : Type 0 where
    pub event : v.event ≡ step_of n t.cause
    pub state : held ≡ t.effect.state
    pub sends : v.sends ≡ t.effect.sends
    pub outputs : v.outputs ≡ t.effect.outputs
    pub acts : v.acts ≡ t.acts

  -- a turn that counts stands for one with the same left to send and to put out
  pub record ShowsTelling (listed : List (Listed I O)) (n : ℕ) (v : TellingView O M) (t : acts.Turn S I O M A) : Type 0 where
    pub saved : t.acts ≡ []
    pub sends : v.sends ≡ t.sends
    pub outputs : v.outputs ≡ t.outputs
    pub place : v.place ≡ t.place
    pub number : v.number ≡ t.number
    pub listed_is : IsListed listed n t.place t.outputs

  -- the held state is that of the world, but in a turn that has not counted
  abbrev pub ShowsTurn : List (Listed I O) → ℕ → S → S → Option (Turn I A O M) → Option (acts.Turn S I O M A) → Type 0
  ShowsTurn listed n held state None None = held ≡ state
  ShowsTurn listed n held state None (Some t) = ⊥
  ShowsTurn listed n held state (Some (turn.Saving v)) None = ⊥
  ShowsTurn listed n held state (Some (turn.Saving v)) (Some t) = ShowsSaving n held v t
  ShowsTurn listed n held state (Some (turn.Telling v)) None = ⊥
  ShowsTurn listed n held state (Some (turn.Telling v)) (Some t) = (held ≡ state) × ShowsTelling listed n v t

module _ {S D I A O M X : Type 0} where
  -- of a node that is up the disk and the turn, of one that is down what is left of its areas
  abbrev pub ShowsSo : List (Listed I O) → ℕ → ActNode S D I A O M X → S → D → Option (acts.Turn S I O M A) → Option X → Option X → Type 0
  ShowsSo listed n v state disk t None None = (v.disk ≡ disk) × ShowsTurn listed n v.state state v.turn t
  ShowsSo listed n v state disk t None (Some y) = ⊥
  ShowsSo listed n v state disk t (Some x) None = ⊥
  ShowsSo listed n v state disk t (Some x) (Some y) = (x ≡ y) × (v.turn ≡ None) × (t ≡ None)

  abbrev pub ShowsNode : List (Listed I O) → ℕ → ActNode S D I A O M X → S → D → Option (acts.Turn S I O M A) → Option X → Type 0
  ShowsNode listed n v state disk t down = ShowsSo listed n v state disk t v.left down

pub record IsSoundSaving {I A O M : Type 0} (nodes : ℕ) (v : SavingView I A O M) : Type 0 where
  pub acts : v.acts ≢ []
  pub few : length v.sends ≤ MAX_SENDS
  pub to_nodes : AreSentBelow nodes v.sends

pub record IsSoundTelling {O M : Type 0} (nodes sent listed : ℕ) (v : TellingView O M) : Type 0 where
  pub numbers : v.number + length v.sends ≤ sent
  pub to_nodes : AreSentBelow nodes v.sends
  pub place : v.place < listed
  pub more : v.sends ≡ [] → v.outputs ≢ []

-- a turn, where the run of whole events has sent so many packets, and so many turns are listed
abbrev pub IsSoundTurn : {I A O M : Type 0} → ℕ → ℕ → ℕ → Option (Turn I A O M) → Type 0
IsSoundTurn nodes sent listed None = Unit {0}
IsSoundTurn nodes sent listed (Some (turn.Saving v)) = IsSoundSaving nodes v
IsSoundTurn nodes sent listed (Some (turn.Telling v)) = IsSoundTelling nodes sent listed v
