-- Handlers as functions (Verdi, PLDI 2015): theorems on runs are about these records alone.
use Rattle.std.specs.Prelude.{◌≡◌, ℕ, Bool, ◌+◌, ◌<◌, ◌≤◌, List, [], ◌∷◌, ◌++◌, length}
use Rattle.handler_trait.specs.declared.handlers.TheConstants.{MAX_OUTPUTS, STEP_COST}

-- the outputs, the packets to send with their destinations, and how many of each can be added without
-- taking memory
pub record Gathered (O M : Type 0) : Type 0 where
  pub outputs : List O
  pub sends : List (ℕ × M)
  pub output_places : ℕ
  pub send_places : ℕ

-- what one event makes of a node: its state, outputs, and sends (destination and content)
pub record Effect (S O M : Type 0) : Type 0 where
  pub state : S
  pub outputs : List O
  pub sends : List (ℕ × M)

-- handlers as functions; nodes are numbers
pub record Meaning (S I O M : Type 0) : Type 0 where
  pub nodes : ℕ
  pub takes_input : ℕ → Bool
  pub init : ℕ → S
  pub input : ℕ → S → I → Effect S O M
  pub message : ℕ → S → ℕ → M → Effect S O M  -- node, state, source, content
  pub timeout : ℕ → S → Effect S O M

-- how a node stops and starts again
pub record Recovery (S K : Type 0) : Type 0 where
  pub keep : S → K
  pub reboot : ℕ → K → S

-- new is the effect's state, and what was gathered has gained the effect's outputs and sends
pub record Does {S O M : Type 0} (e : Effect S O M) (new : S) (before after : Gathered O M) : Type 0 where
  pub state : new ≡ e.state
  pub outputs : after.outputs ≡ before.outputs ++ e.outputs
  pub sends : after.sends ≡ before.sends ++ e.sends

-- each of these packets goes to a node below nodes
abbrev pub AreSentBelow : {M : Type 0} → ℕ → List (ℕ × M) → Type 0
AreSentBelow nodes [] = Unit {0}
AreSentBelow nodes (p ∷ ps) = (p.0 < nodes) × AreSentBelow nodes ps

-- an effect on a state: at most so many sends, to nodes that exist, little spent, and, where the new state keeps to what it has to,
-- few outputs beside those that answer what was spent before
pub record IsModest {S O M : Type 0} (nodes sends : ℕ) (sound : S → Type 0) (spent : S → ℕ) (before : S) (e : Effect S O M) : Type 0 where
  pub few : length e.sends ≤ sends
  pub to_nodes : AreSentBelow nodes e.sends
  pub cheap : spent e.state ≤ spent before + STEP_COST
  pub few_outputs : sound e.state → length e.outputs ≤ MAX_OUTPUTS + spent before
