-- A state machine as functions (the single machine of Verdi).
use Rattle.std.specs.Prelude.{List, [], ◌∷◌}

-- the first state, and what a command makes of a state: the next state and the output
pub record MachineMeaning (S C O : Type 0) : Type 0 where
  pub init : S
  pub apply : S → C → S × O

-- the state after these commands
abbrev pub state_after : {S C O : Type 0} → MachineMeaning S C O → S → List C → S
state_after m s [] = s
state_after m s (c ∷ cs) = state_after m (m.apply s c).0 cs

-- the outputs of these commands from a state on, in order
abbrev pub outputs_from : {S C O : Type 0} → MachineMeaning S C O → S → List C → List O
outputs_from m s [] = []
outputs_from m s (c ∷ cs) = (m.apply s c).1 ∷ outputs_from m (m.apply s c).0 cs

-- the fold of the machine over commands: its outputs from the first state
abbrev pub fold : {S C O : Type 0} → MachineMeaning S C O → List C → List O
fold m cs = outputs_from m m.init cs
