-- Turns of single acts, as the code goes on with them.
use Rattle.std.specs.Prelude.{◌≡◌, ℕ, ◌+◌, List, [], ◌∷◌, Option, Some, None}
use Rattle.vst_base.specs.declared.step.Step.{Step}
use Rattle.act_world.specs.Views.{SavingView, TellingView}
use Rattle.act_world.specs.declared.turn.Turn.{Turn}
use Rattle.act_world.specs.declared.turn.Turn.TheVariants as turn

module _ {I A O M : Type 0} where
  abbrev pub going_on : TellingView O M → List (ℕ × M) → List O → Option (Turn I A O M)
  going_on v [] [] = None
  going_on v [] (o ∷ os) = Some (turn.Telling v)
  going_on v (s ∷ ss) os = Some (turn.Telling v)

  -- a turn that counts goes on, while it has something to send or to put out
  abbrev pub going : TellingView O M → Option (Turn I A O M)
  going v = going_on v v.sends v.outputs

-- the turn, if it has not counted
abbrev pub if_uncounted : {I A O M : Type 0} → Turn I A O M → Option (SavingView I A O M)
if_uncounted (turn.Saving t) = Some t
if_uncounted (turn.Telling t) = None

-- a node's turn, if it has one that has not counted
abbrev pub uncounted : {I A O M : Type 0} → Option (Turn I A O M) → Option (SavingView I A O M)
uncounted None = None
uncounted (Some t) = if_uncounted t

-- a turn that counts at this place, with this number of its first send
abbrev pub telling : {O M : Type 0} → List (ℕ × M) → List O → ℕ → ℕ → TellingView O M
telling sends outputs place number = record { sends = sends; outputs = outputs; place = place; number = number }

-- a turn that has these acts to do, with this event
abbrev pub saving : {I A O M : Type 0} → Step I → List A → List (ℕ × M) → List O → SavingView I A O M
saving event acts sends outputs = record { event = event; acts = acts; sends = sends; outputs = outputs }

-- the next act of a turn on the areas is taken from it
pub record ActsNext {I A O M : Type 0} (before after : SavingView I A O M) (act : A) : Type 0 where
  pub event : after.event ≡ before.event
  pub acts : before.acts ≡ act ∷ after.acts
  pub sends : after.sends ≡ before.sends
  pub outputs : after.outputs ≡ before.outputs

-- the next send of a turn, or its next output
pub record SendsNext {O M : Type 0} (before after : TellingView O M) (send : ℕ × M) : Type 0 where
  pub sends : before.sends ≡ send ∷ after.sends
  pub outputs : after.outputs ≡ before.outputs
  pub place : after.place ≡ before.place
  pub number : after.number ≡ before.number + 1

pub record PutsNext {O M : Type 0} (before after : TellingView O M) (output : O) : Type 0 where
  pub sends : after.sends ≡ before.sends
  pub outputs : before.outputs ≡ output ∷ after.outputs
  pub place : after.place ≡ before.place
  pub number : after.number ≡ before.number
