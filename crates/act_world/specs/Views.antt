-- What contracts see of the parts of an `ActWorld`.
use Rattle.std.specs.Prelude.{ℕ, List, Option}
use Rattle.vst_base.specs.declared.step.Step.{Step}
use Rattle.net_semantics.specs.PacketViews.{Shown}

-- a turn that has not counted: its event, the acts on the areas that are left, and what it sends and puts out once it counts
pub record SavingView (I A O M : Type 0) : Type 0 where
  pub event : Step I
  pub acts : List A
  pub sends : List (ℕ × M)
  pub outputs : List O

-- a turn that counts: what is left to send and to put out, its place among the turns that count, and the number of its next send
pub record TellingView (O M : Type 0) : Type 0 where
  pub sends : List (ℕ × M)
  pub outputs : List O
  pub place : ℕ
  pub number : ℕ

-- a packet, and its number in the run of whole events
pub record FlightView (M : Type 0) : Type 0 where
  pub packet : Shown M
  pub number : ℕ

-- a turn that counts, as clients saw it: its node, its input, and those of its outputs that were sent
pub record SeenTurn (I O : Type 0) : Type 0 where
  pub node : ℕ
  pub input : Option I
  pub sent : List O

-- what is written down: the run of whole events, the turns that count, and how many packets that run has sent
pub record NotesView (I O : Type 0) : Type 0 where
  pub image : List (Step I)
  pub listed : List (SeenTurn I O)
  pub sent : ℕ
