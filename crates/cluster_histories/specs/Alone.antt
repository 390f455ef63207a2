-- A node by itself: what it may do by its own moves, whatever the others do.
use Rattle.std.specs.Prelude.{ℕ, ◌<◌, List, [], ◌∷◌, ◌++◌, Contains, Option, Some, None}
use Rattle.handler_trait.specs.Handling.{Effect, Meaning, Recovery}
use Rattle.net_semantics.specs.Worlds.{Packet}
use Rattle.node_histories.specs.Histories.{AreAtNodes, Event, MayTake, Restarts, Takes, effect_of, own}
use Rattle.cluster_histories.specs.Moves.{ComesTo, Keeps, Move, Moves, Sends, StartsAgain, Tells, WentOut, out_after}

-- a node's state by what it keeps, what it has come to beside that, and all that its handlers sent and put out by what it keeps
pub record Alone (S I O M : Type 0) : Type 0 where
  pub state : S
  pub pending : Option (Event I M)
  pub sends : List (ℕ × M)
  pub outputs : List O

module _ {S K I O M : Type 0} (m : Meaning S I O M) (r : Recovery S K) where
  abbrev pub alone_at_first : ℕ → Alone S I O M
  alone_at_first n = record { state = m.init n; pending = None; sends = []; outputs = [] }

  abbrev pub with_effect : Alone S I O M → Effect S O M → Alone S I O M
  with_effect x e = record { state = e.state; pending = None; sends = x.sends ++ e.sends; outputs = x.outputs ++ e.outputs }

  abbrev pub keeps : ℕ → Alone S I O M → Option (Event I M) → Alone S I O M
  keeps n x None = record { state = x.state; pending = None; sends = x.sends; outputs = x.outputs }
  keeps n x (Some event) = with_effect x (effect_of m r n x.state (Takes event))

  abbrev pub after_alone : ℕ → Alone S I O M → Move I O M → Alone S I O M
  after_alone n x (ComesTo event) = record { state = x.state; pending = Some event; sends = x.sends; outputs = x.outputs }
  after_alone n x Keeps = keeps n x x.pending
  after_alone n x StartsAgain = with_effect x (effect_of m r n x.state Restarts)
  after_alone n x (Sends to c) = x
  after_alone n x (Tells o) = x

  -- a node sends and tells only what follows from what it keeps
  abbrev pub MayMoveAlone : ℕ → Alone S I O M → Move I O M → Type 0
  MayMoveAlone n x (ComesTo event) = MayTake m n event
  MayMoveAlone n x Keeps = Unit {0}
  MayMoveAlone n x StartsAgain = Unit {0}
  MayMoveAlone n x (Sends to c) = Contains x.sends (to, c)
  MayMoveAlone n x (Tells o) = Contains x.outputs o

  abbrev pub DoesItsPart_from : ℕ → Alone S I O M → List (Move I O M) → Type 0
  DoesItsPart_from n x [] = Unit {0}
  DoesItsPart_from n x (a ∷ moves) = MayMoveAlone n x a × DoesItsPart_from n (after_alone n x a) moves

  abbrev pub DoesItsPart : ℕ → List (Move I O M) → Type 0
  DoesItsPart n moves = DoesItsPart_from n (alone_at_first n) moves

module _ {I O M : Type 0} where
  abbrev pub HasGoneOut : List (Packet M) → ℕ → Move I O M → Type 0
  HasGoneOut out n (ComesTo event) = WentOut out n event
  HasGoneOut out n Keeps = Unit {0}
  HasGoneOut out n StartsAgain = Unit {0}
  HasGoneOut out n (Sends to c) = Unit {0}
  HasGoneOut out n (Tells o) = Unit {0}

  -- each message that a node comes to went out to it before
  abbrev pub AllWentOut_since : List (Packet M) → Moves I O M → Type 0
  AllWentOut_since out [] = Unit {0}
  AllWentOut_since out (a ∷ moves) = HasGoneOut out a.0 a.1 × AllWentOut_since (out_after out a.0 a.1) moves

-- the nodes exist, each does its part, and no message is forged
pub record DoTheirParts {S K I O M : Type 0} (m : Meaning S I O M) (r : Recovery S K) (moves : Moves I O M) : Type 0 where
  pub at_nodes : AreAtNodes m.nodes moves
  pub each : (n : ℕ) → n < m.nodes → DoesItsPart m r n (own n moves)
  pub not_forged : AllWentOut_since [] moves
