-- What nodes do, moment by moment, where a node keeps what an event makes of it before it tells anybody: the event counts from where
-- it is kept.
use Rattle.std.specs.Prelude.{ℕ, ◌<◌, List, [], ◌∷◌, ◌++◌, Contains, Option, Some, None}
use Rattle.handler_trait.specs.Handling.{Meaning, Recovery}
use Rattle.net_semantics.specs.Steps.{input_item}
use Rattle.net_semantics.specs.Worlds.{Packet, put}
use Rattle.node_histories.specs.Histories.{Asked, Event, Fired, HasSent, Heard, History, MayTake, Restarts, Takes, input_of, items_of, packet}
use Rattle.node_histories.specs.Views.{HasOutput}
use Rattle.vst_base.specs.declared.step.Item.{Item}
use Rattle.vst_base.specs.declared.step.Item.TheVariants as item

-- a node comes to an event; what it came to last counts from here on; it stops and starts again from what it keeps, and what does not
-- count by then is lost; a message of it goes out to a node; an output goes out to a client
pub data Move (I O M : Type 0) : Type 0 where
  ComesTo : (event : Event I M) → Move I O M
  Keeps : Move I O M
  StartsAgain : Move I O M
  Sends : (to : ℕ) → (c : M) → Move I O M
  Tells : (o : O) → Move I O M

-- each with its node, in the order of time
abbrev pub Moves : Type 0 → Type 0 → Type 0 → Type 0
Moves I O M = List (ℕ × Move I O M)

-- what counts so far, and what each node has come to that does not count yet
pub record SoFar (I M : Type 0) : Type 0 where
  pub counted : History I M
  pub pending : ℕ → Option (Event I M)

module _ {I M : Type 0} where
  abbrev pub at_first : SoFar I M
  at_first = record { counted = []; pending = λ _. None }

  abbrev pub kept : ℕ → Option (Event I M) → History I M
  kept n None = []
  kept n (Some event) = (n, Takes event) ∷ []

  -- a message that a node comes to went out to it before
  abbrev pub WentOut : List (Packet M) → ℕ → Event I M → Type 0
  WentOut out n (Asked i) = Unit {0}
  WentOut out n (Heard from c) = Contains out (packet from n c)
  WentOut out n Fired = Unit {0}

module _ {I O M : Type 0} where
  abbrev pub after_move : SoFar I M → ℕ → Move I O M → SoFar I M
  after_move s n (ComesTo event) = record { counted = s.counted; pending = put s.pending n (Some event) }
  after_move s n Keeps = record { counted = s.counted ++ kept n (s.pending n); pending = put s.pending n None }
  after_move s n StartsAgain = record { counted = s.counted ++ (n, Restarts) ∷ []; pending = put s.pending n None }
  after_move s n (Sends to c) = s
  after_move s n (Tells o) = s

  abbrev pub after_moves : SoFar I M → Moves I O M → SoFar I M
  after_moves s [] = s
  after_moves s (a ∷ moves) = after_moves (after_move s a.0 a.1) moves

  -- what counts, in the order in which it does
  abbrev pub counted_by : Moves I O M → History I M
  counted_by moves = (after_moves at_first moves).counted

  -- the messages that went out, one more move later
  abbrev pub out_after : List (Packet M) → ℕ → Move I O M → List (Packet M)
  out_after out n (Sends to c) = packet n to c ∷ out
  out_after out n (ComesTo event) = out
  out_after out n Keeps = out
  out_after out n StartsAgain = out
  out_after out n (Tells o) = out

  -- what clients note: an input where a node comes to it, and an output where it goes out
  abbrev pub shows : ℕ → Move I O M → List (Item I O)
  shows n (ComesTo event) = input_item n (input_of event)
  shows n Keeps = []
  shows n StartsAgain = []
  shows n (Sends to c) = []
  shows n (Tells o) = item.Output n o ∷ []

  abbrev pub view_of : Moves I O M → List (Item I O)
  view_of [] = []
  view_of (a ∷ moves) = shows a.0 a.1 ++ view_of moves

module _ {S K I O M : Type 0} (m : Meaning S I O M) (r : Recovery S K) where
  -- what goes out follows from what counts: a message from what counts at its node, and an output from what counts at any node
  abbrev pub MayMove : SoFar I M → List (Packet M) → ℕ → Move I O M → Type 0
  MayMove s out n (ComesTo event) = MayTake m n event × WentOut out n event
  MayMove s out n Keeps = Unit {0}
  MayMove s out n StartsAgain = Unit {0}
  MayMove s out n (Sends to c) = HasSent m r s.counted n to c
  MayMove s out n (Tells o) = HasOutput (items_of m r s.counted) o

  abbrev pub AreAllowed_since : SoFar I M → List (Packet M) → Moves I O M → Type 0
  AreAllowed_since s out [] = Unit {0}
  AreAllowed_since s out (a ∷ moves) =
      (a.0 < m.nodes) × MayMove s out a.0 a.1 × AreAllowed_since (after_move s a.0 a.1) (out_after out a.0 a.1) moves

  abbrev pub AreAllowed : Moves I O M → Type 0
  AreAllowed moves = AreAllowed_since at_first [] moves
