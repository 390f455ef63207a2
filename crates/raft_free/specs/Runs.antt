-- Runs of Raft with free choices.
use Rattle.std.specs.Prelude.{◌≡◌, ℕ, List, [], ◌∷◌}
use Rattle.raft_free.specs.Nodes.{FreeWorld, first_world}
use Rattle.raft_free.specs.Events.{Allowed, Event, actor, effect}

-- in a cluster of so many nodes these events may come in this order, and lead from the world w to the world v.
-- Numbers from that of the nodes on may act too, and count for no majority
abbrev pub Run : {C : Type 0} → ℕ → FreeWorld C → List (Event C) → FreeWorld C → Type 0
Run nodes w [] v = v ≡ w
Run nodes w (e ∷ es) v = Allowed nodes w.sent (w.node (actor e)) e × Run nodes (effect w e) es v

-- a run from the first world reaches w
pub record Reached (C : Type 0) (nodes : ℕ) (w : FreeWorld C) : Type 0 where
  pub events : List (Event C)
  pub run : Run nodes (first_world C) events w

-- a run from the first world reaches v, and goes on from there to w: any moment, and the same or any later one
pub record Moments (C : Type 0) (nodes : ℕ) (v w : FreeWorld C) : Type 0 where
  pub early : List (Event C)
  pub late : List (Event C)
  pub before : Run nodes (first_world C) early v
  pub after : Run nodes v late w
