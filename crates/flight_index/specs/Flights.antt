-- Packets in the order in which they were sent. Each is its destination while a copy of it is in flight, and nothing once none is.
use Rattle.std.specs.Prelude.{◌≡◌, ℕ, ◌+◌, ◌<◌, Bool, true, false, cond, eqb, ltb, List, [], ◌∷◌, length, get_or, count_by, Option, Some, None}
use Rattle.std.specs.List.{list_all}
use Rattle.vst_base.specs.declared.node.TheConstants.{MAX_NODES}

-- what the index is seen as: the packets, and which nodes are up
pub record Flights : Type 0 where
  pub packets : List (Option ℕ)
  pub up : List Bool

-- whether a copy is in flight to a node that is up
abbrev pub goes_up : List Bool → Option ℕ → Bool
goes_up up None = false
goes_up up (Some d) = get_or up d false

-- the numbers of the packets that are chosen, ascending; the first of the list has the number 'from'
abbrev pub numbers_of : {X : Type 0} → (X → Bool) → ℕ → List X → List ℕ
numbers_of p from [] = []
numbers_of p from (x ∷ xs) = cond (p x) (from ∷ numbers_of p (from + 1) xs) (numbers_of p (from + 1) xs)

-- whether a copy is in flight to node d
abbrev pub goes_to : ℕ → Option ℕ → Bool
goes_to d None = false
goes_to d (Some n) = eqb n d

-- whether the destination is a node that a cluster can have
abbrev pub is_within : Option ℕ → Bool
is_within None = true
is_within (Some n) = ltb n MAX_NODES

-- so many packets as 'n' says, of which so many are in flight to each node as 'counts' says
pub record IsCounted (packets : List (Option ℕ)) (n : ℕ) (counts : List ℕ) : Type 0 where
  pub number : n ≡ length packets
  pub size : length counts ≡ MAX_NODES
  pub within : list_all is_within packets ≡ true
  pub each : (d : ℕ) → d < MAX_NODES → get_or counts d 0 ≡ count_by (goes_to d) packets
