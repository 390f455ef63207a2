-- What is seen of nodes that store what they decide: each decides at once, in memory, and once something of that went out, its areas
-- open as after it; until then they may open as before.
use Rattle.std.specs.Prelude.{◌≡◌, ℕ, ◌<◌, ◌⊎◌, List, [], ◌∷◌, ◌++◌, Contains, Option, Some, None}
use Rattle.handler_trait.specs.Handling.{Effect, Meaning, Recovery}
use Rattle.net_semantics.specs.Steps.{input_item}
use Rattle.net_semantics.specs.Worlds.{Packet}
use Rattle.node_histories.specs.Histories.{AreAtNodes, Event, MayTake, Takes, effect_of, input_of, own, packet}
use Rattle.vst_base.specs.declared.step.Item.{Item}
use Rattle.vst_base.specs.declared.step.Item.TheVariants as item
use Rattle.cluster_histories.specs.Moves.{WentOut}

-- a node takes an event and decides on it; a message of that goes out; an output of it does; or the node starts again, and its areas
-- open as this
pub data Deed (I O M K : Type 0) : Type 0 where
  Decided : (event : Event I M) → Deed I O M K
  Said : (to : ℕ) → (c : M) → Deed I O M K
  Answered : (o : O) → Deed I O M K
  Opened : (kept : K) → Deed I O M K

-- each with its node, in the order of time
abbrev pub Deeds : Type 0 → Type 0 → Type 0 → Type 0 → Type 0
Deeds I O M K = List (ℕ × Deed I O M K)

-- a node as it runs: its state in memory, what follows from what it decided last, and what its areas may open as beside what it keeps
-- of its state
pub record Running (S O M K : Type 0) : Type 0 where
  pub state : S
  pub sends : List (ℕ × M)
  pub outputs : List O
  pub before : Option K

module _ {S K I O M : Type 0} (m : Meaning S I O M) (r : Recovery S K) where
  abbrev pub running_at_first : ℕ → Running S O M K
  running_at_first n = record { state = m.init n; sends = []; outputs = []; before = None }

  abbrev pub decided : Running S O M K → Effect S O M → Running S O M K
  decided x e = record { state = e.state; sends = e.sends; outputs = e.outputs; before = Some (r.keep x.state) }

  -- something of it went out, so it is stored
  abbrev pub stored : Running S O M K → Running S O M K
  stored x = record { state = x.state; sends = x.sends; outputs = x.outputs; before = None }

  -- an opening stores nothing: the areas hold what they opened as, which a node that starts from it is to keep (as Raft's does)
  abbrev pub after_deed : ℕ → Running S O M K → Deed I O M K → Running S O M K
  after_deed n x (Decided event) = decided x (effect_of m r n x.state (Takes event))
  after_deed n x (Said to c) = stored x
  after_deed n x (Answered o) = stored x
  after_deed n x (Opened k) = record { state = r.reboot n k; sends = []; outputs = []; before = None }

  abbrev pub after_deeds : ℕ → Running S O M K → List (Deed I O M K) → Running S O M K
  after_deeds n x [] = x
  after_deeds n x (d ∷ deeds) = after_deeds n (after_deed n x d) deeds

  -- its areas open as after what it decided last, or, where nothing of that went out, as before it
  abbrev pub MayOpenAs : Running S O M K → K → Type 0
  MayOpenAs x k = (k ≡ r.keep x.state) ⊎ (x.before ≡ Some k)

  -- what goes out follows from what was decided last
  abbrev pub MayDo : ℕ → Running S O M K → Deed I O M K → Type 0
  MayDo n x (Decided event) = MayTake m n event
  MayDo n x (Said to c) = Contains x.sends (to, c)
  MayDo n x (Answered o) = Contains x.outputs o
  MayDo n x (Opened k) = MayOpenAs x k

  -- a node stores what it decides before anything of it goes out
  abbrev pub StoresFirst_from : ℕ → Running S O M K → List (Deed I O M K) → Type 0
  StoresFirst_from n x [] = Unit {0}
  StoresFirst_from n x (d ∷ deeds) = MayDo n x d × StoresFirst_from n (after_deed n x d) deeds

  abbrev pub StoresFirst : ℕ → List (Deed I O M K) → Type 0
  StoresFirst n deeds = StoresFirst_from n (running_at_first n) deeds

module _ {I O M K : Type 0} where
  -- the messages that went out, one more deed later
  abbrev pub said_after : List (Packet M) → ℕ → Deed I O M K → List (Packet M)
  said_after out n (Said to c) = packet n to c ∷ out
  said_after out n (Decided event) = out
  said_after out n (Answered o) = out
  said_after out n (Opened k) = out

  abbrev pub WasSaid : List (Packet M) → ℕ → Deed I O M K → Type 0
  WasSaid out n (Decided event) = WentOut out n event
  WasSaid out n (Said to c) = Unit {0}
  WasSaid out n (Answered o) = Unit {0}
  WasSaid out n (Opened k) = Unit {0}

  -- each message that a node takes was said to it before
  abbrev pub AllWasSaid_since : List (Packet M) → Deeds I O M K → Type 0
  AllWasSaid_since out [] = Unit {0}
  AllWasSaid_since out (d ∷ deeds) = WasSaid out d.0 d.1 × AllWasSaid_since (said_after out d.0 d.1) deeds

  -- what clients note
  abbrev pub notes : ℕ → Deed I O M K → List (Item I O)
  notes n (Decided event) = input_item n (input_of event)
  notes n (Said to c) = []
  notes n (Answered o) = item.Output n o ∷ []
  notes n (Opened k) = []

  abbrev pub noted_by : Deeds I O M K → List (Item I O)
  noted_by [] = []
  noted_by (d ∷ deeds) = notes d.0 d.1 ++ noted_by deeds

-- the nodes exist, each stores first, and no message is forged
pub record AllStoreFirst {S K I O M : Type 0} (m : Meaning S I O M) (r : Recovery S K) (deeds : Deeds I O M K) : Type 0 where
  pub at_nodes : AreAtNodes m.nodes deeds
  pub each : (n : ℕ) → n < m.nodes → StoresFirst m r n (own n deeds)
  pub not_forged : AllWasSaid_since [] deeds
