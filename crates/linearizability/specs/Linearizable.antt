-- When what clients see is explained by one machine (linearizability, Herlihy and Wing 1990; an operation is named by
-- its client and the client's number of it).
use Rattle.std.specs.Prelude.{◌≡◌, ℕ, Bool, false, ◌&&◌, ◌⊎◌, List, [], ◌∷◌, ◌++◌, map, zip, Option, Some, None, ◌==◌, if◌then◌else◌}
use Rattle.vst_base.specs.Machines.{MachineMeaning, fold}
use Rattle.vst_base.specs.declared.step.Item.{Item}
use Rattle.vst_base.specs.declared.step.Item.TheVariants as item
use Rattle.raft_types.specs.declared.client.RaftInput.{RaftInput}
use Rattle.raft_types.specs.declared.client.RaftOut.{RaftOut}
use Rattle.raft_types.specs.declared.client.RaftOut.TheVariants as told
use Rattle.lists.specs.Each.{Each}

-- clients put this request in, at any node
abbrev pub HasInput : {I O : Type 0} → List (Item I O) → I → Type 0
HasInput [] i = ⊥
HasInput (item.Input node j ∷ rest) i = (j ≡ i) ⊎ HasInput rest i
HasInput (item.Output node o ∷ rest) i = HasInput rest i

module _ {C : Type 0} where
  -- the request is this one of this client
  abbrev pub is_named : ℕ → ℕ → RaftInput C → Bool
  is_named client request i = i.client == client && i.request == request

  -- the first request is named otherwise than the second
  abbrev pub AreOther : RaftInput C → RaftInput C → Type 0
  AreOther a b = is_named b.client b.request a ≡ false

  abbrev pub AreDistinct : List (RaftInput C) → Type 0
  AreDistinct [] = Unit {0}
  AreDistinct (a ∷ rest) = Each (AreOther a) rest × AreDistinct rest

  -- the requests of an order up to the one of this name
  abbrev pub up_to : ℕ → ℕ → List (RaftInput C) → List (RaftInput C)
  up_to client request [] = []
  up_to client request (a ∷ rest) = if is_named client request a then a ∷ [] else a ∷ up_to client request rest

-- what clients see of a cluster
abbrev pub Seen : Type 0 → Type 0 → Type 0
Seen C O = List (Item (RaftInput C) (RaftOut O))

-- a client is told the output of its request, and clients had seen these items before
pub record Told (C O : Type 0) : Type 0 where
  pub client : ℕ
  pub request : ℕ
  pub output : O
  pub before : Seen C O

module _ {C O : Type 0} where
  abbrev pub told_by : Seen C O → Item (RaftInput C) (RaftOut O) → List (Told C O)
  told_by before (item.Input node i) = []
  told_by before (item.Output node (told.NotLeader client request)) = []
  told_by before (item.Output node (told.Full client request)) = []
  told_by before (item.Output node (told.Reply client request output)) =
      record { client = client; request = request; output = output; before = before } ∷ []

  -- each output that a client is told after the items before
  abbrev pub told_since : Seen C O → Seen C O → List (Told C O)
  told_since before [] = []
  told_since before (x ∷ rest) = told_by before x ++ told_since (before ++ x ∷ []) rest

  -- what stands beside the request of this name
  abbrev pub beside : ℕ → ℕ → List (RaftInput C × O) → Option O
  beside client request [] = None
  beside client request (a ∷ rest) = if is_named client request a.0 then Some a.1 else beside client request rest

  -- the requests, each with the output of one machine that takes them in this order, from its first state on
  abbrev pub with_outputs : {S : Type 0} → MachineMeaning S C O → List (RaftInput C) → List (RaftInput C × O)
  with_outputs m order = zip order (fold m (map (λ i. i.cmd) order))

  -- each request of the order is there once, and clients put it in
  pub record AreRequested (order : List (RaftInput C)) (seen : Seen C O) : Type 0 where
    pub once : AreDistinct order
    pub put_in : Each (HasInput seen) order

  -- each output that clients are told is the machine's
  abbrev pub AreOutputs : {S : Type 0} → MachineMeaning S C O → List (RaftInput C) → Seen C O → Type 0
  AreOutputs m order seen = Each (λ t. beside t.client t.request (with_outputs m order) ≡ Some t.output) (told_since [] seen)

  -- no client is told an output before the request, and each that stands before it in the order, was put in: so a
  -- request that is first put in after another was answered stands after it (the real-time order of Herlihy and Wing)
  abbrev pub AreInTime : List (RaftInput C) → Seen C O → Type 0
  AreInTime order seen = Each (λ t. Each (HasInput t.before) (up_to t.client t.request order)) (told_since [] seen)

  -- one machine that takes the requests in this order explains what clients see. Its parts are to be taken together: for
  -- an output of a request that is not in the order `up_to` gives the whole order, and with a request that is there twice
  -- `up_to` and `beside` stop at the first
  pub record IsLinearizable {S : Type 0} (m : MachineMeaning S C O) (order : List (RaftInput C)) (seen : Seen C O) : Type 0 where
    pub requested : AreRequested order seen
    pub outputs : AreOutputs m order seen
    pub in_time : AreInTime order seen
