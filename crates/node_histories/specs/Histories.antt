-- What happens at the nodes of a system, in the order in which it counts, and what comes of it, where each node does with its own
-- state what its handlers say, and nothing else.
use Rattle.std.specs.Prelude.{ℕ, ◌<◌, ◌==◌, true, List, [], ◌∷◌, ◌++◌, Contains, Option, Some, None, IsTrue, if◌then◌else◌}
use Rattle.handler_trait.specs.Handling.{Effect, Meaning, Recovery}
use Rattle.net_semantics.specs.Steps.{items_of_event}
use Rattle.net_semantics.specs.Worlds.{Packet, World, sent_by}
use Rattle.vst_base.specs.declared.step.Item.{Item}
use Rattle.lists.specs.Each.{Each}

-- what a node acts on: a client gives it an input, a message of a node comes to it, or its timer fires
pub data Event (I M : Type 0) : Type 0 where
  Asked : (i : I) → Event I M
  Heard : (from : ℕ) → (c : M) → Event I M
  Fired : Event I M

-- what happens at a node: it takes an event, or it stops and starts again
pub data Happening (I M : Type 0) : Type 0 where
  Takes : (event : Event I M) → Happening I M
  Restarts : Happening I M

-- each with its node, in the order in which they count
abbrev pub History : Type 0 → Type 0 → Type 0
History I M = List (ℕ × Happening I M)

-- what there is of this node alone
abbrev pub own : {A : Type 0} → ℕ → List (ℕ × A) → List A
own n [] = []
own n (x ∷ xs) = if n == x.0 then x.1 ∷ own n xs else own n xs

-- all of it is at nodes that exist
abbrev pub AreAtNodes : {A : Type 0} → ℕ → List (ℕ × A) → Type 0
AreAtNodes nodes xs = Each (λ x. x.0 < nodes) xs

-- a packet as it is sent: one copy of it is in flight
abbrev pub packet : {M : Type 0} → ℕ → ℕ → M → Packet M
packet from to c = record { source = from; destination = to; content = c; copies = 1 }

module _ {I M : Type 0} where
  abbrev pub input_of : Event I M → Option I
  input_of (Asked i) = Some i
  input_of (Heard from c) = None
  input_of Fired = None

  abbrev pub input_in : Happening I M → Option I
  input_in (Takes event) = input_of event
  input_in Restarts = None

module _ {S I O M : Type 0} (m : Meaning S I O M) where
  -- clients give inputs only where they are taken
  abbrev pub MayTake : ℕ → Event I M → Type 0
  MayTake n (Asked i) = IsTrue (m.takes_input n)
  MayTake n (Heard from c) = Unit {0}
  MayTake n Fired = Unit {0}

  abbrev pub MayBeAt : ℕ → Happening I M → Type 0
  MayBeAt n (Takes event) = MayTake n event
  MayBeAt n Restarts = Unit {0}

module _ {S K I O M : Type 0} (m : Meaning S I O M) (r : Recovery S K) where
  -- what a happening makes of the state of its node
  abbrev pub effect_of : ℕ → S → Happening I M → Effect S O M
  effect_of n s (Takes (Asked i)) = m.input n s i
  effect_of n s (Takes (Heard from c)) = m.message n s from c
  effect_of n s (Takes Fired) = m.timeout n s
  effect_of n s Restarts = record { state = r.reboot n (r.keep s); outputs = []; sends = [] }

  -- the state of a node to which this happens, one after the other
  abbrev pub state_from : ℕ → S → List (Happening I M) → S
  state_from n s [] = s
  state_from n s (h ∷ hs) = state_from n (effect_of n s h).state hs

  -- the state of a node, by what happened at it
  abbrev pub state_of : History I M → ℕ → S
  state_of hs n = state_from n (m.init n) (own n hs)

  -- what one more happening makes of its node
  abbrev pub effect_after : History I M → ℕ × Happening I M → Effect S O M
  effect_after before h = effect_of h.0 (state_of before h.0) h.1

  -- what is sent, in order
  abbrev pub packets_since : History I M → History I M → List (Packet M)
  packets_since before [] = []
  packets_since before (h ∷ hs) = sent_by h.0 (effect_after before h).sends ++ packets_since (before ++ h ∷ []) hs

  abbrev pub packets_of : History I M → List (Packet M)
  packets_of hs = packets_since [] hs

  -- what clients see: the input, if it is one, and then the outputs
  abbrev pub items_of_one : History I M → ℕ × Happening I M → List (Item I O)
  items_of_one before h = items_of_event (Some (record { node = h.0; input = input_in h.1; effect = effect_after before h }))

  abbrev pub items_since : History I M → History I M → List (Item I O)
  items_since before [] = []
  items_since before (h ∷ hs) = items_of_one before h ++ items_since (before ++ h ∷ []) hs

  abbrev pub items_of : History I M → List (Item I O)
  items_of hs = items_since [] hs

  -- each node is up in its state, and each packet that was ever sent has one copy in flight: none is lost, as one that never comes
  -- may stay in flight for ever
  abbrev pub world_of : History I M → World S K M
  world_of hs = record { state = state_of hs; is_up = λ _. true; kept = λ _. None; packets = packets_of hs }

  -- the node sent this to that node before
  abbrev pub HasSent : History I M → ℕ → ℕ → M → Type 0
  HasSent before from to c = Contains (packets_of before) (packet from to c)

  -- what the node hears was sent to it before
  abbrev pub WasSent : History I M → ℕ → Happening I M → Type 0
  WasSent before n (Takes (Asked i)) = Unit {0}
  WasSent before n (Takes (Heard from c)) = HasSent before from n c
  WasSent before n (Takes Fired) = Unit {0}
  WasSent before n Restarts = Unit {0}

  -- each message that a node hears was sent to it before by the node that it comes from, at least once: it may come any number of
  -- times, after any others, or never
  abbrev pub NothingForged_since : History I M → History I M → Type 0
  NothingForged_since before [] = Unit {0}
  NothingForged_since before (h ∷ hs) = WasSent before h.0 h.1 × NothingForged_since (before ++ h ∷ []) hs

  abbrev pub NothingForged : History I M → Type 0
  NothingForged hs = NothingForged_since [] hs

  -- the nodes exist, inputs come where they are taken, and no message is forged
  pub record MayHappen (hs : History I M) : Type 0 where
    pub at_nodes : AreAtNodes m.nodes hs
    pub taken : Each (λ h. MayBeAt m h.0 h.1) hs
    pub nothing_forged : NothingForged hs
