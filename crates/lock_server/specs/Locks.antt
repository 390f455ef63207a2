-- The lock server as functions.
use Rattle.std.specs.Prelude.{◌≡◌, ℕ, ◌<◌, Bool, true, false, List, [], ◌∷◌, ◌++◌, drop, nat_lt, All, if◌then◌else◌}
use Rattle.handler_trait.specs.Handling.{Effect, Meaning}
use Rattle.vst_base.specs.declared.lock.LockInput.{LockInput}
use Rattle.vst_base.specs.declared.lock.LockInput.TheVariants as ask
use Rattle.vst_base.specs.declared.lock.LockOutput.{LockOutput}
use Rattle.vst_base.specs.declared.lock.LockOutput.TheVariants as told
use Rattle.vst_base.specs.declared.lock.LockMsg.{LockMsg}
use Rattle.vst_base.specs.declared.lock.LockMsg.TheVariants as msg
use Rattle.lock_server.specs.declared.state.LockState.{LockState}
use Rattle.lock_server.specs.declared.state.LockState.TheVariants.{Server, Client}

-- node 0 is the server, the others are clients
abbrev pub is_client : ℕ → Bool
is_client n = nat_lt 0 n

-- nobody holds the lock at first
abbrev pub first_state : ℕ → LockState
first_state n = if is_client n then Client false else Server []

-- what an event makes of a node
abbrev pub LockEffect : Type 0
LockEffect = Effect LockState LockOutput LockMsg

-- nothing comes of an event
abbrev pub stays : LockState → LockEffect
stays s = record { state = s; outputs = []; sends = [] }

-- a client asks node 0 for the lock; one that holds it gives it back, and another has nothing to give
abbrev pub client_input : Bool → LockInput → LockEffect
client_input held ask.Lock = record { state = Client held; outputs = []; sends = (0, msg.Lock) ∷ [] }
client_input true ask.Unlock = record { state = Client false; outputs = []; sends = (0, msg.Unlock) ∷ [] }
client_input false ask.Unlock = stays (Client false)

-- a client to which the lock is handed holds it, and says so; it expects no other message
abbrev pub client_message : Bool → LockMsg → LockEffect
client_message held msg.Locked = record { state = Client true; outputs = told.Locked ∷ []; sends = [] }
client_message held msg.Lock = stays (Client held)
client_message held msg.Unlock = stays (Client held)

-- the lock is handed to the client
abbrev pub handed_to : ℕ → List (ℕ × LockMsg)
handed_to client = (client, msg.Locked) ∷ []

-- a client that asks gets the lock at once where nobody holds it
abbrev pub handed_at_once : List ℕ → ℕ → List (ℕ × LockMsg)
handed_at_once [] client = handed_to client
handed_at_once (holder ∷ waiting) client = []

-- the lock goes to the head of the queue
abbrev pub handed_on : List ℕ → List (ℕ × LockMsg)
handed_on [] = []
handed_on (next ∷ waiting) = handed_to next

-- the server puts a client that asks at the end of its queue, and where the lock comes back drops the
-- head and hands the lock to the next; it expects no other message
abbrev pub server_message : List ℕ → ℕ → LockMsg → LockEffect
server_message queue client msg.Lock =
    record { state = Server (queue ++ client ∷ []); outputs = []; sends = handed_at_once queue client }
server_message queue client msg.Unlock =
    record { state = Server (drop 1 queue); outputs = []; sends = handed_on (drop 1 queue) }
server_message queue client msg.Locked = stays (Server queue)

-- the server takes no input
abbrev pub input_effect : LockState → LockInput → LockEffect
input_effect (Server queue) i = stays (Server queue)
input_effect (Client held) i = client_input held i

abbrev pub message_effect : LockState → ℕ → LockMsg → LockEffect
message_effect (Server queue) from m = server_message queue from m
message_effect (Client held) from m = client_message held m

-- the lock server of so many nodes; nothing comes of a tick
abbrev pub lock_server : ℕ → Meaning LockState LockInput LockOutput LockMsg
lock_server nodes = record {
  nodes = nodes;
  takes_input = is_client;
  init = first_state;
  input = λ n s i. input_effect s i;
  message = λ n s from m. message_effect s from m;
  timeout = λ n s. stays s;
}

-- each node has the state of its role, and who waits is a node
abbrev pub IsSound : ℕ → ℕ → LockState → Type 0
IsSound nodes n (Server queue) = (n ≡ 0) × All (λ client. client < nodes) queue
IsSound nodes n (Client held) = 0 < n

abbrev pub IsClient : LockState → Type 0
IsClient (Server queue) = ⊥
IsClient (Client held) = Unit {0}
