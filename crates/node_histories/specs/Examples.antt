-- What happens at nodes, and what was seen of it, for worked rows.
use Rattle.std.specs.Prelude.{ℕ, ◌+◌, ◌%◌, ◌==◌, List, [], ◌∷◌, Option, if◌then◌else◌}
use Rattle.handler_trait.specs.Echo.{echo, echo_recovery}
use Rattle.linearizability.specs.Examples.{asks, put, tell}
use Rattle.linearizability.specs.Linearizable.{Seen}
use Rattle.net_semantics.specs.Runs.{first_refused, run}
use Rattle.net_semantics.specs.Worlds.{World}
use Rattle.raft_types.specs.declared.client.RaftInput.{RaftInput}
use Rattle.raft_types.specs.declared.client.RaftOut.{RaftOut}
use Rattle.vst_base.specs.declared.net.Net.TheVariants as net
use Rattle.vst_base.specs.declared.step.Item.{Item}
use Rattle.vst_base.specs.declared.step.Step.{Step}
use Rattle.vst_base.specs.declared.step.Step.TheVariants as step
use Rattle.vst_base.specs.declared.step.StepRefusal.{StepRefusal}
use Rattle.node_histories.specs.Histories.{Asked, Fired, Happening, Heard, History, MayHappen, NothingForged, Restarts, Takes, items_of, state_of}
use Rattle.node_histories.specs.HistoryLaws.{RunsAs, history_of}

-- three nodes of the small application of handler_trait: nodes 1 and 2 take inputs, and tell node 0, and a timer knocks at the node's
-- own door
abbrev pub MayHappenAtThree : History ℕ ℕ → Type 0
MayHappenAtThree hs = MayHappen (echo 3) echo_recovery hs

abbrev pub NothingForgedAtThree : History ℕ ℕ → Type 0
NothingForgedAtThree hs = NothingForged (echo 3) echo_recovery hs

abbrev pub RunsAtThree : History ℕ ℕ → List (Step ℕ) → Type 0
RunsAtThree hs ss = RunsAs (echo 3) echo_recovery hs ss

abbrev pub state_at_three : History ℕ ℕ → ℕ → ℕ
state_at_three hs n = state_of (echo 3) echo_recovery hs n

abbrev pub items_at_three : History ℕ ℕ → List (Item ℕ ℕ)
items_at_three hs = items_of (echo 3) echo_recovery hs

-- node 1 is given 5, and node 0 hears of it
abbrev pub is_given_5 : ℕ × Happening ℕ ℕ
is_given_5 = (1, Takes (Asked 5))

abbrev pub hears_5 : ℕ × Happening ℕ ℕ
hears_5 = (0, Takes (Heard 1 5))

-- node 1 is given 5, node 2 is given 7, the second message comes first, the first comes twice, and node 1 stops and starts between
abbrev pub late_and_twice : History ℕ ℕ
late_and_twice =
    is_given_5 ∷ (2, Takes (Asked 7)) ∷ (0, Takes (Heard 2 7)) ∷ (1, Restarts) ∷ hears_5 ∷ (2, Takes Fired) ∷ hears_5 ∷ []

-- each message is copied, and a copy delivered
abbrev pub late_and_twice_as_steps : List (Step ℕ)
late_and_twice_as_steps =
    step.In 1 5 ∷ step.In 2 7 ∷ step.Dup 1 ∷ step.Deliver 1 ∷ step.Crash 1 ∷ step.Reboot 1 ∷ step.Dup 0 ∷ step.Deliver 0
    ∷ step.Tick 2 ∷ step.Dup 0 ∷ step.Deliver 0 ∷ []

-- node 1 is given 5, and node 0 hears of it twice
abbrev pub heard_twice_as_steps : List (Step ℕ)
heard_twice_as_steps = step.In 1 5 ∷ step.Dup 0 ∷ step.Deliver 0 ∷ step.Dup 0 ∷ step.Deliver 0 ∷ []

abbrev pub history_at_three : List (Step ℕ) → History ℕ ℕ
history_at_three ss = history_of (echo 3) echo_recovery ss

abbrev pub run_at_three : List (Step ℕ) → World ℕ ℕ ℕ
run_at_three ss = run (echo 3) echo_recovery ss

abbrev pub refused_at_three : List (Step ℕ) → Option (ℕ × StepRefusal)
refused_at_three ss = first_refused net.Fail (echo 3) echo_recovery ss

-- the sum so far, twice where it is even
abbrev pub sums : ℕ → ℕ → ℕ → ℕ × List ℕ
sums n sum x = (sum + x, if (sum + x) % 2 == 0 then (sum + x) ∷ (sum + x) ∷ [] else (sum + x) ∷ [])

-- client 7 asks for 5 to be added, and is told the sum before; client 9 asks for 3, and is told 5
abbrev pub asks_7 : Item (RaftInput ℕ) (RaftOut ℕ)
asks_7 = put (asks 7 1 5)

abbrev pub tells_7 : Item (RaftInput ℕ) (RaftOut ℕ)
tells_7 = tell 7 1 0

abbrev pub asks_9 : Item (RaftInput ℕ) (RaftOut ℕ)
asks_9 = put (asks 9 1 3)

abbrev pub tells_9 : Item (RaftInput ℕ) (RaftOut ℕ)
tells_9 = tell 9 1 5

-- the order in which they asked
abbrev pub as_asked : List (RaftInput ℕ)
as_asked = asks 7 1 5 ∷ asks 9 1 3 ∷ []

-- one asks and is told, and then the other; and both ask, and then both are told
abbrev pub one_by_one : Seen ℕ ℕ
one_by_one = asks_7 ∷ tells_7 ∷ asks_9 ∷ tells_9 ∷ []

abbrev pub both_at_once : Seen ℕ ℕ
both_at_once = asks_7 ∷ asks_9 ∷ tells_7 ∷ tells_9 ∷ []
