-- A lock server of three nodes, whose packets are bytes, and what a node of a cluster keeps as bytes.
use Rattle.std.specs.Prelude.{ℕ, true, List, [], ◌∷◌, ◌++◌, Option, None}
use Rattle.handler_trait.specs.Handling.{Effect, Meaning}
use Rattle.lock_server.specs.Locks.{lock_server}
use Rattle.lock_server.specs.declared.state.LockState.{LockState}
use Rattle.net_semantics.specs.Runs.{no_recovery, run}
use Rattle.net_semantics.specs.Worlds.{World}
use Rattle.vst_base.specs.declared.lock.LockInput.{LockInput}
use Rattle.vst_base.specs.declared.lock.LockInput.TheVariants as ask
use Rattle.vst_base.specs.declared.lock.LockMsg.{LockMsg}
use Rattle.vst_base.specs.declared.lock.LockOutput.{LockOutput}
use Rattle.vst_base.specs.declared.net.Net.TheVariants as net
use Rattle.vst_base.specs.declared.stack.StackId.TheVariants as stack
use Rattle.vst_base.specs.declared.step.Step.{Step}
use Rattle.vst_base.specs.declared.step.Step.TheVariants as step
use Rattle.wire_messages.specs.PeerBytes.{lock_message}
use Rattle.kv_machine.specs.declared.cmd.KvCmd.{KvCmd}
use Rattle.raft_types.specs.Messages.{KeptView}
use Rattle.wire_messages.specs.KvBytes.{kv_command}
use Rattle.wired.specs.RaftSaving.{raft_saving}
use Rattle.wired.specs.Same.{RunsAlike, RunsTheSame}
use Rattle.wired.specs.Saving.{KeepsBytes, Saving}
use Rattle.wired.specs.WiredRuns.{world_in_bytes}
use Rattle.wired.specs.Wiring.{no_name, wired}

abbrev pub wired_locks : Meaning LockState LockInput LockOutput (List ℕ)
wired_locks = wired lock_message stack.Lock no_name (lock_server 3)

-- the bytes of the stack, the kind, the sender, the receiver and the message, under the letter V and version 2
abbrev pub bytes_of : ℕ → ℕ → ℕ → ℕ → ℕ → List ℕ
bytes_of stack kind from to message = 86 ∷ 2 ∷ stack ∷ kind ∷ from ∷ to ∷ (no_name ++ message ∷ [])

abbrev pub no_effect : LockState → Effect LockState LockOutput (List ℕ)
no_effect s = record { state = s; outputs = []; sends = [] }

-- what a node of a cluster of three keeps, over the key-value machine
abbrev pub kv_saving : Saving (KeptView KvCmd)
kv_saving = raft_saving stack.KvRaft kv_command 3 no_name

-- the bytes of a body in term 1 without entries: the version, the stack, the node, the number of nodes, the name and the vote
abbrev pub body_with : ℕ → ℕ → ℕ → ℕ → List ℕ → ℕ → List ℕ
body_with version stack me nodes name vote = 83 ∷ version ∷ stack ∷ me ∷ nodes ∷ (name ++ 0 ∷ 0 ∷ 0 ∷ 0 ∷ 0 ∷ 0 ∷ 0 ∷ 1 ∷ vote ∷ 0 ∷ 0 ∷ 0 ∷ 0 ∷ [])

abbrev pub kept_in_term_1 : Option ℕ → KeptView KvCmd
kept_in_term_1 voted = record { term = 1; voted = voted; log = [] }

abbrev pub another_name : List ℕ
another_name = 0 ∷ 0 ∷ 0 ∷ 0 ∷ 0 ∷ 0 ∷ 0 ∷ 0 ∷ 0 ∷ 0 ∷ 0 ∷ 0 ∷ 0 ∷ 0 ∷ 0 ∷ 1 ∷ []

-- client 1 asks for the lock, the server hears it, and the client is told that it has it
abbrev pub gets_the_lock : List (Step LockInput)
gets_the_lock = step.In 1 ask.Lock ∷ step.Deliver 0 ∷ step.Deliver 1 ∷ []

-- the world after the first of these steps, and the same in bytes
abbrev pub asked_world : World LockState LockState LockMsg
asked_world = run (lock_server 3) no_recovery (step.In 1 ask.Lock ∷ [])

abbrev pub locks_in_bytes : World LockState LockState LockMsg → World LockState LockState (List ℕ)
locks_in_bytes w = world_in_bytes lock_message stack.Lock no_name w

-- the same nodes, which send bytes and hear none
abbrev pub deaf_locks : Meaning LockState LockInput LockOutput (List ℕ)
deaf_locks = record wired_locks { message = λ n s from bytes. no_effect s }

-- handlers on a bag run these steps as the lock server does
abbrev pub runs_as_locks : Meaning LockState LockInput LockOutput (List ℕ) → Type 0
runs_as_locks m = RunsTheSame net.Bag m no_recovery (lock_server 3) no_recovery locks_in_bytes gets_the_lock

abbrev pub runs_like_locks : Meaning LockState LockInput LockOutput (List ℕ) → Type 0
runs_like_locks m = RunsAlike net.Bag m no_recovery (lock_server 3) no_recovery locks_in_bytes gets_the_lock

-- a world whose nodes have this vote in term 1, and are up
abbrev pub voted_world : Option ℕ → World (KeptView KvCmd) (KeptView KvCmd) LockMsg
voted_world voted = record { state = λ n. kept_in_term_1 voted; is_up = λ n. true; kept = λ n. None; packets = [] }

-- what a node of such a world keeps in this step of it has bytes
abbrev pub keeps_vote : Option ℕ → Step LockInput → Type 0
keeps_vote voted s = KeepsBytes kv_saving no_recovery (voted_world voted) s
