-- An event of the lock server sends one packet at most, to a node that exists.
use Rattle.std.specs.Prelude.{ℕ, ◌<◌, true, false, [], ◌∷◌, IsTrue}
use Rattle.std.proofs.Common.{arith}
use Rattle.handler_trait.specs.Handling.{IsModest}
use Rattle.vst_base.specs.declared.lock.LockInput.{LockInput}
use Rattle.vst_base.specs.declared.lock.LockInput.TheVariants as ask
use Rattle.vst_base.specs.declared.lock.LockMsg.{LockMsg}
use Rattle.vst_base.specs.declared.lock.LockMsg.TheVariants as msg
use Rattle.lock_server.specs.declared.state.LockState.{LockState}
use Rattle.lock_server.specs.declared.state.LockState.TheVariants.{Server, Client}
use Rattle.lock_server.specs.Locks.{LockEffect, lock_server, IsSound, stays}

abbrev pub IsModestFrom : ℕ → ℕ → LockState → LockEffect → Type 0
IsModestFrom nodes n s e = IsModest nodes 1 (IsSound nodes n) (λ _. 0) s e

pub stays_modest : (nodes n : ℕ) (s : LockState) → IsModestFrom nodes n s (stays s)
stays_modest nodes n s = record { few = omega arith; to_nodes = tt; cheap = omega arith; few_outputs = λ after. omega arith }

pub modest_input : (nodes n : ℕ) (s : LockState) (i : LockInput) → n < nodes → IsTrue ((lock_server nodes).takes_input n) → IsSound nodes n s → IsModestFrom nodes n s ((lock_server nodes).input n s i)
modest_input nodes n (Server queue) i below takes sound = stays_modest nodes n (Server queue)
modest_input nodes n (Client held) ask.Lock below takes sound = record { few = omega arith; to_nodes = (omega arith, tt); cheap = omega arith; few_outputs = λ after. omega arith }
modest_input nodes n (Client true) ask.Unlock below takes sound = record { few = omega arith; to_nodes = (omega arith, tt); cheap = omega arith; few_outputs = λ after. omega arith }
modest_input nodes n (Client false) ask.Unlock below takes sound = stays_modest nodes n (Client false)

pub modest_message : (nodes n : ℕ) (s : LockState) (from : ℕ) (m : LockMsg) → n < nodes → from < nodes → IsSound nodes n s → IsModestFrom nodes n s ((lock_server nodes).message n s from m)
modest_message nodes n (Server []) from msg.Lock below from_below sound = record { few = omega arith; to_nodes = (from_below, tt); cheap = omega arith; few_outputs = λ after. omega arith }
modest_message nodes n (Server (holder ∷ waiting)) from msg.Lock below from_below sound = record { few = omega arith; to_nodes = tt; cheap = omega arith; few_outputs = λ after. omega arith }
modest_message nodes n (Server []) from msg.Unlock below from_below sound = record { few = omega arith; to_nodes = tt; cheap = omega arith; few_outputs = λ after. omega arith }
modest_message nodes n (Server (holder ∷ [])) from msg.Unlock below from_below sound = record { few = omega arith; to_nodes = tt; cheap = omega arith; few_outputs = λ after. omega arith }
modest_message nodes n (Server (holder ∷ next ∷ waiting)) from msg.Unlock below from_below sound = record { few = omega arith; to_nodes = (sound.1 1 0 (omega arith), tt); cheap = omega arith; few_outputs = λ after. omega arith }
modest_message nodes n (Server queue) from msg.Locked below from_below sound = stays_modest nodes n (Server queue)
modest_message nodes n (Client held) from msg.Locked below from_below sound = record { few = omega arith; to_nodes = tt; cheap = omega arith; few_outputs = λ after. omega arith }
modest_message nodes n (Client held) from msg.Lock below from_below sound = stays_modest nodes n (Client held)
modest_message nodes n (Client held) from msg.Unlock below from_below sound = stays_modest nodes n (Client held)

pub modest_timeout : (nodes n : ℕ) (s : LockState) → n < nodes → IsSound nodes n s → IsModestFrom nodes n s ((lock_server nodes).timeout n s)
modest_timeout nodes n s below sound = stays_modest nodes n s
