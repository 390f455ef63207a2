-- The lock server sends only its three messages, one in an event at most, to nodes that exist.
use Rattle.std.specs.Prelude.{◌≡◌, ℕ, nat_lt, zero, suc, ◌<◌, ◌≤◌, true, false, List, [], ◌∷◌, length, refl}
use Rattle.std.proofs.Common.{arith}
use Rattle.std.proofs.lemmas.Bool.{lt-ltb}
use Rattle.std.proofs.lemmas.List.Elements.{All-drop, All-nil, All-push}
use Rattle.handler_trait.specs.Handling.{AreSentBelow, IsModest}
use Rattle.lock_server.specs.LockLaws.{modest_input, modest_message, modest_timeout}
use Rattle.lock_server.specs.Locks.{IsSound, LockEffect, first_state, input_effect, lock_server, message_effect}
use Rattle.lock_server.specs.declared.state.LockState.{LockState}
use Rattle.lock_server.specs.declared.state.LockState.TheVariants.{Server, Client}
use Rattle.net_semantics.specs.Runs.{no_recovery}
use Rattle.vst_base.specs.declared.lock.LockInput.{LockInput}
use Rattle.vst_base.specs.declared.lock.LockInput.TheVariants as ask
use Rattle.vst_base.specs.declared.lock.LockMsg.{LockMsg}
use Rattle.vst_base.specs.declared.lock.LockMsg.TheVariants as msg
use Rattle.wire_messages.specs.PeerBytes.{lock_message}
use Rattle.wired.specs.Dealing.{AreSent, DealsInBytes, GoesOn, nothing_saved}
use Rattle.wired.specs.Sending.{Any}

pub lock_fits : (from to : ℕ) (x : LockMsg) → Any from to x → lock_message.Fits x × (length (lock_message.spell x) ≤ 1)
lock_fits from to msg.Lock any = (tt, omega arith)
lock_fits from to msg.Unlock any = (tt, omega arith)
lock_fits from to msg.Locked any = (tt, omega arith)

module _ (nodes : ℕ) where
  any_sent : (n : ℕ) (ps : List (ℕ × LockMsg)) → AreSentBelow nodes ps → AreSent Any nodes n ps
  any_sent n [] below = tt
  any_sent n (p ∷ ps) below = ((below.0, tt), any_sent n ps below.1)

  goes_on : (n : ℕ) (s : LockState) (e : LockEffect) → IsSound nodes n e.state → IsModest nodes 1 (IsSound nodes n) (λ _. 0) s e
      → GoesOn Any 1 nodes (IsSound nodes n) n e
  goes_on n s e sound modest = record { state = sound; few = modest.few; sends = any_sent n e.sends modest.to_nodes }

  sound_first : (n : ℕ) → IsSound nodes n (first_state n)
  sound_first zero = (refl, All-nil (λ client. client < nodes))
  sound_first (suc n) = let client : nat_lt 0 (suc n) ≡ true = lt-ltb 0 (suc n) (omega arith) in rw client (omega arith)

  sound_input : (n : ℕ) (s : LockState) (i : LockInput) → IsSound nodes n s → IsSound nodes n (input_effect s i).state
  sound_input n (Server queue) i sound = sound
  sound_input n (Client held) ask.Lock sound = sound
  sound_input n (Client true) ask.Unlock sound = sound
  sound_input n (Client false) ask.Unlock sound = sound

  sound_message : (n : ℕ) (s : LockState) (from : ℕ) (x : LockMsg) → from < nodes → IsSound nodes n s
      → IsSound nodes n (message_effect s from x).state
  sound_message n (Server queue) from msg.Lock below sound = (sound.0, All-push (λ client. client < nodes) queue from sound.1 below)
  sound_message n (Server queue) from msg.Unlock below sound = (sound.0, All-drop (λ client. client < nodes) 1 queue sound.1)
  sound_message n (Server queue) from msg.Locked below sound = sound
  sound_message n (Client held) from msg.Lock below sound = sound
  sound_message n (Client held) from msg.Unlock below sound = sound
  sound_message n (Client held) from msg.Locked below sound = sound

  pub lock_deals : DealsInBytes Any 1 nothing_saved (λ _. Unit {0}) (lock_server nodes) (no_recovery {S = LockState})
      (λ t n s. IsSound nodes n s)
  lock_deals = record {
    init = λ n below. sound_first n;
    later = λ t n s sound. sound;
    input = λ t n s i few below takes is sound. goes_on n s (input_effect s i) (sound_input n s i sound)
        (modest_input nodes n s i below takes sound);
    message = λ t n s from x few below from_below any sound. goes_on n s (message_effect s from x)
        (sound_message n s from x from_below sound) (modest_message nodes n s from x below from_below sound);
    timeout = λ t n s few below sound. goes_on n s ((lock_server nodes).timeout n s) sound (modest_timeout nodes n s below sound);
    keep = λ t n s below sound. tt;
    reboot = λ t n s below sound. sound;
  }
