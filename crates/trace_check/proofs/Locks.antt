-- The lock server is spelled. It sends to nodes that exist, since each that waits in its queue once asked.
use Rattle.std.specs.Prelude.{ℕ, ◌<◌, ◌≤◌, true, false, List, [], ◌∷◌, drop, length, refl}
use Rattle.std.proofs.Common.{arith}
use Rattle.app_text.specs.LockTextLaws.{inputs_are_spelled, outputs_are_spelled}
use Rattle.app_text.specs.LockTexts as texts
use Rattle.stacks.specs.Table.{lock_texts, locks}
use Rattle.vst_base.specs.declared.lock.LockInput.{LockInput}
use Rattle.vst_base.specs.declared.lock.LockInput.TheVariants as ask
use Rattle.vst_base.specs.declared.lock.LockMsg.{LockMsg}
use Rattle.vst_base.specs.declared.lock.LockMsg.TheVariants as msg
use Rattle.vst_base.specs.declared.lock.LockOutput.{LockOutput}
use Rattle.vst_base.specs.declared.lock.LockOutput.TheVariants as told
use Rattle.vst_base.specs.declared.net.Net.TheVariants as net
use Rattle.lock_server.specs.declared.state.LockState.{LockState}
use Rattle.lock_server.specs.declared.state.LockState.TheVariants.{Server, Client}
use Rattle.lock_server.specs.Locks.{LockEffect, handed_at_once, handed_on, is_client, lock_server, stays}
use Rattle.net_semantics.specs.Runs.{no_recovery}
use Rattle.trace_check.specs.Spelled.{AreSpelledHandlers, most_bytes}
use Rattle.trace_check.proofs.Eaches.{either}
use Rattle.trace_check.proofs.Handlers.{handlers-spelled}
use Rattle.trace_check.proofs.Machines.{AreShortTexts}
use Rattle.trace_check.proofs.TraceLengths.{TellsOne, TellsOnce}
use Rattle.trace_check.proofs.Runs.{IsFine, KeepsTexts}
use Rattle.lists.specs.Each.{Each, each_append, each_drop}

abbrev IsAny : {A : Type 0} → A → Type 0
IsAny x = Unit {0}

-- who waits is a node
abbrev WaitsBelow : ℕ → ℕ → LockState → Type 0
WaitsBelow nodes n (Server queue) = Each (λ client. client < nodes) queue
WaitsBelow nodes n (Client held) = Unit {0}

module _ (nodes : ℕ) where
  abbrev IsLockFine : ℕ → LockEffect → Type 0
  IsLockFine n e = IsFine net.Bag (lock_server nodes) (no_recovery {S = LockState}) IsAny IsAny (WaitsBelow nodes) IsAny n e

  stays-fine : (n : ℕ) (s : LockState) → WaitsBelow nodes n s → IsLockFine n (stays s)
  stays-fine n s sound = record { state = sound; outputs = tt; sends = tt }

  input-fine : (n : ℕ) (s : LockState) (i : LockInput) → n < nodes → WaitsBelow nodes n s → IsLockFine n ((lock_server nodes).input n s i)
  input-fine n (Server queue) i below sound = stays-fine n (Server queue) sound
  input-fine n (Client held) ask.Lock below sound = record { state = tt; outputs = tt; sends = ((omega (arith, below), tt), tt) }
  input-fine n (Client true) ask.Unlock below sound = record { state = tt; outputs = tt; sends = ((omega (arith, below), tt), tt) }
  input-fine n (Client false) ask.Unlock below sound = stays-fine n (Client false) tt

  at-once-fine : (queue : List ℕ) (from : ℕ) → from < nodes → Each (λ (p : ℕ × LockMsg). (p.0 < nodes) × Unit {0}) (handed_at_once queue from)
  at-once-fine [] from below = ((below, tt), tt)
  at-once-fine (holder ∷ waiting) from below = tt

  on-fine : (queue : List ℕ) → Each (λ client. client < nodes) queue → Each (λ (p : ℕ × LockMsg). (p.0 < nodes) × Unit {0}) (handed_on queue)
  on-fine [] below = tt
  on-fine (next ∷ waiting) below = ((below.0, tt), tt)

  message-fine : (n : ℕ) (s : LockState) (from : ℕ) (m : LockMsg) → from < nodes → WaitsBelow nodes n s → IsLockFine n ((lock_server nodes).message n s from m)
  message-fine n (Server queue) from msg.Lock below sound =
      record { state = each_append (λ client. client < nodes) queue (from ∷ []) sound (below, tt); outputs = tt; sends = at-once-fine queue from below }
  message-fine n (Server queue) from msg.Unlock below sound = record { state = each_drop (λ client. client < nodes) 1 queue sound; outputs = tt; sends = on-fine (drop 1 queue) (each_drop (λ client. client < nodes) 1 queue sound) }
  message-fine n (Server queue) from msg.Locked below sound = stays-fine n (Server queue) sound
  message-fine n (Client held) from msg.Locked below sound = record { state = tt; outputs = (tt, tt); sends = tt }
  message-fine n (Client held) from msg.Lock below sound = stays-fine n (Client held) tt
  message-fine n (Client held) from msg.Unlock below sound = stays-fine n (Client held) tt

  lock-keeps : KeepsTexts net.Bag (lock_server nodes) (no_recovery {S = LockState}) IsAny IsAny (WaitsBelow nodes) IsAny
  lock-keeps = record {
    init = λ n. either (WaitsBelow nodes n) (is_client n) (Client false) (Server []) tt tt;
    input = λ n s i below sound has. input-fine n s i below sound;
    message = λ n s from m below from_below sound has. message-fine n s from m from_below sound;
    timeout = λ n s below sound. stays-fine n s sound;
    reboot = λ n s sound. sound;
  }

  -- and has one output an event at most
  one-answer : (n : ℕ) (s : LockState) (i : LockInput) → TellsOne ((lock_server nodes).input n s i)
  one-answer n (Server queue) i = omega arith
  one-answer n (Client held) ask.Lock = omega arith
  one-answer n (Client true) ask.Unlock = omega arith
  one-answer n (Client false) ask.Unlock = omega arith

  one-of-message : (n : ℕ) (s : LockState) (from : ℕ) (m : LockMsg) → TellsOne ((lock_server nodes).message n s from m)
  one-of-message n (Server queue) from msg.Lock = omega arith
  one-of-message n (Server queue) from msg.Unlock = omega arith
  one-of-message n (Server queue) from msg.Locked = omega arith
  one-of-message n (Client held) from msg.Locked = omega arith
  one-of-message n (Client held) from msg.Lock = omega arith
  one-of-message n (Client held) from msg.Unlock = omega arith

  lock-once : TellsOnce (lock_server nodes)
  lock-once = record { input = one-answer; message = one-of-message; timeout = λ n s. omega arith }

-- its texts are short
short-input : (i : LockInput) → IsAny i → length (texts.input_text i) ≤ most_bytes
short-input ask.Lock has = omega arith
short-input ask.Unlock has = omega arith

short-output : (o : LockOutput) → IsAny o → length (texts.output_text o) ≤ most_bytes
short-output told.Locked has = omega arith

lock-short : AreShortTexts lock_texts IsAny IsAny
lock-short = record { ins = inputs_are_spelled; outs = outputs_are_spelled; short_ins = short-input; short_outs = short-output }

pub locks-spelled : AreSpelledHandlers locks
locks-spelled = handlers-spelled locks IsAny IsAny lock-short (λ n. refl) WaitsBelow IsAny (λ n most. lock-keeps n) lock-once
