-- Handlers that tell of their events send as many packets as the handlers within, to the same nodes, and use up as much.
use Rattle.std.specs.Prelude.{ℕ, ◌<◌, List, IsTrue}
use Rattle.std.proofs.Common.{arith}
use Rattle.handler_trait.specs.Handling.{Effect, IsModest, Meaning}
use Rattle.drawn_schedules.specs.Telling.{telling, told}

module _ {H S I O M : Type 0} (meaning : H → Meaning S I O M) (sound : H → ℕ → S → Type 0) (spent : H → S → ℕ) (sends : ℕ) where
  abbrev IsModestWithin : {Q : Type 0} → H → ℕ → S → Effect S Q M → Type 0
  IsModestWithin h n s e = IsModest (meaning h).nodes sends (sound h n) (spent h) s e

  -- what these make of an input, of a message or of a tick at a node within is modest
  abbrev AreInputsModest : {Q : Type 0} → (H → Meaning S I Q M) → Type 0
  AreInputsModest made =
      (h : H) (n : ℕ) (s : S) (i : I) → n < (meaning h).nodes → IsTrue ((meaning h).takes_input n) → sound h n s
      → IsModestWithin h n s ((made h).input n s i)

  abbrev AreMessagesModest : {Q : Type 0} → (H → Meaning S I Q M) → Type 0
  AreMessagesModest made =
      (h : H) (n : ℕ) (s : S) (from : ℕ) (m : M) → n < (meaning h).nodes → from < (meaning h).nodes → sound h n s
      → IsModestWithin h n s ((made h).message n s from m)

  abbrev AreTicksModest : {Q : Type 0} → (H → Meaning S I Q M) → Type 0
  AreTicksModest made = (h : H) (n : ℕ) (s : S) → n < (meaning h).nodes → sound h n s → IsModestWithin h n s ((made h).timeout n s)

  abbrev tells : H → Meaning S I (List O) M
  tells h = telling (meaning h)

  modest_told : (h : H) (n : ℕ) (s : S) (e : Effect S O M) → IsModestWithin h n s e → IsModestWithin h n s (told e)
  modest_told h n s e modest = record {
    few = modest.few;
    to_nodes = modest.to_nodes;
    cheap = modest.cheap;
    few_outputs = λ ok. omega arith;
  }

  pub modest_input : AreInputsModest meaning → AreInputsModest tells
  modest_input inner h n s i below takes ok = modest_told h n s ((meaning h).input n s i) (inner h n s i below takes ok)

  pub modest_message : AreMessagesModest meaning → AreMessagesModest tells
  modest_message inner h n s from m below from_below ok =
      modest_told h n s ((meaning h).message n s from m) (inner h n s from m below from_below ok)

  pub modest_timeout : AreTicksModest meaning → AreTicksModest tells
  modest_timeout inner h n s below ok = modest_told h n s ((meaning h).timeout n s) (inner h n s below ok)
