-- The mirror sends only values that have bytes, one in an event at most, to nodes that exist.
use Rattle.std.specs.Prelude.{ℕ, ◌+◌, ◌<◌, ◌≤◌, ◌==◌, Bool, true, false, cond, length}
use Rattle.std.proofs.Common.{arith, length-append}
use Rattle.mirror.specs.Mirroring.{MirrorEffect, input_effect, mirror, nothing, said}
use Rattle.vst_base.specs.declared.mirror.MirrorInput.{MirrorInput}
use Rattle.vst_base.specs.declared.mirror.MirrorInput.TheVariants as ask
use Rattle.vst_base.specs.declared.mirror.MirrorMsg.{MirrorMsg}
use Rattle.vst_base.specs.declared.mirror.MirrorMsg.TheVariants as msg
use Rattle.net_semantics.specs.Runs.{no_recovery}
use Rattle.vst_base.specs.declared.token.TheConstants.{MAX_VALUE}
use Rattle.wire_fields.specs.ByteLaws.{length-number_bytes}
use Rattle.wire_fields.specs.Bytes.{number_bytes}
use Rattle.wire_messages.specs.PeerBytes.{mirror_message}
use Rattle.wired.specs.Dealing.{DealsInBytes, GoesOn, nothing_saved}
use Rattle.wired.specs.Sending.{HasMirror, HasPut}

pub mirror_fits : (from to : ℕ) (x : MirrorMsg) → HasMirror from to x
    → mirror_message.Fits x × (length (mirror_message.spell x) ≤ MAX_VALUE + 3)
mirror_fits from to (msg.Item v) fits =
    (fits, omega (arith, length-append (number_bytes 2 (length v)) v, length-number_bytes 2 (length v), fits.0.1))

module _ (nodes : ℕ) where
  abbrev Goes : ℕ → MirrorEffect → Type 0
  Goes n e = GoesOn HasMirror 1 nodes (λ s. Unit {0}) n e

  goes_nowhere : (n : ℕ) → Goes n nothing
  goes_nowhere n = record { state = tt; few = omega arith; sends = tt }

  goes_said : (n from : ℕ) (x : MirrorMsg) (b : Bool) → Goes n (cond b (said from x) nothing)
  goes_said n from (msg.Item v) true = record { state = tt; few = omega arith; sends = tt }
  goes_said n from x false = goes_nowhere n

  goes_put : (n : ℕ) (i : MirrorInput) → n < nodes → HasPut i → Goes n (input_effect i)
  goes_put n (ask.Put v) below fits = record { state = tt; few = omega arith; sends = ((omega (arith, below), fits), tt) }

  pub mirror_deals : DealsInBytes HasMirror 1 nothing_saved HasPut (mirror nodes) (no_recovery {S = Unit {0}}) (λ t n s. Unit {0})
  mirror_deals = record {
    init = λ n below. tt;
    later = λ t n s good. tt;
    input = λ t n s i few below takes has good. goes_put n i below has;
    message = λ t n s from x few below from_below has good. goes_said n from x (n == 0);
    timeout = λ t n s few below good. goes_nowhere n;
    keep = λ t n s below good. tt;
    reboot = λ t n s below good. tt;
  }
