-- The mirror is spelled. Its values have texts, since each was put; and a sender has one where there are no more nodes than there may be.
use Rattle.std.specs.Prelude.{◌≡◌, ℕ, ◌<◌, ◌≤◌, ◌==◌, nat_lt, true, length, refl, IsTrue}
use Rattle.std.proofs.Common.{arith}
use Rattle.std.proofs.lemmas.Bool.{and_from, and_parts}
use Rattle.app_text.specs.MirrorTextLaws.{inputs_are_spelled, outputs_are_spelled}
use Rattle.app_text.specs.MirrorTexts.{input_text, input_words, is_input, is_output, output_text, output_words}
use Rattle.mirror.specs.Mirroring.{MirrorEffect, input_effect, mirror, nothing, said}
use Rattle.vst_base.specs.declared.mirror.MirrorInput.{MirrorInput}
use Rattle.vst_base.specs.declared.mirror.MirrorInput.TheVariants as ask
use Rattle.vst_base.specs.declared.mirror.MirrorMsg.{MirrorMsg}
use Rattle.vst_base.specs.declared.mirror.MirrorMsg.TheVariants as msg
use Rattle.vst_base.specs.declared.mirror.MirrorOutput.{MirrorOutput}
use Rattle.vst_base.specs.declared.mirror.MirrorOutput.TheVariants as told
use Rattle.net_semantics.specs.Runs.{no_recovery}
use Rattle.stacks.specs.Table.{mirror_texts, mirrors}
use Rattle.vst_base.specs.Tokens.{is_value}
use Rattle.vst_base.specs.declared.net.Net.TheVariants as net
use Rattle.vst_base.specs.declared.node.TheConstants.{MAX_NODES}
use Rattle.trace_check.specs.Spelled.{AreSpelledHandlers, most_bytes}
use Rattle.trace_check.proofs.Eaches.{either}
use Rattle.trace_check.proofs.Handlers.{handlers-spelled}
use Rattle.trace_check.proofs.Machines.{AreShortTexts}
use Rattle.trace_check.proofs.Runs.{IsFine, KeepsTexts}
use Rattle.trace_check.proofs.TraceLengths.{TellsOne, TellsOnce}
use Rattle.trace_check.proofs.Words.{joined-length, token-length}

abbrev IsInput : MirrorInput → Type 0
IsInput i = IsTrue (is_input i)

abbrev IsOutput : MirrorOutput → Type 0
IsOutput o = IsTrue (is_output o)

-- the value of a message is one that has a text
abbrev IsItem : MirrorMsg → Type 0
IsItem (msg.Item value) = is_value value ≡ true

abbrev IsAny : ℕ → Unit {0} → Type 0
IsAny n s = Unit {0}

few-senders : (n nodes : ℕ) → n < nodes → nodes ≤ MAX_NODES → nat_lt n MAX_NODES ≡ true
few-senders n nodes below few = grind arith

module _ (nodes : ℕ) where
  abbrev IsMirrorFine : ℕ → MirrorEffect → Type 0
  IsMirrorFine n e = IsFine net.Ord (mirror nodes) (no_recovery {S = Unit {0}}) IsInput IsOutput IsAny IsItem n e

  input-fine : (n : ℕ) (i : MirrorInput) → n < nodes → IsInput i → IsMirrorFine n (input_effect i)
  input-fine n (ask.Put value) below has = record { state = tt; outputs = tt; sends = ((omega (arith, below), has), tt) }

  nothing-fine : (n : ℕ) → IsMirrorFine n nothing
  nothing-fine n = record { state = tt; outputs = tt; sends = tt }

  said-fine : nodes ≤ MAX_NODES → (n from : ℕ) (m : MirrorMsg) → from < nodes → IsItem m → IsMirrorFine n (said from m)
  said-fine few n from (msg.Item value) below has = record { state = tt; outputs = (and_from (nat_lt from MAX_NODES) (is_value value) (few-senders from nodes below few) has, tt); sends = tt }

  mirror-keeps : nodes ≤ MAX_NODES → KeepsTexts net.Ord (mirror nodes) (no_recovery {S = Unit {0}}) IsInput IsOutput IsAny IsItem
  mirror-keeps few = record {
    init = λ n. tt;
    input = λ n s i below sound has. input-fine n i below has;
    message = λ n s from m below from_below sound has. either (IsMirrorFine n) (n == 0) (said from m) nothing (said-fine few n from m from_below has) (nothing-fine n);
    timeout = λ n s below sound. nothing-fine n;
    reboot = λ n s sound. tt;
  }

  -- and has one output an event at most
  one-of-input : (i : MirrorInput) → TellsOne (input_effect i)
  one-of-input (ask.Put value) = omega arith

  one-of-message : (from : ℕ) (m : MirrorMsg) → TellsOne (said from m)
  one-of-message from (msg.Item value) = omega arith

  mirror-once : TellsOnce (mirror nodes)
  mirror-once = record {
    input = λ n s i. one-of-input i;
    message = λ n s from m. either TellsOne (n == 0) (said from m) nothing (one-of-message from m) (omega arith);
    timeout = λ n s. omega arith;
  }

-- its texts are short
short-input : (i : MirrorInput) → IsInput i → length (input_text i) ≤ most_bytes
short-input (ask.Put value) has = let a = token-length 1024 value has in omega (arith, a, joined-length (input_words (ask.Put value)))

short-output : (o : MirrorOutput) → IsOutput o → length (output_text o) ≤ most_bytes
short-output (told.From n value) has = let a = token-length 1024 value (and_parts (nat_lt n MAX_NODES) (is_value value) has).1 in omega (arith, a, joined-length (output_words (told.From n value)))

mirror-short : AreShortTexts mirror_texts IsInput IsOutput
mirror-short = record { ins = inputs_are_spelled; outs = outputs_are_spelled; short_ins = short-input; short_outs = short-output }

pub mirrors-spelled : AreSpelledHandlers mirrors
mirrors-spelled = handlers-spelled mirrors IsInput IsOutput mirror-short (λ n. refl) (λ nodes. IsAny) IsItem mirror-keeps mirror-once
