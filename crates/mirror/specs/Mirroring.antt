-- The mirror as functions: what is put at a node, node 0 outputs with the node's number.
use Rattle.std.specs.Prelude.{ℕ, nat_lt, [], ◌∷◌, ◌==◌, if◌then◌else◌}
use Rattle.handler_trait.specs.Handling.{Meaning, Effect}
use Rattle.vst_base.specs.declared.mirror.MirrorInput.{MirrorInput}
use Rattle.vst_base.specs.declared.mirror.MirrorInput.TheVariants as ask
use Rattle.vst_base.specs.declared.mirror.MirrorOutput.{MirrorOutput}
use Rattle.vst_base.specs.declared.mirror.MirrorOutput.TheVariants as told
use Rattle.vst_base.specs.declared.mirror.MirrorMsg.{MirrorMsg}
use Rattle.vst_base.specs.declared.mirror.MirrorMsg.TheVariants as msg

-- no node remembers anything
abbrev pub MirrorEffect : Type 0
MirrorEffect = Effect (Unit {0}) MirrorOutput MirrorMsg

abbrev pub nothing : MirrorEffect
nothing = record { state = tt; outputs = []; sends = [] }

-- a value that is put goes to node 0
abbrev pub input_effect : MirrorInput → MirrorEffect
input_effect (ask.Put value) = record { state = tt; outputs = []; sends = (0, msg.Item value) ∷ [] }

-- node 0 says from whom a value came
abbrev pub said : ℕ → MirrorMsg → MirrorEffect
said from (msg.Item value) = record { state = tt; outputs = told.From from value ∷ []; sends = [] }

-- every node but node 0 takes input; a message at another than node 0 does nothing, nor does a timer
abbrev pub mirror : ℕ → Meaning (Unit {0}) MirrorInput MirrorOutput MirrorMsg
mirror nodes = record {
  nodes = nodes;
  takes_input = λ n. nat_lt 0 n;
  init = λ n. tt;
  input = λ n s i. input_effect i;
  message = λ n s from m. if n == 0 then said from m else nothing;
  timeout = λ n s. nothing;
}
