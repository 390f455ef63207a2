-- A machine alone: what it is asked, as handlers at one node of a network whose messages carry nothing, and what a map to it
-- stands for.
use Rattle.std.specs.Prelude.{[], List, ◌∷◌, ◌≡◌, ℕ, ◌-◌, ◌^◌, min, map}
use Rattle.handler_trait.specs.Handling.{Effect, Meaning}
use Rattle.vst_base.specs.Machines.{MachineMeaning}
use Rattle.net_semantics.specs.Runs.{machine}
use Rattle.vst_base.specs.declared.step.Step.{Step}
use Rattle.vst_base.specs.declared.step.Step.TheVariants as step
use Rattle.vst_base.specs.declared.pb_out.PbOut.{PbOut}
use Rattle.vst_base.specs.declared.step.Item.{Item}
use Rattle.net_semantics.specs.BelowPb.{inputs_at, outputs_at, replies_in}

-- the schedule of a machine alone, over these commands
abbrev pub alone : {C : Type 0} → List C → List (Step C)
alone cs = map (λ c. step.In 0 c) cs

-- a count stops at the greatest 64-bit number
abbrev pub counted : ℕ → ℕ
counted n = min n (2 ^ 64 - 1)

-- what a machine alone would take if each input at the primary were replied to, and the count of the replies from there
pub record Seen (C : Type 0) : Type 0 where
  pub inputs : List (Step C)
  pub replies : ℕ

-- clients saw these items
pub record HasSeen {C O : Type 0} (s : Seen C) (items : List (Item C (PbOut O))) : Type 0 where
  pub inputs : s.inputs ≡ alone (inputs_at 0 items)
  pub replies : s.replies ≡ counted (replies_in (outputs_at 0 items))

-- what clients give, in order
abbrev pub commands : {C : Type 0} → List (Step C) → List C
commands [] = []
commands (step.In n c ∷ ss) = c ∷ commands ss
commands (step.Deliver k ∷ ss) = commands ss
commands (step.Tick n ∷ ss) = commands ss
commands (step.Dup k ∷ ss) = commands ss
commands (step.Lose k ∷ ss) = commands ss
commands (step.Crash n ∷ ss) = commands ss
commands (step.Reboot n ∷ ss) = commands ss

-- what an event makes of a node, but that it sends nothing
abbrev pub unsent : {S O : Type 0} → Effect S O ⊥ → Effect S O (Unit {0})
unsent e = record { state = e.state; outputs = e.outputs; sends = [] }

-- handlers without messages on a network that has them: they send none, and one that comes changes nothing
abbrev pub silent : {S I O : Type 0} → Meaning S I O ⊥ → Meaning S I O (Unit {0})
silent m = record {
  nodes = m.nodes;
  takes_input = m.takes_input;
  init = m.init;
  input = λ n s i. unsent (m.input n s i);
  message = λ n s from c. record { state = s; outputs = []; sends = [] };
  timeout = λ n s. unsent (m.timeout n s);
}

abbrev pub single_node : {S C O : Type 0} → MachineMeaning S C O → Meaning S C O (Unit {0})
single_node m = silent (machine m)
