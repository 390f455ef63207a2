-- What the small application of handler_trait makes of worlds, and a small machine.
use Rattle.std.specs.Prelude.{ℕ, ◌+◌, List, Option}
use Rattle.handler_trait.specs.Echo.{echo, echo_recovery}
use Rattle.vst_base.specs.Machines.{MachineMeaning}
use Rattle.vst_base.specs.declared.net.Net.{Net}
use Rattle.vst_base.specs.declared.step.Step.{Step}
use Rattle.vst_base.specs.declared.step.StepRefusal.{StepRefusal}
use Rattle.net_semantics.specs.Worlds.{World}
use Rattle.net_semantics.specs.Steps.{refusal_of}
use Rattle.net_semantics.specs.Runs.{run}

-- two nodes after these steps, and why a network refuses the next
abbrev pub echo_after : List (Step ℕ) → World ℕ ℕ ℕ
echo_after ss = run (echo 2) echo_recovery ss

abbrev pub echo_refuses : Net → List (Step ℕ) → Step ℕ → Option StepRefusal
echo_refuses net ss s = refusal_of net (echo 2) (echo_after ss) s

-- a machine that answers with the sum before each command
abbrev pub adder : MachineMeaning ℕ ℕ ℕ
adder = record { init = 0; apply = λ s c. (s + c, s) }
