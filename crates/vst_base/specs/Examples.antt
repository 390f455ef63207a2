-- What the definitions are computed on.
use Rattle.std.specs.Prelude.{ℕ, ◌+◌, min, List, [], ◌∷◌, Some, None}
use Rattle.vst_base.specs.Machines.{MachineMeaning}
use Rattle.vst_base.specs.Nets.{StepView, AtNode, OfPacket, Stops, Starts, Delivered, Copied, Lost}
use Rattle.vst_base.specs.declared.net.Net.{Net}
use Rattle.vst_base.specs.declared.net.Net.TheVariants as net
use Rattle.vst_base.specs.declared.step.Step.{Step}
use Rattle.vst_base.specs.declared.step.Step.TheVariants as step
use Rattle.vst_base.specs.declared.step.StepKind.{StepKind}
use Rattle.vst_base.specs.declared.step.StepKind.TheVariants as kind

abbrev pub kinds : List StepKind
kinds = kind.In ∷ kind.Deliver ∷ kind.Tick ∷ kind.Dup ∷ kind.Lose ∷ kind.Crash ∷ kind.Reboot ∷ []

-- a step of each kind
abbrev pub steps : List (Step ℕ)
steps = step.In 1 7 ∷ step.Deliver 3 ∷ step.Tick 2 ∷ step.Dup 3 ∷ step.Lose 3 ∷ step.Crash 0 ∷ step.Reboot 0 ∷ []

abbrev pub views : List (StepView ℕ)
views = AtNode 1 (Some 7) ∷ OfPacket 3 Delivered ∷ AtNode 2 None ∷ OfPacket 3 Copied ∷ OfPacket 3 Lost ∷ Stops 0 ∷ Starts 0 ∷ []

abbrev pub nets : List Net
nets = net.One ∷ net.Bag ∷ net.Dup ∷ net.Fail ∷ net.Ord ∷ net.Loss ∷ net.Acts ∷ []

-- a machine that adds each command up to 255, and answers with the sum before it
abbrev pub counter : MachineMeaning ℕ ℕ ℕ
counter = record { init = 0; apply = λ s c. (min (s + c) 255, s) }
