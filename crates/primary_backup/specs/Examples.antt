-- A schedule on which primary-backup is computed, and nodes with small machines.
use Rattle.std.specs.Prelude.{ℕ, ◌==◌, List, [], ◌∷◌, None, if◌then◌else◌}
use Rattle.vst_base.specs.declared.step.Step.{Step}
use Rattle.vst_base.specs.declared.step.Step.TheVariants as step
use Rattle.primary_backup.specs.Backup.{Backed}

-- three commands at the primary, of which two are acknowledged and the third is applied by the backup, and one at the backup
abbrev pub three_commands : List (Step ℕ)
three_commands = step.In 0 5 ∷ step.In 0 7 ∷ step.Deliver 0 ∷ step.In 1 4 ∷ step.Deliver 1 ∷ step.In 0 9 ∷ step.Deliver 2 ∷ step.Deliver 3 ∷ step.Deliver 4 ∷ []

-- nothing is out, and the machines of the primary and the backup are in these states
abbrev pub nodes_with : ℕ → ℕ → ℕ → Backed ℕ ℕ
nodes_with p b n = record { machine = if n == 0 then p else b; out = None; waiting = [] }
