-- Which candidate is taken, if there is one.
use Rattle.std.specs.Prelude.{ℕ, ◌%◌, List, length, if◌then◌else◌, Option, None, slice_get}
use Rattle.handler_trait.specs.Handling.{Meaning}
use Rattle.net_semantics.specs.Worlds.{World}
use Rattle.vst_base.specs.Nets.{has_kind}
use Rattle.vst_base.specs.declared.net.Net.{Net}
use Rattle.vst_base.specs.declared.step.StepKind.{StepKind}
use Rattle.schedule_make.specs.Candidates.{candidates}

-- the candidate of this number, counted round
abbrev pub picked : List ℕ → ℕ → Option ℕ
picked cs number = slice_get cs (number % length cs)

-- that of a kind of step, where the network has such steps
abbrev pub offered : {S K I O M : Type 0} → Net → Meaning S I O M → World S K M → StepKind → ℕ → Option ℕ
offered net m w k number = if has_kind net k then picked (candidates net m w k) number else None
