-- What it is that handlers whose packets are bytes, and that keep bytes, do as the handlers within.
use Rattle.std.specs.Prelude.{ℕ, List}
use Rattle.std.specs.List.{All}
use Rattle.handler_trait.specs.Handling.{Meaning, Recovery}
use Rattle.net_semantics.specs.Runs.{run}
use Rattle.net_semantics.specs.Worlds.{first_world}
use Rattle.vst_base.specs.declared.net.Net.{Net}
use Rattle.vst_base.specs.declared.stack.StackId.{StackId}
use Rattle.vst_base.specs.declared.step.Step.{Step}
use Rattle.wire_fields.specs.Formats.{Format}
use Rattle.wired.specs.Same.{RunsTheSame}
use Rattle.wired.specs.Saving.{EachKeepsBytes, Saving, saved, saved_recovery, world_saved}
use Rattle.wired.specs.WiredRuns.{IsSpelledPacket, world_in_bytes}
use Rattle.wired.specs.Wiring.{wired}

-- so it is on each schedule on which the handlers within neither send nor keep anything without bytes
abbrev pub BytesRunTheSame : {S K I O M : Type 0} → Format M → StackId → List ℕ → Saving K → Meaning S I O M → Recovery S K → Type 0
BytesRunTheSame {S} {K} {I} {O} {M} f stack name saving m r = (net : Net) (ss : List (Step I))
    → All (IsSpelledPacket f stack name) (run m r ss).packets → EachKeepsBytes saving m r (first_world m) ss
    → RunsTheSame net (wired f stack name (saved m)) (saved_recovery saving m r) m r (λ w. world_in_bytes f stack name (world_saved saving w)) ss
