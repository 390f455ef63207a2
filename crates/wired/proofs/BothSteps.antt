-- Handlers that keep bytes, and whose packets are bytes, run as the handlers within.
use Rattle.std.specs.Prelude.{ℕ, List}
use Rattle.std.specs.List.{All}
use Rattle.std.proofs.Common.{ap, ◌∙◌, sym, subst}
use Rattle.handler_trait.specs.Handling.{Meaning, Recovery}
use Rattle.vst_base.specs.declared.stack.StackId.{StackId}
use Rattle.wire_fields.specs.Formats.{Format, IsFormat}
use Rattle.wired.specs.BytesAlone.{BytesRunTheSame}
use Rattle.wired.specs.Saving.{ReadsBack, Saving, saved, saved_recovery}
use Rattle.wired.specs.WiredRuns.{IsSpelledPacket, world_in_bytes}
use Rattle.wired.proofs.SavedSteps.{saved_runs}
use Rattle.wired.proofs.WiredSteps.{wired_runs}

pub both_runs : {S K I O M : Type 0} (f : Format M) (is_f : IsFormat f) (stack : StackId) (name : List ℕ) (saving : Saving K) (back : ReadsBack saving)
    (m : Meaning S I O M) (r : Recovery S K) → BytesRunTheSame f stack name saving m r
both_runs f is_f stack name saving back m r net ss all each =
    let kept = saved_runs saving back m r net ss each in
    let spelled = subst (λ w. All (IsSpelledPacket f stack name) w.packets) (sym kept.world) all in
    let sent = wired_runs f is_f stack name (saved m) (saved_recovery saving m r) net ss spelled in
    record {
      refused = sent.refused ∙ kept.refused;
      trace = sent.trace ∙ kept.trace;
      world = sent.world ∙ ap (world_in_bytes f stack name) kept.world;
      next_refused = λ s. sent.next_refused s ∙ kept.next_refused s;
    }
