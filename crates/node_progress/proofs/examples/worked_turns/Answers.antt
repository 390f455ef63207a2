-- The turns that a node goes through.
use Rattle.std.proofs.Common.{[], ◌∷◌, ◌++◌, refl, sym}
use Rattle.kv_machine.specs.Kv.{kv}
use Rattle.wire_fields.specs.Bytes.{number_bytes}
use Rattle.wire_messages.specs.KvBytes.{kv_command, kv_output}
use Rattle.vst_base.specs.declared.stack.StackId.TheVariants as stack
use Rattle.node_acts.specs.Examples.{who}
use Rattle.node_device.specs.Telling.{told_after}
use Rattle.node_run.specs.Examples.{settings, three_turns}
use Rattle.node_run.specs.Runs.{Starting}
use Rattle.node_records.specs.Examples.{answered, first, known, save}
use Rattle.node_progress.specs.Examples.{begun, voter}
use Rattle.node_progress.proofs.Turns.{event_goes, first_goes, told_thrice}
use Rattle.node_progress.proofs.Worked.{hears, holds, saved, vote}
use Rattle.node_progress.proofs.examples.worked_turns.Goals as goal

pub returns-clause-begins : goal.returns-clause-begins
returns-clause-begins c =
    first_goes settings kv stack.KvRaft kv_command kv_output who first known 0 begun holds refl

pub returns-clause-votes : goal.returns-clause-votes
unfolding number_bytes
returns-clause-votes c =
    event_goes settings kv stack.KvRaft kv_command kv_output who (Starting first) first known 3 voter vote
    three_turns (answered ∷ []) begun (told_after begun (three_turns ++ (save ++ answered ∷ []))) refl hears holds refl saved (tt, tt) refl
    (sym (told_thrice begun three_turns save (answered ∷ [])))
