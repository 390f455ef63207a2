-- Where a node halts.
use Rattle.std.proofs.Common.{[], ◌∷◌, ◌++◌, take, rules, refl, sym, subst, arith}
use Rattle.disk.specs.Acts.{StoreFailed, Sync}
use Rattle.disk.specs.Disk.{contents}
use Rattle.kv_machine.specs.Kv.{kv}
use Rattle.wire_fields.specs.Bytes.{has_bytes, number_bytes, number_in, read_number}
use Rattle.wire_messages.specs.KvBytes.{kv_command, kv_output}
use Rattle.vst_base.specs.declared.stack.StackId.TheVariants as stack
use Rattle.node_body.specs.Journals.{from_gate}
use Rattle.node_acts.specs.Examples.{who}
use Rattle.node_acts.specs.Stores.{found_by}
use Rattle.node_device.specs.Telling.{told_after}
use Rattle.node_run.specs.Examples.{settings, three_turns}
use Rattle.node_run.specs.Runs.{Starting, Between}
use Rattle.node_records.specs.Examples.{answered, first, known, save, voted}
use Rattle.node_records.specs.Moments.{IsAt, Leaves}
use Rattle.node_progress.specs.Examples.{begun, voter}
use Rattle.node_progress.proofs.Halting.{heard_halts, save_halts}
use Rattle.node_progress.proofs.Turns.{saving}
use Rattle.node_progress.proofs.Worked.{hears, holds, saved, two_acts, vote}
use Rattle.node_progress.proofs.examples.worked_halts.Goals as goal

pub returns-clause-heard : goal.returns-clause-heard
returns-clause-heard c =
    heard_halts settings kv stack.KvRaft kv_command kv_output who (Starting first)
    (Between voter) first known (vote ∷ []) 3 three_turns begun hears (omega arith) holds refl

pub returns-clause-in_the_save : goal.returns-clause-in_the_save
unfolding number_bytes
returns-clause-in_the_save c =
    let did = take 1 save ++ StoreFailed (Sync 0) ∷ [] in
    save_halts settings kv stack.KvRaft kv_command kv_output who (Starting first) first known 3 voter vote
    three_turns did begun (told_after begun (three_turns ++ did)) refl hears holds refl two_acts
    ((saving settings kv stack.KvRaft kv_command kv_output who known first voted begun.disk refl saved).short
    did two_acts).1 refl

-- the answer before the save
no_vote : IsAt settings kv kv_command kv_output (found_by stack.KvRaft kv_command who) (Starting first) first
    (three_turns ++ answered ∷ []) (contents begun.disk) → ⊥
unfolding number_bytes number_in has_bytes read_number from_gate
no_vote = search rules

pub returns-clause-answered_too_soon : goal.returns-clause-answered_too_soon
returns-clause-answered_too_soon c = λ x.
    no_vote (subst (λ acts. Leaves settings kv kv_command kv_output (found_by stack.KvRaft kv_command who)
    (Starting first) first begun.disk acts) (sym x.acts) x.leaves 8 (contents begun.disk) refl)
