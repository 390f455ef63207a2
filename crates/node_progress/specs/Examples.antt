-- The turns of node 0 by which it votes for node 1, on a slot whose bytes were worked out by hand.
use Rattle.std.specs.Prelude.{ℕ, List, [], ◌∷◌, ◌++◌}
use Rattle.disk.specs.Acts.{Act}
use Rattle.disk.specs.Disk.{settled}
use Rattle.kv_machine.specs.Kv.{Store, kv}
use Rattle.kv_machine.specs.declared.cmd.KvCmd.{KvCmd}
use Rattle.kv_machine.specs.declared.out.KvOut.{KvOut}
use Rattle.raft_types.specs.Messages.{KeptView}
use Rattle.raft_xform.specs.Raft.{raft_recovery}
use Rattle.vst_base.specs.declared.stack.StackId.TheVariants as stack
use Rattle.wire_messages.specs.KvBytes.{kv_command, kv_output}
use Rattle.node_body.specs.Examples.{first_slot}
use Rattle.node_acts.specs.Examples.{who}
use Rattle.node_acts.specs.Stores.{StoreView}
use Rattle.node_device.specs.Telling.{Told, told_after}
use Rattle.node_run.specs.Examples.{candidate, settings}
use Rattle.node_run.specs.Runs.{NodeView, Starting, effect_of}
use Rattle.node_records.specs.Examples.{first, known}
use Rattle.node_progress.specs.Progress.{Goes, Halts}

-- a device that has done nothing yet, whose areas hold the first state
abbrev pub begun : Told
begun = record { acts = []; disk = record { slot0 = settled (first_slot ++ 0 ∷ []); slot1 = settled []; selector = settled (0 ∷ []) } }

-- after its first clock value at 0, and after the vote, at 0 too
abbrev pub booted : NodeView Store KvCmd KvOut
booted = record { state = (raft_recovery kv).reboot settings.me first; deadline = 300 }

abbrev pub voter : NodeView Store KvCmd KvOut
voter = record { state = (effect_of settings kv kv_command kv_output booted.state (candidate 1 1)).state; deadline = 300 }

abbrev pub goes : ℕ → NodeView Store KvCmd KvOut → KeptView KvCmd → StoreView → List Act → Type 0
goes count node kept store acts =
    Goes settings kv stack.KvRaft kv_command kv_output who (Starting first) first known count node kept store
    begun (told_after begun acts)

abbrev pub halts : ℕ → List Act → Type 0
halts most acts =
    Halts settings kv stack.KvRaft kv_command kv_output who (Starting first) first known most begun
    (told_after begun acts)
