-- The worked turns, by the laws of turns.
use Rattle.std.proofs.Common.{◌≡◌, false, [], ◌∷◌, ◌++◌, take, rules, refl, inr}
use Rattle.disk.specs.Acts.{StoreFailed, Sync}
use Rattle.disk.specs.DiskLaws.{IsCutShort}
use Rattle.kv_machine.specs.Kv.{kv}
use Rattle.kv_machine.specs.declared.cmd.KvCmd.{KvCmd}
use Rattle.wire_fields.specs.Bytes.{has_bytes, number_bytes, number_in, read_number}
use Rattle.wire_messages.specs.KvByteLaws.{kv_command_is_format}
use Rattle.wire_messages.specs.KvBytes.{kv_command, kv_output}
use Rattle.vst_base.specs.declared.stack.StackId.TheVariants as stack
use Rattle.node_body.specs.CommandLengths.{kv_length}
use Rattle.node_body.specs.Journals.{from_gate}
use Rattle.node_acts.specs.StateActs.{state_acts}
use Rattle.node_acts.specs.StateLaws.{HasBytes, StateSaved}
use Rattle.node_acts.specs.Stores.{Holds, is_held}
use Rattle.node_acts.proofs.StateSaves.{save_keeps_state}
use Rattle.node_run.specs.Examples.{at_port, candidate, done, settings, three_turns}
use Rattle.node_run.specs.Runs.{Done, Starting, Between}
use Rattle.node_records.specs.Examples.{answer, first, known, save, voted}
use Rattle.node_records.specs.Records.{HearsAs}
use Rattle.node_progress.specs.Examples.{begun, voter}

pub holds : Holds stack.KvRaft kv_command known first begun.disk
unfolding number_bytes number_in has_bytes read_number from_gate
holds = record {
  pending = search rules;
  selector = refl;
  slot = _;
  found = refl;
  version = refl;
  kept_is = refl;
  left = refl;
  gate = inr refl;
  knows = record { term = refl; voted = refl; terms = refl };
}

abbrev pub vote : Done KvCmd
vote = done (candidate 1 1) voted ((at_port 7001, answer) ∷ [])

pub hears : HearsAs settings kv kv_command kv_output (Starting first) three_turns (vote ∷ []) 3 (Between voter)
unfolding number_bytes number_in has_bytes read_number
hears = search rules

has : is_held known voted ≡ false → HasBytes stack.KvRaft kv_command known voted
unfolding number_bytes number_in has_bytes read_number
has e = search rules

pub saved : StateSaved stack.KvRaft kv_command known first voted begun.disk
saved =
    save_keeps_state stack.KvRaft kv_command kv_command_is_format kv_length known first voted begun.disk holds
    refl has

-- the first write, and then the sync that failed
pub two_acts : IsCutShort (state_acts stack.KvRaft kv_command known voted) (take 1 save ++ StoreFailed (Sync 0) ∷ [])
unfolding number_bytes
two_acts = search rules
