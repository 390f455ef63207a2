-- Runs that a fault ended.
use Rattle.std.proofs.Common.{◌≡◌, List, [], ◌∷◌, ◌++◌, take, rules, refl, sym, ap, subst, ◌∙◌, arith, inl, inr}
use Rattle.std.proofs.lemmas.List.{append_cancel_left}
use Rattle.disk.specs.Acts.{Act, Now, ReceiveFailed, StoreFailed, Sync}
use Rattle.disk.specs.DiskLaws.{IsCutShort}
use Rattle.disk.proofs.CutShort.{fronts_are_cut_short}
use Rattle.kv_machine.specs.Kv.{kv}
use Rattle.kv_machine.specs.declared.cmd.KvCmd.{KvCmd}
use Rattle.raft_types.specs.Messages.{KeptView}
use Rattle.vst_base.specs.declared.stack.StackId.TheVariants as stack
use Rattle.wire_fields.specs.Bytes.{number_bytes}
use Rattle.wire_messages.specs.KvByteLaws.{kv_command_is_format}
use Rattle.wire_messages.specs.KvBytes.{kv_command, kv_output}
use Rattle.node_body.specs.CommandLengths.{kv_length}
use Rattle.node_acts.proofs.StateOpens.{opening_leaves}
use Rattle.node_core.specs.Replicas.{view_of, who_of}
use Rattle.node_datagrams.specs.Configured.{settings_of}
use Rattle.node_device.specs.Telling.{Told, told_after}
use Rattle.node_progress.proofs.Halting.{heard_halts}
use Rattle.node_records.specs.Examples.{first, known}
use Rattle.node_records.specs.Records.{HearsAs}
use Rattle.node_run.specs.Runs.{AreOrderly, Starting, Between, Broken}
use Rattle.udp_node.specs.Examples.{begun, config, fresh_opening, opens_by}
use Rattle.udp_node.specs.Serving.{Interrupted, Unopened}
use Rattle.udp_node.proofs.Served.{at_most}
use Rattle.udp_node.proofs.Worked.{booted, fits, held, opened, started, started_at}
use Rattle.udp_node.proofs.serving_examples.worked_faults.Goals as goal

hears_fault : HearsAs (settings_of config) kv kv_command kv_output (Between (view_of booted)) (Now 0 ∷ ReceiveFailed 300 ∷ []) [] 0 Broken
hears_fault = search rules

hears_all : HearsAs (settings_of config) kv kv_command kv_output (Starting first) (Now 0 ∷ Now 0 ∷ ReceiveFailed 300 ∷ []) [] 0 Broken
hears_all = search rules

pub returns-clause-in_a_receive : goal.returns-clause-in_a_receive
unfolding number_bytes
returns-clause-in_a_receive c =
    let now : Told = told_after begun (fresh_opening ++ (Now 0 ∷ Now 0 ∷ ReceiveFailed 300 ∷ [])) in
    record {
      first = booted;
      begun = started_at;
      starts = started;
      each = record {
        count = 0;
        below = omega arith;
        middle = booted;
        mid = started_at;
        each = (refl, refl);
        last = at_most stack.KvRaft config kv kv_command kv_output (Between (view_of booted)) first known 0 1
            started_at now (omega arith)
            (heard_halts (settings_of config) kv stack.KvRaft kv_command kv_output (who_of config)
            (Between (view_of booted)) Broken first known [] 0 (Now 0 ∷ ReceiveFailed 300 ∷ []) started_at hears_fault (omega arith) held refl);
      };
      all = at_most stack.KvRaft config kv kv_command kv_output (Starting first) first known 0 3 opened now
          (omega arith)
          (heard_halts (settings_of config) kv stack.KvRaft kv_command kv_output (who_of config) (Starting first)
          Broken first known [] 0 (Now 0 ∷ Now 0 ∷ ReceiveFailed 300 ∷ []) opened hears_all (omega arith) held refl);
    }

-- what a run that was interrupted did after its opening
acts_of : (acts : List Act)
    (x : Interrupted stack.KvRaft config kv kv_command kv_output 3 begun (told_after begun acts)) →
    begun.acts ++ acts ≡ (begun.acts ++ opens_by begun) ++ x.all.did
acts_of acts x = x.all.acts ∙ ap (λ (told : Told). told.acts ++ x.all.did) x.starts.opening.is

no_turn : AreOrderly (settings_of config) kv kv_command kv_output (Starting first) (Now 0 ∷ Now 0 ∷ ReceiveFailed 299 ∷ []) → ⊥
no_turn = search rules

pub returns-clause-after_another_wait : goal.returns-clause-after_another_wait
unfolding number_bytes
returns-clause-after_another_wait c = λ x.
    let rest : List Act = Now 0 ∷ Now 0 ∷ ReceiveFailed 299 ∷ [] in
    let did : rest ≡ x.all.did = append_cancel_left (begun.acts ++ fresh_opening) rest x.all.did (acts_of (fresh_opening ++ rest) x) in
    no_turn
    (subst (λ (kept : KeptView KvCmd). AreOrderly (settings_of config) kv kv_command kv_output (Starting kept) rest) x.starts.opening.from
    (subst (λ acts. AreOrderly (settings_of config) kv kv_command kv_output (Starting x.starts.kept) acts) (sym did) x.all.stopped.orderly))

unopened : (did : List Act) → IsCutShort (opens_by begun) did →
    Unopened stack.KvRaft config kv_command begun (told_after begun did)
unopened did short = record {
  stopped = (did, short, record { acts = refl; disk = λ image m. m });
  leaves = record {
    did = did;
    acts = refl;
    each = λ n image m third.
        opening_leaves stack.KvRaft kv_command kv_command_is_format kv_length (who_of config) begun.disk
        (take n did) image (fronts_are_cut_short (opens_by begun) did n short) fits m third;
  };
}

pub returns-clause-in_the_first_sync : goal.returns-clause-in_the_first_sync
unfolding number_bytes
returns-clause-in_the_first_sync c = inl (unopened (StoreFailed (Sync 0) ∷ []) (inr (inl refl, refl)))

pub returns-clause-for_want_of_memory : goal.returns-clause-for_want_of_memory
returns-clause-for_want_of_memory c = inl (unopened [] tt)

pub returns-clause-in_a_sync_as_a_receive : goal.returns-clause-in_a_sync_as_a_receive
unfolding number_bytes
returns-clause-in_a_sync_as_a_receive c = λ x. cc (acts_of (StoreFailed (Sync 0) ∷ []) x)
