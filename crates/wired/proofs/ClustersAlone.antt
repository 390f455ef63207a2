-- The clusters over any machine run as before on bytes alone, in each stack whose messages are theirs.
use Rattle.std.specs.Prelude.{ℕ, ◌≤◌, Bool, length}
use Rattle.std.proofs.Common.{arith}
use Rattle.node_body.specs.declared.commands.TheConstants.{MAX_COMMAND}
use Rattle.raft_reads.specs.ReadRaft.{read_raft, read_recovery}
use Rattle.raft_types.specs.Messages.{IsClusterSize}
use Rattle.raft_xform.specs.Raft.{raft, raft_recovery}
use Rattle.vst_base.specs.Machines.{MachineMeaning}
use Rattle.vst_base.specs.declared.stack.StackId.{StackId}
use Rattle.wire_codec.specs.Headings.{HasByte}
use Rattle.wire_fields.specs.Formats.{Format, IsFormat}
use Rattle.wire_messages.specs.RaftByteLaws.{raft_message_is_format}
use Rattle.wire_messages.specs.RaftBytes.{raft_message}
use Rattle.wire_messages.specs.ReadByteLaws.{read_message_is_format}
use Rattle.wire_messages.specs.ReadBytes.{read_message}
use Rattle.wired.specs.RaftDealLaws.{raft_deals}
use Rattle.wired.specs.RaftFitLaws.{raft_fits}
use Rattle.wired.specs.RaftSaving.{IsAsked, raft_saving}
use Rattle.wired.specs.RaftSavingLaws.{raft_reads_back}
use Rattle.wired.specs.RaftSending.{GoodRaft, GoodReader, HasRaft, HasRead}
use Rattle.wired.specs.ReadDealLaws.{read_deals}
use Rattle.wired.specs.ReadFitLaws.{read_fits}
use Rattle.wired.specs.StackRuns.{RunsOnBytesAlone}
use Rattle.wired.specs.WiredRuns.{IsFormatOf}
use Rattle.wired.proofs.RunningAsBytes.{runs_on_bytes_alone}

module _ {S C O : Type 0} (f : Format C) (is_f : IsFormat f) (short : (c : C) → f.Fits c → length (f.spell c) ≤ MAX_COMMAND) (stack : StackId) (has : HasByte stack)
    (nodes : ℕ) (size : IsClusterSize nodes) (m : MachineMeaning S C O) where
  pub raft_alone : IsFormatOf stack (raft_message f) → RunsOnBytesAlone (raft_message f) stack (raft_saving stack f nodes) (IsAsked f) (raft nodes m) (raft_recovery m)
  raft_alone is =
      runs_on_bytes_alone (raft_message f) (raft_message_is_format f is_f) stack is has (HasRaft f)
      (λ from to x sent. let fits = raft_fits f short from to x sent in (fits.0, omega (arith, fits.1))) (IsAsked f) (raft nodes m) (raft_recovery m) size.1
      (raft_saving stack f nodes) (λ label. raft_reads_back stack f is_f nodes label) (GoodRaft f nodes) (λ label named. raft_deals stack f label named nodes size m)

  pub readers_alone : (is_read : C → Bool) → IsFormatOf stack (read_message f)
      → RunsOnBytesAlone (read_message f) stack (raft_saving stack f nodes) (IsAsked f) (read_raft nodes m is_read) (read_recovery nodes m)
  readers_alone is_read is =
      runs_on_bytes_alone (read_message f) (read_message_is_format f is_f) stack is has (HasRead f)
      (λ from to x sent. let fits = read_fits f short from to x sent in (fits.0, omega (arith, fits.1))) (IsAsked f) (read_raft nodes m is_read) (read_recovery nodes m) size.1
      (raft_saving stack f nodes) (λ label. raft_reads_back stack f is_f nodes label) (GoodReader f is_read nodes) (λ label named. read_deals stack f label named nodes size m is_read)
