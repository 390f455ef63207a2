-- What the laws of verdicts speak of.
use Rattle.std.specs.Prelude.{◌≡◌, ℕ, List, map}
use Rattle.vst_base.specs.Machines.{MachineMeaning, fold}
use Rattle.vst_base.specs.declared.step.Item.{Item}
use Rattle.vst_base.specs.declared.step.Item.TheVariants as item
use Rattle.raft_types.specs.declared.client.RaftInput.{RaftInput}
use Rattle.raft_types.specs.declared.client.RaftOut.{RaftOut}
use Rattle.raft_types.specs.declared.client.RaftOut.TheVariants as told
use Rattle.handler_trait.specs.Handling.{Meaning}
use Rattle.vst_base.specs.declared.net.Net.{Net}
use Rattle.vst_base.specs.declared.pb_out.PbOut.{PbOut}
use Rattle.vst_base.specs.declared.pb_out.PbOut.TheVariants as pb
use Rattle.net_semantics.specs.BelowPb.{IsExplainedBy, below_pb, inputs_at}
use Rattle.net_semantics.specs.Runs.{IsAllowed, no_recovery, trace}
use Rattle.trace_maps.specs.SingleNode.{alone}
use Rattle.schedule_text.specs.Printing.{item_text, step_text}
use Rattle.claim_verdicts.specs.Backups.{BackupClaim}
use Rattle.claim_verdicts.specs.Schedules.{ScheduleClaim}
use Rattle.claim_verdicts.specs.Clusters.{ClusterClaim}
use Rattle.lists.specs.Each.{Each}

-- an item whose command or output, if it has one, has a text
abbrev pub IsSpelledItem : {C O : Type 0} → (C → Type 0) → (O → Type 0) → Item (RaftInput C) (RaftOut O) → Type 0
IsSpelledItem IsCommand IsOutput (item.Input n i) = IsCommand i.cmd
IsSpelledItem IsCommand IsOutput (item.Output n (told.Reply client request o)) = IsOutput o
IsSpelledItem IsCommand IsOutput (item.Output n (told.NotLeader client request)) = Unit {0}
IsSpelledItem IsCommand IsOutput (item.Output n (told.Full client request)) = Unit {0}

-- the commands and outputs of a claim, and the outputs of the machine for its order, have texts
pub record AreSpelled {S C O : Type 0} (IsCommand : C → Type 0) (IsOutput : O → Type 0) (m : MachineMeaning S C O) (c : ClusterClaim C O) : Type 0 where
  pub trace : Each (IsSpelledItem IsCommand IsOutput) c.trace
  pub order : Each (λ r. IsCommand r.cmd) c.image
  pub outputs : Each IsOutput (fold m (map (λ r. r.cmd) c.image))

-- an output of primary-backup that has a text, if it is a machine's; and such an item
abbrev pub IsSpelledOutput : {O : Type 0} → (O → Type 0) → PbOut O → Type 0
IsSpelledOutput IsOutput (pb.Reply o) = IsOutput o
IsSpelledOutput IsOutput pb.Redirect = Unit {0}

abbrev pub IsSpelledReply : {C O : Type 0} → (O → Type 0) → Item C (PbOut O) → Type 0
IsSpelledReply IsOutput (item.Input n c) = Unit {0}
IsSpelledReply IsOutput (item.Output n o) = IsSpelledOutput IsOutput o

-- the outputs of a claim, and those of the machine for the inputs at the primary, have texts
pub record AreSpelledReplies {S C O : Type 0} (IsOutput : O → Type 0) (m : MachineMeaning S C O) (c : BackupClaim C O) : Type 0 where
  pub trace : Each (IsSpelledReply IsOutput) c.trace
  pub outputs : Each IsOutput (fold m (inputs_at 0 c.trace))

-- one machine explains what clients saw, and the image reads as the schedule of what it took
pub record IsExplained {S C O : Type 0} (command_text : C → List ℕ) (m : MachineMeaning S C O) (c : BackupClaim C O) : Type 0 where
  pub machine : IsExplainedBy m c.trace
  pub image : map (step_text command_text) c.image ≡ map (step_text command_text) (alone (below_pb c.trace))

-- the network allows the image, and what clients then see reads as the trace
pub record IsShown {S I O M : Type 0} (input_text : I → List ℕ) (output_text : O → List ℕ) (net : Net) (m : Meaning S I O M) (c : ScheduleClaim I O) : Type 0 where
  pub allowed : IsAllowed net m (no_recovery {S = S}) c.image
  pub trace : map (item_text input_text output_text) c.trace ≡ map (item_text input_text output_text) (trace m (no_recovery {S = S}) c.image)
