-- Node 0 of three of the key-value stack, and what it keeps after one event more.
use Rattle.std.specs.Prelude.{ℕ, List, [], ◌∷◌, None, codes}
use Rattle.kv_machine.specs.Kv.{kv}
use Rattle.kv_machine.specs.declared.cmd.KvCmd.{KvCmd}
use Rattle.kv_machine.specs.declared.cmd.KvCmd.TheVariants as command
use Rattle.raft_types.specs.Messages.{KeptView}
use Rattle.raft_types.specs.declared.msg.RaftMsg.TheVariants as msg
use Rattle.raft_xform.specs.Raft.{raft_recovery}
use Rattle.vst_base.specs.declared.what.What.TheVariants as what
use Rattle.wire_messages.specs.KvBytes.{kv_command, kv_output}
use Rattle.node_acts.specs.Examples.{no_ops}
use Rattle.node_run.specs.Examples.{settings}
use Rattle.node_run.specs.Runs.{effect_of}
use Rattle.node_run.specs.declared.event.Event.{Event}
use Rattle.node_run.specs.declared.event.Event.TheVariants.{Peer}

-- Node 1, who leads in term 3, sends no-ops of these terms, for the places after an index whose entry is of term 1.
abbrev pub append : ℕ → List ℕ → Event KvCmd
append prev_index terms =
    Peer 1 (msg.Append (record { term = 3; prev_index = prev_index; prev_term = 1; commit = 0; entries = no_ops terms }))

-- what a node that starts from this keeps after an event
abbrev pub after : KeptView KvCmd → Event KvCmd → KeptView KvCmd
after kept event =
    (raft_recovery kv).keep (effect_of settings kv kv_command kv_output ((raft_recovery kv).reboot settings.me kept) event).state

-- a state in term 3 whose one entry is a request, of this term
abbrev pub a_request : ℕ → KeptView KvCmd
a_request term = record {
  term = 3;
  voted = None;
  log = record { term = term; what = what.Request 0 1 0 (command.Put (codes "a") (codes "x")) } ∷ [];
}
