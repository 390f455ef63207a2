-- Raft of a machine, as handlers (the Raft paper, Figure 2): the machine is replicated on a cluster of so many nodes.
use Rattle.std.specs.Prelude.{ℕ, true, [], None}
use Rattle.handler_trait.specs.Handling.{Meaning, Recovery}
use Rattle.vst_base.specs.Machines.{MachineMeaning}
use Rattle.raft_types.specs.Messages.{KeptView}
use Rattle.raft_types.specs.Terms.{term_of}
use Rattle.raft_types.specs.declared.client.RaftInput.{RaftInput}
use Rattle.raft_types.specs.declared.client.RaftOut.{RaftOut}
use Rattle.raft_types.specs.declared.msg.RaftMsg.{RaftMsg}
use Rattle.raft_types.specs.declared.msg.RaftMsg.TheVariants as msg
use Rattle.raft_xform.specs.Electing.{heard, on_request, on_vote, tick}
use Rattle.raft_xform.specs.Nodes.{RaftEffect, RaftView, started_with}
use Rattle.raft_xform.specs.Replicating.{on_append, on_appended, on_input}

module _ {S C O : Type 0} where
  -- a message, once the node is in its term or a later one
  abbrev pub by_message : MachineMeaning S C O → ℕ → ℕ → RaftView S C O → ℕ → RaftMsg C → RaftEffect S C O
  by_message m nodes me s from (msg.RequestVote r) = on_request s from r
  by_message m nodes me s from (msg.Vote v) = on_vote m nodes me s from v
  by_message m nodes me s from (msg.Append a) = on_append m me s from a
  by_message m nodes me s from (msg.Appended a) = on_appended m nodes me s from a

  abbrev pub on_message : MachineMeaning S C O → ℕ → ℕ → RaftView S C O → ℕ → RaftMsg C → RaftEffect S C O
  on_message m nodes me s from message = by_message m nodes me (heard (term_of message) s) from message

  abbrev pub raft : ℕ → MachineMeaning S C O → Meaning (RaftView S C O) (RaftInput C) (RaftOut O) (RaftMsg C)
  raft nodes m = record {
    nodes = nodes;
    takes_input = λ _. true;
    init = λ _. started_with m 0 None [];
    input = on_input m nodes;
    message = on_message m nodes;
    timeout = tick m nodes;
  }

  -- a node that stops keeps its term, its vote and its log, and starts from these alone
  abbrev pub raft_recovery : MachineMeaning S C O → Recovery (RaftView S C O) (KeptView C)
  raft_recovery m = record {
    keep = λ s. record { term = s.ballot.term; voted = s.ballot.voted; log = s.log };
    reboot = λ _ k. started_with m k.term k.voted k.log;
  }
