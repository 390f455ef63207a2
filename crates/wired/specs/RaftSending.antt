-- What the messages and the states of clusters keep to, so that all that they send and keep has bytes.
use Rattle.std.specs.Prelude.{ℕ, ◌+◌, ◌*◌, ◌≤◌, Bool, List}
use Rattle.std.specs.List.{All}
use Rattle.node_body.specs.declared.commands.TheConstants.{MAX_COMMAND}
use Rattle.raft_reads.specs.Reads.{ReadView}
use Rattle.raft_types.specs.Rounds.{ReadMsg}
use Rattle.raft_types.specs.declared.limits.TheConstants.{MAX_BATCH}
use Rattle.raft_types.specs.declared.msg.RaftMsg.{RaftMsg}
use Rattle.raft_xform.specs.Nodes.{RaftView}
use Rattle.raft_xform.specs.Sound.{IsSoundNode}
use Rattle.read_xform.specs.Sound.{IsSoundReader}
use Rattle.vst_base.specs.Entries.{EntryView}
use Rattle.wire_fields.specs.Formats.{Format}
use Rattle.wire_messages.specs.EntryBytes.{entry}
use Rattle.wire_messages.specs.RaftBytes.{raft_message}
use Rattle.wire_messages.specs.ReadBytes.{read_message}

-- the most bytes of a message of Raft: those of an append of as many entries as one has, with the longest commands
abbrev pub longest_raft : ℕ
longest_raft = 26 + MAX_BATCH * (26 + MAX_COMMAND)

-- and with a round
abbrev pub longest_read : ℕ
longest_read = longest_raft + 8

module _ {C : Type 0} (f : Format C) where
  abbrev pub LogFits : List (EntryView C) → Type 0
  LogFits log = All (entry f).Fits log

  abbrev pub HasRaft : ℕ → ℕ → RaftMsg C → Type 0
  HasRaft from to x = (raft_message f).Fits x

  abbrev pub HasRead : ℕ → ℕ → ReadMsg C → Type 0
  HasRead from to x = (read_message f).Fits x

  -- a sound node, whose log has bytes
  abbrev pub GoodRaft : {S O : Type 0} → ℕ → ℕ → ℕ → RaftView S C O → Type 0
  GoodRaft nodes t n s = IsSoundNode nodes n s × LogFits s.log

  -- a sound node with reads, whose log has bytes: each step began one round at most
  pub record GoodReader {S O : Type 0} (is_read : C → Bool) (nodes t n : ℕ) (s : ReadView S C O) : Type 0 where
    pub sound : IsSoundReader is_read nodes n s
    pub log : LogFits s.raft.log
    pub round : s.reads.round ≤ t
