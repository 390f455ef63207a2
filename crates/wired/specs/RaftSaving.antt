-- What a node of a Raft cluster keeps, as the body of a slot of its own.
use Rattle.std.specs.Prelude.{ℕ, ◌==◌, Bool, ◌&&◌, List, Option, None, Some, bytes_eq, if◌then◌else◌}
use Rattle.node_body.specs.Bodies.{body, body_of, read_body}
use Rattle.node_body.specs.declared.who.Who.{Who}
use Rattle.raft_types.specs.Messages.{KeptView}
use Rattle.raft_types.specs.declared.client.RaftInput.{RaftInput}
use Rattle.vst_base.specs.declared.stack.StackId.{StackId}
use Rattle.wire_fields.specs.Formats.{Format}
use Rattle.wire_messages.specs.PeerBytes.{any_number}
use Rattle.wired.specs.Saving.{Saving}

-- a node of so many, of a stack and a cluster of this name
abbrev pub who_at : StackId → ℕ → List ℕ → ℕ → Who
who_at stack nodes name n = record { stack = stack; me = n; nodes = nodes; name = name }

-- whether a state of the stack is that node's
abbrev pub is_own : Who → Who → Bool
is_own who found = (found.me == who.me && found.nodes == who.nodes) && bytes_eq found.name who.name

abbrev pub own_state : {C : Type 0} → Who → Option (Who × KeptView C) → Option (KeptView C)
own_state who None = None
own_state who (Some p) = if is_own who p.0 then Some p.1 else None

-- a body of version 2 is read where it is of this stack, this node, so many nodes and this name
abbrev pub raft_saving : {C : Type 0} → StackId → Format C → ℕ → List ℕ → Saving (KeptView C)
raft_saving stack f nodes name = record {
  Fits = λ n kept. (body stack f).Fits (body_of (who_at stack nodes name n) kept);
  spell = λ n kept. (body stack f).spell (body_of (who_at stack nodes name n) kept);
  read = λ n bytes. own_state (who_at stack nodes name n) (read_body stack f bytes);
}

-- a client asks by numbers of eight bytes, with a command that has bytes
abbrev pub IsAsked : {C : Type 0} → Format C → RaftInput C → Type 0
IsAsked f i = (any_number.Fits i.client × any_number.Fits i.request) × f.Fits i.cmd
