-- Handlers whose packets are bytes: each message is sent as a datagram between two nodes, and what comes is read as one.
use Rattle.std.specs.Prelude.{ℕ, ◌==◌, Bool, ◌&&◌, List, [], ◌∷◌, Option, None, Some, bytes_eq, replicate, if◌then◌else◌}
use Rattle.handler_trait.specs.Handling.{Meaning, Effect}
use Rattle.vst_base.specs.declared.stack.StackId.{StackId}
use Rattle.wire_codec.specs.Datagrams.{read_typed, spell_datagram}
use Rattle.wire_codec.specs.Headings.{heading_of, kind_byte, stack_byte}
use Rattle.wire_codec.specs.declared.heading.Heading.{Heading}
use Rattle.wire_codec.specs.declared.kind.Kind.TheVariants as kind
use Rattle.wire_fields.specs.Formats.{Format}
use Rattle.wire_fields.specs.declared.name.TheConstants.{NAME_LEN}

-- the name of a cluster that has no other: sixteen bytes 0
abbrev pub no_name : List ℕ
no_name = replicate NAME_LEN 0

-- what stands before a message from one node to another, of a stack and a cluster of this name
abbrev pub peer_heading : StackId → List ℕ → ℕ → ℕ → Heading
peer_heading stack name from to = heading_of stack kind.Peer from to name

abbrev pub is_peer_heading : StackId → List ℕ → ℕ → ℕ → Heading → Bool
is_peer_heading stack name from to h =
    (((stack_byte h.stack == stack_byte stack && kind_byte h.kind == kind_byte kind.Peer) && h.from == from) && h.to == to) && bytes_eq h.name name

-- what a message does; where there is none nothing happens
abbrev pub after_message : {S I O M : Type 0} → Meaning S I O M → ℕ → S → ℕ → Option M → Effect S O M
after_message m n s from None = record { state = s; outputs = []; sends = [] }
after_message m n s from (Some message) = m.message n s from message

-- handlers that deal in bytes: the handlers within, and the stack and the name that their packets, or what their nodes keep, have
pub record Named (H : Type 0) : Type 0 where
  pub inner : H
  pub stack : StackId
  pub name : List ℕ

module _ {M : Type 0} (f : Format M) (stack : StackId) (name : List ℕ) where
  -- the bytes of a message
  abbrev pub packet : ℕ → ℕ → M → List ℕ
  packet from to message = spell_datagram f (peer_heading stack name from to) message

  abbrev pub message_in : ℕ → ℕ → Option (Heading × M) → Option M
  message_in from to None = None
  message_in from to (Some p) = if is_peer_heading stack name from to p.0 then Some p.1 else None

  -- the message that these bytes are to a node that they come to from another: none where they are no datagram of a message of these
  -- handlers, are of another stack, kind or name, or name another sender or another receiver
  abbrev pub heard : ℕ → ℕ → List ℕ → Option M
  heard from to bytes = message_in from to (read_typed f bytes)

  -- what a node sends, with its messages as packets
  abbrev pub sent : ℕ → List (ℕ × M) → List (ℕ × List ℕ)
  sent n [] = []
  sent n (p ∷ ps) = (p.0, packet n p.0 p.1) ∷ sent n ps

  -- and what an event there makes
  abbrev pub in_bytes : {S O : Type 0} → ℕ → Effect S O M → Effect S O (List ℕ)
  in_bytes n e = record { state = e.state; outputs = e.outputs; sends = sent n e.sends }

  abbrev pub wired : {S I O : Type 0} → Meaning S I O M → Meaning S I O (List ℕ)
  wired m = record {
    nodes = m.nodes;
    takes_input = m.takes_input;
    init = m.init;
    input = λ n s i. in_bytes n (m.input n s i);
    message = λ n s from bytes. in_bytes n (after_message m n s from (heard from n bytes));
    timeout = λ n s. in_bytes n (m.timeout n s);
  }
