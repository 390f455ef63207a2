-- What it is that handlers whose packets are bytes do as the handlers within.
use Rattle.std.specs.Prelude.{ℕ, List, map}
use Rattle.std.specs.List.{All}
use Rattle.handler_trait.specs.Handling.{Meaning, Recovery}
use Rattle.net_semantics.specs.Runs.{run}
use Rattle.net_semantics.specs.Worlds.{Packet, World}
use Rattle.vst_base.specs.declared.net.Net.{Net}
use Rattle.vst_base.specs.declared.stack.StackId.{StackId}
use Rattle.vst_base.specs.declared.step.Step.{Step}
use Rattle.wire_codec.specs.Bodies.{AreMessagesOf}
use Rattle.wire_codec.specs.Datagrams.{AreBytesOf}
use Rattle.wire_codec.specs.declared.kind.Kind.TheVariants as kind
use Rattle.wire_fields.specs.Formats.{Format}
use Rattle.wired.specs.Same.{RunsTheSame}
use Rattle.wired.specs.Wiring.{packet, peer_heading, wired}

-- What a message from one node to another is sent as is its datagram: so it has bytes, between nodes up to 8, under a name of 16 bytes,
-- of a stack whose messages it is one of, and at most 60,000.
abbrev pub HasBytes : {M : Type 0} → Format M → StackId → List ℕ → ℕ → ℕ → M → Type 0
HasBytes f stack name from to message = AreBytesOf f (peer_heading stack name from to) message (packet f stack name from to message)

-- these are the messages between the nodes of the stack
abbrev pub IsFormatOf : {M : Type 0} → StackId → Format M → Type 0
IsFormatOf stack f = AreMessagesOf stack kind.Peer f

module _ {M : Type 0} (f : Format M) (stack : StackId) (name : List ℕ) where
  abbrev pub IsSpelledPacket : Packet M → Type 0
  IsSpelledPacket p = HasBytes f stack name p.source p.destination p.content

  abbrev pub packet_in_bytes : Packet M → Packet (List ℕ)
  packet_in_bytes p = record {
    source = p.source;
    destination = p.destination;
    content = packet f stack name p.source p.destination p.content;
    copies = p.copies;
  }

  abbrev pub world_in_bytes : {S K : Type 0} → World S K M → World S K (List ℕ)
  world_in_bytes w = record { state = w.state; is_up = w.is_up; kept = w.kept; packets = map packet_in_bytes w.packets }

  -- so it is on each schedule on which the handlers within send nothing without bytes
  abbrev pub WiredRunsAreTheSame : {S K I O : Type 0} → Meaning S I O M → Recovery S K → Type 0
  WiredRunsAreTheSame {S} {K} {I} {O} m r = (net : Net) (ss : List (Step I)) → All IsSpelledPacket (run m r ss).packets
      → RunsTheSame net (wired f stack name m) r m r world_in_bytes ss
