-- Datagrams: a heading, and a message of its stack and kind up to the end.
use Rattle.std.specs.Prelude.{◌≡◌, ◌≤◌, ℕ, nat_le, List, ◌++◌, length, Option, None, Some, option_map, if◌then◌else◌}
use Rattle.wire_codec.specs.Bodies.{AreMessagesOf}
use Rattle.wire_codec.specs.Headings.{heading}
use Rattle.wire_codec.specs.declared.datagram.Datagram.{Datagram}
use Rattle.wire_codec.specs.declared.datagram.TheConstants.{MAX_DATAGRAM}
use Rattle.wire_codec.specs.declared.heading.Heading.{Heading}
use Rattle.wire_fields.specs.Formats.{Format}
use Rattle.wire_messages.specs.Wires.{read_whole}

-- the most bytes of a message: those of a datagram without the 22 of its heading
abbrev pub longest_message : ℕ
longest_message = 59978

abbrev pub spell_datagram : {M : Type 0} → Format M → Heading → M → List ℕ
spell_datagram f h m = heading.spell h ++ f.spell m

-- These bytes are the datagram of this heading and this message, which is one of its stack and kind.
pub record AreBytesOf {M : Type 0} (f : Format M) (h : Heading) (m : M) (bs : List ℕ) : Type 0 where
  pub of : AreMessagesOf h.stack h.kind f
  pub heading : heading.Fits h
  pub message : f.Fits m
  pub size : length bs ≤ MAX_DATAGRAM
  pub bytes : bs ≡ spell_datagram f h m

-- the heading that these bytes begin with, and what stands behind it, if they have one and are not too many
abbrev pub read_datagram : List ℕ → Option (Heading × List ℕ)
read_datagram bs = if nat_le (length bs) MAX_DATAGRAM then heading.read bs else None

abbrev pub with_message : {M : Type 0} → Format M → Option (Heading × List ℕ) → Option (Heading × M)
with_message f None = None
with_message f (Some p) = option_map (λ m. (p.0, m)) (read_whole f p.1)

-- the heading and the message of this format that these bytes are: all that stands behind the heading is the message
abbrev pub read_typed : {M : Type 0} → Format M → List ℕ → Option (Heading × M)
read_typed f bs = with_message f (read_datagram bs)

-- what a datagram of the code says
abbrev pub said : Datagram → Heading × List ℕ
said d = (d.heading, d.body.now)
