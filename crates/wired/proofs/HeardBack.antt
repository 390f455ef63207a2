-- What a node sends is heard: the bytes of a message, from the node that they come from, are that message.
use Rattle.std.specs.Prelude.{◌≡◌, ◌==◌, ℕ, Bool, true, ◌&&◌, List, None, Some, ◌≤◌, length, bytes_eq, if◌then◌else◌, refl}
use Rattle.std.proofs.Common.{ap, arith, ◌∙◌}
use Rattle.std.proofs.lemmas.Bool.{eq-eqb}
use Rattle.std.proofs.lemmas.Slice.Eq.{bytes_eq-Decides}
use Rattle.vst_base.specs.declared.stack.StackId.{StackId}
use Rattle.wire_codec.specs.DatagramLaws.{fitting, typed_back}
use Rattle.wire_codec.specs.Datagrams.{longest_message}
use Rattle.wire_codec.specs.Headings.{HasByte, stack_byte}
use Rattle.wire_fields.specs.Fields.{name}
use Rattle.wire_fields.specs.Formats.{Format, IsFormat}
use Rattle.wired.specs.WiredRuns.{HasBytes, IsFormatOf}
use Rattle.wired.specs.Wiring.{heard, is_peer_heading, message_in, packet, peer_heading}

all_true : (a b c d : Bool) → a ≡ true → b ≡ true → c ≡ true → d ≡ true → ((((a && true) && b) && c) && d) ≡ true
all_true a b c d ea eb ec ed = rw (ea, eb, ec, ed) refl

own_heading : (stack : StackId) (label : List ℕ) (from to : ℕ) → is_peer_heading stack label from to (peer_heading stack label from to) ≡ true
own_heading stack label from to =
    all_true (stack_byte stack == stack_byte stack) (from == from) (to == to) (bytes_eq label label)
    (eq-eqb (stack_byte stack) (stack_byte stack) refl) (eq-eqb from from refl) (eq-eqb to to refl) ((bytes_eq-Decides label label).1 refl)

module _ {M : Type 0} (f : Format M) (is_f : IsFormat f) where
  pub heard_back : (stack : StackId) (label : List ℕ) (from to : ℕ) (message : M) → HasBytes f stack label from to message
      → heard f stack label from to (packet f stack label from to message) ≡ Some message
  heard_back stack label from to message has =
      ap (message_in f stack label from to) (typed_back f is_f (peer_heading stack label from to) message (packet f stack label from to message) has)
      ∙ ap (λ b. if b then Some message else None) (own_heading stack label from to)

  -- a message that fits, of at most 60,000 bytes with those of the heading, has bytes
  pub fitting_has_bytes : (stack : StackId) (n : List ℕ) (from to : ℕ) (message : M) → IsFormatOf stack f → HasByte stack → name.Fits n → from ≤ 8 → to ≤ 8
      → f.Fits message → length (f.spell message) ≤ longest_message → HasBytes f stack n from to message
  fitting_has_bytes stack n from to message is_of stack_has named from_few to_few fits short =
      fitting f (peer_heading stack n from to) message is_of (tt, (stack_has, ((tt, refl), ((omega arith, from_few), ((omega arith, to_few), named))))) fits short
