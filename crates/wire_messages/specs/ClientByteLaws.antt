-- What a client asks and is told has one spelling.
use Rattle.std.proofs.Common.{◌≡◌, refl}
use Rattle.wire_fields.specs.FormatLaws.{nothing_is_format}
use Rattle.wire_fields.specs.Formats.{Format, IsFormat}
use Rattle.wire_fields.specs.KindLaws.{make_of, one_of_is_format}
use Rattle.wire_fields.specs.RecordLaws.{record_of_is_format}
use Rattle.wire_messages.specs.ClientBytes.{answer, answer_kinds, answer_part, client_reply, client_request, reply_fields, request_fields}
use Rattle.wire_messages.specs.PeerByteLaws.{any_number_is_format}
use Rattle.wire_messages.specs.declared.client.Answer.{Answer}
use Rattle.wire_messages.specs.declared.client.Answer.TheVariants.{Reply, NotLeader, Full}

pub client_request_is_format : {C : Type 0} (f : Format C) → IsFormat f → IsFormat (client_request f)
client_request_is_format f is_f =
    record_of_is_format (request_fields f) (λ request cmd. record { request = request; cmd = cmd }) (λ r. refl) (λ t. refl) (any_number_is_format, is_f)

module _ {O : Type 0} (f : Format O) (is_f : IsFormat f) where
  pub answer_is_format : IsFormat (answer f)
  answer_is_format = one_of_is_format (answer_kinds f) (answer_part f) made ((λ output. refl), ((λ _. refl), ((λ _. refl), tt))) refl (is_f, (nothing_is_format, (nothing_is_format, tt)))
    where
      made : (a : Answer O) → make_of (answer_kinds f) (answer_part f a) ≡ a
      made (Reply output) = refl
      made NotLeader = refl
      made Full = refl

  pub client_reply_is_format : IsFormat (client_reply f)
  client_reply_is_format =
      record_of_is_format (reply_fields f) (λ request answer. record { request = request; answer = answer }) (λ r. refl) (λ t. refl) (any_number_is_format, answer_is_format)
