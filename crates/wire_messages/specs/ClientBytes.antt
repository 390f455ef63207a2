-- The bytes of what a client asks a node of a cluster, and is told by it.
use Rattle.wire_fields.specs.Formats.{Format, nothing}
use Rattle.wire_fields.specs.Kinds.{Kinds, Part, first, kind, no_more, one_of, second, third}
use Rattle.wire_fields.specs.Records.{FieldsOf, field, last, record_of}
use Rattle.wire_messages.specs.PeerBytes.{any_number}
use Rattle.wire_messages.specs.declared.client.Answer.{Answer}
use Rattle.wire_messages.specs.declared.client.Answer.TheVariants.{Reply, NotLeader, Full}
use Rattle.wire_messages.specs.declared.client.ClientReply.{ClientReply}
use Rattle.wire_messages.specs.declared.client.ClientRequest.{ClientRequest}

-- the number of the request, and the command
abbrev pub request_fields : {C : Type 0} → Format C → FieldsOf (ClientRequest C)
request_fields f =
    field (λ r. r.request) any_number
    (last (λ r. r.cmd) f)

abbrev pub client_request : {C : Type 0} → Format C → Format (ClientRequest C)
client_request f = record_of (request_fields f) (λ request cmd. record { request = request; cmd = cmd })

abbrev pub answer_kinds : {O : Type 0} → Format O → Kinds (Answer O)
answer_kinds f =
    kind 1 f (λ output. Reply output)
    (kind 2 nothing (λ _. NotLeader)
    (kind 3 nothing (λ _. Full)
    no_more))

abbrev pub answer_part : {O : Type 0} (f : Format O) → Answer O → Part (answer_kinds f)
answer_part f (Reply output) = first output
answer_part f NotLeader = second tt
answer_part f Full = third tt

abbrev pub answer : {O : Type 0} → Format O → Format (Answer O)
answer f = one_of (answer_kinds f) (answer_part f)

-- the number of the request, and the answer
abbrev pub reply_fields : {O : Type 0} → Format O → FieldsOf (ClientReply O)
reply_fields f =
    field (λ r. r.request) any_number
    (last (λ r. r.answer) (answer f))

abbrev pub client_reply : {O : Type 0} → Format O → Format (ClientReply O)
client_reply f = record_of (reply_fields f) (λ request answer. record { request = request; answer = answer })
