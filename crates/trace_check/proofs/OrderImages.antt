-- The lines of an image that is an order of requests.
use Rattle.std.specs.Prelude.{◌≡◌, ℕ, ◌+◌, List, [], ◌∷◌, map, Option, Some, None, ok_or, codes, refl}
use Rattle.std.proofs.Common.{ap, ◌∙◌, arith}
use Rattle.app_text.specs.Spelling.{IsSpelling}
use Rattle.line_reader.specs.declared.why.Why.TheVariants as why
use Rattle.line_reader.proofs.Cutting.{none-append}
use Rattle.raft_text.specs.RaftTexts.{IsRaftInput, order_text, raft_input_of, raft_input_text}
use Rattle.raft_types.specs.declared.client.RaftInput.{RaftInput}
use Rattle.schedule_text.proofs.PrintedLaws.{plain-text}
use Rattle.check_text.specs.Claims.{only_image}
use Rattle.check_text.specs.Forms.{Form, after_below, image_from}
use Rattle.check_text.specs.ImageLines.{order_says, said_or_refused}
use Rattle.check_text.specs.Reading.{read_map}
use Rattle.check_text.specs.declared.image_line.ImageLine.TheVariants as line
use Rattle.trace_check.proofs.ImageReading.{IsHeadedBy}
use Rattle.trace_check.proofs.PlainLines.{IsPlain}
use Rattle.lists.specs.Each.{Each}

order-by : {X : Type 0} (x : Option X) (y : X) → x ≡ Some y → said_or_refused (ok_or x why.Text) ≡ line.Says y
order-by x y e = rw e refl

module _ {C : Type 0} (HasIn : C → Type 0) (command_of : List ℕ → Option C) (command_text : C → List ℕ) (spelled : IsSpelling (IsRaftInput HasIn) (raft_input_of command_of) (raft_input_text command_text)) where
  order-said : (q : RaftInput C) → IsRaftInput HasIn q → order_says (raft_input_of command_of) (order_text command_text q) ≡ line.Says q
  order-said q has = order-by (raft_input_of command_of (raft_input_text command_text q)) q (spelled.reads_back q has)

  pub orders-said : (order : List (RaftInput C)) → Each (IsRaftInput HasIn) order → Each (λ q. order_says (raft_input_of command_of) (order_text command_text q) ≡ line.Says q) order
  orders-said [] has = tt
  orders-said (q ∷ order) has = (order-said q has.0, orders-said order has.1)

  pub plain-orders : (order : List (RaftInput C)) → Each (IsRaftInput HasIn) order → Each IsPlain (map (order_text command_text) order)
  plain-orders [] has = tt
  plain-orders (q ∷ order) has = (none-append 10 (codes "order ") (raft_input_text command_text q) refl (plain-text (raft_input_text command_text q) (spelled.one_line q has.0)), plain-orders order has.1)

-- without a header
pub unheaded : {I O X : Type 0} (form : Form I O X) → ((number : ℕ) (ls : List (List ℕ)) → after_below form form.below number ls ≡ read_map (only_image None) (image_from form.says number 0 ls)) → IsHeadedBy form None
unheaded form headed number ls xs short within image =
    let same : number ≡ number + 0 = omega arith in
    headed number ls ∙ (ap (λ n. read_map (only_image None) (image_from form.says n 0 ls)) same ∙ ap (λ r. read_map (only_image None) r) image)
