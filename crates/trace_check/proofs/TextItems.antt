-- Items whose inputs and outputs have texts: a line of one says it.
use Rattle.std.specs.Prelude.{◌≡◌, ℕ, Bool, true, false, ◌<◌, ◌≤◌, nat_lt, is_none, List, [], ◌∷◌, ◌++◌, Option, Some, None, cond, codes, refl}
use Rattle.std.specs.Fmt.{decimal}
use Rattle.std.proofs.Common.{arith}
use Rattle.std.proofs.lemmas.Bool.{lt-ltb}
use Rattle.std.proofs.lemmas.Fmt.{digits_decimal}
use Rattle.app_text.specs.Spelling.{IsSpelling}
use Rattle.vst_base.specs.declared.step.Item.{Item}
use Rattle.vst_base.specs.declared.step.Item.TheVariants as item
use Rattle.line_reader.specs.declared.why.Why.TheVariants as why
use Rattle.schedule_text.specs.Printing.{item_text}
use Rattle.schedule_text.specs.Reading.{number_of}
use Rattle.schedule_text.specs.Words.{cut, is_text}
use Rattle.schedule_text.proofs.NumeralLaws.{number_of-decimal, own}
use Rattle.schedule_text.proofs.ReadBackLaws.{cut-digits}
use Rattle.check_text.specs.Forms.{Form}
use Rattle.trace_check.specs.Spelled.{IsTextItem}
use Rattle.check_text.specs.TraceLines.{ItemParts, is_beyond, item_of, item_or_refusal, item_parts, node_in, trace_says}
use Rattle.lists.specs.Each.{Each}

-- fewer nodes are below more
pub more-nodes : {I O : Type 0} (few many : ℕ) (HasIn : I → Type 0) (HasOut : O → Type 0) → few ≤ many → (items : List (Item I O)) → Each (IsTextItem few HasIn HasOut) items → Each (IsTextItem many HasIn HasOut) items
more-nodes few many HasIn HasOut le [] all = tt
more-nodes few many HasIn HasOut le (item.Input n i ∷ items) all = ((omega (arith, le, all.0.0), all.0.1), more-nodes few many HasIn HasOut le items all.1)
more-nodes few many HasIn HasOut le (item.Output n o ∷ items) all = ((omega (arith, le, all.0.0), all.0.1), more-nodes few many HasIn HasOut le items all.1)

module _ {I O X : Type 0} (form : Form I O X) (input_text : I → List ℕ) (output_text : O → List ℕ) (HasIn : I → Type 0) (HasOut : O → Type 0)
    (few_nodes : form.nodes < 4294967296) (inputs_spelled : IsSpelling HasIn form.input_of input_text) (outputs_spelled : IsSpelling HasOut form.output_of output_text) where
  -- by what it is tested for. What the line below a trace says stands for that it is this line
  says-by : (t : Bool) (p : Option ItemParts) (k : Option ℕ) (x : Option (Item I O)) (q : ItemParts) (n : ℕ) (y : Item I O)
      → t ≡ false → p ≡ Some q → k ≡ Some n → nat_lt n form.nodes ≡ true → x ≡ Some y
      → cond t (trace_says form.input_of form.output_of form.nodes (codes "below"))
      (item_or_refusal (cond (is_none p) (Some why.UnknownWord) (cond (is_none k) (Some why.Number) (cond (is_beyond form.nodes k) (Some why.NoSuchNode) (cond (is_none x) (Some why.Text) None)))) x) ≡ item_or_refusal None (Some y)
  says-by t p k x q n y e1 e2 e3 e4 e5 = rw (e1, e2, e3, e4, e5) refl

  front : (n : ℕ) (text : List ℕ) → n < form.nodes → cut (decimal n ++ 32 ∷ text) ≡ Some (decimal n, text)
  front n text low = cut-digits (decimal n) text (digits_decimal own n (omega (arith, low, few_nodes)))

  number : (n : ℕ) → n < form.nodes → number_of (decimal n) ≡ Some n
  number n low = number_of-decimal n (omega (arith, low, few_nodes))

  -- a line of an item says the item
  pub item-said : (x : Item I O) → IsTextItem form.nodes HasIn HasOut x → trace_says form.input_of form.output_of form.nodes (item_text input_text output_text x) ≡ item_or_refusal None (Some x)
  item-said (item.Input n i) has =
      let line = item_text input_text output_text (item.Input n i) in
      let parts : item_parts line ≡ Some (record { is_input = true; number = decimal n; text = input_text i }) = rw (front n (input_text i) has.0) refl in
      let node : node_in line ≡ Some n = rw (front n (input_text i) has.0, number n has.0) refl in
      let is : item_of form.input_of form.output_of line ≡ Some (item.Input n i) = rw (front n (input_text i) has.0, number n has.0, inputs_spelled.reads_back i has.1) refl in
      says-by (is_text line (codes "below")) (item_parts line) (node_in line) (item_of form.input_of form.output_of line)
      (record { is_input = true; number = decimal n; text = input_text i }) n (item.Input n i) refl parts node (lt-ltb n form.nodes has.0) is
  item-said (item.Output n o) has =
      let line = item_text input_text output_text (item.Output n o) in
      let parts : item_parts line ≡ Some (record { is_input = false; number = decimal n; text = output_text o }) = rw (front n (output_text o) has.0) refl in
      let node : node_in line ≡ Some n = rw (front n (output_text o) has.0, number n has.0) refl in
      let is : item_of form.input_of form.output_of line ≡ Some (item.Output n o) = rw (front n (output_text o) has.0, number n has.0, outputs_spelled.reads_back o has.1) refl in
      says-by (is_text line (codes "below")) (item_parts line) (node_in line) (item_of form.input_of form.output_of line)
      (record { is_input = false; number = decimal n; text = output_text o }) n (item.Output n o) refl parts node (lt-ltb n form.nodes has.0) is
