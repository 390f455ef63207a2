-- The lines of a trace whose inputs and outputs have texts are read as the trace.
use Rattle.std.specs.Prelude.{◌≡◌, ℕ, Bool, true, false, ◌+◌, ◌<◌, ◌≤◌, ◌&&◌, nat_le, List, [], ◌∷◌, ◌++◌, length, map, count_by, Option, Some, None, cond, codes, refl}
use Rattle.std.specs.Fmt.{decimal}
use Rattle.std.proofs.Common.{ap, ◌∙◌, arith}
use Rattle.std.proofs.lemmas.Bool.Decides.{nat_tests}
use Rattle.std.proofs.lemmas.List.Sums.{sum_by-cons}
use Rattle.app_text.specs.Spelling.{IsSpelling}
use Rattle.vst_base.specs.Firsts.{first_of}
use Rattle.vst_base.specs.declared.step.Item.{Item}
use Rattle.vst_base.specs.declared.step.Item.TheVariants as item
use Rattle.line_reader.specs.declared.why.Why.{Why}
use Rattle.line_reader.specs.declared.why.Why.TheVariants as why
use Rattle.line_reader.specs.Whys.{line_refusals}
use Rattle.line_reader.proofs.Cutting.{none-append, none-from}
use Rattle.line_reader.proofs.Taking.{allows}
use Rattle.schedule_text.specs.Printing.{item_text, numbered}
use Rattle.schedule_text.proofs.PrintedLaws.{plain-number, plain-text}
use Rattle.check_text.specs.Claims.{Claim}
use Rattle.check_text.specs.Drafts.{after_items}
use Rattle.check_text.specs.Forms.{Form, after_below, claim_from, claim_line}
use Rattle.check_text.specs.Reading.{Whole, read_map}
use Rattle.check_text.specs.TraceLines.{begins_as_input, count_item, counted_says, item_or_refusal, most_lines, trace_line, trace_says, trace_unless}
use Rattle.schedule_replay.specs.Replaying.{is_input}
use Rattle.trace_check.specs.Spelled.{IsTextItem}
use Rattle.trace_check.proofs.TextItems.{item-said}
use Rattle.trace_check.proofs.PlainLines.{IsPlain}
use Rattle.lists.specs.Each.{Each}

abbrev pub IsShort : List ℕ → Type 0
IsShort line = length line ≤ 4096

pub enough : (count : ℕ) → count < 1000000 → nat_le 1000000 count ≡ false
enough count low = grind (arith, nat_tests)

pub first-none : (t : Bool) (w : Why) → t ≡ false → cond t (Some w) None ≡ None
first-none t w e = rw e refl

and-false : (t u : Bool) → u ≡ false → (t && u) ≡ false
and-false true u e = e
and-false false u e = refl

module _ {I O X : Type 0} (form : Form I O X) (input_text : I → List ℕ) (output_text : O → List ℕ) (HasIn : I → Type 0) (HasOut : O → Type 0)
    (few_nodes : form.nodes < 4294967296) (inputs_spelled : IsSpelling HasIn form.input_of input_text) (outputs_spelled : IsSpelling HasOut form.output_of output_text) where
  unless-counted : (o : Option Why) (inputs : ℕ) (line : List ℕ) → o ≡ None → trace_unless o (counted_says form.input_of form.output_of form.nodes inputs line) ≡ counted_says form.input_of form.output_of form.nodes inputs line
  unless-counted o inputs line e = rw e refl

  unless-said : (o : Option Why) (line : List ℕ) → o ≡ None → trace_unless o (trace_says form.input_of form.output_of form.nodes line) ≡ trace_says form.input_of form.output_of form.nodes line
  unless-said o line e = rw e refl

  -- so many inputs come before the line, or it is no input
  abbrev HasRoom : ℕ → Item I O → Type 0
  HasRoom inputs (item.Input n i) = inputs < 1000000
  HasRoom inputs (item.Output n o) = Unit {0}

  room : (inputs : ℕ) (x : Item I O) → HasRoom inputs x → (begins_as_input (item_text input_text output_text x) && nat_le 1000000 inputs) ≡ false
  room inputs (item.Input n i) low = and-false (begins_as_input (item_text input_text output_text (item.Input n i))) (nat_le 1000000 inputs) (enough inputs low)
  room inputs (item.Output n o) low = refl

  item-read : (line_number inputs : ℕ) (x : Item I O) → IsTextItem form.nodes HasIn HasOut x → IsShort (item_text input_text output_text x) → line_number ≤ most_lines → HasRoom inputs x
      → trace_line form.input_of form.output_of form.nodes line_number inputs (item_text input_text output_text x) ≡ item_or_refusal None (Some x)
  item-read line_number inputs x has short within low =
      let line = item_text input_text output_text x in
      unless-counted (first_of (line_refusals most_lines line_number line)) inputs line (allows most_lines line_number line short within)
      ∙ (unless-said (cond (begins_as_input line && nat_le 1000000 inputs) (Some why.TooManyEvents) None) line
      (first-none (begins_as_input line && nat_le 1000000 inputs) why.TooManyEvents (room inputs x low))
      ∙ item-said form input_text output_text HasIn HasOut few_nodes inputs_spelled outputs_spelled x has)

  below-read : (line_number inputs : ℕ) → line_number ≤ most_lines → trace_line form.input_of form.output_of form.nodes line_number inputs (codes "below") ≡ trace_says form.input_of form.output_of form.nodes (codes "below")
  below-read line_number inputs within =
      unless-counted (first_of (line_refusals most_lines line_number (codes "below"))) inputs (codes "below")
      (allows most_lines line_number (codes "below") (omega arith) within)

  room-of : (inputs : ℕ) (x : Item I O) (rest : List (Item I O)) → inputs + count_by is_input (x ∷ rest) ≤ 1000000 → HasRoom inputs x × (count_item inputs x + count_by is_input rest ≤ 1000000)
  room-of inputs (item.Input n i) rest few =
      let counts : count_by is_input (item.Input n i ∷ rest) ≡ 1 + count_by is_input rest = sum_by-cons (λ x. cond (is_input x) 1 0) (item.Input n i) rest in
      (omega (arith, few, counts), omega (arith, few, counts))
  room-of inputs (item.Output n o) rest few =
      let counts : count_by is_input (item.Output n o ∷ rest) ≡ 0 + count_by is_input rest = sum_by-cons (λ x. cond (is_input x) 1 0) (item.Output n o) rest in
      (tt, omega (arith, few, counts))

  -- the lines of a trace, and what those after it are
  pub trace-read : (line_number inputs : ℕ) (items : List (Item I O)) (below : List (List ℕ)) (c : Claim I O X)
      → Each (IsTextItem form.nodes HasIn HasOut) items → Each IsShort (map (item_text input_text output_text) items)
      → line_number + length items ≤ most_lines → inputs + count_by is_input items ≤ 1000000
      → after_below form form.below (line_number + length items + 1) below ≡ Whole c
      → claim_from form line_number inputs (map (item_text input_text output_text) items ++ codes "below" ∷ below) ≡ Whole (after_items items c)
  trace-read line_number inputs [] below c has short within few is =
      let next : line_number + 0 + 1 ≡ line_number + 1 = omega arith in
      ap (λ l. claim_line form l line_number inputs (λ n. claim_from form (line_number + 1) n below) (after_below form form.below (line_number + 1) below)) (below-read line_number inputs (omega (arith, within)))
      ∙ (ap (λ n. after_below form form.below n below) (omega arith) ∙ is)
  trace-read line_number inputs (x ∷ items) below c has short within few is =
      let fits = room-of inputs x items few in
      let rest = map (item_text input_text output_text) items ++ codes "below" ∷ below in
      ap (λ l. claim_line form l line_number inputs (λ n. claim_from form (line_number + 1) n rest) (after_below form form.below (line_number + 1) rest)) (item-read line_number inputs x has.0 short.0 (omega (arith, within)) fits.0)
      ∙ ap (λ r. read_map (λ (d : Claim I O X). record { trace = x ∷ d.trace; header = d.header; image = d.image }) r)
      (trace-read (line_number + 1) (count_item inputs x) items below c has.1 short.1 (omega (arith, within)) fits.1 (ap (λ n. after_below form form.below n below) (omega arith) ∙ is))

  -- and none of them holds a newline
  plain-item : (x : Item I O) → IsTextItem form.nodes HasIn HasOut x → IsPlain (item_text input_text output_text x)
  plain-item (item.Input n i) has =
      none-append 10 (numbered (codes "in") n) (32 ∷ input_text i) (none-append 10 (codes "in") (32 ∷ decimal n) refl (none-from 10 32 (decimal n) refl (plain-number n (omega (arith, has.0, few_nodes)))))
      (none-from 10 32 (input_text i) refl (plain-text (input_text i) (inputs_spelled.one_line i has.1)))
  plain-item (item.Output n o) has =
      none-append 10 (numbered (codes "out") n) (32 ∷ output_text o) (none-append 10 (codes "out") (32 ∷ decimal n) refl (none-from 10 32 (decimal n) refl (plain-number n (omega (arith, has.0, few_nodes)))))
      (none-from 10 32 (output_text o) refl (plain-text (output_text o) (outputs_spelled.one_line o has.1)))

  pub plain-trace : (items : List (Item I O)) → Each (IsTextItem form.nodes HasIn HasOut) items → Each IsPlain (map (item_text input_text output_text) items)
  plain-trace [] has = tt
  plain-trace (x ∷ items) has = (plain-item x has.0, plain-trace items has.1)
