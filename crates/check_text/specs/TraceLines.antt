-- What a line of a claimed trace says, and why it may be refused.
use Rattle.std.specs.Prelude.{ℕ, Bool, true, false, not, ◌&&◌, nat_lt, nat_le, ◌+◌, List, [], ◌∷◌, Option, Some, None, is_none, option_map, option_and_then, if◌then◌else◌, codes}
use Rattle.vst_base.specs.Firsts.{first_of}
use Rattle.vst_base.specs.declared.step.Item.{Item}
use Rattle.vst_base.specs.declared.step.Item.TheVariants as item
use Rattle.line_reader.specs.declared.why.Why.{Why}
use Rattle.line_reader.specs.declared.why.Why.TheVariants as why
use Rattle.line_reader.specs.Whys.{line_refusals}
use Rattle.schedule_text.specs.Words.{cut, is_text}
use Rattle.schedule_text.specs.Reading.{number_of}
use Rattle.check_text.specs.declared.trace_line.TraceLine.{TraceLine}
use Rattle.check_text.specs.declared.trace_line.TraceLine.TheVariants.{Below, IsItem, Refused}
use Rattle.vst_base.specs.declared.step.TheConstants.{MAX_STEPS}
use Rattle.check_text.specs.declared.reading.TheConstants.{MAX_LINES}

-- the greatest number of a line of a claim
abbrev pub most_lines : ℕ
most_lines = MAX_LINES

-- what stands before the first space, or the whole line
abbrev pub front_of : List ℕ → Option (List ℕ × List ℕ) → List ℕ
front_of line None = line
front_of line (Some p) = p.0

abbrev pub first_word : List ℕ → List ℕ
first_word line = front_of line (cut line)

-- an input is one by its first word, whatever follows it
abbrev pub begins_as_input : List ℕ → Bool
begins_as_input line = is_text (first_word line) (codes "in")

-- the parts of an input or an output: which of the two it is, its number and its text
pub record ItemParts : Type 0 where
  pub is_input : Bool
  pub number : List ℕ
  pub text : List ℕ

-- whether a word names an input, or else an output
abbrev pub side_named : List ℕ → Option Bool
side_named w = if is_text w (codes "in") then Some true else if is_text w (codes "out") then Some false else None

abbrev pub parts_after : List ℕ → Bool → Option ItemParts
parts_after rest side = option_map (λ p. record { is_input = side; number = p.0; text = p.1 }) (cut rest)

abbrev pub item_parts : List ℕ → Option ItemParts
item_parts line = option_and_then (λ p. option_and_then (parts_after p.1) (side_named p.0)) (cut line)

abbrev pub node_in : List ℕ → Option ℕ
node_in line = option_and_then (λ p. number_of p.number) (item_parts line)

-- there is a number, and it is not below so many
abbrev pub is_beyond : ℕ → Option ℕ → Bool
is_beyond nodes None = false
is_beyond nodes (Some n) = not (nat_lt n nodes)

module _ {I O : Type 0} where
  abbrev pub item_or_refusal : Option Why → Option (Item I O) → TraceLine I O
  item_or_refusal (Some w) x = Refused w
  item_or_refusal None (Some x) = IsItem x
  item_or_refusal None None = Refused why.Text

  abbrev pub trace_unless : Option Why → TraceLine I O → TraceLine I O
  trace_unless (Some w) l = Refused w
  trace_unless None l = l

module _ {I O : Type 0} (input_of : List ℕ → Option I) (output_of : List ℕ → Option O) where
  abbrev pub item_with : ℕ → Bool → List ℕ → Option (Item I O)
  item_with n true text = option_map (λ i. item.Input n i) (input_of text)
  item_with n false text = option_map (λ o. item.Output n o) (output_of text)

  abbrev pub item_of : List ℕ → Option (Item I O)
  item_of line = option_and_then (λ p. option_and_then (λ n. item_with n p.is_input p.text) (number_of p.number)) (item_parts line)

  -- why an item may be refused, where so many nodes may be named; in the order in which the refusals are tried
  abbrev pub item_refusals : ℕ → List ℕ → List (Why × Bool)
  item_refusals nodes line =
      (why.UnknownWord, is_none (item_parts line))
      ∷ (why.Number, is_none (node_in line))
      ∷ (why.NoSuchNode, is_beyond nodes (node_in line))
      ∷ (why.Text, is_none (item_of line))
      ∷ []

  -- what a line says that is neither too long nor one too many
  abbrev pub trace_says : ℕ → List ℕ → TraceLine I O
  trace_says nodes line =
      if is_text line (codes "below") then Below
      else item_or_refusal (first_of (item_refusals nodes line)) (item_of line)

  -- and after so many inputs
  abbrev pub counted_says : ℕ → ℕ → List ℕ → TraceLine I O
  counted_says nodes inputs line =
      trace_unless (first_of ((why.TooManyEvents, begins_as_input line && nat_le MAX_STEPS inputs) ∷ [])) (trace_says nodes line)

  -- what the line of this number is
  abbrev pub trace_line : ℕ → ℕ → ℕ → List ℕ → TraceLine I O
  trace_line nodes number inputs line = trace_unless (first_of (line_refusals most_lines number line)) (counted_says nodes inputs line)

-- so many inputs, once an item came
abbrev pub count_item : {I O : Type 0} → ℕ → Item I O → ℕ
count_item inputs (item.Input n i) = inputs + 1
count_item inputs (item.Output n o) = inputs
