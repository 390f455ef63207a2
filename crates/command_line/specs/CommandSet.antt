-- The command set, which words it takes, and what they ask for. The words are texts, the program's name first.
use Rattle.std.specs.Prelude.{◌≢◌, ◌<◌, ◌≤◌, ◌-◌, ◌^◌, ⊤, ℕ, pos, Bool, true, false, List, map, filter, Option, None, Some, codes, option_and_then, option_map, if◌then◌else◌}
use Rattle.std.specs.Borrow.{Bor}
use Rattle.std.specs.Option.{option_map_or}
use Rattle.std.specs.Str.{bytes_eq}
use Rattle.std.specs.Str.Parse.{digits_value, without_leading_plus}
use Rattle.clap.specs.ValueTests.{is_unsigned_in}
use Rattle.clap.specs.Words.{App, Row, Rule, first_of, new_app, new_rule, one_of, subcommand_of, takes, with_rule, with_subcommand}
use Rattle.clap.specs.declared.builder.action.ArgAction.TheVariants.{Set, SetTrue}
use Rattle.clap.specs.declared.builder.value_parser.ValueParser.{ValueParser}
use Rattle.clap.specs.declared.builder.value_parser.ValueParser.TheVariants.{Names, Signed}
use Rattle.clap.specs.declared.builder.value_parser.ValueParser.TheVariants as parser
use Rattle.command_line.specs.AskedNodes.{NodeWordsView}
use Rattle.command_line.specs.declared.asked.Asked.{Asked}
use Rattle.command_line.specs.declared.asked.Asked.TheVariants.{Node, Texts}
use Rattle.command_line.specs.declared.asked.TheConstants.{MAX_TURNS}
use Rattle.command_line.specs.declared.command.Command.{Command}
use Rattle.command_line.specs.declared.command.Command.TheVariants.{Check, Make, Replay, Summarize}
use Rattle.command_line.specs.declared.command.MadeSchedule.{MadeSchedule}
use Rattle.vst_base.specs.Nets.{has_kind}
use Rattle.vst_base.specs.Stacks.{row_of, rows, stack_named, stack_word}
use Rattle.vst_base.specs.declared.net.Net.TheVariants as net
use Rattle.vst_base.specs.declared.node.TheConstants.{MAX_NODES}
use Rattle.vst_base.specs.declared.stack.StackId.{StackId}
use Rattle.vst_base.specs.declared.stack.StackRow.{StackRow}
use Rattle.vst_base.specs.declared.step.StepKind.TheVariants as kind
use Rattle.vst_base.specs.declared.step.TheConstants.{MAX_STEPS}

-- ---- the commands

-- a command of which a subcommand has to be named
abbrev pub with_subcommand_required : App → App
with_subcommand_required app = record app { top = record app.top { subcommand_required = true } }

-- an option that has to be given, with one of these values
abbrev pub required_option : List ℕ → ValueParser → Rule
required_option name values = record (new_rule name) { long = Some name; action = Some Set; required = true; parser = Some values }

-- an option that is there or not, and has no value
abbrev pub flag : List ℕ → Rule
flag name = record (new_rule name) { long = Some name; action = Some SetTrue }

-- the words of stacks
abbrev pub words_of : List StackRow → List (List ℕ)
words_of = map (λ row. stack_word row.stack)

-- those of all stacks, and of those on whose network packets travel
abbrev pub stack_words : List (List ℕ)
stack_words = words_of rows

abbrev pub carries_packets : StackRow → Bool
carries_packets row = has_kind row.net kind.Deliver

abbrev pub packet_stack_words : List (List ℕ)
packet_stack_words = words_of (filter carries_packets rows)

-- the numbers from which schedules are made, and how many steps they may have
abbrev pub seeds : ValueParser
seeds = Signed (pos 0) (pos (2 ^ 32 - 1))

abbrev pub step_counts : ValueParser
step_counts = Signed (pos 0) (pos MAX_STEPS)

-- which node of its configuration a node is, for how many turns it runs, and the directory of its state: any text
abbrev pub node_numbers : ValueParser
node_numbers = Signed (pos 0) (pos (MAX_NODES - 1))

abbrev pub turn_counts : ValueParser
turn_counts = Signed (pos 1) (pos MAX_TURNS)

abbrev pub directories : ValueParser
directories = parser.String

abbrev pub check_command : ValueParser → App
check_command stacks = with_rule (new_app (codes "check")) (required_option (codes "stack") stacks)

abbrev pub make_command : ValueParser → App
make_command stacks =
    with_rule (with_rule (with_rule (with_rule (new_app (codes "make"))
    (required_option (codes "stack") stacks))
    (required_option (codes "seed") seeds))
    (required_option (codes "steps") step_counts))
    (flag (codes "summary"))

abbrev pub node_command : App
node_command =
    with_rule (with_rule (with_rule (new_app (codes "node"))
    (required_option (codes "me") node_numbers))
    (required_option (codes "turns") turn_counts))
    (required_option (codes "state") directories)

-- the program with its commands, of which check takes one of the first values as a stack, and make one of the second
abbrev pub commands_with : ValueParser → ValueParser → App
commands_with stacks packet_stacks =
    with_subcommand (with_subcommand (with_subcommand (with_subcommand (with_subcommand_required (new_app (codes "vst")))
    (new_app (codes "replay")).top)
    (check_command stacks).top)
    (make_command packet_stacks).top)
    node_command.top

-- clap's list of possible values holds references. It reads the texts behind them alone, so any place serves here
abbrev pub behind : {X : Type 0} → X → Bor X
behind x = record { ref_ptr = (0, 0); now = x }

abbrev pub among : List (List ℕ) → ValueParser
among words = Names (behind (map behind words))

abbrev pub command_set : App
command_set = commands_with (among stack_words) (among packet_stack_words)

-- clap takes the words: they name a command and what it takes, and ask for no help
unfoldable pub takes_words : List (List ℕ) → Bool
takes_words words = takes command_set words

-- ---- what they ask for

-- the stack that the options name
abbrev pub stack_in : List Row → Option StackId
stack_in options = option_and_then stack_named (first_of (codes "stack") options)

-- the number of so many bits that a text writes in decimal digits, with or without a plus
abbrev pub number_of_bits : ℕ → List ℕ → Option ℕ
number_of_bits bits text = if is_unsigned_in 0 (2 ^ bits - 1) text then Some (digits_value 10 (without_leading_plus text)) else None

abbrev pub number_of : List ℕ → Option ℕ
number_of = number_of_bits 32

-- the byte and the number that an option has, and whether a flag is there. clap reads -0 as 0
abbrev pub byte_in : List ℕ → List Row → Option ℕ
byte_in name options = option_and_then (number_of_bits 8) (one_of name options)

abbrev pub number_in : List ℕ → List Row → Option ℕ
number_in name options = option_and_then number_of (one_of name options)

abbrev pub has_flag : List ℕ → List Row → Bool
has_flag name options = option_map_or (λ text. bytes_eq text (codes "true")) (one_of name options) false

abbrev pub made_schedule : StackId → ℕ → ℕ → MadeSchedule
made_schedule stack seed steps = record { stack = stack; seed = seed; steps = steps }

-- the schedule that the options ask for
abbrev pub schedule_in : List Row → Option MadeSchedule
schedule_in options =
    option_and_then (λ stack. option_and_then (λ seed. option_map (made_schedule stack seed)
    (number_in (codes "steps") options)) (number_in (codes "seed") options)) (stack_in options)

abbrev pub node_words : ℕ → ℕ → List ℕ → NodeWordsView
node_words me turns state = record { me = me; turns = turns; state = state }

-- the node that the options ask for
abbrev pub node_in : List Row → Option NodeWordsView
node_in options =
    option_and_then (λ me. option_and_then (λ turns. option_map (node_words me turns)
    (first_of (codes "state") options)) (number_in (codes "turns") options)) (byte_in (codes "me") options)

-- the command of a name and of the options after it, where it is one over texts
abbrev pub command_entered : List ℕ × List Row → Option Command
command_entered entered =
    if bytes_eq entered.0 (codes "replay") then Some Replay
    else if bytes_eq entered.0 (codes "check") then option_map Check (stack_in entered.1)
    else if bytes_eq entered.0 (codes "make") then option_map (if has_flag (codes "summary") entered.1 then Summarize else Make) (schedule_in entered.1)
    else None

-- what a name and the options after it ask for
abbrev pub asked_entered : List ℕ × List Row → Option Asked
asked_entered entered =
    if bytes_eq entered.0 (codes "node") then option_map Node (node_in entered.1)
    else option_map Texts (command_entered entered)

-- what the words enter
unfoldable pub entered_by : List (List ℕ) → Option Asked
entered_by words = option_and_then asked_entered (subcommand_of command_set words)

-- what the words ask for, where they are taken
unfoldable pub asked_of : List (List ℕ) → Option Asked
asked_of words = if takes_words words then entered_by words else None

-- the command over texts that is asked for, and the node
abbrev pub as_texts : Asked → Option Command
as_texts (Texts command) = Some command
as_texts (Node node) = None

abbrev pub as_node : Asked → Option NodeWordsView
as_node (Texts command) = None
as_node (Node node) = Some node

unfoldable pub command_of : List (List ℕ) → Option Command
command_of words = option_and_then as_texts (asked_of words)

unfoldable pub node_of : List (List ℕ) → Option NodeWordsView
node_of words = option_and_then as_node (asked_of words)

-- ---- what can be asked for

-- packets travel on the network of the schedule's stack, and its numbers are in their ranges
pub record CanBeMade (s : MadeSchedule) : Type 0 where
  pub packets : (row_of s.stack).net ≢ net.One
  pub seed : s.seed < 2 ^ 32
  pub steps : s.steps ≤ MAX_STEPS

-- P holds of the schedule that a command makes, if it makes one
abbrev pub IfMakes : Command → (MadeSchedule → Type 0) → Type 0
IfMakes Replay P = ⊤
IfMakes (Check stack) P = ⊤
IfMakes (Make schedule) P = P schedule
IfMakes (Summarize schedule) P = P schedule

-- a node's number and its turns are in their ranges
pub record CanBeRun (n : NodeWordsView) : Type 0 where
  pub me : n.me < MAX_NODES
  pub some : 1 ≤ n.turns
  pub turns : n.turns ≤ MAX_TURNS
