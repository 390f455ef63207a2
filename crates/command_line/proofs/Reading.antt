-- What the answers of a parse say of the words.
use Rattle.std.proofs.Common.{◌≡◌, ◌∙◌, ◌↔◌, ◌||◌, Bool, true, false, sym, ap, ap₂, subst, refl, List, [], ◌∷◌, map, Option, Some, None, IsNone, IsErr, IfOk, Result, Ok, Err, if◌then◌else◌, true≢false}
use Rattle.std.specs.Prelude.{IfSome, option_and_then}
use Rattle.std.specs.Borrow.{Bor}
use Rattle.std.specs.List.{list_any}
use Rattle.std.specs.declared.alloc.AllocError.{AllocError}
use Rattle.clap.specs.Facts.{parser_of_value}
use Rattle.clap.specs.Faults.{fault_of, is_simple_and_free}
use Rattle.clap.specs.Walk.{Text, texts}
use Rattle.clap.specs.Values.{reading_of, same_text}
use Rattle.clap.specs.ValueTests.{accepts}
use Rattle.clap.specs.Simple.{App, HasMatchesOf, argument_words, built, is_simple, subcommand_of, subcommand_rows_of}
use Rattle.clap.specs.Takes.{takes}
use Rattle.clap.specs.declared.builder.value_parser.ValueParser.{ValueParser}
use Rattle.clap.specs.declared.builder.value_parser.ValueParser.TheVariants as parser
use Rattle.clap.specs.declared.error.kind.ErrorKind.{ErrorKind}
use Rattle.clap.specs.declared.error.kind.ErrorKind.TheVariants.{OutOfMemory}
use Rattle.clap.specs.declared.parser.matches.ArgMatches.{ArgMatches}
use Rattle.command_line.specs.CommandSet.{CanBeMade, CanBeRun, IfMakes, among, as_node, as_texts, asked_entered, asked_of, behind, command_set, commands_with, entered_by, packet_stack_words, stack_words, takes_words}
use Rattle.command_line.specs.declared.asked.Asked.{Asked}
use Rattle.command_line.proofs.Asking.{asked_can_be_made, asked_can_be_run, none_exactly_refused}
use Rattle.command_line.proofs.Faultless.{faultless_is_taken}
use Rattle.command_line.proofs.Seen.{subcommand_same, takes_same}

-- a command of clap's is the command set, wherever the lists of stacks that it borrows stand
pub record IsCommandSet (app : App) : Type 0 where
  pub stacks : Bor (List (Bor Text))
  pub packet_stacks : Bor (List (Bor Text))
  pub words : texts stacks.now ≡ stack_words
  pub packet_words : texts packet_stacks.now ≡ packet_stack_words
  pub commands : app ≡ commands_with (parser.Names stacks) (parser.Names packet_stacks)

-- ---- where the lists of stacks stand plays no part

-- a parser with its list of names told by their texts
told : Option ValueParser → Option ValueParser
told (Some (parser.Names names)) = Some (among (texts names.now))
told o = o

told_reads : (o : Option ValueParser) → reading_of (parser_of_value (told o)) ≡ reading_of (parser_of_value o)
unfolding told
told_reads None = refl
told_reads (Some parser.String) = refl
told_reads (Some parser.NonEmptyString) = refl
told_reads (Some parser.Bool) = refl
told_reads (Some parser.Boolish) = refl
told_reads (Some parser.Falsey) = refl
told_reads (Some (parser.Signed low high)) = refl
told_reads (Some (parser.Unsigned low high)) = refl
told_reads (Some parser.Float) = refl
told_reads (Some parser.Char) = refl
told_reads (Some (parser.Names names)) = refl
told_reads (Some (parser.Values values)) = refl

told_accepts : (i : Bool) (o : Option ValueParser) (v : Text) → accepts i (parser_of_value (told o)) v ≡ accepts i (parser_of_value o) v
unfolding told
told_accepts i None v = refl
told_accepts i (Some parser.String) v = refl
told_accepts i (Some parser.NonEmptyString) v = refl
told_accepts i (Some parser.Bool) v = refl
told_accepts i (Some parser.Boolish) v = refl
told_accepts i (Some parser.Falsey) v = refl
told_accepts i (Some (parser.Signed low high)) v = refl
told_accepts i (Some (parser.Unsigned low high)) v = refl
told_accepts i (Some parser.Float) v = refl
told_accepts i (Some parser.Char) v = refl
told_accepts i (Some (parser.Values values)) v = refl
told_accepts i (Some (parser.Names names)) v = by_names names.now
  where
    by_names : (xs : List (Bor Text)) → list_any (λ (x : Bor Text). same_text i x.now v) (map behind (texts xs)) ≡ list_any (λ (x : Bor Text). same_text i x.now v) xs
    by_names [] = refl
    by_names (x ∷ xs) = ap (λ t. same_text i x.now v || t) (by_names xs)

set_takes : (app : App) (words : List Text) → IsCommandSet app → takes app words ≡ takes_words words
unfolding told takes_words
set_takes app words is = ap (λ a. takes a words) is.commands
    ∙ sym (takes_same told told_reads told_accepts (built (commands_with (parser.Names is.stacks) (parser.Names is.packet_stacks))) (argument_words command_set words))
    ∙ ap₂ (λ stacks packet_stacks. takes (commands_with (among stacks) (among packet_stacks)) words) is.words is.packet_words

set_enters : (app : App) (words : List Text) → IsCommandSet app → option_and_then asked_entered (subcommand_of app words) ≡ entered_by words
unfolding told entered_by
set_enters app words is = ap (option_and_then asked_entered) (
    ap (λ a. subcommand_of a words) is.commands
    ∙ sym (subcommand_same told told_reads told_accepts (built (commands_with (parser.Names is.stacks) (parser.Names is.packet_stacks))) (argument_words command_set words))
    ∙ ap₂ (λ stacks packet_stacks. subcommand_of (commands_with (among stacks) (among packet_stacks)) words) is.words is.packet_words
    )

-- ---- the answers

where_taken : (words : List Text) → takes_words words ≡ true → asked_of words ≡ entered_by words
unfolding asked_of
where_taken words taken = ap (λ t. if t then entered_by words else None) taken

where_refused : (words : List Text) → takes_words words ≡ false → asked_of words ≡ None
unfolding asked_of
where_refused words refused = ap (λ t. if t then entered_by words else None) refused

-- matches are those of words that are taken
pub with_matches : (app : App) (words : List Text) (m : ArgMatches) (answer : Option Asked) → IsCommandSet app → HasMatchesOf app words m
    → (is_simple_and_free app ≡ true → fault_of app words ≡ []) → answer ≡ option_and_then asked_entered (subcommand_rows_of m) → answer ≡ asked_of words
with_matches app words m answer is has fault e =
    let set = commands_with (parser.Names is.stacks) (parser.Names is.packet_stacks) in
    let none : fault_of set words ≡ [] = ap (λ a. fault_of a words) (sym is.commands) ∙ fault (ap is_simple_and_free is.commands) in
    let taken : takes app words ≡ true = ap (λ a. takes a words) is.commands ∙ faultless_is_taken set words refl refl none in
    e ∙ ap (option_and_then asked_entered) (has (ap is_simple is.commands)).1 ∙ set_enters app words is ∙ sym (where_taken words (sym (set_takes app words is) ∙ taken))

-- and an error that is not want of memory comes of words that are refused
pub without_matches : (app : App) (words : List Text) (kind : ErrorKind) (answer : Result (Option Asked) AllocError) → IsCommandSet app → (takes app words ≡ true → kind ≡ OutOfMemory)
    → (IsErr answer ↔ (kind ≡ OutOfMemory)) → IfOk answer (λ asked. asked ≡ None) → IfOk answer (λ asked. asked ≡ asked_of words)
without_matches app words kind (Err e) is passes memory none = tt
without_matches app words kind (Ok asked) is passes memory none = by_taken (takes_words words) refl
  where
    by_taken : (t : Bool) → takes_words words ≡ t → asked ≡ asked_of words
    by_taken false refused = none ∙ sym (where_refused words refused)
    by_taken true taken = absurd (true≢false (sym (memory.1 (passes (set_takes app words is ∙ taken)))))

-- what is known of an answer by the words that ask for it
pub refused_exactly : (words : List Text) (asked : Option Asked) → asked ≡ asked_of words → IsNone asked ↔ (takes_words words ≡ false)
refused_exactly words asked e = subst (λ (o : Option Asked). IsNone o ↔ (takes_words words ≡ false)) (sym e) (none_exactly_refused words)

pub made_can_be : (words : List Text) (asked : Option Asked) → asked ≡ asked_of words → IfSome (option_and_then as_texts asked) (λ command. IfMakes command CanBeMade)
made_can_be words asked e = subst (λ (o : Option Asked). IfSome (option_and_then as_texts o) (λ command. IfMakes command CanBeMade)) (sym e) (asked_can_be_made words)

pub node_can_be : (words : List Text) (asked : Option Asked) → asked ≡ asked_of words → IfSome (option_and_then as_node asked) CanBeRun
node_can_be words asked e = subst (λ (o : Option Asked). IfSome (option_and_then as_node o) CanBeRun) (sym e) (asked_can_be_run words)
