-- Words that are taken ask for something, and a schedule that they ask for can be made, and a node be run.
use Rattle.std.proofs.Common.{inr, inl, ◌≡◌, ◌≢◌, ◌&&◌, ◌||◌, ◌↔◌, ◌∙◌, ◌<◌, ◌≤◌, ◌^◌, ◌-◌, ℕ, Bool, true, false, refl, sym, ap, subst, arith, List, [], ◌∷◌, Option, Some, None, IsNone, if◌then◌else◌, true≢false, codes}
use Rattle.std.specs.Prelude.{IfSome, IsSomeAnd, option_and_then, option_map, pos}
use Rattle.std.specs.List.{list_all, list_any}
use Rattle.std.specs.Option.{option_map_or}
use Rattle.std.specs.Str.{bytes_eq}
use Rattle.std.proofs.lemmas.Slice.Eq.{bytes_eq-Decides}
use Rattle.clap.specs.Lexer.{without_minus}
use Rattle.clap.specs.ValueTests.{accepts}
use Rattle.clap.specs.Walk.{Row, Text, nothing_held, rows_after}
use Rattle.clap.specs.Simple.{Shape, built_leaf, filled, rows_at, subcommand_of}
use Rattle.clap.specs.Takes.{is_given, level_passes}
use Rattle.clap.specs.declared.builder.value_parser.ValueParser.TheVariants.{Signed}
use Rattle.clap.proofs.WalkLemmas.{both}
use Rattle.vst_base.specs.Nets.{has_kind}
use Rattle.vst_base.specs.Stacks.{row_of, stack_named}
use Rattle.vst_base.specs.declared.net.Net.TheVariants as net
use Rattle.vst_base.specs.declared.node.TheConstants.{MAX_NODES}
use Rattle.vst_base.specs.declared.stack.StackId.{StackId}
use Rattle.vst_base.specs.declared.step.StepKind.TheVariants as kind
use Rattle.vst_base.specs.declared.step.TheConstants.{MAX_STEPS}
use Rattle.command_line.specs.CommandSet.{CanBeMade, CanBeRun, IfMakes, among, as_node, as_texts, asked_entered, asked_of, byte_in, carries_packets, check_command, command_set, directories, entered_by, has_flag, made_schedule, make_command, node_command, node_numbers, node_words, number_in, number_of_bits, packet_stack_words, required_option, schedule_in, seeds, stack_in, stack_words, step_counts, takes_words, turn_counts}
use Rattle.command_line.specs.AskedNodes.{NodeWordsView}
use Rattle.command_line.specs.declared.asked.Asked.{Asked}
use Rattle.command_line.specs.declared.asked.Asked.TheVariants.{Node, Texts}
use Rattle.command_line.specs.declared.asked.TheConstants.{MAX_TURNS}
use Rattle.command_line.specs.declared.command.Command.TheVariants.{Check, Make, Summarize}
use Rattle.command_line.specs.declared.command.MadeSchedule.{MadeSchedule}
use Rattle.command_line.proofs.Entering.{taken_enter}
use Rattle.command_line.proofs.Kept.{fits_rows, given_has_value, level_fits, level_gives}
use Rattle.command_line.proofs.Numbers.{IsWidth, number_in_range}

-- what is asked for can be done
abbrev CanBeDone : Asked → Type 0
CanBeDone (Texts command) = IfMakes command CanBeMade
CanBeDone (Node node) = CanBeRun node

-- a word that is one of these has what all of them have
any_has : (test : Text → Bool) (words : List Text) (word : Text) → list_all test words ≡ true → list_any (λ (w : Text). bytes_eq w word) words ≡ true → test word ≡ true
any_has test [] word all e = absurd (true≢false (sym e))
any_has test (w ∷ rest) word all e =
    let parts = both (test w) (list_all test rest) all in
    here (bytes_eq w word) refl parts.0 (any_has test rest word parts.1) e
  where
    here : (t : Bool) → bytes_eq w word ≡ t → test w ≡ true → (list_any (λ (w : Text). bytes_eq w word) rest ≡ true → test word ≡ true)
        → (t || list_any (λ (w : Text). bytes_eq w word) rest) ≡ true → test word ≡ true
    here true is own after e = subst (λ (w : Text). test w ≡ true) ((bytes_eq-Decides w word).0 is) own
    here false is own after e = after e

or_nothing : (t : Bool) → (t || false) ≡ true → t ≡ true
or_nothing true e = refl
or_nothing false e = e

-- a stack that a word names, and of which a test holds
abbrev names_stack : (StackId → Bool) → Text → Bool
names_stack test word = option_map_or test (stack_named word) false

named_stack : (test : StackId → Bool) (word : Text) (text : Option Text) → text ≡ Some word → names_stack test word ≡ true
    → (s : StackId) × (option_and_then stack_named text ≡ Some s) × (test s ≡ true)
named_stack test word text is e =
    let got = by_stack (stack_named word) e in
    (got.0, ap (option_and_then stack_named) is ∙ got.1, got.2)
  where
    by_stack : (o : Option StackId) → option_map_or test o false ≡ true → (s : StackId) × (o ≡ Some s) × (test s ≡ true)
    by_stack None e = absurd (true≢false (sym e))
    by_stack (Some s) e = (s, refl, e)

-- and a number that a text in a range writes
named_number : (bits least most : ℕ) (word : Text) (text : Option Text) → IsWidth bits → most < 2 ^ bits → text ≡ Some (without_minus word) → accepts false (Signed (pos least) (pos most)) word ≡ true
    → (n : ℕ) × (option_and_then (number_of_bits bits) text ≡ Some n) × (least ≤ n) × (n ≤ most)
named_number bits least most word text width fits is e =
    let got = number_in_range bits least most word width fits e in
    (got.0, ap (option_and_then (number_of_bits bits)) is ∙ got.1, got.2, got.3)

-- ---- check

check_shape : Shape
check_shape = built_leaf (check_command (among stack_words)).top

check_rows_ask : (rows : List Row) → fits_rows check_shape.rules rows ≡ true → is_given (codes "stack") rows ≡ true → IsSomeAnd (asked_entered (codes "check", rows)) CanBeDone
unfolding check_shape
check_rows_ask rows fit given =
    let option = filled (required_option (codes "stack") (among stack_words)) in
    let has = given_has_value check_shape.rules option rows (λ q e. or_nothing (q option) e) refl fit given in
    let stack = named_stack (λ s. true) has.value _ has.first (any_has (names_stack (λ s. true)) stack_words has.value refl has.passes) in
    subst (λ o. IsSomeAnd (option_map Texts (option_map Check o)) CanBeDone) (sym stack.1) tt

check_asks : (words : List Text) → level_passes check_shape [] nothing_held words false ≡ true → IsSomeAnd (asked_entered (rows_at check_shape words)) CanBeDone
unfolding check_shape
check_asks words passes = check_rows_ask (rows_after check_shape.rules [] words) (level_fits check_shape [] words false (record { once = refl; all = refl }) passes)
    (both (is_given (codes "stack") (rows_after check_shape.rules [] words)) _ (level_gives check_shape [] words false refl passes)).0

-- ---- make

make_shape : Shape
make_shape = built_leaf (make_command (among packet_stack_words)).top

-- packets travel on a stack's network, which then isn't that of a machine alone
abbrev has_packets : StackId → Bool
has_packets s = carries_packets (row_of s)

more_than_one : (s : StackId) → has_packets s ≡ true → (row_of s).net ≢ net.One
more_than_one s e one = absurd (true≢false (sym e ∙ ap (λ n. has_kind n kind.Deliver) one))

-- the parts of a schedule make it
all_parts : (stack : Option StackId) (seed steps : Option ℕ) (s : StackId) (n m : ℕ) → stack ≡ Some s → seed ≡ Some n → steps ≡ Some m
    → option_and_then (λ stack. option_and_then (λ seed. option_map (made_schedule stack seed) steps) seed) stack ≡ Some (made_schedule s n m)
all_parts stack seed steps s n m first second third = rw (first, second, third) refl

made_or_summed : (summary : Bool) (o : Option MadeSchedule) (s : MadeSchedule) → o ≡ Some s → CanBeMade s → IsSomeAnd (option_map Texts (option_map (if summary then Summarize else Make) o)) CanBeDone
made_or_summed true o s is can = subst (λ o. IsSomeAnd (option_map Texts (option_map Summarize o)) CanBeDone) (sym is) can
made_or_summed false o s is can = subst (λ o. IsSomeAnd (option_map Texts (option_map Make o)) CanBeDone) (sym is) can

make_rows_ask : (rows : List Row) → fits_rows make_shape.rules rows ≡ true → (is_given (codes "stack") rows && (is_given (codes "seed") rows && (is_given (codes "steps") rows && true))) ≡ true
    → IsSomeAnd (asked_entered (codes "make", rows)) CanBeDone
unfolding make_shape
make_rows_ask rows fit given =
    let first = both (is_given (codes "stack") rows) (is_given (codes "seed") rows && (is_given (codes "steps") rows && true)) given in
    let second = both (is_given (codes "seed") rows) (is_given (codes "steps") rows && true) first.1 in
    let third = both (is_given (codes "steps") rows) true second.1 in
    let stack_option = filled (required_option (codes "stack") (among packet_stack_words)) in
    let seed_option = filled (required_option (codes "seed") seeds) in
    let steps_option = filled (required_option (codes "steps") step_counts) in
    let has_stack = given_has_value make_shape.rules stack_option rows (λ q e. or_nothing (q stack_option) e) refl fit first.0 in
    let has_seed = given_has_value make_shape.rules seed_option rows (λ q e. or_nothing (q seed_option) e) refl fit second.0 in
    let has_steps = given_has_value make_shape.rules steps_option rows (λ q e. or_nothing (q steps_option) e) refl fit third.0 in
    let stack = named_stack has_packets has_stack.value _ has_stack.first (any_has (names_stack has_packets) packet_stack_words has_stack.value refl has_stack.passes) in
    let seed = named_number 32 0 (2 ^ 32 - 1) has_seed.value _ (omega arith, omega arith) (omega arith) has_seed.read has_seed.passes in
    let steps = named_number 32 0 MAX_STEPS has_steps.value _ (omega arith, omega arith) (omega arith) has_steps.read has_steps.passes in
    made_or_summed (has_flag (codes "summary") rows) (schedule_in rows) (made_schedule stack.0 seed.0 steps.0)
    (all_parts (stack_in rows) (number_in (codes "seed") rows) (number_in (codes "steps") rows) stack.0 seed.0 steps.0 stack.1 seed.1 steps.1)
    (record { packets = more_than_one stack.0 stack.2; seed = omega arith; steps = steps.3 })

make_asks : (words : List Text) → level_passes make_shape [] nothing_held words false ≡ true → IsSomeAnd (asked_entered (rows_at make_shape words)) CanBeDone
unfolding make_shape
make_asks words passes = make_rows_ask (rows_after make_shape.rules [] words) (level_fits make_shape [] words false (record { once = refl; all = refl }) passes)
    (level_gives make_shape [] words false refl passes)

-- ---- node

node_shape : Shape
node_shape = built_leaf node_command.top

-- the parts of a node's words make them
all_words : (me turns : Option ℕ) (state : Option Text) (n m : ℕ) (t : Text) → me ≡ Some n → turns ≡ Some m → state ≡ Some t
    → option_and_then (λ me. option_and_then (λ turns. option_map (node_words me turns) state) turns) me ≡ Some (node_words n m t)
all_words me turns state n m t first second third = rw (first, second, third) refl

node_rows_ask : (rows : List Row) → fits_rows node_shape.rules rows ≡ true → (is_given (codes "me") rows && (is_given (codes "turns") rows && (is_given (codes "state") rows && true))) ≡ true
    → IsSomeAnd (asked_entered (codes "node", rows)) CanBeDone
unfolding node_shape
node_rows_ask rows fit given =
    let first = both (is_given (codes "me") rows) (is_given (codes "turns") rows && (is_given (codes "state") rows && true)) given in
    let second = both (is_given (codes "turns") rows) (is_given (codes "state") rows && true) first.1 in
    let third = both (is_given (codes "state") rows) true second.1 in
    let me_option = filled (required_option (codes "me") node_numbers) in
    let turns_option = filled (required_option (codes "turns") turn_counts) in
    let state_option = filled (required_option (codes "state") directories) in
    let has_me = given_has_value node_shape.rules me_option rows (λ q e. or_nothing (q me_option) e) refl fit first.0 in
    let has_turns = given_has_value node_shape.rules turns_option rows (λ q e. or_nothing (q turns_option) e) refl fit second.0 in
    let has_state = given_has_value node_shape.rules state_option rows (λ q e. or_nothing (q state_option) e) refl fit third.0 in
    let me = named_number 8 0 (MAX_NODES - 1) has_me.value _ (omega arith, omega arith) (omega arith) has_me.read has_me.passes in
    let turns = named_number 32 1 MAX_TURNS has_turns.value _ (omega arith, omega arith) (omega arith) has_turns.read has_turns.passes in
    let node = all_words (byte_in (codes "me") rows) (number_in (codes "turns") rows) _ me.0 turns.0 has_state.value me.1 turns.1 has_state.first in
    subst (λ (o : Option NodeWordsView). IsSomeAnd (option_map Node o) CanBeDone) (sym node) (record { me = omega arith; some = turns.2; turns = turns.3 })

node_asks : (words : List Text) → level_passes node_shape [] nothing_held words false ≡ true → IsSomeAnd (asked_entered (rows_at node_shape words)) CanBeDone
unfolding node_shape
node_asks words passes = node_rows_ask (rows_after node_shape.rules [] words) (level_fits node_shape [] words false (record { once = refl; all = refl }) passes)
    (level_gives node_shape [] words false refl passes)

-- ---- the command set

-- taken words ask for something, and it can be done
taken_ask : (words : List Text) → takes_words words ≡ true → IsSomeAnd (entered_by words) CanBeDone
unfolding takes_words entered_by check_shape make_shape node_shape
taken_ask words e = by_entered (subcommand_of command_set words) (taken_enter (λ (p : Text × List Row). IsSomeAnd (asked_entered p) CanBeDone) command_set words refl refl
    (inr (λ words e. tt), (inr check_asks, (inr make_asks, (inr node_asks, (inl refl, tt))))) e)
  where
    by_entered : (o : Option (Text × List Row)) → IsSomeAnd o (λ (p : Text × List Row). IsSomeAnd (asked_entered p) CanBeDone) → IsSomeAnd (option_and_then asked_entered o) CanBeDone
    by_entered None h = absurd h
    by_entered (Some p) h = h

-- nothing is asked for exactly where the words are not taken
pub none_exactly_refused : (words : List Text) → IsNone (asked_of words) ↔ (takes_words words ≡ false)
unfolding asked_of
none_exactly_refused words = by_taken (takes_words words) (entered_by words) (taken_ask words)
  where
    by_taken : (t : Bool) (o : Option Asked) → (t ≡ true → IsSomeAnd o CanBeDone) → IsNone (if t then o else None) ↔ (t ≡ false)
    by_taken false o h = (λ none. refl, λ e. refl)
    by_taken true (Some asked) h = (λ none. absurd (true≢false none), λ e. absurd (true≢false e))
    by_taken true None h = absurd (h refl)

-- what is asked for can be done
asked_can_be_done : (words : List Text) → IfSome (asked_of words) CanBeDone
unfolding asked_of
asked_can_be_done words = by_taken (takes_words words) (entered_by words) (taken_ask words)
  where
    by_taken : (t : Bool) (o : Option Asked) → (t ≡ true → IsSomeAnd o CanBeDone) → IfSome (if t then o else None) CanBeDone
    by_taken false o h = tt
    by_taken true (Some asked) h = h refl
    by_taken true None h = tt

-- a schedule that is asked for can be made
pub asked_can_be_made : (words : List Text) → IfSome (option_and_then as_texts (asked_of words)) (λ command. IfMakes command CanBeMade)
asked_can_be_made words = by_asked (asked_of words) (asked_can_be_done words)
  where
    by_asked : (o : Option Asked) → IfSome o CanBeDone → IfSome (option_and_then as_texts o) (λ command. IfMakes command CanBeMade)
    by_asked None h = tt
    by_asked (Some (Texts command)) h = h
    by_asked (Some (Node node)) h = tt

-- and a node be run
pub asked_can_be_run : (words : List Text) → IfSome (option_and_then as_node (asked_of words)) CanBeRun
asked_can_be_run words = by_asked (asked_of words) (asked_can_be_done words)
  where
    by_asked : (o : Option Asked) → IfSome o CanBeDone → IfSome (option_and_then as_node o) CanBeRun
    by_asked None h = tt
    by_asked (Some (Texts command)) h = tt
    by_asked (Some (Node node)) h = h
