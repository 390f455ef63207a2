-- Where a parse of a simple command has no fault, the command takes the words: each step that has no fault passes.
use Rattle.std.proofs.Common.{◌≡◌, ◌&&◌, ◌||◌, ℕ, Bool, true, false, not, zero, suc, refl, sym, arith, List, [], ◌∷◌, length, drop, Option, Some, None, is_some, if◌then◌else◌, true≢false, codes}
use Rattle.std.proofs.lemmas.Bool.Decides.{nat_tests}
use Rattle.std.specs.Prelude.{encode_utf8, find, nat_le, slice_get}
use Rattle.std.specs.List.{list_all, list_any}
use Rattle.std.specs.Option.{option_map_or}
use Rattle.std.specs.Str.{bytes_eq, chars}
use Rattle.clap.specs.Lexer.{long_of, short_of}
use Rattle.clap.specs.Facts.{parser_of_value, unwrap_or_range}
use Rattle.clap.specs.Walk.{Held, Names, Row, Rule, Step, Text, Waiting, Walk, action_of, answers_to, arg_by_id, arg_by_index, arg_by_long, arg_by_short, attached_value, finished, has_row, is_pending, most_values, nothing_held, next, reacted, settled, subcommand, subcommand_met, takes_several, takes_values, trailing, value, values_or_missing, walk, walk_from, walked, word_met}
use Rattle.clap.specs.Simple.{App, Shape, argument_words, built, entered, is_simple, label_of, names_of}
use Rattle.clap.specs.Takes.{action_passes, bundle_step_passes, count_passes, default_passes, entered_passes, flag_word_passes, flags_pass, is_given, is_valid, level_passes, long_passes, option_passes, other_passes, positional_passes, react_passes, set_passes, settle_passes, short_passes, step_passes, takes, turn_passes, use_passes, value_passes, values_pass, walk_passes, word_passes}
use Rattle.clap.specs.Kinds.{Kinds, check_kinds, or_else, range_kinds, value_kinds}
use Rattle.clap.specs.Faults.{action_fault, bundle_step_fault, check_fault, count_fault, entered_fault, fault_of, flag_word_fault, flags_fault, has_free_rules, level_fault, long_fault, option_fault, other_fault, positional_fault, react_fault, set_fault, settle_fault, short_fault, step_fault, stray_fault, turn_fault, use_fault, values_fault, walk_fault, word_fault}
use Rattle.clap.specs.declared.builder.action.ArgAction.{ArgAction}
use Rattle.clap.specs.declared.builder.action.ArgAction.TheVariants as action
use Rattle.clap.specs.declared.error.kind.ErrorKind.{ErrorKind}
use Rattle.clap.specs.declared.error.kind.ErrorKind.TheVariants.{TooManyValues}
use Rattle.clap.proofs.WalkLemmas.{both}

-- ---- steps in turn

pub neither : (a b : Kinds) → or_else a b ≡ [] → (a ≡ []) × (b ≡ [])
neither [] b e = (refl, e)
neither (k ∷ ks) b e = cc

together : (a b : Bool) → a ≡ true → b ≡ true → (a && b) ≡ true
together a b s t = rw (s, t) refl

in_turn : (a b : Kinds) (s t : Bool) → (a ≡ [] → s ≡ true) → (b ≡ [] → t ≡ true) → or_else a b ≡ [] → (s && t) ≡ true
in_turn a b s t one two e = let n = neither a b e in together s t (one n.0) (two n.1)

-- a step that is passed over
unless : (o : Bool) (a : Kinds) (s : Bool) → (a ≡ [] → s ≡ true) → (if o then [] else a) ≡ [] → (o || s) ≡ true
unless true a s h e = refl
unless false a s h e = h e

-- a test that has to hold
asked : (t : Bool) (k : ErrorKind) → (if t then [] else k ∷ []) ≡ [] → t ≡ true
asked true k e = refl
asked false k e = cc

where_some : {A : Type 0} (o : Option A) (f : A → Kinds) (g : A → Bool) → ((x : A) → f x ≡ [] → g x ≡ true) → option_map_or f o [] ≡ [] → option_map_or g o true ≡ true
where_some None f g h e = refl
where_some (Some x) f g h e = h x e

-- ---- one use of an argument

value_follows : (a : Rule) (v : Text) → value_kinds a.ignore_case (parser_of_value a.parser) v ≡ [] → value_passes a v ≡ true
value_follows a v e = asked (value_passes a v) _ e

values_follow : (a : Rule) (vs : List Text) → values_fault a vs ≡ [] → values_pass a vs ≡ true
values_follow a [] e = refl
values_follow a (v ∷ vs) e = in_turn (value_kinds a.ignore_case (parser_of_value a.parser) v) (values_fault a vs) (value_passes a v) (values_pass a vs) (value_follows a v) (values_follow a vs) e

range_follows : (least most n : ℕ) → range_kinds least most n ≡ [] → (nat_le least n && nat_le n most) ≡ true
range_follows least most n e = grind (arith, nat_tests)

set_follows : (again : Bool) (a : Rule) (vs : List Text) (rows : List Row) → set_fault again a vs rows ≡ [] → set_passes again a vs rows ≡ true
set_follows again a vs rows e =
    in_turn _ (values_fault a vs) (not (has_row a.id rows) || again) (values_pass a vs) (once (has_row a.id rows) again _) (values_follow a vs) e
  where
    once : (has again : Bool) (k : ErrorKind) → (if has && not again then k ∷ [] else []) ≡ [] → (not has || again) ≡ true
    once false again k e = refl
    once true true k e = refl
    once true false k e = cc

count_follows : (a : Rule) (vs : List Text) (rows : List Row) → count_fault a vs rows ≡ [] → count_passes a vs rows ≡ true
count_follows a [] rows e = value_follows a _ e
count_follows a (v ∷ vs) rows e = values_follow a (v ∷ vs) e

action_follows : (x : ArgAction) (again : Bool) (a : Rule) (vs : List Text) (rows : List Row) → action_fault x again a vs rows ≡ [] → action_passes x again a vs rows ≡ true
action_follows action.Set again a vs rows e = set_follows again a vs rows e
action_follows action.SetTrue again a vs rows e = set_follows again a vs rows e
action_follows action.SetFalse again a vs rows e = set_follows again a vs rows e
action_follows action.Append again a vs rows e = values_follow a vs e
action_follows action.Count again a vs rows e = count_follows a vs rows e
action_follows action.Help again a vs rows e = cc
action_follows action.HelpShort again a vs rows e = cc
action_follows action.HelpLong again a vs rows e = cc
action_follows action.Version again a vs rows e = cc

and_assoc : (a b c : Bool) → (a && b) ≡ true → c ≡ true → (a && (b && c)) ≡ true
and_assoc true b c e t = together b c e t
and_assoc false b c e t = absurd (true≢false (sym e))

use_follows : (again : Bool) (a : Rule) (vs : List Text) (rows : List Row) → use_fault again a vs rows ≡ [] → use_passes again a vs rows ≡ true
use_follows again a vs rows e =
    let least = (unwrap_or_range a.range).start_inclusive in
    let n = neither (range_kinds least (most_values a) (length vs)) (action_fault (action_of a) again a (values_or_missing a vs) rows) e in
    and_assoc (nat_le least (length vs)) (nat_le (length vs) (most_values a)) _ (range_follows least (most_values a) (length vs) n.0)
    (action_follows (action_of a) again a (values_or_missing a vs) rows n.1)

-- ---- the walk

settle_follows : (c : List Rule) (again : Bool) (h : Held) → settle_fault c again h ≡ [] → settle_passes c again h ≡ true
settle_follows c again h e = where_some h.pending _ _
    (λ (p : Text × List Text). where_some (arg_by_id c p.0) _ _ (λ (a : Rule). use_follows again a p.1 h.rows)) e

react_follows : (c : List Rule) (again : Bool) (a : Rule) (vs : List Text) (h : Held) → react_fault c again a vs h ≡ [] → react_passes c again a vs h ≡ true
react_follows c again a vs h e = in_turn (settle_fault c again h) (use_fault again a vs (settled c h).rows) (settle_passes c again h) (use_passes again a vs (settled c h).rows)
    (settle_follows c again h) (use_follows again a vs (settled c h).rows) e

option_follows : (c : List Rule) (again : Bool) (a : Rule) (v : Option Text) (h : Held) → option_fault c again a v h ≡ [] → option_passes c again a v h ≡ true
option_follows c again a (Some v) h e = react_follows c again a (v ∷ []) h e
option_follows c again a None h e = settle_follows c again h e

long_follows : (c : List Rule) (again : Bool) (found : Option Rule) (v : Option Text) (h : Held) → long_fault c again found v h ≡ [] → long_passes c again found v h ≡ true
long_follows c again None v h e = cc
long_follows c again (Some a) v h e = by_kind (takes_values a) v e
  where
    by_kind : (takes : Bool) (v : Option Text) → (if takes then option_fault c again a v h else (if is_some v then TooManyValues ∷ [] else react_fault c again a [] h)) ≡ []
        → (if takes then option_passes c again a v h else (not (is_some v) && react_passes c again a [] h)) ≡ true
    by_kind true v e = option_follows c again a v h e
    by_kind false None e = react_follows c again a [] h e
    by_kind false (Some v) e = cc

short_follows : (c : List Rule) (again : Bool) (found : Option Rule) (rest : Text) (h : Held) (f : Held → Kinds) (p : Held → Bool) → ((g : Held) → f g ≡ [] → p g ≡ true)
    → short_fault c again found rest h f ≡ [] → short_passes c again found rest h p ≡ true
short_follows c again None rest h f p after e = cc
short_follows c again (Some a) rest h f p after e = by_kind (takes_values a) e
  where
    by_kind : (takes : Bool) → (if takes then option_fault c again a (attached_value rest) h else or_else (react_fault c again a [] h) (f (reacted c a [] h))) ≡ []
        → (if takes then option_passes c again a (attached_value rest) h else (react_passes c again a [] h && p (reacted c a [] h))) ≡ true
    by_kind true e = option_follows c again a (attached_value rest) h e
    by_kind false e = in_turn (react_fault c again a [] h) (f (reacted c a [] h)) (react_passes c again a [] h) (p (reacted c a [] h)) (react_follows c again a [] h) (after (reacted c a [] h)) e

bundle_step_follows : (c : List Rule) (again : Bool) (first : Option ℕ) (flags : Text) (skip : ℕ) (h : Held) (f : Text → ℕ → Held → Kinds) (p : Text → ℕ → Held → Bool)
    → ((t : Text) (n : ℕ) (g : Held) → f t n g ≡ [] → p t n g ≡ true) → bundle_step_fault c again first flags skip h f ≡ [] → bundle_step_passes c again first flags skip h p ≡ true
bundle_step_follows c again None flags skip h f p after e = refl
bundle_step_follows c again (Some x) flags zero h f p after e =
    let rest = drop (length (encode_utf8 x)) flags in
    short_follows c again (arg_by_short c x) rest h (f rest 0) (p rest 0) (after rest 0) e
bundle_step_follows c again (Some x) flags (suc skip) h f p after e = after (drop (length (encode_utf8 x)) flags) skip h e

flags_follow : (c : List Rule) (again : Bool) (k : ℕ) (flags : Text) (skip : ℕ) (h : Held) → flags_fault c again k flags skip h ≡ [] → flags_pass c again k flags skip h ≡ true
unfolding flags_fault flags_pass
flags_follow c again zero flags skip h e = refl
flags_follow c again (suc k) flags skip h e =
    bundle_step_follows c again (slice_get (chars flags) 0) flags skip h (flags_fault c again k) (flags_pass c again k) (flags_follow c again k) e

flag_word_follows : (c : List Rule) (again : Bool) (long : Option (Text × Option Text)) (word : Text) (h : Held) → flag_word_fault c again long word h ≡ [] → flag_word_passes c again long word h ≡ true
flag_word_follows c again (Some p) word h e = long_follows c again (arg_by_long c p.0) p.1 h e
flag_word_follows c again None word h e = where_some (short_of word) _ _ (λ (flags : Text). flags_follow c again (length flags) flags h.skip (record h { skip = 0 })) e

other_follows : (s : Shape) (name : Option Text) (word : Text) (h : Held) → other_fault s name word h ≡ [] → other_passes s name word h ≡ true
other_follows s (Some name) word h e = help_follows (bytes_eq name (codes "help")) s.disable_help_subcommand _ _ e
  where
    help_follows : (is disabled : Bool) (one two : ErrorKind) → (if is && not disabled then one ∷ two ∷ [] else []) ≡ [] → (not is || disabled) ≡ true
    help_follows false disabled one two e = refl
    help_follows true true one two e = refl
    help_follows true false one two e = cc
other_follows s None word h e = unless (bytes_eq word (45 ∷ 45 ∷ [])) (flag_word_fault s.rules s.args_override_self (long_of word) word h) (flag_word_passes s.rules s.args_override_self (long_of word) word h)
    (flag_word_follows s.rules s.args_override_self (long_of word) word h) e

word_follows : (s : Shape) (names : Names) (is_trailing : Bool) (waiting : Waiting) (word : Text) (h : Held) → word_fault s names is_trailing waiting word h ≡ [] → word_passes s names is_trailing waiting word h ≡ true
word_follows s names is_trailing waiting word h e = unless is_trailing (other_fault s (subcommand_met names waiting word) word h) (other_passes s (subcommand_met names waiting word) word h)
    (other_follows s (subcommand_met names waiting word) word h) e

positional_follows : (c : List Rule) (again : Bool) (a : Rule) (h : Held) → positional_fault c again a h ≡ [] → positional_passes c again a h ≡ true
positional_follows c again a h e = unless (is_pending a h.pending && takes_several a) (settle_fault c again h) (settle_passes c again h) (settle_follows c again h) e

no_stray : (leaf : Bool) (one two : ErrorKind) → (if leaf then one ∷ [] else one ∷ two ∷ []) ≡ [] → ⊥
no_stray true one two e = cc
no_stray false one two e = cc

step_follows : (s : Shape) (position : ℕ) (h : Held) (step : Step) → step_fault s position h step ≡ [] → step_passes s position h step ≡ true
step_follows s position h value e = at_positional (arg_by_index s.rules position) e
  where
    at_positional : (o : Option Rule) → option_map_or (λ (a : Rule). positional_fault s.rules s.args_override_self a h) o (stray_fault s) ≡ []
        → option_map_or (λ (a : Rule). positional_passes s.rules s.args_override_self a h) o false ≡ true
    at_positional None e = absurd (no_stray s.is_leaf _ _ e)
    at_positional (Some a) e = positional_follows s.rules s.args_override_self a h e
step_follows s position h (next waiting) e = refl
step_follows s position h (trailing p) e = refl
step_follows s position h (subcommand name) e = refl

turn_follows : (s : Shape) (names : Names) (w : Walk) (word : Text) → turn_fault s names w word ≡ [] → turn_passes s names w word ≡ true
turn_follows s names w word e =
    let met = word_met s.rules names w.is_trailing w.waiting w.position word w.held in
    unless (is_some w.stopped) _ _ (in_turn (word_fault s names w.is_trailing w.waiting word w.held) (step_fault s w.position met.0 met.1) (word_passes s names w.is_trailing w.waiting word w.held)
    (step_passes s w.position met.0 met.1) (word_follows s names w.is_trailing w.waiting word w.held) (step_follows s w.position met.0 met.1)) e

walk_follows : (s : Shape) (names : Names) (w : Walk) (words : List Text) → walk_fault s names w words ≡ [] → walk_passes s names w words ≡ true
unfolding walk_fault walk_passes
walk_follows s names w [] e = refl
walk_follows s names w (word ∷ rest) e = in_turn (turn_fault s names w word) (walk_fault s names (walked s.rules names w word) rest) (turn_passes s names w word) (walk_passes s names (walked s.rules names w word) rest)
    (turn_follows s names w word) (walk_follows s names (walked s.rules names w word) rest) e

-- ---- after the walk

wants_none : (help required argument : Bool) → check_kinds help required argument ≡ [] → (help ≡ false) × (required ≡ false) × (argument ≡ false)
wants_none true required argument e = cc
wants_none false true argument e = cc
wants_none false false true e = cc
wants_none false false false e = (refl, refl, refl)

help_asked : (has help any : Bool) → (not has && (help && not any)) ≡ false → (not help || (has || any)) ≡ true
help_asked has false any e = refl
help_asked true true any e = refl
help_asked false true true e = refl
help_asked false true false e = absurd (true≢false e)

subcommand_asked : (has required : Bool) → (not has && required) ≡ false → (not required || has) ≡ true
subcommand_asked has false e = refl
subcommand_asked true true e = refl
subcommand_asked false true e = absurd (true≢false e)

none_missing : (rules : List Rule) (rows : List Row) → list_any (λ (a : Rule). a.required && not (is_given a.id rows)) rules ≡ false → list_all (λ (a : Rule). not a.required || is_given a.id rows) rules ≡ true
none_missing [] rows e = refl
none_missing (a ∷ rest) rows e = here a.required (is_given a.id rows) _ _ (none_missing rest rows) e
  where
    here : (required given any all : Bool) → (any ≡ false → all ≡ true) → ((required && not given) || any) ≡ false → ((not required || given) && all) ≡ true
    here false given any all after e = after e
    here true true any all after e = after e
    here true false any all after e = absurd (true≢false e)

arguments_asked : (lifted : Bool) (any all : Bool) → (any ≡ false → all ≡ true) → (not lifted && any) ≡ false → (lifted || all) ≡ true
arguments_asked true any all h e = refl
arguments_asked false any all h e = h e

check_follows : (s : Shape) (rows : List Row) (has : Bool) → has_free_rules s ≡ true → check_fault s rows has ≡ [] → is_valid s rows has ≡ true
check_follows s rows has free e =
    let n = wants_none _ _ _ e in
    together _ _ (help_asked has s.arg_required_else_help _ n.0) (together _ _ (subcommand_asked has s.subcommand_required n.1)
    (together _ _ free (arguments_asked (s.subcommand_negates_reqs && has) _ _ (none_missing s.rules rows) n.2)))

abbrev pub has_passing_defaults : Shape → Bool
has_passing_defaults s = list_all default_passes s.rules

-- one level, and what is below it
level_follows : (s : Shape) (names : Names) (h : Held) (words : List Text) (has : Bool) (below : Kinds) → has_free_rules s ≡ true → has_passing_defaults s ≡ true
    → level_fault s names h words has below ≡ [] → (below ≡ []) × (level_passes s names h words has ≡ true)
level_follows s names h words has below free defaults e =
    let end = (walk s.rules names h words).held in
    let walking = neither (walk_fault s names (walk_from h) words) _ e in
    let entering = neither below _ walking.1 in
    let settling = neither (settle_fault s.rules s.args_override_self end) _ entering.1 in
    let checking = neither _ (check_fault s (finished s.rules end) has) settling.1 in (
      entering.0,
      together _ _ (walk_follows s names (walk_from h) words walking.0) (together _ _ (settle_follows s.rules s.args_override_self end settling.0)
          (together _ _ defaults (check_follows s (finished s.rules end) has free checking.1))),
    )

-- what was found passes each test that all pass
where_found : (p : Shape → Bool) (q : Shape → Bool) (f : Shape → Kinds) (g : Shape → Bool) (subs : List Shape) → ((s : Shape) → q s ≡ true → f s ≡ [] → g s ≡ true)
    → list_all q subs ≡ true → option_map_or f (find p subs) [] ≡ [] → option_map_or g (find p subs) true ≡ true
where_found p q f g [] h all e = refl
where_found p q f g (s ∷ rest) h all e =
    let parts = both (q s) (list_all q rest) all in
    here (p s) (h s parts.0) (where_found p q f g rest h parts.1) e
  where
    here : (t : Bool) → (f s ≡ [] → g s ≡ true) → (option_map_or f (find p rest) [] ≡ [] → option_map_or g (find p rest) true ≡ true)
        → option_map_or f (if t then Some s else find p rest) [] ≡ [] → option_map_or g (if t then Some s else find p rest) true ≡ true
    here true first others e = first e
    here false first others e = others e

-- the rules of a level are free, and their defaults are values of theirs
abbrev pub is_sound_shape : Shape → Bool
is_sound_shape s = has_free_rules s && has_passing_defaults s

entered_follows : (a : App) (stop : Option (Text × List Text)) → list_all is_sound_shape a.subs ≡ true → entered_fault a stop ≡ [] → entered_passes a stop ≡ true
entered_follows a stop sound e = where_some stop _ _ (λ (p : Text × List Text). where_found (λ (s : Shape). answers_to p.0 (label_of s)) is_sound_shape
    (λ (s : Shape). level_fault s [] nothing_held p.1 false []) (λ (s : Shape). level_passes s [] nothing_held p.1 false) a.subs
    (λ (s : Shape) ok found. (level_follows s [] nothing_held p.1 false [] (both (has_free_rules s) (has_passing_defaults s) ok).0 (both (has_free_rules s) (has_passing_defaults s) ok).1 found).1) sound) e

-- each level of the built command is sound
abbrev pub is_sound : App → Bool
is_sound a = is_sound_shape (built a).top && list_all is_sound_shape (built a).subs

-- where a simple command has no fault at the words, it takes them
pub faultless_is_taken : (a : App) (words : List Text) → is_simple a ≡ true → is_sound a ≡ true → fault_of a words ≡ [] → takes a words ≡ true
faultless_is_taken a words simple sound e =
    let b = built a in
    let stop = (walk b.top.rules (names_of b) nothing_held (argument_words a words)).stopped in
    let parts = both (is_sound_shape b.top) (list_all is_sound_shape b.subs) sound in
    let top = both (has_free_rules b.top) (has_passing_defaults b.top) parts.0 in
    let l = level_follows b.top (names_of b) nothing_held (argument_words a words) (is_some (entered b stop)) (entered_fault b stop) top.0 top.1 e in
    together _ _ simple (together _ _ (entered_follows b stop parts.1 l.0) l.1)
