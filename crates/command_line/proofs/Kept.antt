-- Where a parse passes, each value that it keeps of an argument passed that argument's parser, and is read by it. The rules set their values, and a second use of one does not pass.
use Rattle.std.proofs.Common.{◌≡◌, ◌&&◌, ◌||◌, ◌∙◌, ◌==◌, ℕ, Bool, true, false, not, zero, suc, refl, sym, ap, subst, arith, List, [], ◌∷◌, ◌++◌, length, drop, Option, Some, None, is_some, if◌then◌else◌, true≢false}
use Rattle.std.proofs.lemmas.Bool.Decides.{nat_tests}
use Rattle.std.proofs.lemmas.List.Folds.{list_all-append}
use Rattle.std.proofs.lemmas.Slice.Eq.{bytes_eq-Decides}
use Rattle.std.specs.Prelude.{encode_utf8, find, fold, nat_le, option_and_then, option_map, slice_get}
use Rattle.std.specs.List.{list_all, list_any}
use Rattle.std.specs.Option.{option_map_or}
use Rattle.std.specs.Str.{bytes_eq, chars}
use Rattle.clap.specs.Lexer.{long_of, short_of}
use Rattle.clap.specs.Facts.{explicit_source, unwrap_or_range}
use Rattle.clap.specs.Values.{is_request, read_as}
use Rattle.clap.specs.Walk.{Held, Names, Outcome, Row, Rule, Step, Text, Waiting, Walk, action_of, after_flag, after_step, arg_by_id, arg_by_index, arg_by_long, arg_by_short, attached_value, bundle_met, bundle_step, default_rows, done, finished, flag_met, has_row, idle, is_empty, is_pending, long_met, long_or_other, most_values, more_values, next, nothing_held, option, option_met, option_word, plain, plain_word, positional, reacted, reading_by, refused, row_text, rows_after, settled, settled_rows, short_met, short_or_plain, subcommand, subcommand_met, subcommand_or_other, takes_several, takes_values, to_positional, trailing, used, used_as, used_by_id, value, values_or_missing, waits, walk, walk_from, walked, walked_from, with_default, with_values, without, word_met}
use Rattle.clap.specs.Simple.{Shape}
use Rattle.clap.specs.Takes.{action_passes, bundle_step_passes, default_passes, flag_word_passes, is_given, flags_pass, is_valid, level_passes, long_passes, option_passes, other_passes, positional_passes, react_passes, set_passes, settle_passes, short_passes, step_passes, turn_passes, use_passes, value_passes, values_pass, walk_passes, word_passes}
use Rattle.clap.specs.declared.builder.action.ArgAction.{ArgAction}
use Rattle.clap.specs.declared.builder.action.ArgAction.TheVariants as action
use Rattle.clap.specs.declared.builder.value_parser.Reading.{Reading}
use Rattle.clap.specs.declared.builder.value_parser.Reading.TheVariants as reading
use Rattle.clap.specs.declared.parser.matches.ValueSource.{ValueSource}
use Rattle.clap.proofs.WalkLemmas.{both}

-- the action gives the values of a use their place, or is a request, which never passes
abbrev pub sets : ArgAction → Bool
sets action.Append = false
sets action.Count = false
sets _ = true

abbrev pub has_some : List Text → Bool
has_some [] = false
has_some (v ∷ vs) = true

abbrev pub least : Rule → ℕ
least a = (unwrap_or_range a.range).start_inclusive

-- two ways to read a value are one
abbrev same_reading : Reading → Reading → Bool
same_reading reading.AsWritten reading.AsWritten = true
same_reading reading.WithoutMinus reading.WithoutMinus = true
same_reading reading.Boolish reading.Boolish = true
same_reading reading.Falsey reading.Falsey = true
same_reading _ _ = false

reads_as_itself : (how : Reading) → same_reading how how ≡ true
reads_as_itself reading.AsWritten = refl
reads_as_itself reading.WithoutMinus = refl
reads_as_itself reading.Boolish = refl
reads_as_itself reading.Falsey = refl

is_reading : (how other : Reading) → same_reading how other ≡ true → how ≡ other
is_reading reading.AsWritten reading.AsWritten e = refl
is_reading reading.WithoutMinus reading.WithoutMinus e = refl
is_reading reading.Boolish reading.Boolish e = refl
is_reading reading.Falsey reading.Falsey e = refl
is_reading _ _ e = absurd (true≢false (sym e))

-- the values are of the argument, and it has one where it wants one
abbrev suits : Rule → List Text → Bool
suits a values = values_pass a values && (has_some values || least a == 0)

-- and they are read by its parser
abbrev pub fits : Rule → Reading → List Text → Bool
fits a how values = same_reading how (reading_by a) && suits a values

-- a rule with the id of the row has its values
abbrev pub fits_row : List Rule → Row → Bool
fits_row c r = list_any (λ (a : Rule). bytes_eq a.id r.id && fits a r.reading r.values) c

abbrev pub fits_rows : List Rule → List Row → Bool
fits_rows c = list_all (fits_row c)

and_true : (a b : Bool) → a ≡ true → b ≡ true → (a && b) ≡ true
and_true a b s t = rw (s, t) refl

or_second : (a b : Bool) → b ≡ true → (a || b) ≡ true
or_second true b e = refl
or_second false b e = e

or_first : (a b : Bool) → a ≡ true → (a || b) ≡ true
or_first true b e = refl
or_first false b e = absurd (true≢false (sym e))

neither_true : (a b : Bool) → (a || b) ≡ false → (a ≡ false) × (b ≡ false)
neither_true true b e = absurd (true≢false e)
neither_true false b e = (refl, e)

-- what was found is one of the rules, and sets its values
abbrev pub Found : List Rule → Option Rule → Type 0
Found c o = ((q : Rule → Bool) → option_map_or q o false ≡ true → list_any q c ≡ true) × (option_map_or (λ (a : Rule). sets (action_of a)) o true ≡ true)

found_in : (test q : Rule → Bool) (c : List Rule) → option_map_or q (find test c) false ≡ true → list_any q c ≡ true
found_in test q [] e = e
found_in test q (x ∷ rest) e = here (test x) (found_in test q rest) e
  where
    here : (t : Bool) → (option_map_or q (find test rest) false ≡ true → list_any q rest ≡ true) → option_map_or q (if t then Some x else find test rest) false ≡ true → (q x || list_any q rest) ≡ true
    here true after e = or_first (q x) (list_any q rest) e
    here false after e = or_second (q x) (list_any q rest) (after e)

found_sets : (test p : Rule → Bool) (c : List Rule) → list_all p c ≡ true → option_map_or p (find test c) true ≡ true
found_sets test p [] all = refl
found_sets test p (x ∷ rest) all = here (test x) (both (p x) (list_all p rest) all) (found_sets test p rest)
  where
    here : (t : Bool) → (p x ≡ true) × (list_all p rest ≡ true) → (list_all p rest ≡ true → option_map_or p (find test rest) true ≡ true) → option_map_or p (if t then Some x else find test rest) true ≡ true
    here true parts after = parts.0
    here false parts after = after parts.1

abbrev pub sets_all : List Rule → Bool
sets_all = list_all (λ (a : Rule). sets (action_of a))

was_found : (test : Rule → Bool) (c : List Rule) → sets_all c ≡ true → Found c (find test c)
was_found test c all = (λ q e. found_in test q c e, found_sets test (λ (a : Rule). sets (action_of a)) c all)

-- ---- one use

without_none : (id : Text) (rows : List Row) → has_row id rows ≡ false → without id rows ≡ rows
without_none id [] none = refl
without_none id (r ∷ rows) none =
    let n = neither_true (bytes_eq r.id id) (has_row id rows) none in
    ap (λ t. if t then rows else r ∷ without id rows) n.0 ∙ ap (λ rest. r ∷ rest) (without_none id rows n.1)

abbrev new_row : Text → Reading → ValueSource → List Text → Row
new_row id how s values = record { id = id; values = values; count = None; source = Some s; reading = how }

added_last : (id : Text) (how : Reading) (s : ValueSource) (values : List Text) (rows : List Row) → has_row id rows ≡ false → with_values id how s values rows ≡ rows ++ new_row id how s values ∷ []
added_last id how s values [] none = refl
added_last id how s values (r ∷ rows) none =
    let n = neither_true (bytes_eq r.id id) (has_row id rows) none in
    ap (λ t. if t then more_values s values r ++ rows else r ∷ with_values id how s values rows) n.0 ∙ ap (λ rest. r ∷ rest) (added_last id how s values rows n.1)

row_fits : (c : List Rule) (a : Rule) (s : ValueSource) (values : List Text) → Found c (Some a) → suits a values ≡ true
    → fits_row c (new_row a.id (reading_by a) s values) ≡ true
row_fits c a s values found fit = found.0 (λ (b : Rule). bytes_eq b.id a.id && fits b (reading_by a) values) (and_true (bytes_eq a.id a.id) (fits a (reading_by a) values) ((bytes_eq-Decides a.id a.id).1 refl)
    (and_true (same_reading (reading_by a) (reading_by a)) (suits a values) (reads_as_itself (reading_by a)) fit))

added_fits : (c : List Rule) (a : Rule) (s : ValueSource) (values : List Text) (rows : List Row) → Found c (Some a) → has_row a.id rows ≡ false
    → suits a values ≡ true → fits_rows c rows ≡ true → fits_rows c (with_values a.id (reading_by a) s values rows) ≡ true
added_fits c a s values rows found none fit before =
    let row = new_row a.id (reading_by a) s values in
    ap (fits_rows c) (added_last a.id (reading_by a) s values rows none) ∙ list_all-append (fits_row c) rows (row ∷ [])
    ∙ and_true (fits_rows c rows) (fits_row c row && true) before (and_true (fits_row c row) true (row_fits c a s values found fit) refl)

set_fits : (c : List Rule) (a : Rule) (s : ValueSource) (values : List Text) (rows : List Row) → Found c (Some a) → (has_some values || least a == 0) ≡ true → set_passes false a values rows ≡ true
    → fits_rows c rows ≡ true → fits_rows c (with_values a.id (reading_by a) s values (without a.id rows)) ≡ true
set_fits c a s values rows found some passes before =
    let parts = both (not (has_row a.id rows) || false) (values_pass a values) passes in
    let none = unused (has_row a.id rows) parts.0 in
    ap (λ rows. fits_rows c (with_values a.id (reading_by a) s values rows)) (without_none a.id rows none)
    ∙ added_fits c a s values rows found none (and_true (values_pass a values) (has_some values || least a == 0) parts.1 some) before
  where
    unused : (t : Bool) → (not t || false) ≡ true → t ≡ false
    unused true e = sym e
    unused false e = refl

enough : (a : Rule) (vs : List Text) → nat_le (least a) (length vs) ≡ true → (has_some (values_or_missing a vs) || least a == 0) ≡ true
enough a [] e = or_second (has_some a.missing) (least a == 0) (grind (arith, nat_tests))
enough a (v ∷ vs) e = refl

used_fits : (c : List Rule) (a : Rule) (vs : List Text) (rows : List Row) → Found c (Some a) → use_passes false a vs rows ≡ true → fits_rows c rows ≡ true → fits_rows c (used a vs rows) ≡ true
used_fits c a vs rows found passes before =
    let values = values_or_missing a vs in
    let counted = both (nat_le (least a) (length vs)) _ passes in
    let acts = both (nat_le (length vs) (most_values a)) _ counted.1 in
    by_action (action_of a) (enough a vs counted.0) found.1 acts.1
  where
    by_action : (x : ArgAction) → (has_some (values_or_missing a vs) || least a == 0) ≡ true → sets x ≡ true → action_passes x false a (values_or_missing a vs) rows ≡ true
        → fits_rows c (used_as x a.id (reading_by a) (values_or_missing a vs) rows) ≡ true
    by_action action.Set some is e = set_fits c a _ (values_or_missing a vs) rows found some e before
    by_action action.SetTrue some is e = set_fits c a _ (values_or_missing a vs) rows found some e before
    by_action action.SetFalse some is e = set_fits c a _ (values_or_missing a vs) rows found some e before
    by_action action.Append some is e = absurd (true≢false (sym is))
    by_action action.Count some is e = absurd (true≢false (sym is))
    by_action action.Help some is e = before
    by_action action.HelpShort some is e = before
    by_action action.HelpLong some is e = before
    by_action action.Version some is e = before

-- ---- the walk

settled_fits : (c : List Rule) (h : Held) → sets_all c ≡ true → settle_passes c false h ≡ true → fits_rows c h.rows ≡ true → fits_rows c (settled c h).rows ≡ true
settled_fits c h all passes before = at h.pending passes
  where
    by_rule : (o : Option Rule) (vs : List Text) → Found c o → option_map_or (λ (a : Rule). use_passes false a vs h.rows) o true ≡ true → fits_rows c (used_by_id o vs h.rows) ≡ true
    by_rule None vs found e = before
    by_rule (Some a) vs found e = used_fits c a vs h.rows found e before

    at : (o : Option (Text × List Text)) → option_map_or (λ (p : Text × List Text). option_map_or (λ (a : Rule). use_passes false a p.1 h.rows) (arg_by_id c p.0) true) o true ≡ true
        → fits_rows c (settled_rows c o h.rows) ≡ true
    at None e = before
    at (Some p) e = by_rule (arg_by_id c p.0) p.1 (was_found (λ (a : Rule). bytes_eq a.id p.0) c all) e

reacted_fits : (c : List Rule) (a : Rule) (vs : List Text) (h : Held) → sets_all c ≡ true → Found c (Some a) → react_passes c false a vs h ≡ true → fits_rows c h.rows ≡ true → fits_rows c (reacted c a vs h).rows ≡ true
reacted_fits c a vs h all found passes before =
    let parts = both (settle_passes c false h) (use_passes false a vs (settled c h).rows) passes in
    used_fits c a vs (settled c h).rows found parts.1 (settled_fits c h all parts.0 before)

option_fits : (c : List Rule) (a : Rule) (v : Option Text) (h : Held) → sets_all c ≡ true → Found c (Some a) → option_passes c false a v h ≡ true → fits_rows c h.rows ≡ true → fits_rows c (option_met c a v h).0.rows ≡ true
option_fits c a (Some v) h all found passes before = reacted_fits c a (v ∷ []) h all found passes before
option_fits c a None h all found passes before = settled_fits c h all passes before

long_fits : (c : List Rule) (o : Option Rule) (v : Option Text) (h : Held) → sets_all c ≡ true → Found c o → long_passes c false o v h ≡ true → fits_rows c h.rows ≡ true → fits_rows c (long_met c o v h).0.rows ≡ true
long_fits c None v h all found passes before = before
long_fits c (Some a) v h all found passes before = by_kind (takes_values a) v passes
  where
    by_kind : (t : Bool) (v : Option Text) → (if t then option_passes c false a v h else (not (is_some v) && react_passes c false a [] h)) ≡ true
        → fits_rows c (if t then option_met c a v h else flag_met c a v h).0.rows ≡ true
    by_kind true v e = option_fits c a v h all found e before
    by_kind false None e = reacted_fits c a [] h all found e before
    by_kind false (Some v) e = before

short_fits : (c : List Rule) (o : Option Rule) (rest : Text) (h : Held) (m : Held → Held × Outcome) (p : Held → Bool) → sets_all c ≡ true → Found c o
    → ((x : Held) → p x ≡ true → fits_rows c x.rows ≡ true → fits_rows c (m x).0.rows ≡ true)
    → short_passes c false o rest h p ≡ true → fits_rows c h.rows ≡ true → fits_rows c (short_met c o rest h m).0.rows ≡ true
short_fits c None rest h m p all found after passes before = before
short_fits c (Some a) rest h m p all found after passes before = by_kind (takes_values a) passes
  where
    by_kind : (t : Bool) → (if t then option_passes c false a (attached_value rest) h else (react_passes c false a [] h && p (reacted c a [] h))) ≡ true
        → fits_rows c (if t then option_met c a (attached_value rest) h else m (reacted c a [] h)).0.rows ≡ true
    by_kind true e = option_fits c a (attached_value rest) h all found e before
    by_kind false e =
        let parts = both (react_passes c false a [] h) (p (reacted c a [] h)) e in
        after (reacted c a [] h) parts.1 (reacted_fits c a [] h all found parts.0 before)

bundle_fits : (c : List Rule) (k : ℕ) (flags : Text) (skip : ℕ) (so_far : Outcome) (h : Held) → sets_all c ≡ true → flags_pass c false k flags skip h ≡ true → fits_rows c h.rows ≡ true
    → fits_rows c (bundle_met c k flags skip so_far h).0.rows ≡ true
unfolding flags_pass bundle_met
bundle_fits c zero flags skip so_far h all passes before = before
bundle_fits c (suc k) flags skip so_far h all passes before = step (λ t n o x. bundle_fits c k t n o x all) (slice_get (chars flags) 0) skip passes
  where
    step : ((t : Text) (n : ℕ) (o : Outcome) (x : Held) → flags_pass c false k t n x ≡ true → fits_rows c x.rows ≡ true → fits_rows c (bundle_met c k t n o x).0.rows ≡ true)
        → (o : Option ℕ) (skip : ℕ) → bundle_step_passes c false o flags skip h (flags_pass c false k) ≡ true → fits_rows c (bundle_step c o flags skip so_far h (bundle_met c k)).0.rows ≡ true
    step after None skip e = before
    step after (Some x) zero e =
        let rest = drop (length (encode_utf8 x)) flags in
        short_fits c (arg_by_short c x) rest h (bundle_met c k rest 0 done) (flags_pass c false k rest 0) all (was_found _ c all) (after rest 0 done) e before
    step after (Some x) (suc skip) e = after (drop (length (encode_utf8 x)) flags) skip so_far h e before

plain_rows : (c : List Rule) (waiting : Waiting) (word : Text) (h : Held) → (plain_word c waiting word h).0.rows ≡ h.rows
plain_rows c idle word h = refl
plain_rows c positional word h = refl
plain_rows c (option id) word h = by_rule (arg_by_id c id)
  where
    by_rule : (o : Option Rule) → (option_word o id word h).0.rows ≡ h.rows
    by_rule None = refl
    by_rule (Some a) = refl

flagged_rows : (c : List Rule) (waiting : Waiting) (word : Text) (h : Held) (o : Outcome) → (after_flag c waiting word h o).0.rows ≡ h.rows
flagged_rows c waiting word h done = refl
flagged_rows c waiting word h (waits id) = refl
flagged_rows c waiting word h plain = plain_rows c waiting word h
flagged_rows c waiting word h refused = plain_rows c waiting word h

flag_fits : (c : List Rule) (waiting : Waiting) (word : Text) (m : Held × Outcome) → fits_rows c m.0.rows ≡ true → fits_rows c (after_flag c waiting word m.0 m.1).0.rows ≡ true
flag_fits c waiting word m before = ap (fits_rows c) (flagged_rows c waiting word m.0 m.1) ∙ before

flag_word_fits : (c : List Rule) (waiting : Waiting) (word : Text) (o : Option (Text × Option Text)) (h : Held) → sets_all c ≡ true → flag_word_passes c false o word h ≡ true → fits_rows c h.rows ≡ true
    → fits_rows c (long_or_other c waiting word o h).0.rows ≡ true
flag_word_fits c waiting word (Some p) h all passes before = flag_fits c waiting word _ (long_fits c (arg_by_long c p.0) p.1 h all (was_found _ c all) passes before)
flag_word_fits c waiting word None h all passes before = by_short (short_of word) passes
  where
    by_short : (o : Option Text) → option_map_or (λ (flags : Text). flags_pass c false (length flags) flags h.skip (record h { skip = 0 })) o true ≡ true
        → fits_rows c (short_or_plain c waiting word o h).0.rows ≡ true
    by_short None e = ap (fits_rows c) (plain_rows c waiting word h) ∙ before
    by_short (Some flags) e = flag_fits c waiting word _ (bundle_fits c (length flags) flags h.skip plain (record h { skip = 0 }) all e before)

-- a command of which a second use of an argument does not pass, and whose rules set their values
pub record IsSet (s : Shape) : Type 0 where
  pub once : s.args_override_self ≡ false
  pub all : sets_all s.rules ≡ true

word_fits : (s : Shape) (names : Names) (is_trailing : Bool) (waiting : Waiting) (position : ℕ) (word : Text) (h : Held) → IsSet s → word_passes s names is_trailing waiting word h ≡ true
    → fits_rows s.rules h.rows ≡ true → fits_rows s.rules (word_met s.rules names is_trailing waiting position word h).0.rows ≡ true
word_fits s names true waiting position word h is passes before = before
word_fits s names false waiting position word h is passes before = by_name (subcommand_met names waiting word) passes
  where
    by_word : (t : Bool) → (t || flag_word_passes s.rules s.args_override_self (long_of word) word h) ≡ true
        → fits_rows s.rules (if t then (h, trailing position) else long_or_other s.rules waiting word (long_of word) h).0.rows ≡ true
    by_word true e = before
    by_word false e = flag_word_fits s.rules waiting word (long_of word) h is.all (subst (λ (again : Bool). flag_word_passes s.rules again (long_of word) word h ≡ true) is.once e) before

    by_name : (name : Option Text) → other_passes s name word h ≡ true → fits_rows s.rules (subcommand_or_other s.rules name waiting position word h).0.rows ≡ true
    by_name (Some name) e = before
    by_name None e = by_word (bytes_eq word (45 ∷ 45 ∷ [])) e

positional_fits : (c : List Rule) (o : Option Rule) (word : Text) (w : Walk) (h : Held) → sets_all c ≡ true → option_map_or (λ (a : Rule). positional_passes c false a h) o false ≡ true
    → fits_rows c h.rows ≡ true → fits_rows c (to_positional c o word w h).held.rows ≡ true
positional_fits c None word w h all passes before = before
positional_fits c (Some a) word w h all passes before = by_pending (is_pending a h.pending && takes_several a) passes
  where
    by_pending : (t : Bool) → (t || settle_passes c false h) ≡ true → fits_rows c (if t then h else settled c h).rows ≡ true
    by_pending true e = before
    by_pending false e = settled_fits c h all e before

step_fits : (s : Shape) (word : Text) (w : Walk) (h : Held) (step : Step) → IsSet s → step_passes s w.position h step ≡ true → fits_rows s.rules h.rows ≡ true
    → fits_rows s.rules (after_step s.rules word w h step).held.rows ≡ true
step_fits s word w h (next waiting) is passes before = before
step_fits s word w h (trailing position) is passes before = before
step_fits s word w h (subcommand name) is passes before = before
step_fits s word w h value is passes before = positional_fits s.rules (arg_by_index s.rules w.position) word w h is.all
    (subst (λ (again : Bool). option_map_or (λ (a : Rule). positional_passes s.rules again a h) (arg_by_index s.rules w.position) false ≡ true) is.once passes) before

walked_fits : (s : Shape) (names : Names) (w : Walk) (word : Text) → IsSet s → turn_passes s names w word ≡ true → fits_rows s.rules w.held.rows ≡ true → fits_rows s.rules (walked s.rules names w word).held.rows ≡ true
unfolding walked
walked_fits s names w word is passes before = by_stop w.stopped passes
  where
    met : Held × Step
    met = word_met s.rules names w.is_trailing w.waiting w.position word w.held

    by_stop : (stop : Option (Text × List Text)) → (is_some stop || (word_passes s names w.is_trailing w.waiting word w.held && step_passes s w.position met.0 met.1)) ≡ true
        → fits_rows s.rules (walked_from s.rules names stop w word).held.rows ≡ true
    by_stop (Some p) e = before
    by_stop None e =
        let parts = both (word_passes s names w.is_trailing w.waiting word w.held) (step_passes s w.position met.0 met.1) e in
        step_fits s word w met.0 met.1 is parts.1 (word_fits s names w.is_trailing w.waiting w.position word w.held is parts.0 before)

walk_fits : (s : Shape) (names : Names) (w : Walk) (words : List Text) → IsSet s → walk_passes s names w words ≡ true → fits_rows s.rules w.held.rows ≡ true
    → fits_rows s.rules (fold (walked s.rules names) w words).held.rows ≡ true
unfolding walk_passes
walk_fits s names w [] is passes before = before
walk_fits s names w (word ∷ rest) is passes before =
    let turn = both (turn_passes s names w word) (walk_passes s names (walked s.rules names w word) rest) passes in
    walk_fits s names (walked s.rules names w word) rest is turn.1 (walked_fits s names w word is turn.0 before)

-- ---- after the walk

default_fits : (c : List Rule) (a : Rule) (rows : List Row) → Found c (Some a) → default_passes a ≡ true → fits_rows c rows ≡ true → fits_rows c (with_default rows a) ≡ true
default_fits c a rows found passes before = by_row (has_row a.id rows) refl
  where
    by_values : (values : List Text) → (is_empty values || (not (is_request (action_of a)) && values_pass a values)) ≡ true → has_row a.id rows ≡ false
        → fits_rows c (default_rows a.id (reading_by a) values rows) ≡ true
    by_values [] e none = before
    by_values (v ∷ vs) e none = added_fits c a _ (v ∷ vs) rows found none (and_true (values_pass a (v ∷ vs)) true (both (not (is_request (action_of a))) (values_pass a (v ∷ vs)) (nonempty (length vs) _ e)).1 refl) before
      where
        nonempty : (n : ℕ) (t : Bool) → ((suc n == 0) || t) ≡ true → t ≡ true
        nonempty n t e = grind (arith, nat_tests)

    by_row : (t : Bool) → has_row a.id rows ≡ t → fits_rows c (if t then rows else default_rows a.id (reading_by a) a.defaults rows) ≡ true
    by_row true e = before
    by_row false e = by_values a.defaults passes e

defaults_fit : (c rest : List Rule) (rows : List Row) → ((q : Rule → Bool) → list_any q rest ≡ true → list_any q c ≡ true) → sets_all rest ≡ true → list_all default_passes rest ≡ true
    → fits_rows c rows ≡ true → fits_rows c (fold with_default rows rest) ≡ true
defaults_fit c [] rows among all passes before = before
defaults_fit c (a ∷ rest) rows among all passes before =
    let parts = both (default_passes a) (list_all default_passes rest) passes in
    let set = both (sets (action_of a)) (sets_all rest) all in
    defaults_fit c rest (with_default rows a) (λ q e. among q (or_second (q a) (list_any q rest) e)) set.1 parts.1
    (default_fits c a rows (λ q e. among q (or_first (q a) (list_any q rest) e), set.0) parts.0 before)

-- a level that passes keeps values that fit
pub level_fits : (s : Shape) (names : Names) (words : List Text) (has : Bool) → IsSet s → level_passes s names nothing_held words has ≡ true → fits_rows s.rules (rows_after s.rules names words) ≡ true
level_fits s names words has is passes =
    let end = (walk s.rules names nothing_held words).held in
    let walking = both (walk_passes s names (walk_from nothing_held) words) _ passes in
    let settling = both (settle_passes s.rules s.args_override_self end) _ walking.1 in
    let defaults = both (list_all default_passes s.rules) (is_valid s (finished s.rules end) has) settling.1 in
    let walked_rows = walk_fits s names (walk_from nothing_held) words is walking.0 refl in
    defaults_fit s.rules s.rules (settled s.rules end).rows (λ q e. e) is.all defaults.0
    (settled_fits s.rules end is.all (subst (λ (again : Bool). settle_passes s.rules again end ≡ true) is.once settling.0) walked_rows)

-- and what it requires is given
pub level_gives : (s : Shape) (names : Names) (words : List Text) (has : Bool) → s.subcommand_negates_reqs ≡ false → level_passes s names nothing_held words has ≡ true
    → list_all (λ (a : Rule). not a.required || is_given a.id (rows_after s.rules names words)) s.rules ≡ true
level_gives s names words has asks passes =
    let end = (walk s.rules names nothing_held words).held in
    let rows = finished s.rules end in
    let walking = both (walk_passes s names (walk_from nothing_held) words) _ passes in
    let settling = both (settle_passes s.rules s.args_override_self end) _ walking.1 in
    let valid = (both (list_all default_passes s.rules) (is_valid s rows has) settling.1).1 in
    let wanted = (both (not s.arg_required_else_help || (has || list_any (λ (r : Row). explicit_source r.source) rows)) _ valid).1 in
    let free = (both (not s.subcommand_required || has) _ wanted).1 in
    let given = (both (list_all (λ (a : Rule). a.is_free) s.rules) _ free).1 in
    asked s.subcommand_negates_reqs asks given
  where
    asked : (t : Bool) → t ≡ false → ((t && has) || list_all (λ (a : Rule). not a.required || is_given a.id (rows_after s.rules names words)) s.rules) ≡ true
        → list_all (λ (a : Rule). not a.required || is_given a.id (rows_after s.rules names words)) s.rules ≡ true
    asked false off e = e
    asked true off e = absurd (true≢false off)

-- an argument has a value, by the row that is found for it: the value passes its parser, and is read by it
pub record HasValue (a : Rule) (row : Option Row) : Type 0 where
  pub value : Text
  pub passes : value_passes a value ≡ true
  pub first : option_and_then (λ (r : Row). slice_get r.values 0) row ≡ Some value
  pub read : option_and_then row_text row ≡ Some (read_as (reading_by a) value)

-- the rule is the only one with its id
abbrev pub HasOwnId : Rule → List Rule → Type 0
HasOwnId a c = (q : Rule → Bool) → list_any (λ (b : Rule). bytes_eq b.id a.id && q b) c ≡ true → q a ≡ true

-- an argument that is given and wants a value has one
pub given_has_value : (c : List Rule) (a : Rule) (rows : List Row) → HasOwnId a c → (least a == 0) ≡ false → fits_rows c rows ≡ true → is_given a.id rows ≡ true
    → HasValue a (find (λ (r : Row). bytes_eq r.id a.id) rows)
given_has_value c a [] own wants fit given = absurd (true≢false (sym given))
given_has_value c a (r ∷ rows) own wants fit given =
    let parts = both (fits_row c r) (fits_rows c rows) fit in
    here (bytes_eq r.id a.id) refl parts.0 (given_has_value c a rows own wants parts.1) given
  where
    of_values : (values : List Text) → r.values ≡ values → fits a r.reading values ≡ true → HasValue a (Some r)
    of_values [] is e = absurd (true≢false (sym ((both (same_reading r.reading (reading_by a)) _ e).1) ∙ wants))
    of_values (v ∷ vs) is e =
        let reads = both (same_reading r.reading (reading_by a)) (values_pass a (v ∷ vs) && true) e in
        record {
          value = v;
          passes = (both (value_passes a v) (values_pass a vs) (both (values_pass a (v ∷ vs)) true reads.1).0).0;
          first = ap (λ (values : List Text). slice_get values 0) is;
          read = ap (λ (values : List Text). option_map (read_as r.reading) (slice_get values 0)) is ∙ ap (λ how. Some (read_as how v)) (is_reading r.reading (reading_by a) reads.0);
        }

    here : (t : Bool) → bytes_eq r.id a.id ≡ t → fits_row c r ≡ true → (is_given a.id rows ≡ true → HasValue a (find (λ (r : Row). bytes_eq r.id a.id) rows))
        → option_map_or (λ (r : Row). explicit_source r.source) (if t then Some r else find (λ (r : Row). bytes_eq r.id a.id) rows) false ≡ true
        → HasValue a (if t then Some r else find (λ (r : Row). bytes_eq r.id a.id) rows)
    here true is fit after e = of_values r.values refl (own (λ (b : Rule). fits b r.reading r.values)
        (subst (λ (id : Text). list_any (λ (b : Rule). bytes_eq b.id id && fits b r.reading r.values) c ≡ true) ((bytes_eq-Decides r.id a.id).0 is) fit))
    here false is fit after e = after e
