-- A parse reads nothing of the parser of an argument but how it reads values and which it accepts: with parsers that agree in this, the walk is the same, and passes the same.
use Rattle.std.proofs.Common.{◌≡◌, ◌&&◌, ◌||◌, ◌∙◌, ℕ, Bool, true, false, not, zero, suc, refl, ap, List, [], ◌∷◌, map, length, drop, Option, Some, None, is_some, if◌then◌else◌}
use Rattle.std.specs.Prelude.{encode_utf8, find, fold, nat_le, option_map, slice_get, min, ◌+◌}
use Rattle.std.specs.List.{list_all, list_any}
use Rattle.std.specs.Option.{option_map_or}
use Rattle.std.specs.Str.{bytes_eq, chars}
use Rattle.clap.specs.Lexer.{long_of, short_of}
use Rattle.clap.specs.Facts.{explicit_source, parser_of_value, unwrap_or_range}
use Rattle.clap.specs.Matches.{count_text}
use Rattle.clap.specs.Values.{is_request, reading_of}
use Rattle.clap.specs.ValueTests.{accepts}
use Rattle.clap.specs.Walk.{Held, Names, Outcome, Row, Rule, Step, Text, Waiting, Walk, action_of, answers_to, after_flag, after_step, arg_by_id, arg_by_index, arg_by_long, arg_by_short, attached_value, bundle_met, bundle_step, count_of, done, finished, flag_met, has_row, idle, is_empty, is_pending, long_met, long_or_other, most_values, next, nothing_held, option, option_met, option_word, plain, plain_word, positional, positional_held, pushed, reacted, refused, rows_after, settled, settled_rows, short_met, short_or_plain, stop_after, subcommand, subcommand_met, subcommand_or_other, takes_several, takes_values, to_positional, trailing, used, used_as, used_by_id, value, values_or_missing, waits, walk, walk_from, walked, walked_from, with_default, default_rows, word_met}
use Rattle.clap.specs.Simple.{App, Shape, entered, label_of, names_of, rows_at}
use Rattle.clap.specs.Takes.{action_passes, built_takes, bundle_step_passes, entered_passes, count_passes, default_passes, flag_word_passes, flags_pass, is_given, is_valid, level_passes, long_passes, option_passes, other_passes, positional_passes, react_passes, settle_passes, short_passes, step_passes, turn_passes, use_passes, value_passes, values_pass, walk_passes, word_passes}
use Rattle.clap.specs.declared.builder.action.ArgAction.{ArgAction}
use Rattle.clap.specs.declared.builder.action.ArgAction.TheVariants as action
use Rattle.clap.specs.declared.builder.value_parser.ValueParser.{ValueParser}

module _ (g : Option ValueParser → Option ValueParser) (reads : (o : Option ValueParser) → reading_of (parser_of_value (g o)) ≡ reading_of (parser_of_value o))
    (agrees : (i : Bool) (o : Option ValueParser) (v : Text) → accepts i (parser_of_value (g o)) v ≡ accepts i (parser_of_value o) v) where
  -- a rule with the other parser
  abbrev pub seen : Rule → Rule
  seen a = record a { parser = g a.parser }

  found : (test : Rule → Bool) → ((a : Rule) → test (seen a) ≡ test a) → (c : List Rule) → find test (map seen c) ≡ option_map seen (find test c)
  found test same [] = refl
  found test same (a ∷ rest) = ap (λ t. if t then Some (seen a) else find test (map seen rest)) (same a) ∙ here (test a) (found test same rest)
    where
      here : (t : Bool) → find test (map seen rest) ≡ option_map seen (find test rest) → (if t then Some (seen a) else find test (map seen rest)) ≡ option_map seen (if t then Some a else find test rest)
      here true after = refl
      here false after = after

  -- ---- the walk

  used_same : (a : Rule) (vs : List Text) (rows : List Row) → used (seen a) vs rows ≡ used a vs rows
  used_same a [] rows = ap (λ how. used_as (action_of a) a.id how a.missing rows) (reads a.parser)
  used_same a (v ∷ vs) rows = ap (λ how. used_as (action_of a) a.id how (v ∷ vs) rows) (reads a.parser)

  settled_same : (c : List Rule) (h : Held) → settled (map seen c) h ≡ settled c h
  settled_same c h = ap (λ rows. record h { rows = rows; pending = None }) (at h.pending)
    where
      by_rule : (o : Option Rule) (vs : List Text) → used_by_id (option_map seen o) vs h.rows ≡ used_by_id o vs h.rows
      by_rule None vs = refl
      by_rule (Some a) vs = used_same a vs h.rows

      at : (o : Option (Text × List Text)) → settled_rows (map seen c) o h.rows ≡ settled_rows c o h.rows
      at None = refl
      at (Some p) = ap (λ o. used_by_id o p.1 h.rows) (found (λ a. bytes_eq a.id p.0) (λ a. refl) c) ∙ by_rule (arg_by_id c p.0) p.1

  reacted_same : (c : List Rule) (a : Rule) (vs : List Text) (h : Held) → reacted (map seen c) (seen a) vs h ≡ reacted c a vs h
  reacted_same c a vs h = ap (λ (x : Held). record h { rows = used (seen a) vs x.rows; pending = None }) (settled_same c h)
      ∙ ap (λ rows. record h { rows = rows; pending = None }) (used_same a vs (settled c h).rows)

  option_same : (c : List Rule) (a : Rule) (v : Option Text) (h : Held) → option_met (map seen c) (seen a) v h ≡ option_met c a v h
  option_same c a (Some v) h = ap (λ (x : Held). (x, done)) (reacted_same c a (v ∷ []) h)
  option_same c a None h = ap (λ (x : Held). (record x { pending = Some (a.id, []) }, waits a.id)) (settled_same c h)

  flag_same : (c : List Rule) (a : Rule) (v : Option Text) (h : Held) → flag_met (map seen c) (seen a) v h ≡ flag_met c a v h
  flag_same c a (Some v) h = refl
  flag_same c a None h = ap (λ (x : Held). (x, done)) (reacted_same c a [] h)

  long_same : (c : List Rule) (o : Option Rule) (v : Option Text) (h : Held) → long_met (map seen c) (option_map seen o) v h ≡ long_met c o v h
  long_same c None v h = refl
  long_same c (Some a) v h = by_kind (takes_values a)
    where
      by_kind : (t : Bool) → (if t then option_met (map seen c) (seen a) v h else flag_met (map seen c) (seen a) v h) ≡ (if t then option_met c a v h else flag_met c a v h)
      by_kind true = option_same c a v h
      by_kind false = flag_same c a v h

  short_same : (c : List Rule) (o : Option Rule) (rest : Text) (h : Held) (m n : Held → Held × Outcome) → ((x : Held) → m x ≡ n x)
      → short_met (map seen c) (option_map seen o) rest h m ≡ short_met c o rest h n
  short_same c None rest h m n after = refl
  short_same c (Some a) rest h m n after = by_kind (takes_values a)
    where
      by_kind : (t : Bool) → (if t then option_met (map seen c) (seen a) (attached_value rest) h else m (reacted (map seen c) (seen a) [] h))
          ≡ (if t then option_met c a (attached_value rest) h else n (reacted c a [] h))
      by_kind true = option_same c a (attached_value rest) h
      by_kind false = ap m (reacted_same c a [] h) ∙ after (reacted c a [] h)

  bundle_same : (c : List Rule) (k : ℕ) (flags : Text) (skip : ℕ) (so_far : Outcome) (h : Held) → bundle_met (map seen c) k flags skip so_far h ≡ bundle_met c k flags skip so_far h
  unfolding bundle_met
  bundle_same c zero flags skip so_far h = refl
  bundle_same c (suc k) flags skip so_far h = step (bundle_same c k) (slice_get (chars flags) 0) skip
    where
      step : ((t : Text) (n : ℕ) (o : Outcome) (x : Held) → bundle_met (map seen c) k t n o x ≡ bundle_met c k t n o x) → (o : Option ℕ) (skip : ℕ)
          → bundle_step (map seen c) o flags skip so_far h (bundle_met (map seen c) k) ≡ bundle_step c o flags skip so_far h (bundle_met c k)
      step after None skip = refl
      step after (Some x) zero =
          let rest = drop (length (encode_utf8 x)) flags in
          ap (λ o. short_met (map seen c) o rest h (bundle_met (map seen c) k rest 0 done)) (found _ (λ a. refl) c)
          ∙ short_same c (arg_by_short c x) rest h _ _ (after rest 0 done)
      step after (Some x) (suc skip) = after (drop (length (encode_utf8 x)) flags) skip so_far h

  plain_same : (c : List Rule) (waiting : Waiting) (word : Text) (h : Held) → plain_word (map seen c) waiting word h ≡ plain_word c waiting word h
  plain_same c idle word h = refl
  plain_same c positional word h = refl
  plain_same c (option id) word h = ap (λ (p : Held × Waiting). (p.0, next p.1)) (ap (λ o. option_word o id word h) (found (λ a. bytes_eq a.id id) (λ a. refl) c) ∙ by_rule (arg_by_id c id))
    where
      by_rule : (o : Option Rule) → option_word (option_map seen o) id word h ≡ option_word o id word h
      by_rule None = refl
      by_rule (Some a) = refl

  flagged_same : (c : List Rule) (waiting : Waiting) (word : Text) (h : Held) (o : Outcome) → after_flag (map seen c) waiting word h o ≡ after_flag c waiting word h o
  flagged_same c waiting word h done = refl
  flagged_same c waiting word h (waits id) = refl
  flagged_same c waiting word h plain = plain_same c waiting word h
  flagged_same c waiting word h refused = plain_same c waiting word h

  met_same : (c : List Rule) (waiting : Waiting) (word : Text) (m n : Held × Outcome) → m ≡ n → after_flag (map seen c) waiting word m.0 m.1 ≡ after_flag c waiting word n.0 n.1
  met_same c waiting word m n e = flagged_same c waiting word m.0 m.1 ∙ ap (λ (p : Held × Outcome). after_flag c waiting word p.0 p.1) e

  short_word_same : (c : List Rule) (waiting : Waiting) (word : Text) (flags : Option Text) (h : Held) → short_or_plain (map seen c) waiting word flags h ≡ short_or_plain c waiting word flags h
  short_word_same c waiting word None h = plain_same c waiting word h
  short_word_same c waiting word (Some flags) h = met_same c waiting word _ _ (bundle_same c (length flags) flags h.skip plain (record h { skip = 0 }))

  other_same : (c : List Rule) (waiting : Waiting) (word : Text) (o : Option (Text × Option Text)) (h : Held) → long_or_other (map seen c) waiting word o h ≡ long_or_other c waiting word o h
  other_same c waiting word None h = short_word_same c waiting word (short_of word) h
  other_same c waiting word (Some p) h = met_same c waiting word _ _ (ap (λ o. long_met (map seen c) o p.1 h) (found _ (λ a. refl) c) ∙ long_same c (arg_by_long c p.0) p.1 h)

  word_same : (c : List Rule) (names : Names) (is_trailing : Bool) (waiting : Waiting) (position : ℕ) (word : Text) (h : Held)
      → word_met (map seen c) names is_trailing waiting position word h ≡ word_met c names is_trailing waiting position word h
  word_same c names true waiting position word h = refl
  word_same c names false waiting position word h = by_name (subcommand_met names waiting word)
    where
      by_word : (t : Bool) → (if t then (h, trailing position) else long_or_other (map seen c) waiting word (long_of word) h) ≡ (if t then (h, trailing position) else long_or_other c waiting word (long_of word) h)
      by_word true = refl
      by_word false = other_same c waiting word (long_of word) h

      by_name : (name : Option Text) → subcommand_or_other (map seen c) name waiting position word h ≡ subcommand_or_other c name waiting position word h
      by_name (Some name) = refl
      by_name None = by_word (bytes_eq word (45 ∷ 45 ∷ []))

  held_same : (c : List Rule) (a : Rule) (word : Text) (h : Held) → positional_held (map seen c) (seen a) word h ≡ positional_held c a word h
  held_same c a word h = ap (pushed a.id word) (by_pending (is_pending a h.pending && takes_several a))
    where
      by_pending : (t : Bool) → (if t then h else settled (map seen c) h) ≡ (if t then h else settled c h)
      by_pending true = refl
      by_pending false = settled_same c h

  positional_same : (c : List Rule) (o : Option Rule) (word : Text) (w : Walk) (h : Held) → to_positional (map seen c) (option_map seen o) word w h ≡ to_positional c o word w h
  positional_same c None word w h = refl
  positional_same c (Some a) word w h = ap (λ (x : Held). record (to_positional c (Some a) word w h) { held = x }) (held_same c a word h)

  step_same : (c : List Rule) (word : Text) (w : Walk) (h : Held) (step : Step) → after_step (map seen c) word w h step ≡ after_step c word w h step
  step_same c word w h (next waiting) = refl
  step_same c word w h (trailing position) = refl
  step_same c word w h (subcommand name) = refl
  step_same c word w h value = ap (λ o. to_positional (map seen c) o word w h) (found _ (λ a. refl) c) ∙ positional_same c (arg_by_index c w.position) word w h

  walked_same : (c : List Rule) (names : Names) (w : Walk) (word : Text) → walked (map seen c) names w word ≡ walked c names w word
  unfolding walked
  walked_same c names w word = by_stop w.stopped
    where
      by_stop : (stop : Option (Text × List Text)) → walked_from (map seen c) names stop w word ≡ walked_from c names stop w word
      by_stop (Some p) = refl
      by_stop None =
          let met = word_met (map seen c) names w.is_trailing w.waiting w.position word w.held in
          step_same c word w met.0 met.1 ∙ ap (λ (m : Held × Step). after_step c word w m.0 m.1) (word_same c names w.is_trailing w.waiting w.position word w.held)

  pub fold_same : (c : List Rule) (names : Names) (w : Walk) (words : List Text) → fold (walked (map seen c) names) w words ≡ fold (walked c names) w words
  fold_same c names w [] = refl
  fold_same c names w (word ∷ rest) = ap (λ (x : Walk). fold (walked (map seen c) names) x rest) (walked_same c names w word) ∙ fold_same c names (walked c names w word) rest

  -- ---- after the walk

  defaults_same : (rows : List Row) (c : List Rule) → fold with_default rows (map seen c) ≡ fold with_default rows c
  defaults_same rows [] = refl
  defaults_same rows (a ∷ rest) = ap (λ how. fold with_default (if has_row a.id rows then rows else default_rows a.id how a.defaults rows) (map seen rest)) (reads a.parser)
      ∙ defaults_same (with_default rows a) rest

  finished_same : (c : List Rule) (h : Held) → finished (map seen c) h ≡ finished c h
  finished_same c h = ap (λ (x : Held). fold with_default x.rows (map seen c)) (settled_same c h) ∙ defaults_same (settled c h).rows c

  pub rows_same : (c : List Rule) (names : Names) (words : List Text) → rows_after (map seen c) names words ≡ rows_after c names words
  rows_same c names words = ap (λ (w : Walk). finished (map seen c) w.held) (fold_same c names (walk_from nothing_held) words) ∙ finished_same c (walk c names nothing_held words).held

  -- ---- what passes

  values_agree : (a : Rule) (vs : List Text) → values_pass (seen a) vs ≡ values_pass a vs
  values_agree a [] = refl
  values_agree a (v ∷ vs) = ap (λ t. t && values_pass (seen a) vs) (agrees a.ignore_case a.parser v) ∙ ap (λ t. value_passes a v && t) (values_agree a vs)

  used_agree : (a : Rule) (vs : List Text) → values_pass (seen a) (values_or_missing (seen a) vs) ≡ values_pass a (values_or_missing a vs)
  used_agree a [] = values_agree a a.missing
  used_agree a (v ∷ vs) = values_agree a (v ∷ vs)

  counts_agree : (a : Rule) (vs : List Text) (rows : List Row) → count_passes (seen a) vs rows ≡ count_passes a vs rows
  counts_agree a [] rows = agrees a.ignore_case a.parser (count_text (min (count_of a.id rows + 1) 255))
  counts_agree a (v ∷ vs) rows = values_agree a (v ∷ vs)

  missing_same : (a : Rule) (vs : List Text) → values_or_missing (seen a) vs ≡ values_or_missing a vs
  missing_same a [] = refl
  missing_same a (v ∷ vs) = refl

  action_agrees : (x : ArgAction) (again : Bool) (a : Rule) (vs : List Text) (rows : List Row) → action_passes x again (seen a) (values_or_missing (seen a) vs) rows ≡ action_passes x again a (values_or_missing a vs) rows
  action_agrees action.Set again a vs rows = ap (λ t. (not (has_row a.id rows) || again) && t) (used_agree a vs)
  action_agrees action.SetTrue again a vs rows = ap (λ t. (not (has_row a.id rows) || again) && t) (used_agree a vs)
  action_agrees action.SetFalse again a vs rows = ap (λ t. (not (has_row a.id rows) || again) && t) (used_agree a vs)
  action_agrees action.Append again a vs rows = used_agree a vs
  action_agrees action.Count again a vs rows = ap (λ values. count_passes (seen a) values rows) (missing_same a vs) ∙ counts_agree a (values_or_missing a vs) rows
  action_agrees action.Help again a vs rows = refl
  action_agrees action.HelpShort again a vs rows = refl
  action_agrees action.HelpLong again a vs rows = refl
  action_agrees action.Version again a vs rows = refl

  use_agrees : (again : Bool) (a : Rule) (vs : List Text) (rows : List Row) → use_passes again (seen a) vs rows ≡ use_passes again a vs rows
  use_agrees again a vs rows = ap (λ t. nat_le (unwrap_or_range a.range).start_inclusive (length vs) && (nat_le (length vs) (most_values a) && t)) (action_agrees (action_of a) again a vs rows)

  settle_agrees : (c : List Rule) (again : Bool) (h : Held) → settle_passes (map seen c) again h ≡ settle_passes c again h
  settle_agrees c again h = at h.pending
    where
      by_rule : (o : Option Rule) (vs : List Text) → option_map_or (λ (a : Rule). use_passes again a vs h.rows) (option_map seen o) true ≡ option_map_or (λ (a : Rule). use_passes again a vs h.rows) o true
      by_rule None vs = refl
      by_rule (Some a) vs = use_agrees again a vs h.rows

      at : (o : Option (Text × List Text)) → option_map_or (λ (p : Text × List Text). option_map_or (λ (a : Rule). use_passes again a p.1 h.rows) (arg_by_id (map seen c) p.0) true) o true
          ≡ option_map_or (λ (p : Text × List Text). option_map_or (λ (a : Rule). use_passes again a p.1 h.rows) (arg_by_id c p.0) true) o true
      at None = refl
      at (Some p) = ap (λ o. option_map_or (λ (a : Rule). use_passes again a p.1 h.rows) o true) (found (λ a. bytes_eq a.id p.0) (λ a. refl) c) ∙ by_rule (arg_by_id c p.0) p.1

  react_agrees : (c : List Rule) (again : Bool) (a : Rule) (vs : List Text) (h : Held) → react_passes (map seen c) again (seen a) vs h ≡ react_passes c again a vs h
  react_agrees c again a vs h = ap (λ t. t && use_passes again (seen a) vs (settled (map seen c) h).rows) (settle_agrees c again h)
      ∙ ap (λ (x : Held). settle_passes c again h && use_passes again (seen a) vs x.rows) (settled_same c h)
      ∙ ap (λ t. settle_passes c again h && t) (use_agrees again a vs (settled c h).rows)

  option_agrees : (c : List Rule) (again : Bool) (a : Rule) (v : Option Text) (h : Held) → option_passes (map seen c) again (seen a) v h ≡ option_passes c again a v h
  option_agrees c again a (Some v) h = react_agrees c again a (v ∷ []) h
  option_agrees c again a None h = settle_agrees c again h

  long_agrees : (c : List Rule) (again : Bool) (o : Option Rule) (v : Option Text) (h : Held) → long_passes (map seen c) again (option_map seen o) v h ≡ long_passes c again o v h
  long_agrees c again None v h = refl
  long_agrees c again (Some a) v h = by_kind (takes_values a)
    where
      by_kind : (t : Bool) → (if t then option_passes (map seen c) again (seen a) v h else (not (is_some v) && react_passes (map seen c) again (seen a) [] h))
          ≡ (if t then option_passes c again a v h else (not (is_some v) && react_passes c again a [] h))
      by_kind true = option_agrees c again a v h
      by_kind false = ap (λ t. not (is_some v) && t) (react_agrees c again a [] h)

  short_agrees : (c : List Rule) (again : Bool) (o : Option Rule) (rest : Text) (h : Held) (m n : Held → Bool) → ((x : Held) → m x ≡ n x)
      → short_passes (map seen c) again (option_map seen o) rest h m ≡ short_passes c again o rest h n
  short_agrees c again None rest h m n after = refl
  short_agrees c again (Some a) rest h m n after = by_kind (takes_values a)
    where
      by_kind : (t : Bool) → (if t then option_passes (map seen c) again (seen a) (attached_value rest) h else (react_passes (map seen c) again (seen a) [] h && m (reacted (map seen c) (seen a) [] h)))
          ≡ (if t then option_passes c again a (attached_value rest) h else (react_passes c again a [] h && n (reacted c a [] h)))
      by_kind true = option_agrees c again a (attached_value rest) h
      by_kind false = ap (λ t. t && m (reacted (map seen c) (seen a) [] h)) (react_agrees c again a [] h)
          ∙ ap (λ t. react_passes c again a [] h && t) (ap m (reacted_same c a [] h) ∙ after (reacted c a [] h))

  flags_agree : (c : List Rule) (again : Bool) (k : ℕ) (flags : Text) (skip : ℕ) (h : Held) → flags_pass (map seen c) again k flags skip h ≡ flags_pass c again k flags skip h
  unfolding flags_pass
  flags_agree c again zero flags skip h = refl
  flags_agree c again (suc k) flags skip h = step (flags_agree c again k) (slice_get (chars flags) 0) skip
    where
      step : ((t : Text) (n : ℕ) (x : Held) → flags_pass (map seen c) again k t n x ≡ flags_pass c again k t n x) → (o : Option ℕ) (skip : ℕ)
          → bundle_step_passes (map seen c) again o flags skip h (flags_pass (map seen c) again k) ≡ bundle_step_passes c again o flags skip h (flags_pass c again k)
      step after None skip = refl
      step after (Some x) zero =
          let rest = drop (length (encode_utf8 x)) flags in
          ap (λ o. short_passes (map seen c) again o rest h (flags_pass (map seen c) again k rest 0)) (found _ (λ a. refl) c)
          ∙ short_agrees c again (arg_by_short c x) rest h _ _ (after rest 0)
      step after (Some x) (suc skip) = after (drop (length (encode_utf8 x)) flags) skip h

  flag_word_agrees : (c : List Rule) (again : Bool) (long : Option (Text × Option Text)) (word : Text) (h : Held) → flag_word_passes (map seen c) again long word h ≡ flag_word_passes c again long word h
  flag_word_agrees c again (Some p) word h = ap (λ o. long_passes (map seen c) again o p.1 h) (found _ (λ a. refl) c) ∙ long_agrees c again (arg_by_long c p.0) p.1 h
  flag_word_agrees c again None word h = by_short (short_of word)
    where
      by_short : (o : Option Text) → option_map_or (λ (flags : Text). flags_pass (map seen c) again (length flags) flags h.skip (record h { skip = 0 })) o true
          ≡ option_map_or (λ (flags : Text). flags_pass c again (length flags) flags h.skip (record h { skip = 0 })) o true
      by_short None = refl
      by_short (Some flags) = flags_agree c again (length flags) flags h.skip (record h { skip = 0 })

  -- a command whose rules have the other parser
  abbrev pub seen_shape : Shape → Shape
  seen_shape s = record s { rules = map seen s.rules }

  other_agrees : (s : Shape) (name : Option Text) (word : Text) (h : Held) → other_passes (seen_shape s) name word h ≡ other_passes s name word h
  other_agrees s (Some name) word h = refl
  other_agrees s None word h = ap (λ t. bytes_eq word (45 ∷ 45 ∷ []) || t) (flag_word_agrees s.rules s.args_override_self (long_of word) word h)

  positional_agrees : (c : List Rule) (again : Bool) (o : Option Rule) (h : Held)
      → option_map_or (λ (a : Rule). positional_passes (map seen c) again a h) (option_map seen o) false ≡ option_map_or (λ (a : Rule). positional_passes c again a h) o false
  positional_agrees c again None h = refl
  positional_agrees c again (Some a) h = ap (λ t. (is_pending a h.pending && takes_several a) || t) (settle_agrees c again h)

  step_agrees : (s : Shape) (position : ℕ) (h : Held) (step : Step) → step_passes (seen_shape s) position h step ≡ step_passes s position h step
  step_agrees s position h value = ap (λ o. option_map_or (λ (a : Rule). positional_passes (map seen s.rules) s.args_override_self a h) o false) (found _ (λ a. refl) s.rules)
      ∙ positional_agrees s.rules s.args_override_self (arg_by_index s.rules position) h
  step_agrees s position h (next waiting) = refl
  step_agrees s position h (trailing p) = refl
  step_agrees s position h (subcommand name) = refl

  turn_agrees : (s : Shape) (names : Names) (w : Walk) (word : Text) → turn_passes (seen_shape s) names w word ≡ turn_passes s names w word
  turn_agrees s names w word =
      let same = word_same s.rules names w.is_trailing w.waiting w.position word w.held in
      let met = word_met s.rules names w.is_trailing w.waiting w.position word w.held in
      let seen_met = word_met (map seen s.rules) names w.is_trailing w.waiting w.position word w.held in
      ap (λ t. is_some w.stopped || ((w.is_trailing || t) && step_passes (seen_shape s) w.position seen_met.0 seen_met.1)) (other_agrees s (subcommand_met names w.waiting word) word w.held)
      ∙ ap (λ (m : Held × Step). is_some w.stopped || (word_passes s names w.is_trailing w.waiting word w.held && step_passes (seen_shape s) w.position m.0 m.1)) same
      ∙ ap (λ t. is_some w.stopped || (word_passes s names w.is_trailing w.waiting word w.held && t)) (step_agrees s w.position met.0 met.1)

  walk_agrees : (s : Shape) (names : Names) (w : Walk) (words : List Text) → walk_passes (seen_shape s) names w words ≡ walk_passes s names w words
  unfolding walk_passes
  walk_agrees s names w [] = refl
  walk_agrees s names w (word ∷ rest) = ap (λ t. t && walk_passes (seen_shape s) names (walked (map seen s.rules) names w word) rest) (turn_agrees s names w word)
      ∙ ap (λ (x : Walk). turn_passes s names w word && walk_passes (seen_shape s) names x rest) (walked_same s.rules names w word)
      ∙ ap (λ t. turn_passes s names w word && t) (walk_agrees s names (walked s.rules names w word) rest)

  defaults_agree : (c : List Rule) → list_all default_passes (map seen c) ≡ list_all default_passes c
  defaults_agree [] = refl
  defaults_agree (a ∷ rest) = ap (λ t. (is_empty a.defaults || (not (is_request (action_of a)) && t)) && list_all default_passes (map seen rest)) (values_agree a a.defaults)
      ∙ ap (λ t. default_passes a && t) (defaults_agree rest)

  all_free : (c : List Rule) → list_all (λ (a : Rule). a.is_free) (map seen c) ≡ list_all (λ (a : Rule). a.is_free) c
  all_free [] = refl
  all_free (a ∷ rest) = ap (λ t. a.is_free && t) (all_free rest)

  all_given : (rows : List Row) (c : List Rule) → list_all (λ (a : Rule). not a.required || is_given a.id rows) (map seen c) ≡ list_all (λ (a : Rule). not a.required || is_given a.id rows) c
  all_given rows [] = refl
  all_given rows (a ∷ rest) = ap (λ t. (not a.required || is_given a.id rows) && t) (all_given rows rest)

  valid_agrees : (s : Shape) (rows : List Row) (has : Bool) → is_valid (seen_shape s) rows has ≡ is_valid s rows has
  valid_agrees s rows has =
      ap (λ t. (not s.arg_required_else_help || (has || list_any (λ (r : Row). explicit_source r.source) rows)) && ((not s.subcommand_required || has)
      && (t && ((s.subcommand_negates_reqs && has) || list_all (λ (a : Rule). not a.required || is_given a.id rows) (map seen s.rules))))) (all_free s.rules)
      ∙ ap (λ t. (not s.arg_required_else_help || (has || list_any (λ (r : Row). explicit_source r.source) rows)) && ((not s.subcommand_required || has)
      && (list_all (λ (a : Rule). a.is_free) s.rules && ((s.subcommand_negates_reqs && has) || t)))) (all_given rows s.rules)

  -- a level passes in the same way
  pub level_agrees : (s : Shape) (names : Names) (words : List Text) (has : Bool) → level_passes (seen_shape s) names nothing_held words has ≡ level_passes s names nothing_held words has
  level_agrees s names words has =
      let end = (walk s.rules names nothing_held words).held in
      let again = s.args_override_self in
      let rules = map seen s.rules in
      let rest : Held → Bool = λ (x : Held). settle_passes rules again x && (list_all default_passes rules && is_valid (seen_shape s) (finished rules x) has) in
      ap (λ (w : Walk). walk_passes (seen_shape s) names (walk_from nothing_held) words && rest w.held) (fold_same s.rules names (walk_from nothing_held) words)
      ∙ ap (λ t. t && rest end) (walk_agrees s names (walk_from nothing_held) words)
      ∙ ap (λ t. walk_passes s names (walk_from nothing_held) words && t) (
      ap (λ t. t && (list_all default_passes rules && is_valid (seen_shape s) (finished rules end) has)) (settle_agrees s.rules again end)
      ∙ ap (λ t. settle_passes s.rules again end && (t && is_valid (seen_shape s) (finished rules end) has)) (defaults_agree s.rules)
      ∙ ap (λ rows. settle_passes s.rules again end && (list_all default_passes s.rules && is_valid (seen_shape s) rows has)) (finished_same s.rules end)
      ∙ ap (λ t. settle_passes s.rules again end && (list_all default_passes s.rules && t)) (valid_agrees s (finished s.rules end) has)
      )

  -- ---- a command and its subcommands

  abbrev pub seen_app : App → App
  seen_app a = record { top = seen_shape a.top; subs = map seen_shape a.subs }

  labels_same : (subs : List Shape) → map label_of (map seen_shape subs) ≡ map label_of subs
  labels_same [] = refl
  labels_same (s ∷ rest) = ap (λ labels. label_of s ∷ labels) (labels_same rest)

  found_shape : (name : Text) (subs : List Shape) → find (λ (s : Shape). answers_to name (label_of s)) (map seen_shape subs) ≡ option_map seen_shape (find (λ (s : Shape). answers_to name (label_of s)) subs)
  found_shape name [] = refl
  found_shape name (s ∷ rest) = here (answers_to name (label_of s)) (found_shape name rest)
    where
      here : (t : Bool) → find (λ (s : Shape). answers_to name (label_of s)) (map seen_shape rest) ≡ option_map seen_shape (find (λ (s : Shape). answers_to name (label_of s)) rest)
          → (if t then Some (seen_shape s) else find (λ (s : Shape). answers_to name (label_of s)) (map seen_shape rest)) ≡ option_map seen_shape (if t then Some s else find (λ (s : Shape). answers_to name (label_of s)) rest)
      here true after = refl
      here false after = after

  entered_same : (a : App) (stop : Option (Text × List Text)) → entered (seen_app a) stop ≡ entered a stop
  entered_same a None = refl
  entered_same a (Some p) = ap (option_map (λ (s : Shape). rows_at s p.1)) (found_shape p.0 a.subs) ∙ by_shape (find (λ (s : Shape). answers_to p.0 (label_of s)) a.subs)
    where
      by_shape : (o : Option Shape) → option_map (λ (s : Shape). rows_at s p.1) (option_map seen_shape o) ≡ option_map (λ (s : Shape). rows_at s p.1) o
      by_shape None = refl
      by_shape (Some s) = ap (λ rows. Some (s.name, rows)) (rows_same s.rules [] p.1)

  entered_agrees : (a : App) (stop : Option (Text × List Text)) → entered_passes (seen_app a) stop ≡ entered_passes a stop
  entered_agrees a None = refl
  entered_agrees a (Some p) = ap (λ o. option_map_or (λ (s : Shape). level_passes s [] nothing_held p.1 false) o true) (found_shape p.0 a.subs) ∙ by_shape (find (λ (s : Shape). answers_to p.0 (label_of s)) a.subs)
    where
      by_shape : (o : Option Shape) → option_map_or (λ (s : Shape). level_passes s [] nothing_held p.1 false) (option_map seen_shape o) true ≡ option_map_or (λ (s : Shape). level_passes s [] nothing_held p.1 false) o true
      by_shape None = refl
      by_shape (Some s) = level_agrees s [] p.1 false

  stop_same : (a : App) (words : List Text) → stop_after (seen_app a).top.rules (names_of (seen_app a)) words ≡ stop_after a.top.rules (names_of a) words
  stop_same a words = ap (λ names. stop_after (map seen a.top.rules) names words) (labels_same a.subs) ∙ ap (λ (w : Walk). w.stopped) (fold_same a.top.rules (names_of a) (walk_from nothing_held) words)

  -- the subcommand that is entered is the same, with the same matches
  pub subcommand_same : (a : App) (words : List Text) → entered (seen_app a) (stop_after (seen_app a).top.rules (names_of (seen_app a)) words) ≡ entered a (stop_after a.top.rules (names_of a) words)
  subcommand_same a words = ap (entered (seen_app a)) (stop_same a words) ∙ entered_same a (stop_after a.top.rules (names_of a) words)

  -- and the same words are taken
  pub takes_same : (a : App) (words : List Text) → built_takes (seen_app a) nothing_held words ≡ built_takes a nothing_held words
  takes_same a words =
      let stop = stop_after a.top.rules (names_of a) words in
      ap (λ stop. entered_passes (seen_app a) stop && level_passes (seen_shape a.top) (names_of (seen_app a)) nothing_held words (is_some (entered (seen_app a) stop))) (stop_same a words)
      ∙ ap (λ t. t && level_passes (seen_shape a.top) (names_of (seen_app a)) nothing_held words (is_some (entered (seen_app a) stop))) (entered_agrees a stop)
      ∙ ap (λ names. entered_passes a stop && level_passes (seen_shape a.top) names nothing_held words (is_some (entered (seen_app a) stop))) (labels_same a.subs)
      ∙ ap (λ (o : Option (Text × List Row)). entered_passes a stop && level_passes (seen_shape a.top) (names_of a) nothing_held words (is_some o)) (entered_same a stop)
      ∙ ap (λ t. entered_passes a stop && t) (level_agrees a.top (names_of a) words (is_some (entered a stop)))
