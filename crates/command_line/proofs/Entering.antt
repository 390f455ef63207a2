-- Words that are taken enter a subcommand, and it is not clap's own help.
use Rattle.std.proofs.Common.{inl, inr, ◌≡◌, ◌&&◌, ◌||◌, ◌∙◌, ℕ, Bool, true, false, not, refl, sym, List, [], ◌∷◌, Option, Some, None, is_some, if◌then◌else◌, true≢false, codes}
use Rattle.std.specs.Prelude.{IsSomeAnd, find, fold, option_map, ◌⊎◌, ⊤}
use Rattle.std.specs.List.{list_all, list_any}
use Rattle.std.specs.Option.{option_map_or}
use Rattle.std.specs.Str.{bytes_eq}
use Rattle.std.proofs.lemmas.Slice.Eq.{bytes_eq-Decides}
use Rattle.clap.specs.Lexer.{long_of, short_of}
use Rattle.clap.specs.Walk.{Held, Names, Outcome, Row, Rule, Step, Text, Waiting, Walk, after_flag, after_step, answers_to, arg_by_index, arg_by_long, bundle, done, finished, idle, long_met, long_or_other, next, nothing_held, option, plain, plain_word, positional, refused, short_or_plain, subcommand, subcommand_met, subcommand_or_other, to_positional, trailing, value, waits, walk, walk_from, walked, walked_from, word_met}
use Rattle.clap.specs.Simple.{App, Shape, argument_words, built, entered, is_simple, label_of, names_of, rows_at, subcommand_of}
use Rattle.clap.specs.Facts.{explicit_source}
use Rattle.clap.specs.Takes.{default_passes, entered_passes, is_valid, level_passes, other_passes, settle_passes, step_passes, takes, turn_passes, walk_passes, word_passes}
use Rattle.clap.proofs.WalkLemmas.{both}

abbrev is_help : Text → Bool
is_help name = bytes_eq name (codes "help")

-- ---- a step that enters no help

abbrev step_avoids_help : Step → Bool
step_avoids_help (subcommand name) = not (is_help name)
step_avoids_help _ = true

plain_avoids : (c : List Rule) (waiting : Waiting) (word : Text) (h : Held) → step_avoids_help (plain_word c waiting word h).1 ≡ true
plain_avoids c idle word h = refl
plain_avoids c (option id) word h = refl
plain_avoids c positional word h = refl

flag_avoids : (c : List Rule) (waiting : Waiting) (word : Text) (h : Held) (o : Outcome) → step_avoids_help (after_flag c waiting word h o).1 ≡ true
flag_avoids c waiting word h done = refl
flag_avoids c waiting word h (waits id) = refl
flag_avoids c waiting word h plain = plain_avoids c waiting word h
flag_avoids c waiting word h refused = plain_avoids c waiting word h

short_avoids : (c : List Rule) (waiting : Waiting) (word : Text) (flags : Option Text) (h : Held) → step_avoids_help (short_or_plain c waiting word flags h).1 ≡ true
short_avoids c waiting word (Some flags) h = flag_avoids c waiting word (bundle c flags h).0 (bundle c flags h).1
short_avoids c waiting word None h = plain_avoids c waiting word h

long_avoids : (c : List Rule) (waiting : Waiting) (word : Text) (long : Option (Text × Option Text)) (h : Held) → step_avoids_help (long_or_other c waiting word long h).1 ≡ true
long_avoids c waiting word (Some p) h = flag_avoids c waiting word (long_met c (arg_by_long c p.0) p.1 h).0 (long_met c (arg_by_long c p.0) p.1 h).1
long_avoids c waiting word None h = short_avoids c waiting word (short_of word) h

other_avoids : (s : Shape) (name : Option Text) (waiting : Waiting) (position : ℕ) (word : Text) (h : Held) → s.disable_help_subcommand ≡ false
    → other_passes s name word h ≡ true → step_avoids_help (subcommand_or_other s.rules name waiting position word h).1 ≡ true
other_avoids s (Some name) waiting position word h enabled e = only (not (is_help name)) s.disable_help_subcommand enabled e
  where
    only : (a b : Bool) → b ≡ false → (a || b) ≡ true → a ≡ true
    only true b off e = refl
    only false b off e = sym off ∙ e
other_avoids s None waiting position word h enabled e = by_word (bytes_eq word (45 ∷ 45 ∷ []))
  where
    by_word : (t : Bool) → step_avoids_help (if t then (h, trailing position) else long_or_other s.rules waiting word (long_of word) h).1 ≡ true
    by_word true = refl
    by_word false = long_avoids s.rules waiting word (long_of word) h

word_avoids : (s : Shape) (names : Names) (is_trailing : Bool) (waiting : Waiting) (position : ℕ) (word : Text) (h : Held) → s.disable_help_subcommand ≡ false
    → word_passes s names is_trailing waiting word h ≡ true → step_avoids_help (word_met s.rules names is_trailing waiting position word h).1 ≡ true
word_avoids s names true waiting position word h enabled e = refl
word_avoids s names false waiting position word h enabled e = other_avoids s (subcommand_met names waiting word) waiting position word h enabled e

-- ---- a walk that enters no help

abbrev avoids_help : Option (Text × List Text) → Bool
avoids_help stop = option_map_or (λ p. not (is_help p.0)) stop true

to_positional_avoids : (c : List Rule) (found : Option Rule) (word : Text) (w : Walk) (h : Held) → avoids_help w.stopped ≡ true → avoids_help (to_positional c found word w h).stopped ≡ true
to_positional_avoids c None word w h before = before
to_positional_avoids c (Some a) word w h before = refl

after_step_avoids : (c : List Rule) (word : Text) (w : Walk) (h : Held) (step : Step) → avoids_help w.stopped ≡ true → step_avoids_help step ≡ true
    → avoids_help (after_step c word w h step).stopped ≡ true
after_step_avoids c word w h (next waiting) before e = before
after_step_avoids c word w h (trailing position) before e = before
after_step_avoids c word w h (subcommand name) before e = e
after_step_avoids c word w h value before e = to_positional_avoids c (arg_by_index c w.position) word w h before

walked_avoids : (s : Shape) (names : Names) (w : Walk) (word : Text) → s.disable_help_subcommand ≡ false → turn_passes s names w word ≡ true → avoids_help w.stopped ≡ true
    → avoids_help (walked s.rules names w word).stopped ≡ true
unfolding walked
walked_avoids s names w word enabled e before = by_stop w.stopped e before
  where
    met : Held × Step
    met = word_met s.rules names w.is_trailing w.waiting w.position word w.held

    by_stop : (stop : Option (Text × List Text)) → (is_some stop || (word_passes s names w.is_trailing w.waiting word w.held && step_passes s w.position met.0 met.1)) ≡ true
        → avoids_help stop ≡ true → avoids_help (walked_from s.rules names stop w word).stopped ≡ true
    by_stop (Some p) e ok = ok
    by_stop None e ok = after_step_avoids s.rules word w met.0 met.1 before
        (word_avoids s names w.is_trailing w.waiting w.position word w.held enabled (both (word_passes s names w.is_trailing w.waiting word w.held) (step_passes s w.position met.0 met.1) e).0)

walk_avoids : (s : Shape) (names : Names) (w : Walk) (words : List Text) → s.disable_help_subcommand ≡ false → walk_passes s names w words ≡ true → avoids_help w.stopped ≡ true
    → avoids_help (fold (walked s.rules names) w words).stopped ≡ true
unfolding walk_passes
walk_avoids s names w [] enabled e before = before
walk_avoids s names w (word ∷ rest) enabled e before =
    let turn = both (turn_passes s names w word) (walk_passes s names (walked s.rules names w word) rest) e in
    walk_avoids s names (walked s.rules names w word) rest enabled turn.1 (walked_avoids s names w word enabled turn.0 before)

-- ---- the subcommand that is entered

abbrev has_no_alias : List Text → Bool
has_no_alias [] = true
has_no_alias (x ∷ xs) = false

abbrev is_own_help : Shape → Bool
is_own_help s = is_help s.name && has_no_alias s.aliases

abbrev found_by : List Shape → Text × List Text → Option (Text × List Row)
found_by subs p = option_map (λ s. rows_at s p.1) (find (λ s. answers_to p.0 (label_of s)) subs)

-- a word that is not help names no subcommand that only help names
not_help : (name : Text) (aliases : List Text) (word : Text) → (is_help name && has_no_alias aliases) ≡ true → is_help word ≡ false → answers_to word (name, aliases) ≡ true → ⊥
not_help name (x ∷ xs) word is other e = absurd (true≢false (sym (both (is_help name) false is).1))
not_help name [] word is other e =
    let named : name ≡ codes "help" = (bytes_eq-Decides name (codes "help")).0 (both (is_help name) true is).0 in
    let met : name ≡ word = (bytes_eq-Decides name word).0 (alone (bytes_eq name word) e) in
    let spelled : is_help word ≡ true = (bytes_eq-Decides word (codes "help")).1 (sym met ∙ named) in
    absurd (true≢false (sym spelled ∙ other))
  where
    alone : (b : Bool) → (b || false) ≡ true → b ≡ true
    alone true e = refl
    alone false e = e

-- P holds of each subcommand but help where its level passes
abbrev pub EachHas : (Text × List Row → Type 0) → List Shape → Type 0
EachHas P [] = ⊤
EachHas P (s ∷ rest) = ((is_own_help s ≡ true) ⊎ ((words : List Text) → level_passes s [] nothing_held words false ≡ true → P (rows_at s words))) × EachHas P rest

-- then it holds of the one that was found
found_has : (P : Text × List Row → Type 0) (subs : List Shape) (p : Text × List Text) → EachHas P subs → is_help p.0 ≡ false
    → option_map_or (λ (s : Shape). level_passes s [] nothing_held p.1 false) (find (λ s. answers_to p.0 (label_of s)) subs) true ≡ true
    → is_some (found_by subs p) ≡ true → IsSomeAnd (found_by subs p) P
found_has P [] p each other level e = absurd (true≢false (sym e))
found_has P (s ∷ rest) p each other level e = here (answers_to p.0 (label_of s)) refl each.0 (found_has P rest p each.1 other) level e
  where
    has : answers_to p.0 (label_of s) ≡ true → (is_own_help s ≡ true) ⊎ ((words : List Text) → level_passes s [] nothing_held words false ≡ true → P (rows_at s words))
        → level_passes s [] nothing_held p.1 false ≡ true → P (rows_at s p.1)
    has met (inl help) e = absurd (not_help s.name s.aliases p.0 help other met)
    has met (inr own) e = own p.1 e

    here : (t : Bool) → answers_to p.0 (label_of s) ≡ t → (is_own_help s ≡ true) ⊎ ((words : List Text) → level_passes s [] nothing_held words false ≡ true → P (rows_at s words))
        → (option_map_or (λ (s : Shape). level_passes s [] nothing_held p.1 false) (find (λ s. answers_to p.0 (label_of s)) rest) true ≡ true → is_some (found_by rest p) ≡ true → IsSomeAnd (found_by rest p) P)
        → option_map_or (λ (s : Shape). level_passes s [] nothing_held p.1 false) (if t then Some s else find (λ s. answers_to p.0 (label_of s)) rest) true ≡ true
        → is_some (option_map (λ (s : Shape). rows_at s p.1) (if t then Some s else find (λ (s : Shape). answers_to p.0 (label_of s)) rest)) ≡ true
        → IsSomeAnd (option_map (λ (s : Shape). rows_at s p.1) (if t then Some s else find (λ (s : Shape). answers_to p.0 (label_of s)) rest)) P
    here true met own after level e = has met own level
    here false met own after level e = after level e

entered_has : (P : Text × List Row → Type 0) (a : App) (stop : Option (Text × List Text)) → EachHas P a.subs → avoids_help stop ≡ true → entered_passes a stop ≡ true
    → is_some (entered a stop) ≡ true → IsSomeAnd (entered a stop) P
entered_has P a None each avoids level e = absurd (true≢false (sym e))
entered_has P a (Some p) each avoids level e = found_has P a.subs p each (is_not (is_help p.0) avoids) level e
  where
    is_not : (b : Bool) → not b ≡ true → b ≡ false
    is_not true e = sym e
    is_not false e = refl

-- where a subcommand is required there is one
has_required : (s : Shape) (rows : List Row) (has : Bool) → s.subcommand_required ≡ true → is_valid s rows has ≡ true → has ≡ true
has_required s rows has required e =
    let after = (both (not s.arg_required_else_help || (has || list_any (λ (r : Row). explicit_source r.source) rows)) _ e).1 in
    wanted s.subcommand_required has required (both (not s.subcommand_required || has) _ after).0
  where
    wanted : (required has : Bool) → required ≡ true → (not required || has) ≡ true → has ≡ true
    wanted true has is e = e
    wanted false has is e = absurd (true≢false (sym is))

-- taken words enter a subcommand, and P holds of it
pub taken_enter : (P : Text × List Row → Type 0) (a : App) (words : List Text) → (built a).top.disable_help_subcommand ≡ false → (built a).top.subcommand_required ≡ true
    → EachHas P (built a).subs → takes a words ≡ true → IsSomeAnd (subcommand_of a words) P
taken_enter P a words enabled required each e =
    let b = built a in
    let end = walk b.top.rules (names_of b) nothing_held (argument_words a words) in
    let has = is_some (entered b end.stopped) in
    let levels = both (entered_passes b end.stopped) (level_passes b.top (names_of b) nothing_held (argument_words a words) has) (both (is_simple a) _ e).1 in
    let walking = both (walk_passes b.top (names_of b) (walk_from nothing_held) (argument_words a words)) _ levels.1 in
    let settling = both (settle_passes b.top.rules b.top.args_override_self end.held) _ walking.1 in
    let valid = (both (list_all default_passes b.top.rules) (is_valid b.top (finished b.top.rules end.held) has) settling.1).1 in
    entered_has P b end.stopped each (walk_avoids b.top (names_of b) (walk_from nothing_held) (argument_words a words) enabled walking.0 refl) levels.0
    (has_required b.top (finished b.top.rules end.held) has required valid)
