-- These print numbers, whose digits have to be computed.
use Rattle.schedule_text.specs.Headers.{header_of}
use Rattle.std.proofs.Common.{◌≡◌, ◌∙◌, ℕ, List, [], ◌∷◌, ap, arith, codes, drop, refl, subst}
use Rattle.std.specs.Cmp.Lexicographic.{nat_list_cmp_total}
use Rattle.std.specs.FinMap.{get-empty, get-insert, get-remove}
use Rattle.std.specs.Fmt.{digits}
use Rattle.number_set.specs.NumberSetLaws.{set_tests}
use Rattle.schedule_replay.specs.Explained.{IsReplay}
use Rattle.schedule_replay.specs.Replays.{replayed}
use Rattle.schedule_replay.proofs.examples.worked_replays.Goals as goal

-- the first byte of a text, and texts that begin with another byte from some place on
abbrev first : List ℕ → ℕ
first [] = 0
first (x ∷ xs) = x

apart-at : (n : ℕ) (xs ys : List ℕ) → (first (drop n xs) ≡ first (drop n ys) → ⊥) → xs ≡ ys → ⊥
apart-at n xs ys differ e = differ (ap (λ zs. first (drop n zs)) e)

pub returns-clause-handed_over : goal.returns-clause-handed_over
unfolding digits header_of
returns-clause-handed_over c = c.replays_are_explained.ensures.explained (codes "schedule 1 bag lock 2\nin 1 lock\ndeliver 0\ndeliver 1\n") refl

pub returns-clause-not_silent : goal.returns-clause-not_silent
unfolding digits header_of
returns-clause-not_silent c = λ r. apart-at 0 _ _ (λ e. let n : 98 ≡ 105 = e in omega (arith, n)) (c.replays_are_explained.ensures.nothing_else _ _ r).1

pub returns-clause-not_another_image : goal.returns-clause-not_another_image
unfolding digits header_of
returns-clause-not_another_image c = λ r. apart-at 26 _ _ (λ e. let n : 51 ≡ 50 = e in omega (arith, n)) (c.replays_are_explained.ensures.nothing_else _ _ r).1

pub returns-clause-not_without_an_image : goal.returns-clause-not_without_an_image
unfolding digits header_of
returns-clause-not_without_an_image c = λ r. apart-at 0 _ _ (λ e. let n : 0 ≡ 98 = e in omega (arith, n)) (c.replays_are_explained.ensures.nothing_else _ _ r).1

-- a command of a machine alone, and under primary-backup with numbered packets
ruleset lookups_and_sets = (get-empty, get-insert, get-remove, nat_list_cmp_total, set_tests)

abbrev alone_bytes : List ℕ
alone_bytes = codes "schedule 1 one kv 1\nin 0 put a x\n"

abbrev backed_bytes : List ℕ
backed_bytes = codes "schedule 1 dup kv/pb/seq 2\nin 0 put a x\ndup 0\ndeliver 0\ndeliver 1\n"

abbrev put_text : List ℕ
put_text = codes "in 0 put a x\nout 0 a =x -\nbelow\nschedule 1 one kv 1\nin 0 put a x\n"

alone-out : (replayed alone_bytes).out ≡ put_text
unfolding digits header_of
alone-out = simp lookups_and_sets

backed-out : (replayed backed_bytes).out ≡ put_text
unfolding digits header_of
backed-out = simp lookups_and_sets

pub returns-clause-at_once : goal.returns-clause-at_once
unfolding header_of
returns-clause-at_once c = subst (IsReplay alone_bytes) alone-out (c.replays_are_explained.ensures.explained alone_bytes refl)

pub returns-clause-not_another_answer : goal.returns-clause-not_another_answer
returns-clause-not_another_answer c = λ r. apart-at 22 _ put_text (λ e. let n : 121 ≡ 120 = e in omega (arith, n)) ((c.replays_are_explained.ensures.nothing_else alone_bytes _ r).1 ∙ alone-out)

pub returns-clause-acknowledged : goal.returns-clause-acknowledged
unfolding header_of
returns-clause-acknowledged c = subst (IsReplay backed_bytes) backed-out (c.replays_are_explained.ensures.explained backed_bytes refl)

pub returns-clause-not_without_its_command : goal.returns-clause-not_without_its_command
returns-clause-not_without_its_command c = λ r. apart-at 52 _ put_text (λ e. let n : 0 ≡ 105 = e in omega (arith, n)) ((c.replays_are_explained.ensures.nothing_else backed_bytes _ r).1 ∙ backed-out)

pub returns-clause-not_of_a_refused_step : goal.returns-clause-not_of_a_refused_step
unfolding header_of
returns-clause-not_of_a_refused_step c = λ text r. let both = c.replays_are_explained.ensures.nothing_else _ text r in cc (both.0)

pub returns-clause-not_of_a_refused_line : goal.returns-clause-not_of_a_refused_line
unfolding header_of
returns-clause-not_of_a_refused_line c = λ text r. let both = c.replays_are_explained.ensures.nothing_else _ text r in cc (both.0)

pub returns-clause-not_of_another_header : goal.returns-clause-not_of_another_header
unfolding header_of
returns-clause-not_of_another_header c = λ text r. let both = c.replays_are_explained.ensures.nothing_else _ text r in cc (both.0)

pub returns-clause-not_of_nothing : goal.returns-clause-not_of_nothing
returns-clause-not_of_nothing c = λ text r. let both = c.replays_are_explained.ensures.nothing_else _ text r in cc (both.0)
