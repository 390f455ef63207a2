-- What was read past skipped lines.
use Rattle.std.proofs.Common.{◌≡◌, ◌≤◌, ℕ, suc, List, [], ◌∷◌, ◌++◌, codes, length, replicate, Some, refl, sym, ap, ◌∙◌, arith, drop, length-append}
use Rattle.std.proofs.lemmas.List.{append-nil, length-replicate}
use Rattle.app_text.specs.LockTexts.{input_of}
use Rattle.line_reader.specs.Lines.{whole_lines}
use Rattle.line_reader.specs.Outcomes.{ReadsPast}
use Rattle.line_reader.proofs.Lining.{whole-append}
use Rattle.schedule_text.specs.Schedules.{EndedAt, Opening, Opened, RefusedAt, opening, script}
use Rattle.schedule_text.specs.Headers as headers
use Rattle.schedule_text.proofs.reading_examples.worked_nearness.Goals as goal

abbrev hashes : List ℕ
hashes = replicate 4096 35

filled : length hashes ≡ 4096
filled = length-replicate {A = ℕ} 4096 35

-- a front that is read past so far stands in the part
begins : (front behind early late : List ℕ) → front ++ behind ≡ early ++ late → length late ≤ length behind → (e : List ℕ) × (early ≡ front ++ e)
begins [] behind early late whole few = (early, refl)
begins (x ∷ front) behind [] late whole few = absurd (omega (arith, few, ap length whole, length-append front behind))
begins (x ∷ front) behind (y ∷ early) late whole few =
    let head : x ≡ y = cc whole in
    let later = begins front behind early late (ap (drop 1) whole) few in
    (later.0, ap (λ b. b ∷ early) (sym head) ∙ ap (λ xs. x ∷ xs) later.1)

begun : (front early : List ℕ) (past : ReadsPast (Some []) (front ++ hashes) early) → (e : List ℕ) × (early ≡ front ++ e)
begun front early past =
    let none : past.others ≡ [] = cc past.left_is in
    begins front hashes early past.late (past.whole ∙ (ap (λ xs. early ++ (past.late ++ xs)) none ∙ ap (λ xs. early ++ xs) (append-nil past.late))) (omega (arith, past.few, filled))

pub returns-clause-before_the_header : goal.returns-clause-before_the_header
returns-clause-before_the_header c =
    (codes "#\n", record { late = hashes; others = []; left_is = refl; whole = ap (λ xs. codes "#\n" ++ xs) (sym (append-nil hashes)); few = omega (arith, filled) }, 2, refl)

pub returns-clause-before_a_step : goal.returns-clause-before_a_step
returns-clause-before_a_step c =
    (codes "#\n", record { late = hashes; others = []; left_is = refl; whole = ap (λ xs. codes "#\n" ++ xs) (sym (append-nil hashes)); few = omega (arith, filled) }, refl)

-- whether a text has a header
abbrev opens : Opening → ℕ
opens (Opened h number ls) = 1
opens (RefusedAt number w) = 0
opens (EndedAt number) = 0

pub returns-clause-past_the_header : goal.returns-clause-past_the_header
unfolding headers.header_of
returns-clause-past_the_header c = λ x.
    let line : List ℕ = codes "schedule 1 bag lock 2\n" in
    let e = begun line x.0 x.1 in
    let lines : whole_lines x.0 ≡ codes "schedule 1 bag lock 2" ∷ whole_lines e.0 = ap whole_lines e.1 ∙ whole-append line e.0 refl in
    let both : ◌≡◌ {A = ℕ} 1 0 = ap opens (ap (opening 2000000 1) (sym lines) ∙ x.3) in
    omega (arith, both)

pub returns-clause-past_a_step : goal.returns-clause-past_a_step
returns-clause-past_a_step c = λ x.
    let line : List ℕ = codes "tick 0\n" in
    let e = begun line x.0 x.1 in
    let lines : whole_lines x.0 ≡ codes "tick 0" ∷ whole_lines e.0 = ap whole_lines e.1 ∙ whole-append line e.0 refl in
    let rest = script 2000000 input_of 3 1 (whole_lines e.0) in
    let size : suc (length rest.steps) ≡ 0 = ap (λ s. length s.steps) (ap (script 2000000 input_of 2 0) (sym lines) ∙ x.2) in
    omega (arith, size)
