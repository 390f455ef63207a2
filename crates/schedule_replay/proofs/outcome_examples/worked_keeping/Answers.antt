-- What a replay of one input keeps up with.
use Rattle.schedule_text.specs.Headers.{header_of}
use Rattle.std.proofs.Common.{◌≡◌, ℕ, List, [], ◌∷◌, ◌++◌, codes, length, Option, Some, refl, sym, ap, ◌∙◌, arith, append_assoc}
use Rattle.std.proofs.lemmas.List.{append-nil, append_cancel_right}
use Rattle.std.specs.Fmt.{digits}
use Rattle.line_reader.specs.Outcomes.{ReadsPast}
use Rattle.schedule_replay.specs.Examples.{one_input}
use Rattle.schedule_replay.proofs.KeptRows.{all-given, hashes, kept-input, size}
use Rattle.schedule_replay.proofs.outcome_examples.worked_keeping.Goals as goal

pub returns-clause-a_buffer : goal.returns-clause-a_buffer
returns-clause-a_buffer c = record {
  early = [];
  past = record { late = one_input; others = []; left_is = refl; whole = refl; few = omega arith };
  more = [];
  written = refl;
}

pub returns-clause-ahead_of_a_buffer : goal.returns-clause-ahead_of_a_buffer
returns-clause-ahead_of_a_buffer c = record {
  early = [];
  past = record { late = one_input; others = []; left_is = refl; whole = refl; few = omega arith };
  more = codes "in 1 lock\n";
  written = refl;
}

pub returns-clause-more_than_a_buffer : goal.returns-clause-more_than_a_buffer
unfolding digits header_of
returns-clause-more_than_a_buffer c = record {
  early = one_input;
  past = record { late = hashes 4096; others = []; left_is = refl; whole = ap (λ xs. one_input ++ xs) (sym (append-nil (hashes 4096))); few = omega (arith, size 4096) };
  more = [];
  written = refl;
}

written-first : (out more : List ℕ) → ◌≡◌ {A = Option (List ℕ)} (Some out) (Some (codes "in 1 lock\n" ++ more)) → out ≡ codes "in 1 lock\n" ++ more
written-first out more e = cc e

pub returns-clause-nothing_of_it : goal.returns-clause-nothing_of_it
returns-clause-nothing_of_it c = λ x.
    let line = kept-input 4096 x.early x.past.late (all-given 4096 x.early x.past) x.past.few (omega arith) in
    let out = written-first [] x.more (x.written ∙ ap (λ xs. Some (xs ++ x.more)) line) in
    cc out

pub returns-clause-a_front_of_it : goal.returns-clause-a_front_of_it
returns-clause-a_front_of_it c = λ x.
    let line = kept-input 4096 x.early x.past.late (all-given 4096 x.early x.past) x.past.few (omega arith) in
    let out = written-first (codes "in 1") x.more (x.written ∙ ap (λ xs. Some (xs ++ x.more)) line) in
    let longer : 4 ≡ length (codes "in 1 lock\n" ++ x.more) = ap length out in
    omega (arith, longer)

-- what was given, where a newline is left
given-some : (early : List ℕ) (past : ReadsPast (Some (codes "\n")) (one_input ++ (hashes 4096 ++ codes "\n")) early) → one_input ++ hashes 4096 ≡ early ++ past.late
given-some early past =
    let some : past.others ≡ codes "\n" = cc past.left_is in
    append_cancel_right (one_input ++ hashes 4096) (early ++ past.late) (codes "\n")
    (append_assoc one_input (hashes 4096) (codes "\n") ∙ (past.whole ∙ (ap (λ xs. early ++ (past.late ++ xs)) some ∙ sym (append_assoc early past.late (codes "\n")))))

pub returns-clause-nothing_of_it_while_some_is_left : goal.returns-clause-nothing_of_it_while_some_is_left
returns-clause-nothing_of_it_while_some_is_left c = λ x.
    let line = kept-input 4096 x.early x.past.late (given-some x.early x.past) x.past.few (omega arith) in
    let out = written-first [] x.more (x.written ∙ ap (λ xs. Some (xs ++ x.more)) line) in
    cc out

-- the last byte
abbrev last : List ℕ → ℕ
last [] = 0
last (b ∷ []) = b
last (b ∷ c ∷ bs) = last (c ∷ bs)

last_behind : (b : ℕ) (front : List ℕ) → last (front ++ b ∷ []) ≡ b
last_behind b [] = refl
last_behind b (x ∷ []) = refl
last_behind b (x ∷ y ∷ front) = last_behind b (y ∷ front)

pub returns-clause-another_left : goal.returns-clause-another_left
returns-clause-another_left c = λ x.
    let is : x.past.others ≡ codes "#" = cc x.past.left_is in
    let same : ◌≡◌ {A = ℕ} 10 35 =
    ap last (x.past.whole ∙ (sym (append_assoc x.early x.past.late x.past.others) ∙ ap (λ xs. (x.early ++ x.past.late) ++ xs) is)) ∙ last_behind 35 (x.early ++ x.past.late) in
    omega (arith, same)
