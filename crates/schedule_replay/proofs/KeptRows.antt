-- What a replay of one input makes of the bytes before more than a buffer of a comment.
use Rattle.std.specs.Prelude.{◌≡◌, ℕ, zero, suc, false, ◌≤◌, List, [], ◌∷◌, ◌++◌, length, drop, replicate, None, Some, codes, refl}
use Rattle.std.specs.Fmt.{digits}
use Rattle.std.proofs.Common.{ap, ◌∙◌, sym, arith, length-append}
use Rattle.std.proofs.lemmas.List.{append-nil, length-replicate}
use Rattle.line_reader.specs.Lines.{cut_at, lines_of, whole_lines}
use Rattle.line_reader.specs.Outcomes.{ReadsPast}
use Rattle.line_reader.proofs.Cutting.{none-from}
use Rattle.line_reader.proofs.Lining.{whole-append, whole-plain}
use Rattle.schedule_text.specs.Headers.{header_of}
use Rattle.schedule_text.specs.Schedules.{opening}
use Rattle.schedule_replay.specs.Examples.{one_input}
use Rattle.schedule_replay.specs.Outcomes.{KeptUp}
use Rattle.schedule_replay.specs.Replays.{replayed_opening, replayed_so_far}
use Rattle.schedule_replay.specs.Explained.{most_lines}

abbrev pub hashes : ℕ → List ℕ
hashes n = replicate n 35

-- a front that is read past so far stands in the part
begins : (front behind early late : List ℕ) → front ++ behind ≡ early ++ late → length late ≤ length behind
    → (e : List ℕ) × (early ≡ front ++ e) × (behind ≡ e ++ late)
begins [] behind early late whole few = (early, refl, whole)
begins (x ∷ front) behind [] late whole few = absurd (omega (arith, few, ap length whole, length-append front behind))
begins (x ∷ front) behind (y ∷ early) late whole few =
    let head : x ≡ y = cc whole in
    let later = begins front behind early late (ap (drop 1) whole) few in
    (later.0, ap (λ b. b ∷ early) (sym head) ∙ ap (λ xs. x ∷ xs) later.1, later.2)

-- a part of a comment has no newline
no-newline : (n : ℕ) (e late : List ℕ) → hashes n ≡ e ++ late → cut_at 10 e ≡ None
no-newline n [] late whole = refl
no-newline zero (x ∷ e) late whole = cc whole
no-newline (suc n) (x ∷ e) late whole =
    let head : 35 ≡ x = cc whole in
    ap (λ b. cut_at 10 (b ∷ e)) (sym head) ∙ none-from 10 35 e refl (no-newline n e late (ap (drop 1) whole))

pub size : (n : ℕ) → length (hashes n) ≡ n
size n = length-replicate {A = ℕ} n 35

one-line : (replayed_opening false (opening most_lines 1 (lines_of one_input ++ []))).out ≡ codes "in 1 lock\n"
unfolding digits header_of
one-line = refl

-- all but the last 4,096 bytes have the input
pub kept-input : (n : ℕ) (early late : List ℕ) → one_input ++ hashes n ≡ early ++ late → length late ≤ 4096 → 4096 ≤ n
    → (replayed_so_far early).out ≡ codes "in 1 lock\n"
kept-input n early late whole few many =
    let in_it = begins one_input (hashes n) early late whole (omega (arith, few, many, size n)) in
    let lines : whole_lines early ≡ lines_of one_input ++ [] =
    ap whole_lines in_it.1 ∙ (whole-append one_input in_it.0 refl ∙ ap (λ ls. lines_of one_input ++ ls) (whole-plain in_it.0 (no-newline n in_it.0 late in_it.2))) in
    ap (λ ls. (replayed_opening false (opening most_lines 1 ls)).out) lines ∙ one-line

-- what was given, where all of it was
pub all-given : (n : ℕ) (early : List ℕ) (past : ReadsPast (Some []) (one_input ++ hashes n) early) → one_input ++ hashes n ≡ early ++ past.late
all-given n early past =
    let none : past.others ≡ [] = cc past.left_is in
    past.whole ∙ (ap (λ xs. early ++ (past.late ++ xs)) none ∙ ap (λ xs. early ++ xs) (append-nil past.late))

-- where no more than a buffer was given, nothing need have been written
pub kept-few : (bytes out : List ℕ) → length bytes ≤ 4096 → KeptUp replayed_so_far bytes (Some []) (Some []) (Some out)
kept-few bytes out few = record {
  early = [];
  past = record { late = bytes; others = []; left_is = refl; whole = sym (append-nil bytes); few = few };
  more = out;
  written = refl;
}
