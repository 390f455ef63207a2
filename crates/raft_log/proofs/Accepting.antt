-- What the number of entries that agree tells of conflicts, and of the log that takes the others.
use Rattle.std.proofs.Common.{◌≡◌, ℕ, suc, ◌+◌, ◌-◌, ◌<◌, ◌≤◌, Bool, true, false, not, ◌&&◌, ◌||◌, List, [], ◌∷◌, ◌++◌, length, take, drop, refl, sym, ap, ◌∙◌, arith, eqb, cond, leb, append_assoc, length-drop}
use Rattle.std.proofs.Math.Seq.{take-add, take-length}
use Rattle.std.proofs.lemmas.Bool.{le-leb, lt-leb}
use Rattle.std.proofs.lemmas.List.{take-append-drop}
use Rattle.vst_base.specs.declared.entry.Entry.{Entry}
use Rattle.vst_base.specs.Logs.{accepted, has_conflict, merged}
use Rattle.vst_base.proofs.LogTerms.{rest_behind, term_behind}
use Rattle.raft_log.specs.declared.accept.Accept.{Accept}
use Rattle.raft_log.specs.declared.accept.Accept.TheVariants.{Taken, Below}
use Rattle.raft_log.specs.Accepting.{agreed, answer, first_conflict, log_after}

or_later : (a b : Bool) → b ≡ true → (a || b) ≡ true
or_later true b e = refl
or_later false b e = e

or_neither : (a b : Bool) → b ≡ false → ((a && false) || b) ≡ false
or_neither true b e = e
or_neither false b e = e

pub agreed_with_none : {C : Type 0} (old es : List (Entry C)) → length old ≤ 0 → agreed old es ≡ 0
agreed_with_none old [] h = refl
agreed_with_none [] (e ∷ es) h = refl
agreed_with_none (o ∷ os) (e ∷ es) h = absurd (omega arith)

-- what stands after an index
end_behind : {C : Type 0} (log : List (Entry C)) (prev : ℕ) → drop prev log ≡ [] → length log ≤ prev
end_behind log prev d = omega (arith, ap length d, length-drop prev log)

-- the entries after an index, as a slice of the log gives them
slice_behind : {C : Type 0} (l : List (Entry C)) (n : ℕ) → take (length l - n) (drop n l) ≡ drop n l
slice_behind l n = rw (← length-drop n l) (take-length (drop n l))

pub found_in : {C : Type 0} (log slice : List (Entry C)) (prev : ℕ) (es : List (Entry C)) (n : ℕ) → slice ≡ log →
    n ≡ agreed (take (length slice - prev) (drop prev slice)) es → n ≡ agreed (drop prev log) es
found_in log slice prev es n s q = rw (← s) (q ∙ ap (λ r. agreed r es) (slice_behind slice prev))

-- the first that differs stands at or below commit
conflict_there : {C : Type 0} (log : List (Entry C)) (commit prev : ℕ) (rest es : List (Entry C)) → commit ≤ length log → drop prev log ≡ rest →
    agreed rest es < length es → prev + agreed rest es < commit → has_conflict log commit prev es ≡ true
conflict_there log commit prev rest [] l d h k = absurd (omega arith)
conflict_there log commit prev [] (e ∷ es) l d h k = absurd (let q = end_behind log prev d in omega arith)
conflict_there log commit prev (o ∷ os) (e ∷ es) l d h k =
    rw (term_behind log prev o os d) (go (eqb o.term e.term) refl h k (conflict_there log commit (suc prev) os es l (rest_behind log prev o os d)))
  where
    go : (b : Bool) → eqb o.term e.term ≡ b → cond b (suc (agreed os es)) 0 < suc (length es) → prev + cond b (suc (agreed os es)) 0 < commit →
        (agreed os es < length es → suc prev + agreed os es < commit → has_conflict log commit (suc prev) es ≡ true) →
        ((leb (suc prev) commit && not b) || has_conflict log commit (suc prev) es) ≡ true
    go true t h k rest = or_later (leb (suc prev) commit && false) _ (rest (omega arith) (omega arith))
    go false t h k rest = rw (le-leb (suc prev) commit (omega arith)) refl

no_conflict_past : {C : Type 0} (log : List (Entry C)) (commit prev : ℕ) (es : List (Entry C)) → commit ≤ prev → has_conflict log commit prev es ≡ false
no_conflict_past log commit prev [] h = refl
no_conflict_past log commit prev (e ∷ es) h = rw (lt-leb (suc prev) commit (omega arith)) (no_conflict_past log commit (suc prev) es (omega arith))

-- the first that differs stands after commit
no_conflict_below : {C : Type 0} (log : List (Entry C)) (commit prev : ℕ) (rest es : List (Entry C)) → commit ≤ length log → drop prev log ≡ rest →
    commit ≤ prev + agreed rest es → has_conflict log commit prev es ≡ false
no_conflict_below log commit prev rest [] l d k = refl
no_conflict_below log commit prev [] (e ∷ es) l d k = no_conflict_past log commit prev (e ∷ es) (let q = end_behind log prev d in omega arith)
no_conflict_below log commit prev (o ∷ os) (e ∷ es) l d k =
    rw (term_behind log prev o os d) (go (eqb o.term e.term) refl k (no_conflict_below log commit (suc prev) os es l (rest_behind log prev o os d)))
  where
    go : (b : Bool) → eqb o.term e.term ≡ b → commit ≤ prev + cond b (suc (agreed os es)) 0 →
        (commit ≤ suc prev + agreed os es → has_conflict log commit (suc prev) es ≡ false) →
        ((leb (suc prev) commit && not b) || has_conflict log commit (suc prev) es) ≡ false
    go true t k rest = or_neither (leb (suc prev) commit) _ (rest (omega arith))
    go false t k rest = rw (lt-leb (suc prev) commit (omega arith)) (no_conflict_past log commit (suc prev) es (omega arith))

-- none differs
no_conflict_at_all : {C : Type 0} (log : List (Entry C)) (commit prev : ℕ) (rest es : List (Entry C)) → drop prev log ≡ rest →
    length es ≤ agreed rest es → has_conflict log commit prev es ≡ false
no_conflict_at_all log commit prev rest [] d h = refl
no_conflict_at_all log commit prev [] (e ∷ es) d h = absurd (omega arith)
no_conflict_at_all log commit prev (o ∷ os) (e ∷ es) d h =
    rw (term_behind log prev o os d) (go (eqb o.term e.term) refl h (no_conflict_at_all log commit (suc prev) os es (rest_behind log prev o os d)))
  where
    go : (b : Bool) → eqb o.term e.term ≡ b → suc (length es) ≤ cond b (suc (agreed os es)) 0 →
        (length es ≤ agreed os es → has_conflict log commit (suc prev) es ≡ false) →
        ((leb (suc prev) commit && not b) || has_conflict log commit (suc prev) es) ≡ false
    go true t h rest = or_neither (leb (suc prev) commit) _ (rest (omega arith))
    go false t h rest = absurd (omega arith)

first_by : {C : Type 0} (log : List (Entry C)) (prev : ℕ) (rest es : List (Entry C)) → drop prev log ≡ rest → prev + agreed rest es < length log →
    agreed rest es < length es → first_conflict log prev es ≡ prev + agreed rest es + 1
first_by log prev rest [] d k h = absurd (omega arith)
first_by log prev [] (e ∷ es) d k h = absurd (let q = end_behind log prev d in omega arith)
first_by log prev (o ∷ os) (e ∷ es) d k h =
    rw (term_behind log prev o os d) (go (eqb o.term e.term) refl k h (first_by log (suc prev) os es (rest_behind log prev o os d)))
  where
    go : (b : Bool) → eqb o.term e.term ≡ b → prev + cond b (suc (agreed os es)) 0 < length log → cond b (suc (agreed os es)) 0 < suc (length es) →
        (suc prev + agreed os es < length log → agreed os es < length es → first_conflict log (suc prev) es ≡ suc prev + agreed os es + 1) →
        cond b (first_conflict log (suc prev) es) (suc prev) ≡ prev + cond b (suc (agreed os es)) 0 + 1
    go true t k h rest = let q = rest (omega arith) (omega arith) in omega (arith, q)
    go false t k h rest = omega arith

merged_by : {C : Type 0} (old es : List (Entry C)) → agreed old es < length es → merged old es ≡ take (agreed old es) old ++ drop (agreed old es) es
merged_by old [] h = absurd (omega arith)
merged_by [] (e ∷ es) h = refl
merged_by (o ∷ os) (e ∷ es) h = go (eqb o.term e.term) refl h (merged_by os es)
  where
    go : (b : Bool) → eqb o.term e.term ≡ b → cond b (suc (agreed os es)) 0 < suc (length es) →
        (agreed os es < length es → merged os es ≡ take (agreed os es) os ++ drop (agreed os es) es) →
        cond b (o ∷ merged os es) (e ∷ es) ≡ take (cond b (suc (agreed os es)) 0) (o ∷ os) ++ drop (cond b (suc (agreed os es)) 0) (e ∷ es)
    go true t h rest = ap (λ r. o ∷ r) (rest (omega arith))
    go false t h rest = refl

merged_none : {C : Type 0} (old es : List (Entry C)) → length es ≤ agreed old es → merged old es ≡ old
merged_none old [] h = refl
merged_none [] (e ∷ es) h = absurd (omega arith)
merged_none (o ∷ os) (e ∷ es) h = go (eqb o.term e.term) refl h (merged_none os es)
  where
    go : (b : Bool) → eqb o.term e.term ≡ b → suc (length es) ≤ cond b (suc (agreed os es)) 0 → (length es ≤ agreed os es → merged os es ≡ os) →
        cond b (o ∷ merged os es) (e ∷ es) ≡ o ∷ os
    go true t h rest = ap (λ r. o ∷ r) (rest (omega arith))
    go false t h rest = absurd (omega arith)

accepted_by : {C : Type 0} (log : List (Entry C)) (prev : ℕ) (es : List (Entry C)) → agreed (drop prev log) es < length es →
    accepted log prev es ≡ take (prev + agreed (drop prev log) es) log ++ drop (agreed (drop prev log) es) es
accepted_by {C = C} log prev es h =
    let n : ℕ = agreed (drop prev log) es in
    ap (λ (r : List (Entry C)). take prev log ++ r) (merged_by (drop prev log) es h)
    ∙ (sym (append_assoc (take prev log) (take n (drop prev log)) (drop n es)) ∙ ap (λ (r : List (Entry C)). r ++ drop n es) (sym (take-add prev n log)))

accepted_none : {C : Type 0} (log : List (Entry C)) (prev : ℕ) (es : List (Entry C)) → length es ≤ agreed (drop prev log) es → accepted log prev es ≡ log
accepted_none {C = C} log prev es h = ap (λ (r : List (Entry C)). take prev log ++ r) (merged_none (drop prev log) es h) ∙ take-append-drop prev log

-- what the call answers, and the log after it, by what it found
pub record Answers {C : Type 0} (log : List (Entry C)) (commit prev : ℕ) (es : List (Entry C)) (a : Accept) (after : List (Entry C)) : Type 0 where
  pub answers : a ≡ answer log commit prev es
  pub becomes : after ≡ log_after log commit prev es

pub answers_below : {C : Type 0} (log : List (Entry C)) (commit prev : ℕ) (es : List (Entry C)) (n : ℕ) → commit ≤ length log →
    n ≡ agreed (drop prev log) es → n < length es → prev + n < commit → Answers log commit prev es (Below (prev + n + 1)) log
answers_below log commit prev es n l q h k =
    let there : has_conflict log commit prev es ≡ true = conflict_there log commit prev (drop prev log) es l refl (rw (← q) h) (rw (← q) k) in
    let first : first_conflict log prev es ≡ prev + n + 1 = rw q (first_by log prev (drop prev log) es refl (rw (← q) (omega arith)) (rw (← q) h)) in
    record { answers = rw (there, first) refl; becomes = rw there refl }

pub no_conflict : {C : Type 0} (log : List (Entry C)) (commit prev : ℕ) (es : List (Entry C)) (n : ℕ) → commit ≤ length log →
    n ≡ agreed (drop prev log) es → commit ≤ prev + n → has_conflict log commit prev es ≡ false
no_conflict log commit prev es n l q k = no_conflict_below log commit prev (drop prev log) es l refl (rw (← q) k)

pub answers_taken : {C : Type 0} (log : List (Entry C)) (commit prev : ℕ) (es : List (Entry C)) (n : ℕ) (after : List (Entry C)) → commit ≤ length log →
    n ≡ agreed (drop prev log) es → n < length es → commit ≤ prev + n → after ≡ take (prev + n) log ++ take (length es - n) (drop n es) →
    Answers log commit prev es (Taken (prev + length es)) after
answers_taken log commit prev es n after l q h k e =
    let none : has_conflict log commit prev es ≡ false = no_conflict log commit prev es n l q k in
    let all : accepted log prev es ≡ take (prev + n) log ++ drop n es = rw q (accepted_by log prev es (rw (← q) h)) in
    record { answers = rw none refl; becomes = rw none (e ∙ (ap (λ r. take (prev + n) log ++ r) (slice_behind es n) ∙ sym all)) }

pub answers_had : {C : Type 0} (log : List (Entry C)) (commit prev : ℕ) (es : List (Entry C)) (n : ℕ) → n ≡ agreed (drop prev log) es →
    length es ≤ n → Answers log commit prev es (Taken (prev + length es)) log
answers_had log commit prev es n q h =
    let none : has_conflict log commit prev es ≡ false = no_conflict_at_all log commit prev (drop prev log) es refl (rw (← q) h) in
    record { answers = rw none refl; becomes = rw none (sym (accepted_none log prev es (rw (← q) h))) }
