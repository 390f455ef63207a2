-- What a log becomes that takes entries of a leader: all of them from the first on, or some that reach over an index below which
-- the two agree.
use Rattle.std.proofs.Common.{◌≡◌, ℕ, zero, suc, ◌+◌, ◌-◌, ◌<◌, ◌≤◌, Bool, true, false, not, ◌&&◌, ◌||◌, List, [], ◌∷◌, ◌++◌, length, take, drop, eqb, leb, cond, refl, sym, ap, ◌∙◌, arith, append_assoc, append-nil, length-drop, inl, inr, ◌⊎◌}
use Rattle.std.proofs.lemmas.Bool.{and_from, and_parts, eqb-true, eq-eqb, false≢true, le-leb, leb-true}
use Rattle.std.proofs.lemmas.List.{drop-drop, take-append-drop}
use Rattle.vst_base.specs.declared.entry.Entry.{Entry}
use Rattle.vst_base.specs.Logs.{accepted, has_conflict, last_term, matches, merged, term_at}
use Rattle.raft_histories.specs.Prefixes.{Agree, Same}
use Rattle.lists.specs.Prefixes.{IsPrefix, prefix_length, prefix_nil, prefix_joined}
use Rattle.raft_histories.proofs.Logs.{front_term, prefix_same, same_prefix, same_sym}
use Rattle.lists.specs.Places.{take_on}

same_tail : {A : Type 0} (n : ℕ) (x y : A) (l m : List A) → Same (suc n) (x ∷ l) (y ∷ m) → Same n l m
same_tail n x y l m s = record { eq = cc (s.eq) }

same_head : {A : Type 0} (n : ℕ) (x y : A) (l m : List A) → Same (suc n) (x ∷ l) (y ∷ m) → x ≡ y
same_head n x y l m s = cc (s.eq)

same_cons : {A : Type 0} (n : ℕ) (x y : A) (l m : List A) → x ≡ y → Same n l m → Same (suc n) (x ∷ l) (y ∷ m)
same_cons n x y l m e s = record { eq = cc (s.eq) }

agree_tail : {C : Type 0} (x y : Entry C) (l m : List (Entry C)) → Agree (x ∷ l) (y ∷ m) → Agree l m
agree_tail x y l m a = record { at = go }
  where
    go : (n : ℕ) → n ≤ length l → n ≤ length m → term_at l n ≡ term_at m n → Same n l m
    go zero h k e = record { eq = refl }
    go (suc n) h k e = same_tail (suc n) x y l m (a.at (suc (suc n)) (omega arith) (omega arith) e)

merged_cases : {C : Type 0} (old new : List (Entry C)) → Agree old new → (merged old new ≡ new) ⊎ ((merged old new ≡ old) × IsPrefix new old)
merged_cases old [] a = inr (refl, prefix_nil old)
merged_cases [] (e ∷ es) a = inl refl
merged_cases (o ∷ os) (e ∷ es) a = go (eqb o.term e.term) refl (merged_cases os es (agree_tail o e os es a))
  where
    go : (b : Bool) → eqb o.term e.term ≡ b → (merged os es ≡ es) ⊎ ((merged os es ≡ os) × IsPrefix es os) →
        (cond b (o ∷ merged os es) (e ∷ es) ≡ e ∷ es) ⊎ ((cond b (o ∷ merged os es) (e ∷ es) ≡ o ∷ os) × IsPrefix (e ∷ es) (o ∷ os))
    go false t r = inl refl
    go true t r =
        let same : o ≡ e = same_head 0 o e os es (a.at 1 (omega arith) (omega arith) (eqb-true _ _ t)) in
        elim r [ inl p ↦ inl (cc (p)) | inr p ↦ inr (cc (p.0), prefix_same (same_cons _ e o es os (sym same) (same_prefix os p.1))) ]

merged_same : {C : Type 0} (old new : List (Entry C)) → IsPrefix new old → merged old new ≡ old
merged_same old [] f = refl
merged_same [] (e ∷ es) f = absurd (let h = prefix_length [] f in omega arith)
merged_same {C = C} (o ∷ os) (e ∷ es) f = go (eqb o.term e.term) refl (merged_same os es (prefix_same (same_tail _ e o es os (same_prefix (o ∷ os) f))))
  where
    same : e ≡ o
    same = same_head _ e o es os (same_prefix (o ∷ os) f)

    go : (b : Bool) → eqb o.term e.term ≡ b → merged os es ≡ os → cond b (o ∷ merged os es) (e ∷ es) ≡ o ∷ os
    go true t rest = ap (λ r. o ∷ r) rest
    go false t rest = absurd (false≢true (sym t ∙ eq-eqb _ _ (ap (λ (x : Entry C). x.term) (sym same))))

-- a log that takes all of a leader's entries keeps what it has after them where it has the last of them, and else nothing more
pub takes_all : {C : Type 0} (old es : List (Entry C)) → Agree old es → (b : Bool) → matches old (length es) (last_term es) ≡ b →
    merged old es ≡ es ++ cond b (drop (length es) old) []
takes_all old es a true e =
    let p = and_parts (leb (length es) (length old)) (eqb (term_at old (length es)) (last_term es)) e in
    let s = a.at (length es) (leb-true _ _ p.0) (omega arith) (eqb-true _ _ p.1) in
    let f : IsPrefix es old = prefix_same (same_sym s) in
    merged_same old es f ∙ sym (prefix_joined f)
takes_all old es a false e = elim (merged_cases old es a) [
  | inl p ↦ p ∙ sym (append-nil es)
  | inr p ↦ absurd (false≢true (sym e ∙ and_from (leb (length es) (length old)) (eqb (term_at old (length es)) (last_term es))
      (le-leb _ _ (prefix_length old p.1)) (eq-eqb _ _ (sym (front_term old (length es) (omega arith) p.1)))))
]

-- where the first entries have the terms of the log, it keeps as many of its own
merged_on : {C : Type 0} (d : ℕ) (old es : List (Entry C)) → d ≤ length old → d ≤ length es →
    ((k : ℕ) → k < d → term_at old (suc k) ≡ term_at es (suc k)) → merged old es ≡ take d old ++ merged (drop d old) (drop d es)
merged_on zero old es h k e = refl
merged_on (suc d) [] es h k e = absurd (omega arith)
merged_on (suc d) (o ∷ os) [] h k e = absurd (omega arith)
merged_on {C = C} (suc d) (o ∷ os) (x ∷ es) h k e =
    let same : eqb o.term x.term ≡ true = eq-eqb _ _ (e 0 (omega arith)) in
    rw same (ap (λ (r : List (Entry C)). o ∷ r) (merged_on d os es (omega arith) (omega arith) (λ k l. e (suc k) (omega arith))))

drop_term : {C : Type 0} (prev : ℕ) (log : List (Entry C)) (k : ℕ) → term_at (drop prev log) (suc k) ≡ term_at log (prev + suc k)
drop_term {C = C} zero log k = let e : 0 + suc k ≡ suc k = omega arith in ap (λ n. term_at {C = C} log n) (sym e)
drop_term (suc prev) [] k = refl
drop_term {C = C} (suc prev) (x ∷ xs) k =
    let e : suc prev + suc k ≡ suc (suc (prev + k)) = omega arith in
    let f : prev + suc k ≡ suc (prev + k) = omega arith in
    rw e (drop_term prev xs k ∙ ap (λ n. term_at {C = C} xs n) f)

take_add : {A : Type 0} (n d : ℕ) (xs : List A) → take (n + d) xs ≡ take n xs ++ take d (drop n xs)
take_add n d xs = let e : (n + d) - n ≡ d = omega arith in take_on n (n + d) xs (omega arith) ∙ ap (λ k. take n xs ++ take k (drop n xs)) e

-- a log that takes entries, of which the first have its own terms, as if they were taken without these
pub accepted_on : {C : Type 0} (log : List (Entry C)) (prev d : ℕ) (es : List (Entry C)) → prev + d ≤ length log → d ≤ length es →
    ((k : ℕ) → k < d → term_at log (prev + suc k) ≡ term_at es (suc k)) → accepted log prev es ≡ accepted log (prev + d) (drop d es)
accepted_on {C = C} log prev d es h k e =
    ap (λ (r : List (Entry C)). take prev log ++ r) (merged_on d (drop prev log) es (omega (arith, length-drop prev log)) k (λ j l. drop_term prev log j ∙ e j l))
    ∙ (sym (append_assoc (take prev log) (take d (drop prev log)) (merged (drop d (drop prev log)) (drop d es)))
    ∙ rw (drop-drop d prev log) (ap (λ (r : List (Entry C)). r ++ merged (drop (prev + d) log) (drop d es)) (sym (take_add prev d log))))

-- entries that do not conflict have the log's terms as far as it is committed
pub no_conflict_terms : {C : Type 0} (log : List (Entry C)) (commit prev : ℕ) (es : List (Entry C)) → has_conflict log commit prev es ≡ false →
    (k : ℕ) → k < length es → prev + suc k ≤ commit → term_at log (prev + suc k) ≡ term_at es (suc k)
no_conflict_terms log commit prev [] h = λ k l le. absurd (omega arith)
no_conflict_terms {C = C} log commit prev (e ∷ es) h =
    go (leb (suc prev) commit && not (eqb (term_at log (suc prev)) e.term)) refl h (no_conflict_terms log commit (suc prev) es)
  where
    here : (b : Bool) → eqb (term_at log (suc prev)) e.term ≡ b → (leb (suc prev) commit && not b) ≡ false → suc prev ≤ commit → term_at log (suc prev) ≡ e.term
    here true t q le = eqb-true _ _ t
    here false t q le = absurd (false≢true (sym q ∙ and_from (leb (suc prev) commit) true (le-leb _ _ le) refl))

    go : (b : Bool) → (leb (suc prev) commit && not (eqb (term_at log (suc prev)) e.term)) ≡ b → (b || has_conflict log commit (suc prev) es) ≡ false →
        (has_conflict log commit (suc prev) es ≡ false → (k : ℕ) → k < length es → suc prev + suc k ≤ commit → term_at log (suc prev + suc k) ≡ term_at es (suc k)) →
        (k : ℕ) → k < length (e ∷ es) → prev + suc k ≤ commit → term_at log (prev + suc k) ≡ term_at (e ∷ es) (suc k)
    go true p q rest k l le = absurd (false≢true (sym q))
    go false p q rest zero l le =
        let at : prev + 1 ≡ suc prev = omega arith in
        rw at (here (eqb (term_at log (suc prev)) e.term) refl p (omega arith))
    go false p q rest (suc k) l le =
        let at : prev + suc (suc k) ≡ suc prev + suc k = omega arith in
        rw at (rest q k (omega arith) (omega arith))

-- entries that are all committed already change nothing
pub accepted_known : {C : Type 0} (log : List (Entry C)) (commit prev : ℕ) (es : List (Entry C)) → has_conflict log commit prev es ≡ false →
    prev + length es ≤ commit → commit ≤ length log → accepted log prev es ≡ log
accepted_known log commit prev es h le fits =
    accepted_on log prev (length es) es (omega arith) (omega arith) (λ k l. no_conflict_terms log commit prev es h k l (omega arith))
    ∙ (rw (all_gone es) (take-append-drop (prev + length es) log))
  where
    all_gone : {A : Type 0} (xs : List A) → drop (length xs) xs ≡ []
    all_gone [] = refl
    all_gone (x ∷ xs) = all_gone xs
