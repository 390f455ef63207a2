-- What a log becomes that takes entries of another, which stand after an index up to which the two agree.
use Rattle.std.proofs.Common.{◌≡◌, ℕ, zero, suc, ◌+◌, ◌<◌, ◌≤◌, Bool, true, false, List, [], ◌∷◌, ◌++◌, length, take, drop, refl, sym, ap, ◌∙◌, arith, ◌⊎◌, inl, inr, eqb, cond, leb, eqb-true, eq-eqb, length-append, append_assoc}
use Rattle.std.proofs.lemmas.List.{take_at}
use Rattle.std.proofs.lemmas.Bool.{and_parts, false≢true, leb-true}
use Rattle.vst_base.specs.declared.entry.Entry.{Entry}
use Rattle.vst_base.specs.Logs.{accepted, matches, merged, term_at}
use Rattle.raft_histories.specs.Claims.{AcceptedIsTaken}
use Rattle.raft_histories.specs.Prefixes.{Agree, Follows, Same, Took}
use Rattle.raft_histories.proofs.Logs.{prefix_same, same_append, same_less, same_prefix, same_refl, same_sym, same_take, same_trans, term_append_in}
use Rattle.lists.specs.Prefixes.{IsPrefix, prefix_append, prefix_length, prefix_nil}

same_tail : {A : Type 0} (n : ℕ) (x y : A) (l m : List A) → Same (suc n) (x ∷ l) (y ∷ m) → Same n l m
same_tail n x y l m s = record { eq = cc (s.eq) }

same_head : {A : Type 0} (n : ℕ) (x y : A) (l m : List A) → Same (suc n) (x ∷ l) (y ∷ m) → x ≡ y
same_head n x y l m s = cc (s.eq)

same_cons : {A : Type 0} (n : ℕ) (x y : A) (l m : List A) → x ≡ y → Same n l m → Same (suc n) (x ∷ l) (y ∷ m)
same_cons n x y l m e s = record { eq = cc (s.eq) }

agree_tail : {C : Type 0} (x y : Entry C) (l m : List (Entry C)) → Agree (x ∷ l) (y ∷ m) → Agree l m
agree_tail x y l m a = record { at = go }
  where
    go : (n : ℕ) → n ≤ length l → n ≤ length m → term_at l n ≡ term_at m n → Same n l m
    go zero h k e = record { eq = refl }
    go (suc n) h k e = same_tail (suc n) x y l m (a.at (suc (suc n)) (omega arith) (omega arith) e)

agree_front : {C : Type 0} (l m r : List (Entry C)) → Agree l (m ++ r) → Agree l m
agree_front l m r a =
    record {
      at = λ n h k e.
          same_trans (a.at n h (omega (arith, length-append m r)) (e ∙ sym (term_append_in m r n k))) (same_sym (same_append n m r k));
    }

merged_cases : {C : Type 0} (old new : List (Entry C)) → Agree old new → (merged old new ≡ new) ⊎ ((merged old new ≡ old) × IsPrefix new old)
merged_cases old [] a = inr (refl, prefix_nil old)
merged_cases [] (e ∷ es) a = inl refl
merged_cases (o ∷ os) (e ∷ es) a = go (eqb o.term e.term) refl (merged_cases os es (agree_tail o e os es a))
  where
    go : (b : Bool) → eqb o.term e.term ≡ b → (merged os es ≡ es) ⊎ ((merged os es ≡ os) × IsPrefix es os) →
        (cond b (o ∷ merged os es) (e ∷ es) ≡ e ∷ es) ⊎ ((cond b (o ∷ merged os es) (e ∷ es) ≡ o ∷ os) × IsPrefix (e ∷ es) (o ∷ os))
    go false t r = inl refl
    go true t r =
        let same : o ≡ e = same_head 0 o e os es (a.at 1 (omega arith) (omega arith) (eqb-true _ _ t)) in
        elim r [ inl p ↦ inl (cc (p)) | inr p ↦ inr (cc (p.0), prefix_same (same_cons _ e o es os (sym same) (same_prefix _ p.1))) ]

merged_same : {C : Type 0} (old new : List (Entry C)) → IsPrefix new old → merged old new ≡ old
merged_same old [] f = refl
merged_same [] (e ∷ es) f = absurd (let h = prefix_length [] f in omega arith)
merged_same {C = C} (o ∷ os) (e ∷ es) f = go (eqb o.term e.term) refl (merged_same os es (prefix_same (same_tail _ e o es os (same_prefix _ f))))
  where
    same : e ≡ o
    same = same_head _ e o es os (same_prefix _ f)

    go : (b : Bool) → eqb o.term e.term ≡ b → merged os es ≡ os → cond b (o ∷ merged os es) (e ∷ es) ≡ o ∷ os
    go true t rest = ap (λ r. o ∷ r) rest
    go false t rest = absurd (false≢true (sym t ∙ eq-eqb _ _ (ap (λ (x : Entry C). x.term) (sym same))))

-- what a log is after entries of another that follow an index up to which they agree
accepted_cases : {C : Type 0} (x front es rest : List (Entry C)) → length front ≤ length x → Same (length front) x (front ++ (es ++ rest)) →
    Agree x (front ++ (es ++ rest)) → ((take (length front) x ++ merged (drop (length front) x) es ≡ x) × Same (length front + length es) x (front ++ (es ++ rest)))
    ⊎ (take (length front) x ++ merged (drop (length front) x) es ≡ front ++ es)
accepted_cases x [] es rest h s a =
    elim (merged_cases x es (agree_front x es rest a)) [
      | inl p ↦ inr p
      | inr p ↦ inl (p.0, same_less _ (omega arith) (same_trans (same_sym (same_prefix _ p.1)) (same_prefix _ (prefix_append es rest))))
    ]
accepted_cases [] (f ∷ fs) es rest h s a = absurd (omega arith)
accepted_cases (x ∷ xs) (f ∷ fs) es rest h s a =
    let same : x ≡ f = same_head _ x f xs (fs ++ (es ++ rest)) s in
    elim (accepted_cases xs fs es rest (omega arith) (same_tail _ x f xs (fs ++ (es ++ rest)) s) (agree_tail x f xs (fs ++ (es ++ rest)) a)) [
      | inl p ↦ inl (cc (p.0), same_less _ (omega arith) (same_cons _ x f xs (fs ++ (es ++ rest)) same p.1))
      | inr p ↦ inr (cc (p))
    ]

accepted_same : {C : Type 0} (x front es rest : List (Entry C)) → length front ≤ length x → Same (length front + length es) x (front ++ (es ++ rest)) →
    take (length front) x ++ merged (drop (length front) x) es ≡ x
accepted_same x [] es rest h s =
    merged_same x es (prefix_same (same_trans (same_prefix _ (prefix_append es rest)) (same_sym (same_less (length es) (omega arith) s))))
accepted_same [] (f ∷ fs) es rest h s = absurd (omega arith)
accepted_same (x ∷ xs) (f ∷ fs) es rest h s =
    let t : Same (suc (length fs + length es)) (x ∷ xs) (f ∷ (fs ++ (es ++ rest))) = same_less _ (omega arith) s in
    ap (λ r. x ∷ r) (accepted_same xs fs es rest (omega arith) (same_tail _ x f xs (fs ++ (es ++ rest)) t))

pub follows_fits : {C : Type 0} (y : List (Entry C)) (prev prev_t : ℕ) (es : List (Entry C)) → Follows y prev prev_t es → prev + length es ≤ length y
follows_fits y prev prev_t es f =
    omega (arith, f.at, ap length f.whole, length-append f.front (es ++ f.rest), length-append es f.rest)

term_behind : {C : Type 0} (front l : List (Entry C)) (p k : ℕ) → p ≡ length front + suc k → term_at (front ++ l) p ≡ term_at l (suc k)
term_behind {C = C} [] l p k e = let q : p ≡ suc k = omega arith in ap (λ r. term_at {C = C} l r) q
term_behind (x ∷ f) l zero k e = absurd (omega arith)
term_behind (x ∷ f) l (suc zero) k e = absurd (omega arith)
term_behind (x ∷ f) l (suc (suc r)) k e = term_behind f l (suc r) k (omega arith)

-- an entry's place in the log that it follows
pub follows_term : {C : Type 0} (y : List (Entry C)) (prev prev_t : ℕ) (es : List (Entry C)) → Follows y prev prev_t es → (k : ℕ) →
    k < length es → term_at y (prev + suc k) ≡ term_at es (suc k)
follows_term y prev prev_t es f k lt =
    rw (← f.whole) (term_behind f.front (es ++ f.rest) (prev + suc k) k (omega (arith, f.at)) ∙ term_append_in es f.rest (suc k) (omega arith))

-- where the old log matches, it takes what the other has
pub took : {C : Type 0} (old theirs : List (Entry C)) (prev prev_t : ℕ) (es : List (Entry C)) → Follows theirs prev prev_t es → Agree old theirs →
    prev ≤ length old → term_at old prev ≡ prev_t → Took old theirs (prev + length es) (accepted old prev es)
took {C = C} old theirs prev prev_t es f a h e = done
  where
    at : length f.front ≡ prev
    at = f.at

    last : ℕ
    last = prev + length es

    fits : last ≤ length theirs
    fits = follows_fits theirs prev prev_t es f

    meets : Same (length f.front) old (f.front ++ (es ++ f.rest))
    meets = rw (f.whole, at) (a.at prev h (omega (arith, fits)) (e ∙ sym f.term))

    new : List (Entry C)
    new = accepted old prev es

    cases : ((new ≡ old) × Same last old theirs) ⊎ (new ≡ f.front ++ es)
    cases = rw (at, f.whole) at (accepted_cases old f.front es f.rest (omega arith) meets (rw f.whole a))

    keep : Same last old theirs → new ≡ old
    keep s = rw at at (accepted_same old f.front es f.rest (omega arith) (rw (f.whole, at) s))

    cut : take last theirs ≡ f.front ++ es
    cut = rw (← f.whole, ← append_assoc f.front es f.rest) (take_at (f.front ++ es) f.rest last (omega (arith, length-append f.front es)))

    same : Same last new theirs
    same = elim cases [ inl p ↦ rw (p.0) p.1 | inr p ↦ rw (p ∙ sym cut) (same_take _ theirs) ]

    keeps_at : (k : ℕ) → (last ≤ k) ⊎ (k ≤ last) → Same k old theirs → Same k new old
    keeps_at k (inl l) s = rw (keep (same_less _ l s)) (same_refl k old)
    keeps_at k (inr l) s = same_trans (same_less k l same) (same_sym s)

    done : Took old theirs last new
    done = record {
      whole = elim cases [ inl p ↦ inl p.0 | inr p ↦ inr (p ∙ sym cut) ];
      same = same;
      keeps = λ k. keeps_at k (grind arith);
      fits = fits;
    }

-- what the test tells
pub matches_tells : {C : Type 0} (log : List (Entry C)) (prev prev_t : ℕ) → matches log prev prev_t ≡ true → (prev ≤ length log) × (term_at log prev ≡ prev_t)
matches_tells log prev prev_t e = let p = and_parts (leb prev (length log)) (eqb (term_at log prev) prev_t) e in (leb-true _ _ p.0, eqb-true _ _ p.1)

pub accepted_is_taken : (C : Type 0) → AcceptedIsTaken C
accepted_is_taken C old theirs prev prev_t es f a e = let m = matches_tells old prev prev_t e in took old theirs prev prev_t es f a m.0 m.1
