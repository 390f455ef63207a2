-- What two logs have in common, where one comes of the other.
use Rattle.std.proofs.Common.{◌≡◌, ℕ, zero, suc, ◌+◌, ◌<◌, ◌≤◌, Bool, true, false, nat_eq, List, [], ◌∷◌, ◌++◌, length, take, drop, refl, ap, arith, if◌then◌else◌}
use Rattle.std.proofs.lemmas.Bool.{eq-eqb}
use Rattle.vst_base.specs.Entries.{EntryView}
use Rattle.vst_base.specs.Logs.{accepted, merged}
use Rattle.node_acts.specs.Stores.{common, terms_of}
use Rattle.node_growth.specs.GrowthLaws.{CountsOn}

-- up to the first place where their terms differ, the entries of two logs are the same
abbrev pub Agree : {C : Type 0} → List (EntryView C) → List (EntryView C) → Type 0
Agree old new = take (common (terms_of old) new) old ≡ take (common (terms_of old) new) new

module _ {C : Type 0} where
  agree_on : (e : EntryView C) (old new : List (EntryView C)) → Agree old new → Agree (e ∷ old) (e ∷ new)
  agree_on e old new h = go (nat_eq e.term e.term)
    where
      go : (b : Bool) → take (if b then suc (common (terms_of old) new) else 0) (e ∷ old)
          ≡ take (if b then suc (common (terms_of old) new) else 0) (e ∷ new)
      go true = ap (λ xs. e ∷ xs) h
      go false = refl

  agree_up_to : (o e : EntryView C) (old new : List (EntryView C)) → nat_eq o.term e.term ≡ false → Agree (o ∷ old) (e ∷ new)
  agree_up_to o e old new apart = rw apart refl

  agree_merged : (old es : List (EntryView C)) → Agree old (merged old es)
  agree_merged old [] = refl
  agree_merged [] (e ∷ es) = refl
  agree_merged (o ∷ os) (e ∷ es) = go (nat_eq o.term e.term) refl (agree_merged os es)
    where
      go : (b : Bool) → nat_eq o.term e.term ≡ b → Agree os (merged os es) → Agree (o ∷ os) (if b then o ∷ merged os es else e ∷ es)
      go true same h = agree_on o os (merged os es) h
      go false apart h = agree_up_to o e os es apart

  -- what stands after a front that stays
  agree_after : (n : ℕ) (old rest : List (EntryView C)) → Agree (drop n old) rest → Agree old (take n old ++ rest)
  agree_after zero old rest h = h
  agree_after (suc n) [] rest h = refl
  agree_after (suc n) (o ∷ old) rest h = agree_on o old (take n old ++ rest) (agree_after n old rest h)

  pub agree_accepted : (old : List (EntryView C)) (prev : ℕ) (es : List (EntryView C)) → Agree old (accepted old prev es)
  agree_accepted old prev es = agree_after prev old (merged (drop prev old) es) (agree_merged (drop prev old) es)

  pub agree_more : (old more : List (EntryView C)) → Agree old (old ++ more)
  agree_more [] more = refl
  agree_more (o ∷ old) more = agree_on o old (old ++ more) (agree_more old more)

  -- the terms of a front that stays are common
  pub common_after : (n : ℕ) (old rest : List (EntryView C)) → n ≤ length old →
      common (terms_of old) (take n old ++ rest) ≡ n + common (terms_of (drop n old)) rest
  common_after zero old rest h = omega arith
  common_after (suc n) [] rest h = absurd (omega arith)
  common_after (suc n) (o ∷ old) rest h =
      let on = common_after n old rest (omega arith) in rw (eq-eqb o.term o.term refl) (omega (arith, on))

  pub common_more : (old more : List (EntryView C)) → length old ≤ common (terms_of old) (old ++ more)
  common_more [] more = omega arith
  common_more (o ∷ old) more = let on = common_more old more in rw (eq-eqb o.term o.term refl) (omega (arith, on))

  pub common_same : (old : List (EntryView C)) → length old ≤ common (terms_of old) old
  common_same [] = omega arith
  common_same (o ∷ old) = let on = common_same old in rw (eq-eqb o.term o.term refl) (omega (arith, on))

  -- entries that end before the log does cut nothing
  pub common_merged : (old es : List (EntryView C)) → length es < length (merged old es) →
      length (merged old es) ≤ common (terms_of old) (merged old es)
  common_merged old [] h = common_same old
  common_merged [] (e ∷ es) h = absurd (omega arith)
  common_merged (o ∷ os) (e ∷ es) h = go (nat_eq o.term e.term) refl (common_merged os es) h
    where
      go : (b : Bool) → nat_eq o.term e.term ≡ b →
          (length es < length (merged os es) → length (merged os es) ≤ common (terms_of os) (merged os es)) →
          suc (length es) < length (if b then o ∷ merged os es else e ∷ es) →
          length (if b then o ∷ merged os es else e ∷ es) ≤ common (terms_of (o ∷ os)) (if b then o ∷ merged os es else e ∷ es)
      go true same on h = let rest = on (omega arith) in rw (eq-eqb o.term o.term refl) (omega (arith, rest))
      go false apart on h = absurd (omega arith)

-- the rest is counted from there on
pub counts_on : {C : Type 0} → CountsOn C
counts_on terms log zero h = omega arith
counts_on [] log (suc n) h = absurd (omega arith)
counts_on (t ∷ ts) [] (suc n) h = absurd (omega arith)
counts_on {C} (t ∷ ts) (e ∷ es) (suc n) h = go (nat_eq t e.term) (counts_on ts es n) h
  where
    go : (b : Bool) → (n ≤ common ts es → common ts es ≡ n + common (drop n ts) (drop n es)) →
        suc n ≤ (if b then suc (common ts es) else 0) →
        (if b then suc (common ts es) else 0) ≡ suc n + common (drop n ts) (drop n es)
    go true on h = let rest = on (omega arith) in omega (arith, rest)
    go false on h = absurd (omega arith)
