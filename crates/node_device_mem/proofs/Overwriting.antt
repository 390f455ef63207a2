-- Bytes written over others, in parts.
use Rattle.std.proofs.Common.{◌≡◌, ℕ, zero, suc, ◌+◌, ◌-◌, ◌<◌, ◌≤◌, List, [], ◌∷◌, ◌++◌, length, take, drop, replicate, min, refl, sym, ap, ◌∙◌, append_assoc, arith, ◌⊎◌, inl, inr}
use Rattle.std.proofs.lemmas.Bool.{cases_lt}
use Rattle.std.proofs.lemmas.List.{append-nil}
use Rattle.disk.specs.Disk.{overwritten, resized}

none_past : (n : ℕ) (old : List ℕ) → length old ≤ n → drop n old ≡ []
none_past zero [] h = refl
none_past zero (x ∷ old) h = absurd (omega arith)
none_past (suc n) [] h = refl
none_past (suc n) (x ∷ old) h = none_past n old (omega arith)

at_front : (old bytes : List ℕ) → overwritten old 0 bytes ≡ bytes ++ drop (length bytes) old
at_front old [] = refl
at_front [] (b ∷ bytes) = ap (λ r. b ∷ r) (at_front [] bytes ∙ ap (λ r. bytes ++ r) (none_past (length bytes) [] (omega arith)))
at_front (x ∷ old) (b ∷ bytes) = ap (λ r. b ∷ r) (at_front old bytes)

after_gap : (at b : ℕ) (bytes : List ℕ) → overwritten [] at (b ∷ bytes) ≡ replicate at 0 ++ (b ∷ bytes)
after_gap zero b bytes = at_front [] (b ∷ bytes) ∙ append-nil (b ∷ bytes)
after_gap (suc at) b bytes = ap (λ r. 0 ∷ r) (after_gap at b bytes)

-- what stands before the place, a gap, the bytes, and what stands after them
overwritten_parts : (old : List ℕ) (at : ℕ) (bytes : List ℕ) → 0 < length bytes →
    overwritten old at bytes ≡ (take at old ++ replicate (at - length old) 0) ++ (bytes ++ drop (at + length bytes) old)
overwritten_parts old at [] h = absurd (omega arith)
overwritten_parts old zero (b ∷ bytes) h =
    let e : 0 - length old ≡ 0 = omega arith in
    let f : 0 + length (b ∷ bytes) ≡ length (b ∷ bytes) = omega arith in
    rw (e, f) (at_front old (b ∷ bytes))
overwritten_parts [] (suc at) (b ∷ bytes) h =
    let e : suc at - 0 ≡ suc at = omega arith in
    rw (e, none_past (suc at + length (b ∷ bytes)) [] (omega arith), append-nil (b ∷ bytes)) (after_gap (suc at) b bytes)
overwritten_parts (x ∷ old) (suc at) (b ∷ bytes) h =
    let e : suc at - suc (length old) ≡ at - length old = omega arith in
    let f : suc at + length (b ∷ bytes) ≡ suc (at + length (b ∷ bytes)) = omega arith in
    rw (e, f) (ap (λ r. x ∷ r) (overwritten_parts old at (b ∷ bytes) h))

pub overwritten_to : (old : List ℕ) (at : ℕ) (bytes : List ℕ) (end : ℕ) → 0 < length bytes → end ≡ min (at + length bytes) (length old) →
    overwritten old at bytes ≡ ((take at old ++ replicate (at - length old) 0) ++ bytes) ++ drop end old
overwritten_to old at bytes end h e = go (cases_lt (at + length bytes) (length old))
  where
    front : List ℕ
    front = take at old ++ replicate (at - length old) 0

    rest : drop (at + length bytes) old ≡ drop end old → overwritten old at bytes ≡ ((take at old ++ replicate (at - length old) 0) ++ bytes) ++ drop end old
    rest d =
        overwritten_parts old at bytes h ∙ (ap (λ r. (take at old ++ replicate (at - length old) 0) ++ (bytes ++ r)) d
        ∙ sym (append_assoc (take at old ++ replicate (at - length old) 0) bytes (drop end old)))

    go : (at + length bytes < length old) ⊎ (length old ≤ at + length bytes) → overwritten old at bytes ≡ ((take at old ++ replicate (at - length old) 0) ++ bytes) ++ drop end old
    go (inl l) = let same : at + length bytes ≡ end = omega arith in rest (ap (λ n. drop n old) same)
    go (inr l) = rest (none_past (at + length bytes) old l ∙ sym (none_past end old (omega arith)))

pub resized_parts : (n : ℕ) (old : List ℕ) → resized n old ≡ take n old ++ replicate (n - length old) 0
resized_parts zero old = let e : 0 - length old ≡ 0 = omega arith in rw e refl
resized_parts (suc n) [] =
    let e : suc n - 0 ≡ suc n = omega arith in
    rw e (ap (λ r. 0 ∷ r) (none n))
  where
    none : (n : ℕ) → resized n [] ≡ replicate n 0
    none zero = refl
    none (suc n) = ap (λ r. 0 ∷ r) (none n)
resized_parts (suc n) (x ∷ old) =
    let e : suc n - suc (length old) ≡ n - length old = omega arith in
    rw e (ap (λ r. x ∷ r) (resized_parts n old))
