-- Bytes that are written over others or cut off, and put back.
use Rattle.std.proofs.Common.{◌≡◌, ℕ, zero, suc, ◌+◌, ◌-◌, ◌<◌, ◌≤◌, ◌⊎◌, inl, inr, List, [], ◌∷◌, ◌++◌, length, take, drop, replicate, reverse, refl, sym, ap, ◌∙◌, arith}
use Rattle.std.proofs.lemmas.Bool.{cases_lt}
use Rattle.std.proofs.lemmas.List.{append-nil, drop_all, drop-append-le, length-append, length-drop, length-replicate, length-take-le, reverse-append, take-take, take_all, take_at}
use Rattle.disk.specs.Disk.{overwritten, resized}
use Rattle.store_acts.specs.PendingAreas.{all_undone, undone}
use Rattle.store_acts.specs.declared.pending_area.Undo.{Undo}

at_front : (old bytes : List ℕ) → overwritten old 0 bytes ≡ bytes ++ drop (length bytes) old
at_front old [] = refl
at_front [] (b ∷ bytes) = ap (λ r. b ∷ r) (at_front [] bytes ∙ ap (λ r. bytes ++ r) (drop_all (length bytes) [] (omega arith)))
at_front (x ∷ old) (b ∷ bytes) = ap (λ r. b ∷ r) (at_front old bytes)

-- within the old bytes
pub over_within : (old : List ℕ) (at : ℕ) (bytes : List ℕ) → 0 < length bytes → at + length bytes ≤ length old →
    overwritten old at bytes ≡ take at old ++ (bytes ++ drop (at + length bytes) old)
over_within old at [] some within = absurd (omega arith)
over_within old zero (b ∷ bytes) some within =
    let e : 0 + length (b ∷ bytes) ≡ length (b ∷ bytes) = omega arith in
    rw e (at_front old (b ∷ bytes))
over_within [] (suc at) (b ∷ bytes) some within = absurd (omega (arith, within))
over_within (x ∷ old) (suc at) (b ∷ bytes) some within =
    let e : suc at + length (b ∷ bytes) ≡ suc (at + length (b ∷ bytes)) = omega arith in
    rw e (ap (λ r. x ∷ r) (over_within old at (b ∷ bytes) some (omega (arith, within))))

-- to their end or past it, where they are filled with 0 up to the new end first
pub over_end : (old : List ℕ) (at : ℕ) (bytes : List ℕ) (gap : ℕ) → 0 < length bytes → length old + gap ≡ at + length bytes →
    overwritten old at bytes ≡ take at (old ++ replicate gap 0) ++ bytes
over_end old at [] gap some end = absurd (omega arith)
over_end old zero (b ∷ bytes) gap some end =
    at_front old (b ∷ bytes)
    ∙ (ap (λ r. (b ∷ bytes) ++ r) (drop_all (length (b ∷ bytes)) old (omega (arith, end))) ∙ append-nil (b ∷ bytes))
over_end [] (suc at) (b ∷ bytes) zero some end = absurd (omega (arith, end))
over_end [] (suc at) (b ∷ bytes) (suc gap) some end = ap (λ r. 0 ∷ r) (over_end [] at (b ∷ bytes) gap some (omega (arith, end)))
over_end (x ∷ old) (suc at) (b ∷ bytes) gap some end = ap (λ r. x ∷ r) (over_end old at (b ∷ bytes) gap some (omega (arith, end)))

-- what stood there, without what was filled
pub stood_within : (old : List ℕ) (at n : ℕ) → at + n ≤ length old → take (length old - at) (take n (drop at old)) ≡ take n (drop at old)
stood_within old at n within =
    take_all (length old - at) (take n (drop at old))
    (let l = length-take-le n (drop at old) (omega (arith, length-drop at old, within)) in omega (arith, l, within))

pub stood_end : (old rest : List ℕ) (at n : ℕ) → length old ≤ at + n → take (length old - at) (take n (drop at (old ++ rest))) ≡ take n (drop at old)
stood_end old rest at n end = go (cases_lt at (length old))
  where
    go : (at < length old) ⊎ (length old ≤ at) → take (length old - at) (take n (drop at (old ++ rest))) ≡ take n (drop at old)
    go (inl inside) =
        take-take (length old - at) n (drop at (old ++ rest)) (omega (arith, end))
        ∙ (ap (take (length old - at)) (drop-append-le at old rest (omega (arith, inside)))
        ∙ (take_at (drop at old) rest (length old - at) (length-drop at old)
        ∙ sym (take_all n (drop at old) (omega (arith, length-drop at old, end)))))
    go (inr past) =
        let none : length old - at ≡ 0 = omega (arith, past) in
        rw (none, drop_all at old past) (sym (take_all n [] (omega arith)))

resized_self : (old : List ℕ) → resized (length old) old ≡ old
resized_self [] = refl
resized_self (x ∷ old) = ap (λ r. x ∷ r) (resized_self old)

further_on : (x : ℕ) (row : List ℕ) (at : ℕ) (over : List ℕ) → overwritten (x ∷ row) (suc at) over ≡ x ∷ overwritten row at over
further_on x row at [] = refl
further_on x row at (b ∷ over) = refl

-- a write and a cut, taken back
pub write_undone : (old : List ℕ) (at : ℕ) (bytes : List ℕ) →
    resized (length old) (overwritten (overwritten old at bytes) at (take (length bytes) (drop at old))) ≡ old
write_undone old at [] = resized_self old
write_undone [] at (b ∷ bytes) = refl
write_undone (x ∷ old) zero (b ∷ bytes) = ap (λ r. x ∷ r) (write_undone old zero bytes)
write_undone (x ∷ old) (suc at) (b ∷ bytes) =
    ap (resized (suc (length old))) (further_on x (overwritten old at (b ∷ bytes)) at (take (length (b ∷ bytes)) (drop at old)))
    ∙ ap (λ r. x ∷ r) (write_undone old at (b ∷ bytes))

pub cut_undone : (old : List ℕ) (n : ℕ) → resized (length old) (overwritten (resized n old) n (drop n old)) ≡ old
cut_undone old zero = ap (resized (length old)) (over_nothing old) ∙ resized_self old
  where
    over_nothing : (bytes : List ℕ) → overwritten [] zero bytes ≡ bytes
    over_nothing [] = refl
    over_nothing (b ∷ bytes) = ap (λ r. b ∷ r) (over_nothing bytes)
cut_undone [] (suc n) = refl
cut_undone (x ∷ old) (suc n) =
    ap (resized (suc (length old))) (further_on x (resized n old) n (drop n old)) ∙ ap (λ r. x ∷ r) (cut_undone old n)

pub resized_shorter : (n : ℕ) (old : List ℕ) → n ≤ length old → resized n old ≡ take n old
resized_shorter zero old short = refl
resized_shorter (suc n) [] short = absurd (omega (arith, short))
resized_shorter (suc n) (x ∷ old) short = ap (λ r. x ∷ r) (resized_shorter n old (omega (arith, short)))

pub resized_parts : (n : ℕ) (old : List ℕ) → resized n old ≡ take n old ++ replicate (n - length old) 0
resized_parts zero old = let e : 0 - length old ≡ 0 = omega arith in rw e refl
resized_parts (suc n) [] =
    let e : suc n - 0 ≡ suc n = omega arith in
    rw e (ap (λ r. 0 ∷ r) (zeros n))
  where
    zeros : (n : ℕ) → resized n [] ≡ replicate n 0
    zeros zero = refl
    zeros (suc n) = ap (λ r. 0 ∷ r) (zeros n)
resized_parts (suc n) (x ∷ old) =
    let e : suc n - suc (length old) ≡ n - length old = omega arith in
    rw e (ap (λ r. x ∷ r) (resized_parts n old))

-- a row that was filled with 0 up to the new end first, where it was shorter, and into which the bytes were put then
pub over_row : (old filled row : List ℕ) (at : ℕ) (bytes : List ℕ) → 0 < length bytes → at + length bytes ≤ length filled →
    row ≡ take at filled ++ (bytes ++ drop (at + length bytes) filled) →
    (filled ≡ old) ⊎ ((gap : ℕ) × (filled ≡ old ++ replicate gap 0) × (length old + gap ≤ at + length bytes)) → row ≡ overwritten old at bytes
over_row old filled row at bytes some within put (inl same) =
    put ∙ (ap (λ (xs : List ℕ). take at xs ++ (bytes ++ drop (at + length bytes) xs)) same ∙ sym (over_within old at bytes some (rw same at within)))
over_row old filled row at bytes some within put (inr (gap, longer, few)) =
    let size : length (old ++ replicate gap 0) ≡ length old + gap = length-append old (replicate gap 0) ∙ ap (λ n. length old + n) (length-replicate gap 0) in
    let there : at + length bytes ≤ length (old ++ replicate gap 0) = rw longer at within in
    let end : length old + gap ≡ at + length bytes = omega (arith, few, there, size) in
    put
    ∙ (ap (λ (xs : List ℕ). take at xs ++ (bytes ++ drop (at + length bytes) xs)) longer
    ∙ (ap (λ (xs : List ℕ). take at (old ++ replicate gap 0) ++ (bytes ++ xs)) (drop_all (at + length bytes) (old ++ replicate gap 0) (omega (arith, end, size)))
    ∙ (ap (λ (xs : List ℕ). take at (old ++ replicate gap 0) ++ xs) (append-nil bytes) ∙ sym (over_end old at bytes gap some end))))

-- what takes back an act more
pub stood_on : (undos now : List Undo) (undo : Undo) (old bytes : List ℕ) → now ≡ undos ++ undo ∷ [] → undone undo bytes ≡ old →
    all_undone (reverse now) bytes ≡ all_undone (reverse undos) old
stood_on undos now undo old bytes more back =
    ap (λ us. all_undone (reverse us) bytes) more
    ∙ (ap (λ us. all_undone us bytes) (reverse-append undos (undo ∷ [])) ∙ ap (all_undone (reverse undos)) back)

pub takes_write_back : (undo : Undo) (old now bytes : List ℕ) → undo.len ≡ length old → now ≡ overwritten old undo.at bytes →
    undo.over.items ≡ take (length bytes) (drop undo.at old) → undone undo now ≡ old
takes_write_back undo old now bytes len is over = rw (len, is, over) (write_undone old undo.at bytes)

pub takes_cut_back : (undo : Undo) (old now : List ℕ) → undo.len ≡ length old → now ≡ resized undo.at old → undo.over.items ≡ drop undo.at old →
    undone undo now ≡ old
takes_cut_back undo old now len is over = rw (len, is, over) (cut_undone old undo.at)
