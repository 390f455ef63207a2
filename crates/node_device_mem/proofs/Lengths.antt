-- A count of all acts is the length of the record, as long as it can be counted.
use Rattle.std.proofs.Common.{◌≡◌, ℕ, zero, suc, ◌+◌, ◌-◌, ◌^◌, ◌≤◌, min, fold, List, [], ◌∷◌, length, refl, sym, flat_map, ap, ◌∙◌, arith, length-append}
use Rattle.node_device_mem.specs.Histories.{act_of, nows_from, acts_of, all_acts, counted_on}
use Rattle.node_device_mem.specs.declared.past.Past.{Past}
use Rattle.node_device_mem.proofs.Following.{parted}

length_nows : (clock : List ℕ) (from n : ℕ) → length (nows_from clock from n) ≡ n
length_nows clock from zero = refl
length_nows clock from (suc n) = ap suc (length_nows clock (suc from) n)

length_split : (clock : List ℕ) (pasts : List Past) (from n : ℕ) → length (all_acts clock pasts from n) ≡ length (flat_map (acts_of clock) pasts) + n
length_split clock pasts from n =
    length-append (flat_map (acts_of clock) pasts) (nows_from clock from n) ∙ ap (λ m. length (flat_map (acts_of clock) pasts) + m) (length_nows clock from n)

length_more : (clock : List ℕ) (past : Past) (pasts : List Past) (from n : ℕ) →
    length (all_acts clock (past ∷ pasts) from n) ≡ past.nows + suc (length (flat_map (acts_of clock) pasts) + n)
length_more clock past pasts from n =
    ap length (parted clock past pasts from n)
    ∙ (length-append (nows_from clock past.from past.nows) (act_of past.act ∷ all_acts clock pasts from n)
    ∙ (ap (λ m. m + suc (length (all_acts clock pasts from n))) (length_nows clock past.from past.nows)
    ∙ ap (λ m. past.nows + suc m) (length_split clock pasts from n)))

-- one act more, with a count that stops at the number `most`
one_more : (rest n nows most : ℕ) → min (rest + min (min (n + nows) most + 1) most) most ≡ min (nows + suc (rest + n)) most
one_more rest n nows most = omega arith

pub counts_all : (clock : List ℕ) (pasts : List Past) (from n : ℕ) → n ≤ 2 ^ 64 - 1 →
    fold counted_on n pasts ≡ min (length (all_acts clock pasts from n)) (2 ^ 64 - 1)
counts_all clock [] from n h = let e = length_nows clock from n in omega (arith, e)
counts_all clock (past ∷ pasts) from n h =
    counts_all clock pasts from (counted_on n past) (omega arith)
    ∙ (ap (λ m. min m (2 ^ 64 - 1)) (length_split clock pasts from (counted_on n past))
    ∙ (one_more (length (flat_map (acts_of clock) pasts)) n past.nows (2 ^ 64 - 1)
    ∙ ap (λ m. min m (2 ^ 64 - 1)) (sym (length_more clock past pasts from n))))
