-- Two majorities share a node.
use Rattle.std.proofs.Common.{◌≡◌, ℕ, zero, suc, ◌+◌, ◌≤◌, Bool, true, false, ◌⊎◌, inl, inr, arith, cond, refl}
use Rattle.std.proofs.lemmas.Bool.{ltb-true}
use Rattle.vst_base.specs.Elections.{MajoritiesMeet, Shared, count}

shared_later : (f h : ℕ → Bool) (n : ℕ) → Shared n f h → Shared (suc n) f h
shared_later f h n s = record { who = s.who; below = omega (arith, s.below); in_left = s.in_left; in_right = s.in_right }

-- two sets share a node, or have no more nodes together than there are
count_shared : (f h : ℕ → Bool) (n : ℕ) → (count f n + count h n ≤ n) ⊎ Shared n f h
count_shared f h zero = inl (omega arith)
count_shared f h (suc n) = go (f n) (h n) refl refl (count_shared f h n)
  where
    go : (b c : Bool) → f n ≡ b → h n ≡ c → (count f n + count h n ≤ n) ⊎ Shared n f h →
        (cond b (suc (count f n)) (count f n) + cond c (suc (count h n)) (count h n) ≤ suc n) ⊎ Shared (suc n) f h
    go true true p q r = inr (record { who = n; below = omega arith; in_left = p; in_right = q })
    go b c p q (inr s) = inr (shared_later f h n s)
    go true false p q (inl l) = inl (omega arith)
    go false true p q (inl l) = inl (omega arith)
    go false false p q (inl l) = inl (omega arith)

pub majorities_meet : MajoritiesMeet
majorities_meet nodes f h p q = go (count_shared f h nodes)
  where
    go : (count f nodes + count h nodes ≤ nodes) ⊎ Shared nodes f h → Shared nodes f h
    go (inl l) = absurd (let a = ltb-true _ _ p in let b = ltb-true _ _ q in omega arith)
    go (inr s) = s
