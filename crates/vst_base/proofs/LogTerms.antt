-- The term at an index, and what stands after one, by the entry that stands there.
use Rattle.std.proofs.Common.{◌≡◌, ℕ, zero, suc, ◌<◌, List, [], ◌∷◌, length, drop, get_or, refl, sym, ap, arith, length-drop}
use Rattle.vst_base.specs.declared.entry.Entry.{Entry}
use Rattle.vst_base.specs.Logs.{term_at}

pub term_at_zero : {C : Type 0} (log : List (Entry C)) → term_at log 0 ≡ 0
term_at_zero [] = refl
term_at_zero (e ∷ es) = refl

pub term_found : {C : Type 0} (log : List (Entry C)) (k : ℕ) (e : Entry C) → k < length log → e ≡ get_or log k e → term_at log (suc k) ≡ e.term
term_found [] k e h q = absurd (omega arith)
term_found {C = C} (x ∷ xs) zero e h q = ap (λ (y : Entry C). y.term) (sym q)
term_found (x ∷ xs) (suc k) e h q = term_found xs k e (omega arith) q

pub term_behind : {C : Type 0} (log : List (Entry C)) (prev : ℕ) (o : Entry C) (os : List (Entry C)) → drop prev log ≡ o ∷ os → term_at log (suc prev) ≡ o.term
term_behind {C = C} [] prev o os d = absurd (omega (arith, ap length d, length-drop {A = Entry C} prev []))
term_behind {C = C} (x ∷ xs) zero o os d = let q : x ≡ o = cc d in ap (λ (y : Entry C). y.term) q
term_behind (x ∷ xs) (suc prev) o os d = term_behind xs prev o os d

pub rest_behind : {C : Type 0} (log : List (Entry C)) (prev : ℕ) (o : Entry C) (os : List (Entry C)) → drop prev log ≡ o ∷ os → drop (suc prev) log ≡ os
rest_behind {C = C} [] prev o os d = absurd (omega (arith, ap length d, length-drop {A = Entry C} prev []))
rest_behind (x ∷ xs) zero o os d = cc d
rest_behind (x ∷ xs) (suc prev) o os d = rest_behind xs prev o os d
