-- The term at an index, by the entry that is found there.
use Rattle.std.proofs.Common.{◌≡◌, ℕ, suc, ◌<◌, List, length, get_or, Some, None, nat_le, if◌then◌else◌, refl, arith}
use Rattle.std.proofs.Math.Dec.{leb-zero}
use Rattle.std.proofs.lemmas.Bool.{le-leb}
use Rattle.std.specs.declared.option.Option.TheVariants.{the_data}
use Rattle.vst_base.specs.declared.entry.Entry.{Entry}
use Rattle.vst_base.specs.Logs.{term_at}
use Rattle.vst_base.proofs.LogTerms.{term_at_zero, term_found}

pub told_at_zero : {C : Type 0} (log : List (Entry C)) (n : ℕ) → n ≡ 0 →
    ◌≡◌ {A = the_data ℕ} (Some 0) (if nat_le n (length log) then Some (term_at log n) else None)
told_at_zero log n q = rw (q, leb-zero (length log), term_at_zero log) refl

pub told_at : {C : Type 0} (log : List (Entry C)) (n k : ℕ) (e : Entry C) → n ≡ suc k → k < length log → e ≡ get_or log k e →
    ◌≡◌ {A = the_data ℕ} (Some e.term) (if nat_le n (length log) then Some (term_at log n) else None)
told_at log n k e s h q = rw (s, le-leb (suc k) (length log) (omega arith), term_found log k e h q) refl
