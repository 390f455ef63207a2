-- Facts of bytes that the code needs.
use Rattle.std.proofs.Common.{◌≡◌, ◌<◌, ◌≤◌, ℕ, suc, true, nat_lt, List, [], ◌∷◌, None, Some, Result, Ok, Err, OnOk, get_or, length, refl, sym, ap, arith}
use Rattle.std.proofs.lemmas.Bool.{and_from, lt-ltb}
use Rattle.std.specs.List.{list_all}
use Rattle.wire_fields.specs.Formats.{Format}
use Rattle.wire_messages.specs.Wires.{read_whole, whole}

-- bytes that are more than one value are no value
pub left_over : {V : Type 0} (f : Format V) (bs : List ℕ) (v : V) (rest : List ℕ) → f.read bs ≡ Some (v, rest) → 1 ≤ length rest → None ≡ read_whole f bs
left_over {V} f bs v [] read more = let no : ⊥ = omega (arith, more) in absurd no
left_over {V} f bs v (b ∷ rest) read more = sym (ap whole read)

pub all_bytes : (bs : List ℕ) → ((i : ℕ) → get_or bs i 0 < 256) → list_all (λ b. nat_lt b 256) bs ≡ true
all_bytes [] small = refl
all_bytes (b ∷ bs) small = and_from _ _ (lt-ltb b 256 (small 0)) (all_bytes bs (λ i. small (suc i)))

-- what always holds
pub where_ok : {T E P : Type 0} (r : Result T E) → P → OnOk r P
where_ok (Ok v) p = p
where_ok (Err e) p = tt
