-- Trees and their branches.
use Rattle.std.proofs.Common.{◌≡◌, ℕ, ◌-◌, ◌<◌, ◌≤◌, List, ◌++◌, Option, None, length, get_or, set, ap, sym, ◌∙◌, arith, length-append}
use Rattle.std.proofs.lemmas.List.{set-append_left, set-append_right, get_or_append_left, get_or-append_right}
use Rattle.flight_index.specs.declared.tree.Branch.{Branch}
use Rattle.flight_index.specs.declared.tree.Branch.TheVariants.{Page, Fork}
use Rattle.flight_index.specs.Trees.{packets_of, HasPackets}

pub some-packets : (b : Branch) → HasPackets b → 0 < length (packets_of b)
some-packets (Page ps) h = h
some-packets (Fork l r) h = omega (arith, length-append l.value r.value, h.0, h.1)

-- one that is changed on the left
pub changed-left : {s l' : List (Option ℕ)} (l r : List (Option ℕ)) (k : ℕ) (o : Option ℕ) → s ≡ l ++ r → k < length l → l' ≡ set l k o → l' ++ r ≡ set s k o
changed-left {s} {l'} l r k o e inside new =
    ap (λ xs. xs ++ r) new ∙ (sym (set-append_left l r k o inside) ∙ ap (λ xs. set xs k o) (sym e))

pub was-left : {s : List (Option ℕ)} (l r : List (Option ℕ)) (k : ℕ) → s ≡ l ++ r → k < length l → get_or s k None ≡ get_or l k None
was-left {s} l r k e inside = ap (λ xs. get_or xs k None) e ∙ get_or_append_left l r None k inside

-- one that is changed on the right
pub changed-right : {s r' : List (Option ℕ)} (l r : List (Option ℕ)) (k n : ℕ) (o : Option ℕ) → s ≡ l ++ r → length l ≡ n → n ≤ k → r' ≡ set r (k - n) o → l ++ r' ≡ set s k o
changed-right {s} {r'} l r k n o e size after new =
    ap (λ xs. l ++ xs) new ∙ (sym (set-append_right l r n k o size after) ∙ ap (λ xs. set xs k o) (sym e))

pub was-right : {s : List (Option ℕ)} (l r : List (Option ℕ)) (k n : ℕ) → s ≡ l ++ r → length l ≡ n → n ≤ k → get_or s k None ≡ get_or r (k - n) None
was-right {s} l r k n e size after = ap (λ xs. get_or xs k None) e ∙ get_or-append_right l r n k None size after
