-- What holds of each value that a finite map has.
use Rattle.std.specs.Prelude.{Some, None}
use Rattle.std.proofs.Common.{subst, sym}
use Rattle.std.specs.Cmp.{IsTotalOrder}
use Rattle.std.specs.FinMap.{FinMap, empty, get, insert, remove, get-empty, get-insert, get-remove}
use Rattle.std.specs.Ordering.{eq_by_cmp}
use Rattle.std.specs.declared.cmp.Ordering.{Ordering}
use Rattle.trace_check.proofs.Eaches.{IfThere, either}

module _ {K V : Type 0} (order : K → K → Ordering) (P : V → Type 0) where
  abbrev pub EachValue : FinMap order V → Type 0
  EachValue m = (k : K) → IfThere P (get m k)

  pub each-empty : EachValue empty
  each-empty k = subst (IfThere P) (sym (get-empty order k)) tt

  module _ (total : IsTotalOrder order) (m : FinMap order V) (all : EachValue m) where
    pub each-insert : (k : K) (v : V) → P v → EachValue (insert m k v)
    each-insert k v has j = subst (IfThere P) (sym (get-insert total m k v j)) (either (IfThere P) (eq_by_cmp order j k) (Some v) (get m j) has (all j))

    pub each-remove : (k : K) → EachValue (remove m k)
    each-remove k j = subst (IfThere P) (sym (get-remove total m k j)) (either (IfThere P) (eq_by_cmp order j k) None (get m j) tt (all j))
