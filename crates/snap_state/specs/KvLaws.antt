-- The first store is empty, and a command adds one pair at most.
use Rattle.std.proofs.Common.{◌≡◌, ◌≤◌, ◌+◌, ◌-◌, ℕ, Bool, true, false, cond, List, Some, if◌then◌else◌, arith}
use Rattle.std.specs.Cmp.Lexicographic.{nat_list_cmp_total, slice_cmp}
use Rattle.std.specs.FinMap.{contains_key, insert, len, len-empty, len-insert, len-remove, remove}
use Rattle.std.specs.Ordering.{nat_cmp}
use Rattle.kv_machine.specs.Kv.{Store, apply, holds, keeps, kv, removes, sets}
use Rattle.kv_machine.specs.declared.cmd.KvCmd.{KvCmd}
use Rattle.kv_machine.specs.declared.cmd.KvCmd.TheVariants.{Get, Put, Del, Cas, Cad}
use Rattle.kv_machine.specs.declared.out.KvOut.{KvOut}

-- the first store is empty
pub first_is_empty : len kv.init ≡ 0
first_is_empty = len-empty (slice_cmp nat_cmp) (List ℕ)

-- what stands in two branches holds of the choice
either : {A : Type 0} (P : A → Type 0) (b : Bool) (x y : A) → P x → P y → P (if b then x else y)
either P true x y p q = p
either P false x y p q = q

abbrev grows : Store → Store × KvOut → Type 0
grows m change = len change.0 ≤ len m + 1

inserts_one : (m : Store) (k v : List ℕ) → grows m (sets m k v)
inserts_one m k v = by (contains_key m k) (len-insert nat_list_cmp_total m k v)
  where
    by : (b : Bool) → len (insert m k v) ≡ cond b (len m) (len m + 1) → len (insert m k v) ≤ len m + 1
    by true e = omega (arith, e)
    by false e = omega (arith, e)

removes_some : (m : Store) (k : List ℕ) → grows m (removes m k)
removes_some m k = by (contains_key m k) (len-remove nat_list_cmp_total m k)
  where
    by : (b : Bool) → len (remove m k) ≡ cond b (len m - 1) (len m) → len (remove m k) ≤ len m + 1
    by true e = omega (arith, e)
    by false e = omega (arith, e)

keeps_all : (m : Store) (k : List ℕ) → grows m (keeps m k)
keeps_all m k = omega arith

-- a command adds one pair at most
pub one_more : (m : Store) (c : KvCmd) → len (apply m c).0 ≤ len m + 1
one_more m (Get k) = keeps_all m k
one_more m (Put k v) = inserts_one m k v
one_more m (Del k) = removes_some m k
one_more m (Cas k e v) = either (grows m) (holds m k e) (sets m k v) (keeps m k) (inserts_one m k v) (keeps_all m k)
one_more m (Cad k v) = either (grows m) (holds m k (Some v)) (removes m k) (keeps m k) (removes_some m k) (keeps_all m k)
