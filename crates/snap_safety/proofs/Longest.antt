-- Of what two nodes have applied at any moments the shorter begins the longer.
use Rattle.std.proofs.Common.{◌≡◌, ℕ, ◌≤◌, Bool, true, false, List, length, take, cond, ltb, inl, inr, refl, arith}
use Rattle.std.proofs.lemmas.Bool.{ltb-false, ltb-true}
use Rattle.std.proofs.lemmas.List.{length-take-le}
use Rattle.vst_base.specs.declared.entry.Entry.{Entry}
use Rattle.raft_free.specs.Nodes.{FreeWorld}
use Rattle.lists.specs.Prefixes.{prefix_self, IsPrefix}
use Rattle.raft_histories.proofs.Logs.{prefix_same, same_less, same_sym, same_take, same_trans}
use Rattle.raft_histories.specs.Prefixes.{Same}
use Rattle.raft_safety.specs.Applied.{longer}
use Rattle.raft_safety.proofs.Longest.{Compared, Longer, WasApplied, compared, did, now}

pub did_front : {A : Type 0} (a b : ℕ) (x y : List A) → a ≤ b → a ≤ length x → Same a x y → IsPrefix (take a x) (take b y)
did_front a b x y le fits s = prefix_same (rw (length-take-le a x fits) (same_trans (same_take a x) (same_trans s (same_sym (same_less a le (same_take b y))))))

pub longer_was : {C : Type 0} (n : ℕ) (v : FreeWorld C) (x : List (Entry C)) (i : ℕ) → WasApplied n v x → Longer n v x (did (v.node i)) (longer x (did (v.node i)))
longer_was n v x i was = go (ltb (length x) (length (did (v.node i)))) refl
  where
    cmp : Compared x (did (v.node i))
    cmp = rw (was.is) (compared was.who i was.moments)

    go : (b : Bool) → ltb (length x) (length (did (v.node i))) ≡ b → Longer n v x (did (v.node i)) (cond b (did (v.node i)) x)
    go true e =
        let less = ltb-true _ _ e in
        record { was = record { at = v; who = i; moments = now was.moments; is = refl }; first = cmp.forth (omega arith); second = prefix_self (did (v.node i)); one = λ e h. inr h }
    go false e = record { was = was; first = prefix_self x; second = cmp.back (ltb-false _ _ e); one = λ e h. inl h }
