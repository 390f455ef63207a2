-- Of what two nodes have applied at any moments the shorter begins the longer.
use Rattle.std.proofs.Common.{◌≡◌, ℕ, zero, suc, ◌<◌, ◌≤◌, Bool, true, false, List, [], ◌++◌, length, take, cond, ltb, ◌⊎◌, inl, inr, refl, arith}
use Rattle.std.proofs.lemmas.Bool.{cases_lt, ltb-false, ltb-true}
use Rattle.std.proofs.lemmas.List.{length-take-le}
use Rattle.vst_base.specs.declared.entry.Entry.{Entry}
use Rattle.raft_free.specs.Events.{Event, In}
use Rattle.raft_free.specs.Nodes.{FreeWorld, NodeState, first_world}
use Rattle.raft_free.specs.Runs.{Moments, Run}
use Rattle.raft_free.proofs.Applied.{state_machine_safety}
use Rattle.raft_histories.proofs.Logs.{prefix_same, same_less, same_sym, same_take, same_trans}
use Rattle.raft_histories.specs.Prefixes.{Same}
use Rattle.raft_safety.specs.Applied.{applied_list, applied_lists, longer, longest}
use Rattle.raft_safety.specs.Runs.{RaftWorld}
use Rattle.raft_safety.specs.Mirrors.{Mirrors}
use Rattle.raft_safety.proofs.Freed.{node_is}
use Rattle.raft_safety.proofs.Mirroring.{run_then}
use Rattle.lists.specs.Prefixes.{IsPrefix, prefix_self, prefix_trans}

-- what a node has applied
abbrev pub did : {C : Type 0} → NodeState C → List (Entry C)
did x = take x.applied x.log

-- some node had applied this at a moment up to v
pub record WasApplied {C : Type 0} (n : ℕ) (v : FreeWorld C) (best : List (Entry C)) : Type 0 where
  pub at : FreeWorld C
  pub who : ℕ
  pub moments : Moments C n at v
  pub is : best ≡ did (at.node who)

pub was_later : {C : Type 0} {n : ℕ} {v w : FreeWorld C} {best : List (Entry C)} (late : List (Event C)) → Run n v late w → WasApplied n v best → WasApplied n w best
was_later {n = n} {v = v} {w = w} late r a = record {
  at = a.at;
  who = a.who;
  moments = record { early = a.moments.early; late = a.moments.late ++ late; before = a.moments.before; after = run_then n a.moments.late late a.at v w a.moments.after r };
  is = a.is;
}

pub now : {C : Type 0} {n : ℕ} {v w : FreeWorld C} → Moments C n v w → Moments C n w w
now {C = C} {n = n} {v = v} {w = w} t =
    record { early = t.early ++ t.late; late = []; before = run_then n t.early t.late (first_world C) v w t.before t.after; after = refl }

-- how much a node has applied is in its log
pub did_fits : {C : Type 0} {n : ℕ} {w : FreeWorld C} (i : ℕ) → Moments C n w w → (w.node i).applied ≤ length (w.node i).log
did_fits {C = C} {n = n} {w = w} i t = (state_machine_safety C n w w i i (w.node i).applied t (omega arith) (omega arith)).0.0

did_front : {A : Type 0} (a b : ℕ) (x y : List A) → a ≤ b → a ≤ length x → Same a x y → IsPrefix (take a x) (take b y)
did_front a b x y le fits s = prefix_same (rw (length-take-le a x fits) (same_trans (same_take a x) (same_trans s (same_sym (same_less a le (same_take b y))))))

-- what a node had applied at one moment, and what one has at another
pub record Compared {A : Type 0} (x y : List A) : Type 0 where
  pub forth : length x ≤ length y → IsPrefix x y
  pub back : length y ≤ length x → IsPrefix y x

pub compared : {C : Type 0} {n : ℕ} {v w : FreeWorld C} (i j : ℕ) → Moments C n v w → Compared (did (v.node i)) (did (w.node j))
compared {C = C} {n = n} {v = v} {w = w} i j t = record { forth = forth; back = back }
  where
    a : ℕ
    a = (v.node i).applied

    b : ℕ
    b = (w.node j).applied

    fits_v : a ≤ length (v.node i).log
    fits_v = did_fits i (record { early = t.early; late = []; before = t.before; after = refl })

    fits_w : b ≤ length (w.node j).log
    fits_w = did_fits j (now t)

    long_v : length (did (v.node i)) ≡ a
    long_v = length-take-le a (v.node i).log fits_v

    long_w : length (did (w.node j)) ≡ b
    long_w = length-take-le b (w.node j).log fits_w

    same : (k : ℕ) → k ≤ a → k ≤ b → Same k (v.node i).log (w.node j).log
    same k p q = record { eq = (state_machine_safety C n v w i j k t p q).0.1 }

    forth : length (did (v.node i)) ≤ length (did (w.node j)) → IsPrefix (did (v.node i)) (did (w.node j))
    forth h = let le : a ≤ b = omega (arith, long_v, long_w) in did_front a b (v.node i).log (w.node j).log le fits_v (same a (omega arith) le)

    back : length (did (w.node j)) ≤ length (did (v.node i)) → IsPrefix (did (w.node j)) (did (v.node i))
    back h = let le : b ≤ a = omega (arith, long_v, long_w) in did_front b a (w.node j).log (v.node i).log le fits_w (same_sym (same b le (omega arith)))

-- the longer of two lists that were applied
pub record Longer {C : Type 0} (n : ℕ) (v : FreeWorld C) (x y best : List (Entry C)) : Type 0 where
  pub was : WasApplied n v best
  pub first : IsPrefix x best
  pub second : IsPrefix y best
  pub one : (e : Entry C) → In e best → In e x ⊎ In e y

longer_was : {C : Type 0} (n : ℕ) (v : FreeWorld C) (x : List (Entry C)) (i : ℕ) → WasApplied n v x → Longer n v x (did (v.node i)) (longer x (did (v.node i)))
longer_was n v x i was = go (ltb (length x) (length (did (v.node i)))) refl
  where
    cmp : Compared x (did (v.node i))
    cmp = rw (was.is) (compared was.who i was.moments)

    go : (b : Bool) → ltb (length x) (length (did (v.node i))) ≡ b → Longer n v x (did (v.node i)) (cond b (did (v.node i)) x)
    go true e =
        let less = ltb-true _ _ e in
        record { was = record { at = v; who = i; moments = now was.moments; is = refl }; first = cmp.forth (omega arith); second = prefix_self (did (v.node i)); one = λ e h. inr h }
    go false e = record { was = was; first = prefix_self x; second = cmp.back (ltb-false _ _ e); one = λ e h. inl h }

-- the longest of a list and of what so many nodes have applied, all of whose entries are such where all theirs are
pub record Best {S C O : Type 0} (P : Entry C → Type 0) (n : ℕ) (w : RaftWorld S C O) (v : FreeWorld C) (k : ℕ) (x best : List (Entry C)) : Type 0 where
  pub was : WasApplied n v best
  pub front : IsPrefix x best
  pub each : (i : ℕ) → i < k → IsPrefix (applied_list (w.state i)) best
  pub all : ((e : Entry C) → In e x → P e) → ((i : ℕ) (e : Entry C) → In e (applied_list (w.state i)) → P e) → (e : Entry C) → In e best → P e

best_more : {S C O : Type 0} (P : Entry C → Type 0) (n : ℕ) (w : RaftWorld S C O) (v : FreeWorld C) → Mirrors w v → (k : ℕ) (x best : List (Entry C)) → Best P n w v k x best →
    Best P n w v (suc k) x (longer best (applied_list (w.state k)))
best_more {S = S} {C = C} {O = O} P n w v mirrors k x best b = record {
  was = l.was;
  front = prefix_trans _ b.front l.first;
  each = λ i h. at i (cases_lt i k) h;
  all = λ p q e h. elim (l.one e h) [ inl i ↦ b.all p q e i | inr i ↦ q k e i ];
}
  where
    l : Longer n v best (applied_list (w.state k)) (longer best (applied_list (w.state k)))
    l = rw (node_is mirrors k) at (longer_was n v best k b.was)

    at : (i : ℕ) → (i < k) ⊎ (k ≤ i) → i < suc k → IsPrefix (applied_list (w.state i)) (longer best (applied_list (w.state k)))
    at i (inl less) h = prefix_trans _ (b.each i less) l.first
    at i (inr le) h = let e : i ≡ k = omega arith in rw e l.second

pub longest_is_best : {S C O : Type 0} (P : Entry C → Type 0) (n : ℕ) (w : RaftWorld S C O) (v : FreeWorld C) → Mirrors w v → (x : List (Entry C)) → WasApplied n v x → (k : ℕ) →
    Best P n w v k x (longest k (applied_lists w) x)
longest_is_best P n w v mirrors x was zero = record { was = was; front = prefix_self x; each = λ i h. absurd (omega arith); all = λ p q e h. p e h }
longest_is_best P n w v mirrors x was (suc k) = best_more P n w v mirrors k x (longest k (applied_lists w) x) (longest_is_best P n w v mirrors x was k)
