-- Clients see one machine.
use Rattle.std.proofs.Common.{◌≡◌, ℕ, zero, suc, ◌≤◌, Bool, true, false, List, [], ◌∷◌, eqb, cond, Some, slice_get, zip, inl, inr, refl, sym, ap, All, AllPairs, arith}
use Rattle.std.proofs.lemmas.Bool.{and_parts, cases_Bool, eq-eqb, eqb-true}
use Rattle.std.proofs.lemmas.List.Elements.{All-head, All-tail}
use Rattle.std.proofs.lemmas.Option.{same_Some}
use Rattle.vst_base.specs.Machines.{MachineMeaning, fold}
use Rattle.vst_base.specs.declared.entry.Entry.{Entry}
use Rattle.raft_clients.proofs.Listed.{Rises, executed-rises}
use Rattle.raft_clients.specs.Executed.{executed, commands, requests}
use Rattle.raft_free.specs.Events.{In}
use Rattle.raft_types.specs.declared.client.RaftInput.{RaftInput}
use Rattle.linearizability.specs.Linearizable.{AreDistinct, AreOther, HasInput, Seen, Told, beside, is_named, up_to, with_outputs}
use Rattle.lists.specs.Each.{Each}
use Rattle.raft_safety.proofs.Explaining.{IsExplained, in_requests}
use Rattle.raft_safety.proofs.Listing.{each_in}
use Rattle.raft_safety.proofs.Turning.{WasPutIn}

pairs_head : {C : Type 0} (x : RaftInput C) (xs : List (RaftInput C)) → AllPairs Rises (x ∷ xs) → All (Rises x) xs
pairs_head x xs h k d lt = h zero (suc k) d (omega arith) (omega arith)

pairs_tail : {C : Type 0} (x : RaftInput C) (xs : List (RaftInput C)) → AllPairs Rises (x ∷ xs) → AllPairs Rises xs
pairs_tail x xs h i j d lt le = h (suc i) (suc j) d (omega arith) (omega arith)

named_itself : {C : Type 0} (a : RaftInput C) → is_named a.client a.request a ≡ true
named_itself a = rw (eq-eqb a.client a.client refl, eq-eqb a.request a.request refl) refl

not_named : {C : Type 0} (a b : RaftInput C) → Rises a b → is_named b.client b.request a ≡ false
not_named a b rises = elim (cases_Bool (is_named b.client b.request a)) [
  | inl e ↦
      (let p = and_parts (eqb a.client b.client) (eqb a.request b.request) e in
      let q : a.request ≡ b.request = eqb-true _ _ p.1 in
      let less = rises (eqb-true _ _ p.0) in
      absurd (omega arith))
  | inr e ↦ e
]

others : {C : Type 0} (a : RaftInput C) (xs : List (RaftInput C)) → All (Rises a) xs → Each (AreOther a) xs
others a [] h = tt
others a (x ∷ xs) h = (not_named a x (All-head (Rises a) x xs h), others a xs (All-tail (Rises a) x xs h))

pub distinct : {C : Type 0} (xs : List (RaftInput C)) → AllPairs Rises xs → AreDistinct xs
distinct [] h = tt
distinct (x ∷ xs) h = (others x xs (pairs_head x xs h), distinct xs (pairs_tail x xs h))

parts_of : {A B : Type 0} (p q : A × B) → Some p ≡ Some q → (p.0 ≡ q.0) × (p.1 ≡ q.1)
parts_of p q e = let s = same_Some p q e in (ap (λ (q : _). q.0) s, ap (λ (q : _). q.1) s)

in_zip : {A B : Type 0} (xs : List A) (ys : List B) (k : ℕ) (x : A) (y : B) → slice_get (zip xs ys) k ≡ Some (x, y) → In x xs
in_zip [] ys k x y e = absurd (cc (e))
in_zip (a ∷ xs) [] k x y e = absurd (cc (e))
in_zip (a ∷ xs) (b ∷ ys) zero x y e = inl (sym (parts_of (a, b) (x, y) e).0)
in_zip (a ∷ xs) (b ∷ ys) (suc k) x y e = inr (in_zip xs ys k x y e)

-- what stands beside a request
found : {C O : Type 0} (xs : List (RaftInput C)) (os : List O) (k : ℕ) (x : RaftInput C) (o : O) → AreDistinct xs → slice_get (zip xs os) k ≡ Some (x, o) →
    beside x.client x.request (zip xs os) ≡ Some o
found [] os k x o d is = absurd (cc (is))
found (a ∷ xs) [] k x o d is = absurd (cc (is))
found (a ∷ xs) (p ∷ os) zero x o d is =
    let same = parts_of (a, p) (x, o) is in
    rw (← same.0, named_itself a, same.1) refl
found (a ∷ xs) (p ∷ os) (suc k) x o d is =
    let other : is_named x.client x.request a ≡ false = each_in (AreOther a) xs x d.0 (in_zip xs os k x o is) in
    rw other (found xs os k x o d.1 is)

-- each request up to one is one up to it
each_up_to : {C O : Type 0} (before : Seen C O) (xs : List (RaftInput C)) (k : ℕ) (x : RaftInput C) → slice_get xs k ≡ Some x →
    ((j : ℕ) (y : RaftInput C) → j ≤ k → slice_get xs j ≡ Some y → HasInput before y) → Each (HasInput before) (up_to x.client x.request xs)
each_up_to before [] k x is h = absurd (cc (is))
each_up_to before (a ∷ xs) zero x is h =
    let same : a ≡ x = cc (is) in
    rw (← same, named_itself a) (h zero a (omega arith) refl, tt)
each_up_to {C = C} before (a ∷ xs) (suc k) x is h = go (is_named x.client x.request a) (each_up_to before xs k x is (λ j y le at. h (suc j) y (omega arith) at))
  where
    go : (b : Bool) → Each (HasInput before) (up_to x.client x.request xs) → Each (HasInput before) (cond b (a ∷ []) (a ∷ up_to x.client x.request xs))
    go true rest = (h zero a (omega arith) refl, tt)
    go false rest = (h zero a (omega arith) refl, rest)

zip_first : {A B : Type 0} (xs : List A) (ys : List B) (k : ℕ) (x : A) (y : B) → slice_get (zip xs ys) k ≡ Some (x, y) → slice_get xs k ≡ Some x
zip_first [] ys k x y e = absurd (cc (e))
zip_first (a ∷ xs) [] k x y e = absurd (cc (e))
zip_first (a ∷ xs) (b ∷ ys) zero x y e = ap (λ (q : _). Some q) (parts_of (a, b) (x, y) e).0
zip_first (a ∷ xs) (b ∷ ys) (suc k) x y e = zip_first xs ys k x y e

module _ {S C O : Type 0} (m : MachineMeaning S C O) (rs : List (RaftInput C)) where
  pub its_output : (t : Told C O) → IsExplained m rs t → beside t.client t.request (with_outputs m (executed rs)) ≡ Some t.output
  its_output t e =
      let x = e.execution in
      rw (← x.client, ← x.request) (found (executed rs) (fold m (commands (executed rs))) x.place x.executed t.output (distinct (executed rs) (executed-rises rs)) x.there)

  pub its_time : (t : Told C O) → IsExplained m rs t → Each (HasInput t.before) (up_to t.client t.request (executed rs))
  its_time t e =
      let x = e.execution in
      rw (← x.client, ← x.request) (each_up_to t.before (executed rs) x.place x.executed (zip_first (executed rs) (fold m (commands (executed rs))) x.place x.executed t.output x.there) e.in_time)

-- clients put in each request of entries that they put in
pub all_put_in : {C O : Type 0} (seen : Seen C O) (es : List (Entry C)) → ((e : Entry C) → In e es → WasPutIn seen e) → (x : RaftInput C) → In x (requests es) → HasInput seen x
all_put_in seen es h x i = let a = in_requests x es i in rw (a.by) at (h a.entry a.one)
