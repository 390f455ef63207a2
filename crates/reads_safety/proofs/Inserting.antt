-- Reads that are put in one after the other.
use Rattle.std.proofs.Common.{◌≡◌, ℕ, ◌<◌, ◌≤◌, ◌⊎◌, inl, inr, Bool, true, false, leb, List, [], ◌∷◌, ◌++◌, cond, refl, sym, ap, ◌∙◌, arith}
use Rattle.std.proofs.lemmas.Bool.{false≢true}
use Rattle.vst_base.specs.Machines.{MachineMeaning, state_after}
use Rattle.raft_clients.specs.Executed.{commands}
use Rattle.raft_free.specs.Events.{In}
use Rattle.raft_types.specs.declared.client.RaftInput.{RaftInput}
use Rattle.lists.specs.Each.{Each}
use Rattle.linearizability.specs.Linearizable.{AreDistinct, AreOther, beside, is_named, up_to}
use Rattle.raft_safety.proofs.Listing.{each_in}
use Rattle.reads_safety.specs.Orders.{insert, insert_all}
use Rattle.reads_safety.proofs.Placing.{Sorted, Stays, asked, below, beside_other, distinct_insert, in_insert, outs, sorted_insert, state_other, up_to_other}
use Rattle.reads_safety.proofs.Tracing.{other_back}

-- reads that may be put in among requests
pub record Fits {S C O : Type 0} (m : MachineMeaning S C O) (xs rs : List (ℕ × RaftInput C)) : Type 0 where
  pub sorted : Sorted xs
  pub distinct : AreDistinct (asked xs)
  pub apart : (y z : ℕ × RaftInput C) → In y rs → In z xs → AreOther z.1 y.1
  pub others : AreDistinct (asked rs)
  pub stays : (y : ℕ × RaftInput C) → In y rs → Stays m y

pub in_inserted : {C : Type 0} (xs : List (ℕ × RaftInput C)) (x y : ℕ × RaftInput C) → In y (insert xs x) → (y ≡ x) ⊎ In y xs
in_inserted [] x y (inl e) = inl e
in_inserted [] x y (inr h) = absurd h
in_inserted (z ∷ zs) x y h = go (leb z.0 x.0) (λ q. in_inserted zs x y q) h
  where
    go : (b : Bool) → (In y (insert zs x) → (y ≡ x) ⊎ In y zs) → In y (cond b (z ∷ insert zs x) (x ∷ z ∷ zs)) → (y ≡ x) ⊎ In y (z ∷ zs)
    go true r (inl e) = inr (inl e)
    go true r (inr q) = elim (r q) [ inl e ↦ inl e | inr i ↦ inr (inr i) ]
    go false r (inl e) = inl e
    go false r (inr i) = inr i

pub in_asked : {C : Type 0} (P : RaftInput C → Type 0) (xs : List (ℕ × RaftInput C)) (y : ℕ × RaftInput C) → Each P (asked xs) → In y xs → P y.1
in_asked P [] y e h = absurd h
in_asked P (x ∷ xs) y e (inl q) = rw q e.0
in_asked P (x ∷ xs) y e (inr h) = in_asked P xs y e.1 h

pub each_asked : {C : Type 0} (P : RaftInput C → Type 0) (xs : List (ℕ × RaftInput C)) → ((y : ℕ × RaftInput C) → In y xs → P y.1) → Each P (asked xs)
each_asked P [] f = tt
each_asked P (x ∷ xs) f = (f x (inl refl), each_asked P xs (λ y h. f y (inr h)))

-- up to a request of a sorted list stands none of a greater place
pub up_to_sorted : {C : Type 0} (P : RaftInput C → Type 0) (client request : ℕ) (xs : List (ℕ × RaftInput C)) (z : ℕ × RaftInput C) → Sorted xs → In z xs → is_named client request z.1 ≡ true →
    ((y : ℕ × RaftInput C) → In y xs → y.0 ≤ z.0 → P y.1) → Each P (up_to client request (asked xs))
up_to_sorted P client request [] z s h n p = absurd h
up_to_sorted {C = C} P client request (y ∷ ys) z s h n p = go (is_named client request y.1) refl h (λ q. up_to_sorted P client request ys z s.1 q n (λ w i. p w (inr i)))
  where
    least : In z (y ∷ ys) → y.0 ≤ z.0
    least (inl e) = rw e (omega arith)
    least (inr i) = each_in (λ z. y.0 ≤ z.0) ys z s.0 i

    go : (b : Bool) → is_named client request y.1 ≡ b → In z (y ∷ ys) → (In z ys → Each P (up_to client request (asked ys))) → Each P (cond b (y.1 ∷ []) (y.1 ∷ up_to client request (asked ys)))
    go true e h r = (p y (inl refl) (least h), tt)
    go false e (inl q) r = absurd (false≢true (sym e ∙ (ap (λ (y : ℕ × RaftInput C). is_named client request y.1) (sym q) ∙ n)))
    go false e (inr q) r = (p y (inl refl) (least (inr q)), r q)

module _ {S C O : Type 0} (m : MachineMeaning S C O) where
  fits_next : (xs : List (ℕ × RaftInput C)) (x : ℕ × RaftInput C) (rs : List (ℕ × RaftInput C)) → Fits m xs (x ∷ rs) → Fits m (insert xs x) rs
  fits_next xs x rs f = record {
    sorted = sorted_insert xs x f.sorted;
    distinct = distinct_insert xs x f.distinct (λ y h. (f.apart x y (inl refl) h, other_back y.1 x.1 (f.apart x y (inl refl) h)));
    apart = λ y z h i. elim (in_inserted xs x z i) [ inl e ↦ rw e (in_asked (AreOther x.1) rs y f.others.0 h) | inr j ↦ f.apart y z (inr h) j ];
    others = f.others.1;
    stays = λ y h. f.stays y (inr h);
  }

  pub fits_all : (xs rs ts : List (ℕ × RaftInput C)) → Fits m xs (rs ++ ts) → Fits m (insert_all xs rs) ts
  fits_all xs [] ts f = f
  fits_all xs (x ∷ rs) ts f = fits_all (insert xs x) rs ts (fits_next xs x (rs ++ ts) f)

  pub insert_append : (xs rs ts : List (ℕ × RaftInput C)) → insert_all xs (rs ++ ts) ≡ insert_all (insert_all xs rs) ts
  insert_append xs [] ts = refl
  insert_append xs (x ∷ rs) ts = insert_append (insert xs x) rs ts

  pub in_all : (xs rs : List (ℕ × RaftInput C)) (y : ℕ × RaftInput C) → In y (insert_all xs rs) → In y rs ⊎ In y xs
  in_all xs [] y h = inr h
  in_all xs (x ∷ rs) y h = elim (in_all (insert xs x) rs y h) [ inl q ↦ inl (inr q) | inr q ↦ elim (in_inserted xs x y q) [ inl e ↦ inl (inl e) | inr i ↦ inr i ] ]

  pub beside_all : (s : S) (client request : ℕ) (xs rs : List (ℕ × RaftInput C)) → ((y : ℕ × RaftInput C) → In y rs → Stays m y) → ((y : ℕ × RaftInput C) → In y rs → is_named client request y.1 ≡ false) →
      beside client request (outs m s (asked (insert_all xs rs))) ≡ beside client request (outs m s (asked xs))
  beside_all s client request xs [] stays other = refl
  beside_all s client request xs (x ∷ rs) stays other =
      beside_all s client request (insert xs x) rs (λ y h. stays y (inr h)) (λ y h. other y (inr h)) ∙ beside_other m s client request xs x (stays x (inl refl)) (other x (inl refl))

  pub state_all : (s : S) (a : ℕ) (xs rs : List (ℕ × RaftInput C)) → ((y : ℕ × RaftInput C) → In y rs → Stays m y) →
      state_after m s (commands (asked (below a (insert_all xs rs)))) ≡ state_after m s (commands (asked (below a xs)))
  state_all s a xs [] stays = refl
  state_all s a xs (x ∷ rs) stays = state_all s a (insert xs x) rs (λ y h. stays y (inr h)) ∙ state_other m s a xs x (stays x (inl refl))

  pub time_all : (P : RaftInput C → Type 0) (client request : ℕ) (xs rs : List (ℕ × RaftInput C)) (z : ℕ × RaftInput C) → Sorted xs → In z xs → is_named client request z.1 ≡ true →
      ((y : ℕ × RaftInput C) → In y rs → is_named client request y.1 ≡ false) → ((y : ℕ × RaftInput C) → In y rs → y.0 < z.0 → P y.1) →
      Each P (up_to client request (asked xs)) → Each P (up_to client request (asked (insert_all xs rs)))
  time_all P client request xs [] z s h n other p e = e
  time_all P client request xs (x ∷ rs) z s h n other p e =
      time_all P client request (insert xs x) rs z (sorted_insert xs x s) (in_insert xs x z h) n (λ y i. other y (inr i)) (λ y i. p y (inr i))
      (up_to_other P client request xs x z s h n (other x (inl refl)) (p x (inl refl)) e)

-- where an element stands
pub split_in : {A : Type 0} (xs : List A) (x : A) → In x xs → (before : List A) × (after : List A) × (before ++ x ∷ after ≡ xs)
split_in [] x h = absurd h
split_in (y ∷ ys) x (inl e) = ([], ys, ap (λ z. z ∷ ys) e)
split_in (y ∷ ys) x (inr h) = let r = split_in ys x h in (y ∷ r.0, r.1, ap (λ zs. y ∷ zs) r.2)
