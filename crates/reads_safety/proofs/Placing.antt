-- The order of requests: reads are put in among those that were executed.
use Rattle.std.proofs.Common.{◌≡◌, ℕ, ◌<◌, ◌≤◌, inl, inr, Bool, true, false, leb, List, [], ◌∷◌, ◌++◌, map, zip, Some, cond, refl, sym, ap, ◌∙◌, arith}
use Rattle.std.proofs.lemmas.Bool.{eq-eqb, false≢true, leb-true, leb-false}
use Rattle.std.specs.List.{filter}
use Rattle.vst_base.specs.Machines.{MachineMeaning, outputs_from, state_after}
use Rattle.raft_clients.specs.Executed.{commands}
use Rattle.raft_free.specs.Events.{In}
use Rattle.raft_types.specs.declared.client.RaftInput.{RaftInput}
use Rattle.lists.specs.Each.{Each, each_weaker}
use Rattle.linearizability.specs.Linearizable.{AreDistinct, AreOther, beside, is_named, up_to}
use Rattle.raft_safety.proofs.Listing.{each_in}
use Rattle.reads_safety.specs.Orders.{insert}

-- not before
abbrev pub Sorted : {A : Type 0} → List (ℕ × A) → Type 0
Sorted [] = Unit {0}
Sorted (y ∷ ys) = Each (λ z. y.0 ≤ z.0) ys × Sorted ys

pub named_itself : {C : Type 0} (a : RaftInput C) → is_named a.client a.request a ≡ true
named_itself a = rw (eq-eqb a.client a.client refl, eq-eqb a.request a.request refl) refl

-- the requests with no greater place
abbrev pub below : {C : Type 0} → ℕ → List (ℕ × RaftInput C) → List (ℕ × RaftInput C)
below a xs = filter (λ y. leb y.0 a) xs

abbrev pub asked : {C : Type 0} → List (ℕ × RaftInput C) → List (RaftInput C)
asked xs = map (λ p. p.1) xs

module _ {C : Type 0} where
  pub each_insert : (P : ℕ × RaftInput C → Type 0) (xs : List (ℕ × RaftInput C)) (x : ℕ × RaftInput C) → Each P xs → P x → Each P (insert xs x)
  each_insert P [] x e p = (p, tt)
  each_insert P (y ∷ ys) x e p = go (leb y.0 x.0) (each_insert P ys x e.1 p)
    where
      go : (b : Bool) → Each P (insert ys x) → Each P (cond b (y ∷ insert ys x) (x ∷ y ∷ ys))
      go true r = (e.0, r)
      go false r = (p, e)

  pub sorted_insert : (xs : List (ℕ × RaftInput C)) (x : ℕ × RaftInput C) → Sorted xs → Sorted (insert xs x)
  sorted_insert [] x s = (tt, tt)
  sorted_insert (y ∷ ys) x s = go (leb y.0 x.0) refl (sorted_insert ys x s.1)
    where
      go : (b : Bool) → leb y.0 x.0 ≡ b → Sorted (insert ys x) → Sorted (cond b (y ∷ insert ys x) (x ∷ y ∷ ys))
      go true e r = (each_insert (λ z. y.0 ≤ z.0) ys x s.0 (leb-true _ _ e), r)
      go false e r = let less = leb-false _ _ e in ((omega arith, each_weaker (λ z. y.0 ≤ z.0) (λ z. x.0 ≤ z.0) (λ z h. omega arith) ys s.0), s)

  pub in_insert : (xs : List (ℕ × RaftInput C)) (x y : ℕ × RaftInput C) → In y xs → In y (insert xs x)
  in_insert [] x y h = absurd h
  in_insert (z ∷ zs) x y h = go (leb z.0 x.0) (λ q. in_insert zs x y q) h
    where
      go : (b : Bool) → (In y zs → In y (insert zs x)) → In y (z ∷ zs) → In y (cond b (z ∷ insert zs x) (x ∷ z ∷ zs))
      go true r (inl e) = inl e
      go true r (inr q) = inr (r q)
      go false r h = inr h

  pub itself_in : (xs : List (ℕ × RaftInput C)) (x : ℕ × RaftInput C) → In x (insert xs x)
  itself_in [] x = inl refl
  itself_in (z ∷ zs) x = go (leb z.0 x.0) (itself_in zs x)
    where
      go : (b : Bool) → In x (insert zs x) → In x (cond b (z ∷ insert zs x) (x ∷ z ∷ zs))
      go true r = inr r
      go false r = inl refl

  -- a request of another name does not change what comes up to one
  pub up_to_other : (P : RaftInput C → Type 0) (client request : ℕ) (xs : List (ℕ × RaftInput C)) (x z : ℕ × RaftInput C) → Sorted xs → In z xs → is_named client request z.1 ≡ true →
      is_named client request x.1 ≡ false → (x.0 < z.0 → P x.1) → Each P (up_to client request (asked xs)) → Each P (up_to client request (asked (insert xs x)))
  up_to_other P client request [] x z s h n other p e = absurd h
  up_to_other P client request (y ∷ ys) x z s h n other p e = go (leb y.0 x.0) refl (is_named client request y.1) refl (λ h e. up_to_other P client request ys x z s.1 h n other p e) h e
    where
      least : In z (y ∷ ys) → y.0 ≤ z.0
      least (inl e) = rw e (omega arith)
      least (inr h) = each_in (λ z. y.0 ≤ z.0) ys z s.0 h

      go : (b : Bool) → leb y.0 x.0 ≡ b → (d : Bool) → is_named client request y.1 ≡ d → (In z ys → Each P (up_to client request (asked ys)) → Each P (up_to client request (asked (insert ys x)))) → In z (y ∷ ys) →
          Each P (cond d (y.1 ∷ []) (y.1 ∷ up_to client request (asked ys))) → Each P (up_to client request (asked (cond b (y ∷ insert ys x) (x ∷ y ∷ ys))))
      go true b true d r h e = rw d e
      go true b false d r (inl q) e = absurd (false≢true (sym d ∙ (ap (λ (y : ℕ × RaftInput C). is_named client request y.1) (sym q) ∙ n)))
      go true b false d r (inr q) e = rw d (e.0, r q e.1)
      go false b c d r h e = let l = least h in let less = leb-false _ _ b in rw (other, d) (p (omega arith), e)

  pub up_to_self : (P : RaftInput C → Type 0) (xs : List (ℕ × RaftInput C)) (x : ℕ × RaftInput C) → ((y : ℕ × RaftInput C) → In y xs → is_named x.1.client x.1.request y.1 ≡ false) →
      ((y : ℕ × RaftInput C) → In y xs → y.0 ≤ x.0 → P y.1) → P x.1 → Each P (up_to x.1.client x.1.request (asked (insert xs x)))
  up_to_self P [] x other p q = rw (named_itself x.1) (q, tt)
  up_to_self P (y ∷ ys) x other p q = go (leb y.0 x.0) refl (up_to_self P ys x (λ z h. other z (inr h)) (λ z h. p z (inr h)) q)
    where
      go : (b : Bool) → leb y.0 x.0 ≡ b → Each P (up_to x.1.client x.1.request (asked (insert ys x))) → Each P (up_to x.1.client x.1.request (asked (cond b (y ∷ insert ys x) (x ∷ y ∷ ys))))
      go true e r = rw (other y (inl refl)) (p y (inl refl) (leb-true _ _ e), r)
      go false e r = rw (named_itself x.1) (q, tt)

  -- and no two have one name
  pub distinct_insert : (xs : List (ℕ × RaftInput C)) (x : ℕ × RaftInput C) → AreDistinct (asked xs) → ((y : ℕ × RaftInput C) → In y xs → AreOther y.1 x.1 × AreOther x.1 y.1) → AreDistinct (asked (insert xs x))
  distinct_insert [] x d h = (tt, tt)
  distinct_insert (y ∷ ys) x d h = go (leb y.0 x.0) (distinct_insert ys x d.1 (λ z q. h z (inr q)))
    where
      all_other : (zs : List (ℕ × RaftInput C)) → Each (AreOther y.1) (asked zs) → Each (AreOther y.1) (asked (insert zs x))
      all_other [] e = ((h y (inl refl)).0, tt)
      all_other (z ∷ zs) e = more (leb z.0 x.0) (all_other zs e.1)
        where
          more : (b : Bool) → Each (AreOther y.1) (asked (insert zs x)) → Each (AreOther y.1) (asked (cond b (z ∷ insert zs x) (x ∷ z ∷ zs)))
          more true r = (e.0, r)
          more false r = ((h y (inl refl)).0, e)

      each_other : (zs : List (ℕ × RaftInput C)) → ((z : ℕ × RaftInput C) → In z zs → AreOther x.1 z.1) → Each (AreOther x.1) (asked zs)
      each_other [] f = tt
      each_other (z ∷ zs) f = (f z (inl refl), each_other zs (λ w q. f w (inr q)))

      go : (b : Bool) → AreDistinct (asked (insert ys x)) → AreDistinct (asked (cond b (y ∷ insert ys x) (x ∷ y ∷ ys)))
      go true r = (all_other ys d.0, r)
      go false r = (each_other (y ∷ ys) (λ z q. (h z q).1), d)

module _ {S C O : Type 0} (m : MachineMeaning S C O) where
  -- requests with the machine's outputs, from a state on
  abbrev pub outs : S → List (RaftInput C) → List (RaftInput C × O)
  outs s xs = zip xs (outputs_from m s (map (λ i. i.cmd) xs))

  abbrev pub Stays : ℕ × RaftInput C → Type 0
  Stays x = (s : S) → (m.apply s x.1.cmd).0 ≡ s

  -- a read changes no other output
  pub beside_other : (s : S) (client request : ℕ) (xs : List (ℕ × RaftInput C)) (x : ℕ × RaftInput C) → Stays x → is_named client request x.1 ≡ false →
      beside client request (outs s (asked (insert xs x))) ≡ beside client request (outs s (asked xs))
  beside_other s client request [] x stays other = rw other refl
  beside_other s client request (y ∷ ys) x stays other = go (leb y.0 x.0) (is_named client request y.1) (beside_other (m.apply s y.1.cmd).0 client request ys x stays other)
    where
      go : (b d : Bool) → beside client request (outs (m.apply s y.1.cmd).0 (asked (insert ys x))) ≡ beside client request (outs (m.apply s y.1.cmd).0 (asked ys)) →
          beside client request (outs s (asked (cond b (y ∷ insert ys x) (x ∷ y ∷ ys)))) ≡ beside client request (outs s (asked (y ∷ ys)))
      go true d r = ap (λ o. cond (is_named client request y.1) (Some (m.apply s y.1.cmd).1) o) r
      go false d r = rw (other, stays s) refl

  -- nor the state after the requests up to a place
  pub state_other : (s : S) (a : ℕ) (xs : List (ℕ × RaftInput C)) (x : ℕ × RaftInput C) → Stays x →
      state_after m s (commands (asked (below a (insert xs x)))) ≡ state_after m s (commands (asked (below a xs)))
  state_other s a [] x stays = go (leb x.0 a)
    where
      go : (b : Bool) → state_after m s (commands (asked (cond b (x ∷ []) []))) ≡ s
      go true = stays s
      go false = refl
  state_other s a (y ∷ ys) x stays = go (leb y.0 x.0) (front (leb y.0 a) (state_other (m.apply s y.1.cmd).0 a ys x stays) (state_other s a ys x stays))
    where
      front : (b : Bool) → state_after m (m.apply s y.1.cmd).0 (commands (asked (below a (insert ys x)))) ≡ state_after m (m.apply s y.1.cmd).0 (commands (asked (below a ys))) →
          state_after m s (commands (asked (below a (insert ys x)))) ≡ state_after m s (commands (asked (below a ys))) →
          state_after m s (commands (asked (cond b (y ∷ below a (insert ys x)) (below a (insert ys x))))) ≡ state_after m s (commands (asked (cond b (y ∷ below a ys) (below a ys))))
      front true p q = p
      front false p q = q

      head : (b : Bool) → state_after m s (commands (asked (cond b (x ∷ below a (y ∷ ys)) (below a (y ∷ ys))))) ≡ state_after m s (commands (asked (below a (y ∷ ys))))
      head true = ap (λ t. state_after m t (commands (asked (below a (y ∷ ys))))) (stays s)
      head false = refl

      go : (b : Bool) → state_after m s (commands (asked (cond (leb y.0 a) (y ∷ below a (insert ys x)) (below a (insert ys x))))) ≡ state_after m s (commands (asked (below a (y ∷ ys)))) →
          state_after m s (commands (asked (below a (cond b (y ∷ insert ys x) (x ∷ y ∷ ys))))) ≡ state_after m s (commands (asked (below a (y ∷ ys))))
      go true p = p
      go false p = head (leb x.0 a)

  none_below : (a b : ℕ) (xs : List (ℕ × RaftInput C)) → a < b → Each (λ z. b ≤ z.0) xs → below a xs ≡ []
  none_below a b [] lt e = refl
  none_below a b (x ∷ xs) lt e = go (leb x.0 a) refl (none_below a b xs lt e.1)
    where
      go : (d : Bool) → leb x.0 a ≡ d → below a xs ≡ [] → cond d (x ∷ below a xs) (below a xs) ≡ []
      go true q r = absurd (let le = leb-true _ _ q in let f = e.0 in omega arith)
      go false q r = r

  -- the output of a read is that of the state after the requests up to its place
  pub beside_self : (s : S) (xs : List (ℕ × RaftInput C)) (x : ℕ × RaftInput C) → Sorted xs → ((y : ℕ × RaftInput C) → In y xs → is_named x.1.client x.1.request y.1 ≡ false) →
      beside x.1.client x.1.request (outs s (asked (insert xs x))) ≡ Some (m.apply (state_after m s (commands (asked (below x.0 xs)))) x.1.cmd).1
  beside_self s [] x so other = rw (named_itself x.1) refl
  beside_self s (y ∷ ys) x so other = go (leb y.0 x.0) refl (beside_self (m.apply s y.1.cmd).0 ys x so.1 (λ z h. other z (inr h)))
    where
      go : (b : Bool) → leb y.0 x.0 ≡ b →
          beside x.1.client x.1.request (outs (m.apply s y.1.cmd).0 (asked (insert ys x))) ≡ Some (m.apply (state_after m (m.apply s y.1.cmd).0 (commands (asked (below x.0 ys)))) x.1.cmd).1 →
          beside x.1.client x.1.request (outs s (asked (cond b (y ∷ insert ys x) (x ∷ y ∷ ys)))) ≡ Some (m.apply (state_after m s (commands (asked (cond b (y ∷ below x.0 ys) (below x.0 ys))))) x.1.cmd).1
      go true e r = rw (other y (inl refl)) r
      go false e r = let less = leb-false _ _ e in rw (named_itself x.1, none_below x.0 y.0 ys (omega arith) so.0) refl

  pub beside_front : (s : S) (client request : ℕ) (xs ys : List (RaftInput C)) (o : O) → beside client request (outs s xs) ≡ Some o → beside client request (outs s (xs ++ ys)) ≡ Some o
  beside_front s client request [] ys o e = absurd (cc e)
  beside_front s client request (x ∷ xs) ys o e = go (is_named client request x) (λ e. beside_front (m.apply s x.cmd).0 client request xs ys o e) e
    where
      go : (b : Bool) → (beside client request (outs (m.apply s x.cmd).0 xs) ≡ Some o → beside client request (outs (m.apply s x.cmd).0 (xs ++ ys)) ≡ Some o) →
          cond b (Some (m.apply s x.cmd).1) (beside client request (outs (m.apply s x.cmd).0 xs)) ≡ Some o → cond b (Some (m.apply s x.cmd).1) (beside client request (outs (m.apply s x.cmd).0 (xs ++ ys))) ≡ Some o
      go true r e = e
      go false r e = r e

  pub beside_in : (s : S) (client request : ℕ) (xs : List (RaftInput C)) (o : O) → beside client request (outs s xs) ≡ Some o → (z : RaftInput C) × In z xs × (is_named client request z ≡ true)
  beside_in s client request [] o e = absurd (cc e)
  beside_in s client request (x ∷ xs) o e = go (is_named client request x) refl (λ e. beside_in (m.apply s x.cmd).0 client request xs o e) e
    where
      go : (b : Bool) → is_named client request x ≡ b → (beside client request (outs (m.apply s x.cmd).0 xs) ≡ Some o → (z : RaftInput C) × In z xs × (is_named client request z ≡ true)) →
          cond b (Some (m.apply s x.cmd).1) (beside client request (outs (m.apply s x.cmd).0 xs)) ≡ Some o → (z : RaftInput C) × In z (x ∷ xs) × (is_named client request z ≡ true)
      go true d r e = (x, inl refl, d)
      go false d r e = let q = r e in (q.0, inr q.1, q.2)
