-- More items are seen.
use Rattle.std.specs.Prelude.{◌≡◌, ℕ, Bool, true, false, ◌==◌, ◌+◌, ◌^◌, ◌<◌, length, List, [], ◌∷◌, ◌++◌, take, min, refl, if◌then◌else◌}
use Rattle.std.proofs.Common.{ap, sym, ◌∙◌, arith}
use Rattle.std.proofs.lemmas.Bool.{eqb-true, false_from_ne_true}
use Rattle.std.proofs.lemmas.List.{append-nil, map-append, take-map, take_min}
use Rattle.vst_base.specs.declared.pb_out.PbOut.{PbOut}
use Rattle.vst_base.specs.declared.pb_out.PbOut.TheVariants as told
use Rattle.vst_base.specs.declared.step.Item.{Item}
use Rattle.vst_base.specs.declared.step.Item.TheVariants as item
use Rattle.vst_base.specs.declared.step.Step.{Step}
use Rattle.vst_base.specs.declared.step.Step.TheVariants as step
use Rattle.net_semantics.specs.BelowPb.{below_pb, inputs_at, outputs_at, replies_in}
use Rattle.trace_maps.specs.SingleNode.{alone, counted, Seen, HasSeen}

first_if : {X : Type 0} (b : Bool) (x : X) (xs ys : List X) → (if b then x ∷ xs else xs) ++ ys ≡ (if b then x ∷ (xs ++ ys) else (xs ++ ys))
first_if true x xs ys = refl
first_if false x xs ys = refl

if-true : {X : Type 0} (b : Bool) (x y : X) → b ≡ true → (if b then x else y) ≡ x
if-true true x y e = refl
if-true false x y e = cc

if-false : {X : Type 0} (b : Bool) (x y : X) → b ≡ false → (if b then x else y) ≡ y
if-false true x y e = cc
if-false false x y e = refl

replies_in-append : {O : Type 0} (os ps : List (PbOut O)) → replies_in (os ++ ps) ≡ replies_in os + replies_in ps
replies_in-append [] ps = omega arith
replies_in-append (told.Reply o ∷ os) ps = let ih = replies_in-append os ps in omega arith
replies_in-append (told.Redirect ∷ os) ps = replies_in-append os ps

redirects-none : (O : Type 0) (b : Bool) → replies_in {O = O} (if b then told.Redirect ∷ [] else []) ≡ 0
redirects-none O true = refl
redirects-none O false = refl

is_zero : (k : ℕ) → k ≡ 0 → (k == 0) ≡ true
is_zero k e = ap (λ n. n == 0) e

not_zero : (k : ℕ) → (k ≡ 0 → ⊥) → (k == 0) ≡ false
not_zero k f = false_from_ne_true (k == 0) (λ t. f (eqb-true k 0 t))

counted-more : (a b : ℕ) → counted (counted a + b) ≡ counted (a + b)
counted-more a b = omega arith

-- a count that stays
still : (n a k : ℕ) → n ≡ counted a → k ≡ 0 → n ≡ counted (n + k)
still n a k is none = omega arith

module _ {C O : Type 0} where
  inputs_at-append : (n : ℕ) (xs ys : List (Item C (PbOut O))) → inputs_at n (xs ++ ys) ≡ inputs_at n xs ++ inputs_at n ys
  inputs_at-append n [] ys = refl
  inputs_at-append n (item.Input k c ∷ xs) ys = ap (λ (zs : List C). if k == n then c ∷ zs else zs) (inputs_at-append n xs ys) ∙ sym (first_if (k == n) c (inputs_at n xs) (inputs_at n ys))
  inputs_at-append n (item.Output k o ∷ xs) ys = inputs_at-append n xs ys

  outputs_at-append : (n : ℕ) (xs ys : List (Item C (PbOut O))) → outputs_at n (xs ++ ys) ≡ outputs_at n xs ++ outputs_at n ys
  outputs_at-append n [] ys = refl
  outputs_at-append n (item.Input k c ∷ xs) ys = outputs_at-append n xs ys
  outputs_at-append n (item.Output k o ∷ xs) ys = ap (λ (zs : List (PbOut O)). if k == n then o ∷ zs else zs) (outputs_at-append n xs ys) ∙ sym (first_if (k == n) o (outputs_at n xs) (outputs_at n ys))

  module _ (s s' : Seen C) (items : List (Item C (PbOut O))) (had : HasSeen s items) where
    sees-more : (more : List (Item C (PbOut O))) → s'.inputs ≡ s.inputs ++ alone (inputs_at 0 more) → s'.replies ≡ counted (s.replies + replies_in (outputs_at 0 more)) → HasSeen s' (items ++ more)
    sees-more more e f = record {
      inputs = e ∙ (ap (λ xs. xs ++ alone (inputs_at 0 more)) had.inputs
          ∙ (sym (map-append (λ c. step.In 0 c) (inputs_at 0 items) (inputs_at 0 more)) ∙ ap (λ cs. alone cs) (sym (inputs_at-append 0 items more))));
      replies = f ∙ (ap (λ k. counted (k + replies_in (outputs_at 0 more))) had.replies ∙ (counted-more (replies_in (outputs_at 0 items)) (replies_in (outputs_at 0 more))
          ∙ ap counted (sym (replies_in-append (outputs_at 0 items) (outputs_at 0 more)) ∙ ap (λ os. replies_in os) (sym (outputs_at-append 0 items more)))));
    }

    pub sees-input : (k : ℕ) (c : C) → k ≡ 0 → s'.inputs ≡ s.inputs ++ step.In 0 c ∷ [] → s'.replies ≡ s.replies → HasSeen s' (items ++ item.Input k c ∷ [])
    sees-input k c t e f = sees-more (item.Input k c ∷ [])
        (e ∙ ap (λ (cs : List C). s.inputs ++ alone cs) (sym (if-true (k == 0) (c ∷ []) [] (is_zero k t))))
        (f ∙ still s.replies _ 0 had.replies refl)

    pub sees-input_elsewhere : (k : ℕ) (c : C) → (k ≡ 0 → ⊥) → s' ≡ s → HasSeen s' (items ++ item.Input k c ∷ [])
    sees-input_elsewhere k c t e = sees-more (item.Input k c ∷ [])
        (ap (λ (r : Seen C). r.inputs) e ∙ (sym (append-nil s.inputs) ∙ ap (λ (cs : List C). s.inputs ++ alone cs) (sym (if-false (k == 0) (c ∷ []) [] (not_zero k t)))))
        (ap (λ (r : Seen C). r.replies) e ∙ still s.replies _ 0 had.replies refl)

    pub sees-reply : (k : ℕ) (o : PbOut O) (x : O) → o ≡ told.Reply x → k ≡ 0 → s'.inputs ≡ s.inputs → s'.replies ≡ counted (s.replies + 1) → HasSeen s' (items ++ item.Output k o ∷ [])
    sees-reply k o x is t e f = sees-more (item.Output k o ∷ [])
        (e ∙ sym (append-nil s.inputs))
        (f ∙ ap (λ (os : List (PbOut O)). counted (s.replies + replies_in os)) (ap (λ (p : PbOut O). p ∷ []) (sym is) ∙ sym (if-true (k == 0) (o ∷ []) [] (is_zero k t))))

    pub sees-output_elsewhere : (k : ℕ) (o : PbOut O) → (k ≡ 0 → ⊥) → s' ≡ s → HasSeen s' (items ++ item.Output k o ∷ [])
    sees-output_elsewhere k o t e = sees-more (item.Output k o ∷ [])
        (ap (λ (r : Seen C). r.inputs) e ∙ sym (append-nil s.inputs))
        (ap (λ (r : Seen C). r.replies) e ∙ still s.replies _ _ had.replies (ap (λ (os : List (PbOut O)). replies_in os) (if-false (k == 0) (o ∷ []) [] (not_zero k t))))

    pub sees-redirect : (k : ℕ) (o : PbOut O) → o ≡ told.Redirect → s' ≡ s → HasSeen s' (items ++ item.Output k o ∷ [])
    sees-redirect k o is e = sees-more (item.Output k o ∷ [])
        (ap (λ (r : Seen C). r.inputs) e ∙ sym (append-nil s.inputs))
        (ap (λ (r : Seen C). r.replies) e ∙ still s.replies _ _ had.replies (ap (λ (p : PbOut O). replies_in (if k == 0 then p ∷ [] else [])) is ∙ redirects-none O (k == 0)))

  pub sees-nothing : HasSeen {C = C} {O = O} (record { inputs = []; replies = 0 }) []
  sees-nothing = record { inputs = refl; replies = refl }

  pub takes-replied : (s : Seen C) (items : List (Item C (PbOut O))) (taken : List (Step C)) → ((n : ℕ) → s.replies ≡ counted n → taken ≡ take n s.inputs) → HasSeen s items
      → taken ≡ alone (below_pb items)
  takes-replied s items taken is had =
      let n = replies_in (outputs_at 0 items) in
      is n had.replies ∙ (ap (take n) had.inputs ∙ take-map (λ c. step.In 0 c) n (inputs_at 0 items))

-- a count that stopped is as good as the true one, for a list whose length is counted
pub take-counted : {X : Type 0} (n m : ℕ) (xs : List X) → length xs < 2 ^ 64 → m ≡ counted n → take m xs ≡ take n xs
take-counted n m xs short is = ap (λ k. take k xs) is ∙ (sym (take_min (counted n) xs) ∙ (ap (λ k. take k xs) (let e : min (counted n) (length xs) ≡ min n (length xs) = omega arith in e) ∙ take_min n xs))
