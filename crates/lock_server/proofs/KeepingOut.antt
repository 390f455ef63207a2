-- Exclusion by recursion on a trace: what holds from each `locked` on, and that it gives the plain form.
use Rattle.std.proofs.Common.{◌≡◌, ◌≢◌, ℕ, zero, suc, [], ◌∷◌, ◌++◌, arith, inl, inr, subst}
use Rattle.std.proofs.lemmas.Bool.{cases_eq}
use Rattle.std.proofs.lemmas.List.Elements.{Contains-append_right}
use Rattle.std.specs.Prelude.{Contains}
use Rattle.vst_base.specs.declared.lock.LockInput.{LockInput}
use Rattle.vst_base.specs.declared.lock.LockInput.TheVariants as ask
use Rattle.vst_base.specs.declared.lock.LockOutput.{LockOutput}
use Rattle.vst_base.specs.declared.lock.LockOutput.TheVariants as told
use Rattle.vst_base.specs.declared.step.Item.{Item}
use Rattle.vst_base.specs.declared.step.Item.TheVariants as item
use Rattle.lock_server.specs.Exclusion.{LockTrace, Excludes}

-- no `locked` comes at another client until a gives an `unlock`
abbrev pub KeepsOut : ℕ → LockTrace → Type 0
KeepsOut a [] = Unit {0}
KeepsOut a (item.Input n ask.Lock ∷ later) = KeepsOut a later
KeepsOut a (item.Input n ask.Unlock ∷ later) = n ≢ a → KeepsOut a later
KeepsOut a (item.Output b told.Locked ∷ later) = (b ≡ a) × KeepsOut a later

-- from each `locked` on the others are kept out
abbrev pub KeepsOutAll : LockTrace → Type 0
KeepsOutAll [] = Unit {0}
KeepsOutAll (item.Input n i ∷ later) = KeepsOutAll later
KeepsOutAll (item.Output a told.Locked ∷ later) = KeepsOut a later × KeepsOutAll later

contains_behind : (x y : Item LockInput LockOutput) (xs : LockTrace) → Contains xs y → Contains (x ∷ xs) y
contains_behind x y xs h = Contains-append_right (x ∷ []) xs y h

-- where others are kept out, a `locked` of another stands after an `unlock`
pub unlock_between : (a b : ℕ) (items between after : LockTrace) → a ≢ b → KeepsOut a items
    → items ≡ between ++ item.Output b told.Locked ∷ after → Contains between (item.Input a ask.Unlock)
unlock_between a b [] [] after ne keeps e = cc
unlock_between a b [] (y ∷ ys) after ne keeps e = cc
unlock_between a b (item.Input n i ∷ xs) [] after ne keeps e = cc
unlock_between a b (item.Output c told.Locked ∷ xs) [] after ne keeps e = let h : b ≡ a = cc (keeps.0) in absurd (omega arith)
unlock_between a b (item.Input n ask.Lock ∷ xs) (y ∷ ys) after ne keeps e =
    let f : xs ≡ ys ++ item.Output b told.Locked ∷ after = cc in
    contains_behind y (item.Input a ask.Unlock) ys (unlock_between a b xs ys after ne keeps f)
unlock_between a b (item.Output c told.Locked ∷ xs) (y ∷ ys) after ne keeps e =
    let f : xs ≡ ys ++ item.Output b told.Locked ∷ after = cc in
    contains_behind y (item.Input a ask.Unlock) ys (unlock_between a b xs ys after ne keeps.1 f)
unlock_between a b (item.Input n ask.Unlock ∷ xs) (y ∷ ys) after ne keeps e =
    let f : xs ≡ ys ++ item.Output b told.Locked ∷ after = cc in
    elim (cases_eq n a) [
      | inl same ↦ (0, omega arith, let g : y ≡ item.Input a ask.Unlock = cc in g)
      | inr other ↦ contains_behind y (item.Input a ask.Unlock) ys (unlock_between a b xs ys after ne (keeps other) f)
    ]

-- the plain form
pub excludes : (items : LockTrace) → KeepsOutAll items → Excludes items
excludes [] keeps a b [] between after ne e = cc
excludes [] keeps a b (y ∷ ys) between after ne e = cc
excludes (item.Input n i ∷ xs) keeps a b [] between after ne e = cc
excludes (item.Output c told.Locked ∷ xs) keeps a b [] between after ne e =
    let f : xs ≡ between ++ item.Output b told.Locked ∷ after = cc in
    let g : c ≡ a = cc in
    unlock_between a b xs between after ne (subst (λ k. KeepsOut k xs) g keeps.0) f
excludes (item.Input n i ∷ xs) keeps a b (y ∷ ys) between after ne e =
    let f : xs ≡ ys ++ item.Output a told.Locked ∷ between ++ item.Output b told.Locked ∷ after = cc in
    excludes xs keeps a b ys between after ne f
excludes (item.Output c told.Locked ∷ xs) keeps a b (y ∷ ys) between after ne e =
    let f : xs ≡ ys ++ item.Output a told.Locked ∷ between ++ item.Output b told.Locked ∷ after = cc in
    excludes xs keeps.1 a b ys between after ne f

-- what short lists contain
pub nothing_contains : (y : Item LockInput LockOutput) → Contains [] y → ⊥
nothing_contains y h = let e = h.1 in omega arith

pub contains_one : (x y : Item LockInput LockOutput) → Contains (x ∷ []) y → x ≡ y
contains_one x y (zero, within, e) = e
contains_one x y (suc k, within, e) = absurd (omega arith)
